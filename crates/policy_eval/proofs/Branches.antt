-- An `if` by its parts, and the statements of an `if` and of a `while`.
use Rattle.std.proofs.Common.{◌≡◌, ℕ, ◌-◌, Bool, true, false, length, drop, refl, sym, ap, subst}
use Rattle.std.specs.Prelude.{Option, Some, None}
use Rattle.std.specs.Option.{option_map}
use Rattle.maple_base.specs.declared.decision.Outcome.{Outcome}
use Rattle.policy_meaning.specs.Asking.{End, Goes, Ends, Run, gives}
use Rattle.policy_meaning.specs.Leads.{Saying, Leads}
use Rattle.policy_meaning.proofs.Walks.{leads_next, leads_end}
use Rattle.policy_lang.specs.declared.Expr.{Expr}
use Rattle.policy_lang.specs.declared.Head.{Head}
use Rattle.policy_lang.specs.declared.Block.{Block}
use Rattle.policy_lang.specs.declared.Statement.{Statement}
use Rattle.policy_lang.specs.declared.Statement.TheVariants as stmt
use Rattle.policy_lang.specs.Tree.{Ask, Act, Acts}
use Rattle.policy_lang.specs.TreeOf.{ask_of, if_or_else, tree_of}
use Rattle.policy_lang.proofs.Rolls.{if_tree, while_tree}
use Rattle.policy_meaning.specs.Values.{Scope}
use Rattle.policy_meaning.specs.Meaning.{Running, act_of, acts_of, in_block, head_of, chosen, if_of}
use Rattle.policy_eval.specs.StatementParts.{names_where, block_runs, second_runs, repeat_runs, statement_runs}

by_head : Running → Running → Scope → Option Scope × ℕ → Run (Scope × ℕ)
by_head first second s (held, left) = chosen held first second s left

-- behind the head, by the names in force there
held_on : {S : Type 0} (said : Saying S) (s : S) (q : Ask) (first second : Running) (switch : ℕ) (scope : Scope) (n : ℕ) (u : S) (held now : Bool) (inner : Scope) (rest : ℕ) (t : S) (e : End (Scope × ℕ))
    → Leads said s (head_of q switch scope n) u (Goes (names_where held inner, rest)) → held ≡ now → Leads said u (chosen (names_where now inner) first second scope rest) t e
    → Leads said s (if_of q first second switch scope n) t e
unfolding by_head
held_on said s q first second switch scope n u held now inner rest t e w h v =
    leads_next said s (head_of q switch scope n) u (names_where held inner, rest) (by_head first second scope) t e w
    (subst (λ b. Leads said u (chosen (names_where b inner) first second scope rest) t e) (sym h) v)

left_behind : Scope → Scope × ℕ → Run (Scope × ℕ)
left_behind s (t, left) = gives (drop (length t - length s) t, left)

pub first_ends : {S : Type 0} (said : Saying S) (s : S) (q : Ask) (first second : Running) (switch : ℕ) (scope : Scope) (n : ℕ) (u : S) (held : Bool) (inner : Scope) (rest : ℕ) (t : S) (o : Outcome)
    → Leads said s (head_of q switch scope n) u (Goes (names_where held inner, rest)) → held ≡ true → Leads said u (first inner rest) t (Ends o)
    → Leads said s (if_of q first second switch scope n) t (Ends o)
unfolding left_behind
first_ends said s q first second switch scope n u held inner rest t o w h v =
    held_on said s q first second switch scope n u held true inner rest t (Ends o) w h (leads_end said u (first inner rest) t o (left_behind scope) v)

pub first_goes : {S : Type 0} (said : Saying S) (s : S) (q : Ask) (first : Block) (second : Running) (switch : ℕ) (scope : Scope) (n : ℕ) (u : S) (held : Bool) (inner : Scope) (rest : ℕ) (t : S) (names : Scope) (then : ℕ) (kept : Scope)
    → Leads said s (head_of q switch scope n) u (Goes (names_where held inner, rest)) → held ≡ true → Leads said u (block_runs first switch inner rest) t (Goes (names, then))
    → kept ≡ drop (length names - length scope) names → Leads said s (if_of q (block_runs first switch) second switch scope n) t (Goes (kept, then))
unfolding left_behind
first_goes said s q first second switch scope n u held inner rest t names then kept w h v k =
    held_on said s q (block_runs first switch) second switch scope n u held true inner rest t (Goes (kept, then)) w h
    (leads_next said u (block_runs first switch inner rest) t (names, then) (left_behind scope) t (Goes (kept, then)) v (refl, ap (λ z. Goes (z, then)) (sym k)))

pub second_on : {S : Type 0} (said : Saying S) (s : S) (q : Ask) (first second : Running) (switch : ℕ) (scope : Scope) (n : ℕ) (u : S) (held : Bool) (inner : Scope) (rest : ℕ) (t : S) (e : End (Scope × ℕ))
    → Leads said s (head_of q switch scope n) u (Goes (names_where held inner, rest)) → held ≡ false → inner ≡ scope → Leads said u (second inner rest) t e
    → Leads said s (if_of q first second switch scope n) t e
second_on said s q first second switch scope n u held inner rest t e w h i v =
    held_on said s q first second switch scope n u held false inner rest t e w h (subst (λ z. Leads said u (second z rest) t e) i v)

-- the statement of an `if` and of a `while`
if_acts : (q : Ask) (b : Acts) (o : Option Block) (switch : ℕ) → act_of (if_or_else q b (option_map tree_of o)) switch ≡ if_of q (in_block (acts_of b switch)) (second_runs o switch) switch
if_acts q b None switch = refl
if_acts q b (Some c) switch = refl

pub if_goes : {S : Type 0} (said : Saying S) (s : S) (st : Statement) (h : Head) (b : Block) (o : Option Block) (switch : ℕ) (scope : Scope) (n : ℕ) (t : S) (x : End (Scope × ℕ))
    → st ≡ stmt.If h b o → Leads said s (if_of (ask_of h) (block_runs b switch) (second_runs o switch) switch scope n) t x → Leads said s (statement_runs st switch scope n) t x
if_goes said s st h b o switch scope n t x e w =
    subst (λ (a : Act). Leads said s (act_of a switch scope n) t x) (if_tree st h b o e)
    (subst (λ (m : Running). Leads said s (m scope n) t x) (sym (if_acts (ask_of h) (tree_of b) o switch)) w)

pub while_goes : {S : Type 0} (said : Saying S) (s : S) (st : Statement) (e : Expr) (b : Block) (switch : ℕ) (scope : Scope) (n : ℕ) (t : S) (x : End (Scope × ℕ))
    → st ≡ stmt.While e b → Leads said s (repeat_runs e b switch scope n) t x → Leads said s (statement_runs st switch scope n) t x
unfolding repeat_runs
while_goes said s st e b switch scope n t x i w = subst (λ (a : Act). Leads said s (act_of a switch scope n) t x) (while_tree st e b i) w
