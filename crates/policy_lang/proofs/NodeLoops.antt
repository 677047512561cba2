-- Loops over expressions and statements.
use Rattle.std.proofs.Common.{◌≡◌, ℕ, ◌+◌, ◌*◌, ◌<◌, ◌≤◌, List, [], ◌∷◌, ◌++◌, drop, length, get_or, refl, sym, ap, ◌∙◌, subst, arith, append_assoc}
use Rattle.std.specs.Prelude.{Result, Ok, Err}
use Rattle.std.proofs.lemmas.List.{drop_all, append-nil}
use Rattle.policy_lang.specs.declared.Expr.{Expr}
use Rattle.policy_lang.specs.declared.nodes.Node.{Node}
use Rattle.policy_lang.specs.declared.nodes.WalkStop.{WalkStop}
use Rattle.policy_lang.specs.Tree.{Term}
use Rattle.policy_lang.specs.TreeOf.{term_of, terms_of}
use Rattle.policy_lang.specs.Nodes.{length_of, nodes_from, lengths_of, terms_nodes, AreFree}
use Rattle.policy_lang.specs.NodeWalks.{Begins, Walked}
use Rattle.policy_lang.proofs.LeftOver.{rest_of}
use Rattle.policy_lang.proofs.NodeChains.{begins_less, term_begins}
use Rattle.policy_lang.proofs.NodeJoins.{Leads, walked_on, walked_off}

-- things in a row: their nodes from a token on, how many tokens they have, the nodes of one, and the token behind it
pub record Row (A : Type 0) : Type 0 where
  pub nodes : List A → ℕ → List Node
  pub size : List A → ℕ
  pub part : A → ℕ → List Node
  pub after : A → ℕ → ℕ
  pub none : (i : ℕ) → (nodes [] i ≡ []) × (size [] ≡ 0)
  pub first : (a : A) (as_ : List A) (i : ℕ) → nodes (a ∷ as_) i ≡ part a i ++ nodes as_ (after a i)
  pub sized : (a : A) (as_ : List A) (i : ℕ) → after a i + size as_ ≡ i + size (a ∷ as_)
  pub behind : (as_ : List A) (i k : ℕ) → i + size as_ ≤ k → Leads i (nodes as_ i) k

-- what a loop keeps: where what is left is walked over, the whole is; at most eight tokens were taken for each node
pub record Left {A : Type 0} (row : Row A) (as_ : List A) (i : ℕ) (old : List Node) (left : List A) (here : List Node) (next : ℕ) : Type 0 where
  pub leads : (new : List Node) (r : Result ℕ WalkStop) → Walked here (row.nodes left next) (i + row.size as_) new r → Walked old (row.nodes as_ i) (i + row.size as_) new r
  pub ends : next + row.size left ≡ i + row.size as_
  pub free : AreFree here
  pub few : next + 8 * length old ≤ i + 8 * length here

pub left_begin : {A : Type 0} (row : Row A) (as_ : List A) (i : ℕ) (old : List Node) → AreFree old → Left row as_ i old (drop 0 as_) old i
left_begin row as_ i old free = record { leads = λ new r w. w; ends = refl; free = free; few = omega arith }

pub left_on : {A : Type 0} (row : Row A) (as_ : List A) (i : ℕ) (old : List Node) (k : ℕ) (a : A) (here mid : List Node) (next n spare : ℕ) → k < length as_ → a ≡ get_or as_ k a
    → Left row as_ i old (drop k as_) here next → Walked here (row.part a next) (row.after a next) mid (Ok n) → n + spare + 8 * length here ≤ next + 8 * length mid → Left row as_ i old (drop (k + 1) as_) mid n
left_on row as_ i old k a here mid next n spare h q left w s =
    let at = subst (λ l. Left row as_ i old l here next) (rest_of as_ k a h q) left in
    let others : List _ = drop (k + 1) as_ in
    record {
      leads = λ new r v. at.leads new r (subst (λ xs. Walked here xs (i + row.size as_) new r) (sym (row.first a others next))
          (walked_on here (row.part a next) (row.nodes others (row.after a next)) mid new (i + row.size as_) r w.0 (subst (λ m. Walked mid (row.nodes others m) (i + row.size as_) new r) w.1 v)));
      ends = ap (λ m. m + row.size others) w.1 ∙ row.sized a others next ∙ at.ends;
      free = w.2;
      few = let z = left.few in omega (arith, s, z);
    }

pub left_stop : {A : Type 0} (row : Row A) (as_ : List A) (i : ℕ) (old : List Node) (k : ℕ) (a : A) (here new : List Node) (next : ℕ) (e : WalkStop) → k < length as_ → a ≡ get_or as_ k a
    → Left row as_ i old (drop k as_) here next → Walked here (row.part a next) (row.after a next) new (Err e) → Walked old (row.nodes as_ i) (i + row.size as_) new (Err e)
left_stop row as_ i old k a here new next e h q left w =
    let at = subst (λ l. Left row as_ i old l here next) (rest_of as_ k a h q) left in
    let others : List _ = drop (k + 1) as_ in
    at.leads new (Err e) (subst (λ xs. Walked here xs (i + row.size as_) new (Err e)) (sym (row.first a others next))
    (walked_off here (row.part a next) (row.nodes others (row.after a next)) new (row.after a next) (i + row.size as_) e
    (row.behind others (row.after a next) (i + row.size as_) (let y = row.sized a others next in let z = at.ends in omega (arith, y, z))) w))

pub left_end : {A : Type 0} (row : Row A) (as_ : List A) (i : ℕ) (old : List Node) (k : ℕ) (here : List Node) (next : ℕ) → length as_ ≤ k → Left row as_ i old (drop k as_) here next
    → Walked old (row.nodes as_ i) (i + row.size as_) here (Ok next)
left_end row as_ i old k here next h left =
    let at = subst (λ l. Left row as_ i old l here next) (drop_all k as_ h) left in
    let z = row.none next in
    at.leads here (Ok next) (sym (ap (λ xs. here ++ xs) z.0 ∙ append-nil here), (let e = at.ends in let y = z.1 in omega (arith, e, y)), at.free)

-- nodes that begin with a token lead what is behind them
pub leads_first : (i k : ℕ) (xs ys : List Node) → ((rest : List Node) → Begins i (xs ++ rest)) → Leads i (xs ++ ys) k
leads_first i k xs ys f rest b = subst (Begins i) (sym (append_assoc xs ys rest)) (f (ys ++ rest))

pub terms_lead : (es : List Term) (i k d : ℕ) → i ≤ k → Leads i (terms_nodes es i d) k
terms_lead [] i k d h = λ rest b. begins_less i k rest h b
terms_lead (e ∷ es) i k d h = leads_first i k (nodes_from i e d) (terms_nodes es (i + length_of e + 1) d) (term_begins e i i d)

-- expressions
abbrev pub exprs : ℕ → Row Expr
exprs d = record {
  nodes = λ es i. terms_nodes (terms_of es) i d;
  size = λ es. lengths_of (terms_of es);
  part = λ e i. nodes_from i (term_of e) d;
  after = λ e i. i + length_of (term_of e) + 1;
  none = λ i. (refl, refl);
  first = λ e es i. refl;
  sized = λ e es i. omega arith;
  behind = λ es i k h. terms_lead (terms_of es) i k d (omega (arith, h));
}
