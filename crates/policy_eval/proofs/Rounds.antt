-- A loop by the rounds that are left.
use Rattle.std.proofs.Common.{◌≡◌, ℕ, zero, suc, ◌<◌, true, false, refl, sym, subst, arith}
use Rattle.maple_base.specs.declared.decision.Outcome.{Outcome}
use Rattle.policy_meaning.specs.Asking.{End, Goes, Ends, Run, ◌>>=◌}
use Rattle.policy_meaning.specs.Leads.{Saying, Leads}
use Rattle.policy_meaning.proofs.Walks.{leads_next, leads_end}
use Rattle.policy_lang.specs.declared.Expr.{Expr}
use Rattle.policy_lang.specs.declared.Block.{Block}
use Rattle.policy_lang.specs.Tree.{Term}
use Rattle.policy_lang.specs.TreeOf.{term_of}
use Rattle.policy_meaning.specs.Values.{Datum, Scope, truth_in}
use Rattle.policy_meaning.specs.Meaning.{Running, value_of, round, rounds}
use Rattle.policy_eval.specs.StatementParts.{block_runs, repeat_runs}

abbrev Parts : Type 0
Parts = Run (Scope × ℕ)

-- enough rounds are left, and where they lead, the whole loop does
pub record RoundsLeft {S : Type 0} (said : Saying S) (e : Term) (body : Running) (switch : ℕ) (s : S) (scope : Scope) (left : ℕ) (first : S) (all : Run (Scope × ℕ)) : Type 0 where
  pub more : ℕ
  pub enough : left < more
  pub on : (t : S) (x : End (Scope × ℕ)) → Leads said s (rounds more e body switch scope left) t x → Leads said first all t x

onward : Term → Running → ℕ → ℕ → Scope → Datum × ℕ → Parts
onward e body switch m s (d, left) = round (truth_in d) body (rounds m e body switch) s left

-- the next of the rounds that are left
record Next {S : Type 0} (said : Saying S) (e : Term) (body : Running) (switch : ℕ) (s : S) (scope : Scope) (left : ℕ) (first : S) (all : Run (Scope × ℕ)) : Type 0 where
  more : ℕ
  enough : left < suc more
  on : (t : S) (x : End (Scope × ℕ)) → Leads said s (value_of e switch scope left >>= onward e body switch more scope) t x → Leads said first all t x

next : {S : Type 0} (said : Saying S) (e : Term) (body : Running) (switch : ℕ) (s : S) (scope : Scope) (left more : ℕ) (first : S) (all : Run (Scope × ℕ)) → left < more
    → ((t : S) (x : End (Scope × ℕ)) → Leads said s (rounds more e body switch scope left) t x → Leads said first all t x) → Next said e body switch s scope left first all
unfolding onward
next said e body switch s scope left zero first all lt on = absurd (omega (arith, lt))
next said e body switch s scope left (suc m) first all lt on = record { more = m; enough = lt; on = on }

pub all_left : {S : Type 0} (said : Saying S) (e : Expr) (b : Block) (switch : ℕ) (s : S) (scope : Scope) (left : ℕ) → RoundsLeft said (term_of e) (block_runs b switch) switch s scope left s (repeat_runs e b switch scope left)
unfolding repeat_runs
all_left said e b switch s scope left = record { more = suc left; enough = omega arith; on = λ t x w. w }

pub test_ends : {S : Type 0} (said : Saying S) (e : Term) (body : Running) (switch : ℕ) (s : S) (scope : Scope) (left : ℕ) (first : S) (all : Run (Scope × ℕ)) (t : S) (o : Outcome)
    → RoundsLeft said e body switch s scope left first all → Leads said s (value_of e switch scope left) t (Ends o) → Leads said first all t (Ends o)
test_ends said e body switch s scope left first all t o r w =
    let q = next said e body switch s scope left r.more first all r.enough r.on in
    q.on t (Ends o) (leads_end said s (value_of e switch scope left) t o (onward e body switch q.more scope) w)

-- behind the value of the test
tested : {S : Type 0} (said : Saying S) (e : Term) (body : Running) (switch : ℕ) (s : S) (scope : Scope) (left : ℕ) (u : S) (d : Datum) (rest more : ℕ) (b : _) (t : S) (x : End (Scope × ℕ))
    → Leads said s (value_of e switch scope left) u (Goes (d, rest)) → truth_in d ≡ b → Leads said u (round b body (rounds more e body switch) scope rest) t x
    → Leads said s (value_of e switch scope left >>= onward e body switch more scope) t x
unfolding onward
tested said e body switch s scope left u d rest more b t x w h v =
    leads_next said s (value_of e switch scope left) u (d, rest) (onward e body switch more scope) t x w
    (subst (λ c. Leads said u (round c body (rounds more e body switch) scope rest) t x) (sym h) v)

pub test_fails : {S : Type 0} (said : Saying S) (e : Term) (body : Running) (switch : ℕ) (s : S) (scope : Scope) (left : ℕ) (first : S) (all : Run (Scope × ℕ)) (u : S) (d : Datum) (rest : ℕ)
    → RoundsLeft said e body switch s scope left first all → Leads said s (value_of e switch scope left) u (Goes (d, rest)) → truth_in d ≡ false → Leads said first all u (Goes (scope, rest))
test_fails said e body switch s scope left first all u d rest r w h =
    let q = next said e body switch s scope left r.more first all r.enough r.on in
    q.on u (Goes (scope, rest)) (tested said e body switch s scope left u d rest q.more false u (Goes (scope, rest)) w h (refl, refl))

then_round : Running → Scope × ℕ → Parts
then_round rest (t, left) = rest t left

pub body_ends : {S : Type 0} (said : Saying S) (e : Term) (body : Running) (switch : ℕ) (s : S) (scope : Scope) (left : ℕ) (first : S) (all : Run (Scope × ℕ)) (u : S) (d : Datum) (rest : ℕ) (t : S) (o : Outcome)
    → RoundsLeft said e body switch s scope left first all → Leads said s (value_of e switch scope left) u (Goes (d, rest)) → truth_in d ≡ true
    → Leads said u (body scope rest) t (Ends o) → Leads said first all t (Ends o)
unfolding then_round
body_ends said e body switch s scope left first all u d rest t o r w h y =
    let q = next said e body switch s scope left r.more first all r.enough r.on in
    q.on t (Ends o) (tested said e body switch s scope left u d rest q.more true t (Ends o) w h (leads_end said u (body scope rest) t o (then_round (rounds q.more e body switch)) y))

pub body_goes : {S : Type 0} (said : Saying S) (e : Term) (body : Running) (switch : ℕ) (s : S) (scope : Scope) (left : ℕ) (first : S) (all : Run (Scope × ℕ)) (u : S) (d : Datum) (rest : ℕ) (v : S) (names : Scope) (then : ℕ)
    → RoundsLeft said e body switch s scope left first all → Leads said s (value_of e switch scope left) u (Goes (d, rest)) → truth_in d ≡ true
    → Leads said u (body scope rest) v (Goes (names, then)) → then < left → RoundsLeft said e body switch v names then first all
unfolding then_round
body_goes said e body switch s scope left first all u d rest v names then r w h y lt =
    let q = next said e body switch s scope left r.more first all r.enough r.on in record {
      more = q.more;
      enough = omega (arith, q.enough, lt);
      on = λ t x z.
          q.on t x (tested said e body switch s scope left u d rest q.more true t x w h (leads_next said u (body scope rest) v (names, then) (then_round (rounds q.more e body switch)) t x y z));
    }
