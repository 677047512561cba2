-- What the pass that leads knows of a dial between two of its calls.
use Rattle.std.proofs.Common.{◌≡◌, ℕ, ◌+◌, ◌-◌, ◌^◌, ◌<◌, ◌≤◌, min, IsTrue, List, [], ◌∷◌, ◌++◌, sym, ap, ◌∙◌, subst, arith}
use Rattle.history_lock.specs.declared.view.Event.{Event}
use Rattle.history_lock.specs.declared.view.Known.{Known}
use Rattle.history_lock.specs.Histories.{Replays, LeadsTo, HasSeenLegal, IsAdmitted, Calls, AreAllowed, IsAllowedSince, state_behind}
use Rattle.history_lock.proofs.States.{replays_end, replays_since}
use Rattle.thread_tests.specs.declared.dial.Dial.{Dial}
use Rattle.thread_tests.specs.declared.dial.Order.{Order}
use Rattle.thread_tests.specs.declared.dial.Order.TheVariants.{Start, Add, Take}
use Rattle.thread_tests.specs.Dials.{IsAdd, IsCovered, total_after}

abbrev Steps : Dial → Order → ℕ → Dial → Type 0
Steps s e r t = (t.total ≡ total_after s.total e) × (r ≡ t.total)

abbrev Past : Type 0
Past = List (Event Dial Order ℕ)

abbrev Raises : Past → Order → Type 0
Raises log e = IsAdd e

abbrev Covers : Dial → Order → Type 0
Covers s e = IsCovered s.total e

raised : (x t : ℕ) (e : Order) → IsAdd e → x < 2 ^ 64 → x ≤ t → x ≤ total_after t e
raised x t (Start n) add small le = absurd add
raised x t (Take n) add small le = absurd add
raised x t (Add n) add small le = omega arith

-- what is only raised stays as high
stays : (x : ℕ) (log es : Past) (m m' : Dial) → x < 2 ^ 64 → AreAllowed Raises log es → Replays Steps m es m' → x ≤ m.total → x ≤ m'.total
stays x log [] m m' small are same le = let e = ap (λ (d : Dial). d.total) same in omega arith
stays x log (e ∷ es) m m' small (one, are) (s, r) le =
    stays x (log ++ e ∷ []) es e.behind m' small are r (let a = raised x m.total e.entry one small le in let b = s.0 in omega arith)

module _ (u v : Known Dial Order ℕ) (first r : ℕ) (small : first < 2 ^ 32) (lead : IsTrue v.leads) (c : Calls Steps Raises u (Start first) r v) where
  -- what is allowed behind the call that sets the dial keeps it as high
  since : (o : Dial) (log : Past) (m : Dial) → o ≡ c.opening → IsAllowedSince Raises log v.seen → Replays Steps o log m → first ≤ m.total
  since o log m is (rest, whole, are) run =
      let now : state_behind o v.seen ≡ c.behind = ap (λ x. state_behind x v.seen) is ∙ c.now in
      let P : Dial → Type 0 = λ x. Replays Steps x rest m in
      let set : c.behind.total ≡ first = c.step.0 in
      stays first v.seen rest c.behind m (omega arith) are (subst P now (replays_since Steps o log v.seen m (rest, whole) run)) (omega arith)

  pub ended : (w : Known Dial Order ℕ) (dial : Dial) → w.opening ≡ v.opening → IsAllowedSince Raises w.seen v.seen → LeadsTo Steps w dial → first ≤ dial.total
  ended w dial same allowed (o, opens, run) = let is : o ≡ c.opening = cc in since o w.seen dial is allowed run

  -- as much as it was set to can be taken
  pub covered : IsAdmitted Steps Raises Covers v (Take first)
  covered o m log opens later run led alone = let is : o ≡ c.opening = (let opens' = c.opens in cc) in since o log m is (led lead) run

  pub joined_least : (w x : Known Dial Order ℕ) (second r' : ℕ) → second < 2 ^ 32 → IsTrue w.leads → w.opening ≡ v.opening → x.opening ≡ w.opening → IsAllowedSince Raises w.seen v.seen → HasSeenLegal Steps w
      → Calls Steps Raises w (Add second) r' x → first + second ≤ r'
  joined_least w x second r' small' leads same same' allowed (m, (o, opens, run)) d =
      let is : o ≡ c.opening = cc in
      let is' : o ≡ d.opening = cc in
      let before : first ≤ m.total = since o w.seen m is allowed run in
      let now : state_behind d.opening w.seen ≡ m = ap (λ y. state_behind y w.seen) (sym is') ∙ sym (replays_end Steps o w.seen m run) in
      let P : Dial → Type 0 = λ y. Replays Steps y d.later.0 d.before in
      let up : first ≤ d.before.total = stays first w.seen d.later.0 m d.before (omega arith) (d.led leads) (subst P now d.meanwhile) before in
      let told : d.behind.total ≡ min (d.before.total + second) (2 ^ 64 - 1) = d.step.0 in
      let said : r' ≡ d.behind.total = d.step.1 in
      omega arith

-- nobody comes between
pub both : (u v w : Known Dial Order ℕ) (first second r r' : ℕ) → first < 2 ^ 32 → second < 2 ^ 32 → v.parts ≡ 1024 → w.opening ≡ v.opening → Calls Steps Raises u (Start first) r v → Calls Steps Raises v (Add second) r' w
    → r' ≡ first + second
both u v w first second r r' small small' all same c d =
    let is : d.opening ≡ c.opening = cc in
    let none : d.log ≡ v.seen = d.alone all in
    let before : d.before ≡ c.behind = replays_end Steps d.opening d.log d.before d.replays ∙ ap (state_behind d.opening) none ∙ ap (λ x. state_behind x v.seen) is ∙ c.now in
    let before' : d.before.total ≡ c.behind.total = ap (λ (x : Dial). x.total) before in
    let set : c.behind.total ≡ first = c.step.0 in
    let told : d.behind.total ≡ min (d.before.total + second) (2 ^ 64 - 1) = d.step.0 in
    let said : r' ≡ d.behind.total = d.step.1 in
    omega arith

-- behind the first call the dial is at its start, others raise it, and the second call raises it
pub least : (u v w : Known Dial Order ℕ) (first second r r' : ℕ) → first < 2 ^ 32 → second < 2 ^ 32 → IsTrue v.leads → w.opening ≡ v.opening
    → Calls Steps Raises u (Start first) r v → Calls Steps Raises v (Add second) r' w → first + second ≤ r'
least u v w first second r r' small small' lead same c d =
    let is : c.opening ≡ d.opening = cc in
    let now : state_behind d.opening v.seen ≡ c.behind = (let P : Dial → Type 0 = λ x. state_behind x v.seen ≡ c.behind in subst P is c.now) in
    let meanwhile : Replays Steps c.behind d.later.0 d.before = (let P : Dial → Type 0 = λ x. Replays Steps x d.later.0 d.before in subst P now d.meanwhile) in
    let set : c.behind.total ≡ first = c.step.0 in
    let up : first ≤ d.before.total = stays first v.seen d.later.0 c.behind d.before (omega arith) (d.led lead) meanwhile (omega arith) in
    let told : d.behind.total ≡ min (d.before.total + second) (2 ^ 64 - 1) = d.step.0 in
    let said : r' ≡ d.behind.total = d.step.1 in
    omega arith
