-- With more steps a policy's run ends as before, unless it was spent.
use Rattle.std.proofs.Common.{◌≡◌, ℕ, zero, suc, ◌+◌, ◌≤◌, Bool, true, false, List, [], ◌∷◌, refl, sym, ap, ◌∙◌, subst, arith}
use Rattle.std.specs.Prelude.{◌==◌, if◌then◌else◌, Option, Some, None}
use Rattle.maple_base.specs.declared.key.Key.{Key}
use Rattle.maple_base.specs.declared.cells.Place.{Place}
use Rattle.maple_base.specs.declared.cells.Cell.{Cell}
use Rattle.maple_base.specs.declared.cells.Cell.TheVariants as cells
use Rattle.maple_base.specs.declared.cells.Value.{Value}
use Rattle.maple_base.specs.declared.cells.Value.TheVariants as value
use Rattle.maple_base.specs.declared.decision.Decision.{Decision}
use Rattle.maple_base.specs.declared.decision.Decision.TheVariants.{Drop as Dropped}
use Rattle.maple_base.specs.declared.decision.Outcome.TheVariants.{Decided, Spent}
use Rattle.maple_base.specs.declared.operator.Operator.{Operator}
use Rattle.maple_base.specs.Keys.{field_of}
use Rattle.maple_base.specs.Ports.{is_port}
use Rattle.maple_base.specs.Questions.{same_bool}
use Rattle.policy_lang.specs.Tree.{Term, Single, Call, Is, Not, Pair, Ask, Binds, Holds, Act, Acts, Drop, Flood, Out, Route, Let, Assign, If, IfElse, While, Done as NoActs, Then}
use Rattle.policy_meaning.specs.Asking.{Done, AsksField, AsksTest, AsksCell, End, Goes, Ends, Run, gives, ◌>>=◌, onward, count, concluded, whole}
use Rattle.policy_meaning.specs.Readings.{outcome_in}
use Rattle.policy_meaning.specs.Values.{Datum, Truth, Scope, truth_in, place_in, settling}
use Rattle.policy_meaning.specs.Meaning.{Giving, Running, atom_of, called, behind_left, value_of, numbers_of, head_of, behind_hop, way, way_to, leaving, in_block, nothing_done, chosen, if_of, round, rounds, act_of, acts_of}

module _ (env : Cell → Value) (key : Key) (switch : ℕ) (more : ℕ) where
  -- what was given is given, as it is with more steps left; a decision stays, and what was spent may end in any way
  abbrev Kept : {A : Type 0} → (A → A) → End A → End A → Type 0
  Kept up (Goes a) e = e ≡ Goes (up a)
  Kept up (Ends Spent) e = Unit {0}
  Kept up (Ends (Decided d)) e = e ≡ Ends (Decided d)

  abbrev Keeps : {A : Type 0} → (A → A) → Run A → Run A → Type 0
  Keeps up m n = Kept up (outcome_in m key env) (outcome_in n key env)

  then_ends : {A B : Type 0} (m : Run A) (next : A → Run B) → outcome_in (m >>= next) key env ≡ outcome_in (onward (outcome_in m key env) next) key env
  then_ends (Done e) next = refl
  then_ends (AsksField f by) next = then_ends (by (field_of key f)) next
  then_ends (AsksTest f v by) next = then_ends (by (field_of key f == v)) next
  then_ends (AsksCell c by) next = then_ends (by (env c)) next

  onward_kept : {A B : Type 0} (up : A → A) (raise : B → B) (e f : End A) (next later : A → Run B)
      → Kept up e f → ((a : A) → Keeps raise (next a) (later (up a))) → Keeps raise (onward e next) (onward f later)
  onward_kept up raise (Goes a) f next later h on = subst (λ x. Keeps raise (next a) (onward x later)) (sym h) (on a)
  onward_kept up raise (Ends Spent) f next later h on = tt
  onward_kept up raise (Ends (Decided d)) f next later h on = ap (λ x. outcome_in (onward x later) key env) h

  next_kept : {A B : Type 0} (up : A → A) (raise : B → B) (m n : Run A) (next later : A → Run B)
      → Keeps up m n → ((a : A) → Keeps raise (next a) (later (up a))) → Keeps raise (m >>= next) (n >>= later)
  next_kept up raise m n next later h on =
      subst (λ e. Kept raise e (outcome_in (n >>= later) key env)) (sym (then_ends m next))
      (subst (Kept raise (outcome_in (onward (outcome_in m key env) next) key env)) (sym (then_ends n later))
      (onward_kept up raise (outcome_in m key env) (outcome_in n key env) next later h on))

  abbrev raised : {A : Type 0} → A × ℕ → A × ℕ
  raised a = (a.0, a.1 + more)

  -- what one part gives, the other gives with more steps left
  abbrev Twins : {A : Type 0} → Giving A → Giving A → Type 0
  Twins part other = (left : ℕ) → Keeps raised (part left) (other (left + more))

  abbrev Stays : {A : Type 0} → Giving A → Type 0
  Stays part = Twins part part

  behind : {A B : Type 0} (part : Giving A) (next later : A × ℕ → Run B) (raise : B → B) (left : ℕ)
      → Stays part → ((a : A) (left : ℕ) → Keeps raise (next (a, left)) (later (a, left + more))) → Keeps raise (part left >>= next) (part (left + more) >>= later)
  behind part next later raise left h on = next_kept raised raise (part left) (part (left + more)) next later (h left) (λ a. on a.0 a.1)

  counted : {B : Type 0} (next later : ℕ → Run B) (raise : B → B) (left : ℕ)
      → ((left : ℕ) → Keeps raise (next left) (later (left + more))) → Keeps raise (count left >>= next) (count (left + more) >>= later)
  counted next later raise zero on = tt
  counted next later raise (suc left) on =
      let e : suc (left + more) ≡ suc left + more = omega arith in
      subst (λ n. Keeps raise (next left) (count n >>= later)) e (on left)

  end_still : {A : Type 0} (e : End A) → Kept (λ a. a) e e
  end_still (Goes a) = refl
  end_still (Ends Spent) = tt
  end_still (Ends (Decided d)) = refl

  -- a part that takes no step
  still : {A B : Type 0} (m : Run A) (next later : A → Run B) (raise : B → B) → ((a : A) → Keeps raise (next a) (later a)) → Keeps raise (m >>= next) (m >>= later)
  still m next later raise on = next_kept (λ a. a) raise m m next later (end_still (outcome_in m key env)) on

  unless_kept : (settles b : Bool) (right : Giving Datum) → Stays right → Stays (λ left. if settles then gives (Truth b, left) else right left)
  unless_kept true b right h left = refl
  unless_kept false b right h left = h left

  right_kept : (w : Option Bool) (o : Operator) (d : Datum) (right : Giving Datum) → Stays right → Stays (behind_left w o d right)
  right_kept (Some b) o d right h left = unless_kept (same_bool (truth_in d) b) b right h left
  right_kept None o d right h left = behind right _ _ raised left h (λ e left. refl)

  value_kept : (e : Term) (s : Scope) → Stays (value_of e switch s)
  value_kept (Single x) s left = counted _ _ raised left (λ left. still (atom_of x switch s) _ _ raised (λ d. refl))
  value_kept (Call c l r) s left =
      counted _ _ raised left (λ left. behind (value_of l switch s) _ _ raised left (value_kept l s)
      (λ d left. behind (value_of r switch s) _ _ raised left (value_kept r s) (λ e left. still (called c d e) _ _ raised (λ v. refl))))
  value_kept (Is f e) s left = counted _ _ raised left (λ left. behind (value_of e switch s) _ _ raised left (value_kept e s) (λ d left. refl))
  value_kept (Not e) s left = counted _ _ raised left (λ left. behind (value_of e switch s) _ _ raised left (value_kept e s) (λ d left. refl))
  value_kept (Pair o l r) s left =
      counted _ _ raised left (λ left. behind (value_of l switch s) _ _ raised left (value_kept l s)
      (λ d left. right_kept (settling o) o d (value_of r switch s) (value_kept r s) left))

  valued : {B : Type 0} (e : Term) (s : Scope) (next later : Datum × ℕ → Run B) (raise : B → B) (left : ℕ)
      → ((d : Datum) (left : ℕ) → Keeps raise (next (d, left)) (later (d, left + more)))
      → Keeps raise (value_of e switch s left >>= next) (value_of e switch s (left + more) >>= later)
  valued e s next later raise left on = behind (value_of e switch s) next later raise left (value_kept e s) on

  numbers_kept : (es : List Term) (s : Scope) → Stays (numbers_of es switch s)
  numbers_kept [] s left = refl
  numbers_kept (e ∷ es) s left =
      valued e s _ _ raised left (λ d left. behind (numbers_of es switch s) _ _ raised left (numbers_kept es s) (λ ns left. refl))

  head_kept : (q : Ask) (s : Scope) → Stays (head_of q switch s)
  head_kept (Binds t e x) s left =
      counted _ _ raised left (λ left. valued e s _ _ raised left (λ d left. refl))
  head_kept (Holds e) s left = valued e s _ _ raised left (λ d left. refl)

  -- ways take steps, and give none back
  abbrev Finds : Run (List Place) → Run (List Place) → Type 0
  Finds m n = Keeps (λ ps. ps) m n

  either_kept : (b : Bool) (l m n o : Run (List Place)) → Finds l m → Finds n o → Finds (if b then l else n) (if b then m else o)
  either_kept true l m n o p q = p
  either_kept false l m n o p q = q

  near_kept : (near : Bool) (to : Place) (m n : Run (List Place)) → Finds m n → Finds (if near then gives (to ∷ []) else m) (if near then gives (to ∷ []) else n)
  near_kept near to m n h = either_kept near (gives (to ∷ [])) (gives (to ∷ [])) m n refl h

  hop_kept : (v : Value) (from : ℕ) (to : Place) (next later : ℕ → Run (List Place)) → ((n : ℕ) → Finds (next n) (later n)) → Finds (behind_hop from to next v) (behind_hop from to later v)
  hop_kept (value.At p) from to next later h =
      let near = p.switch == to.switch in
      next_kept (λ ps. ps) (λ ps. ps) (if near then gives (to ∷ []) else next p.switch) (if near then gives (to ∷ []) else later p.switch) _ _
      (near_kept near to (next p.switch) (later p.switch) (h p.switch)) (λ ps. refl)
  hop_kept v from to next later h = refl

  way_kept : (most : ℕ) (to : Place) (left from : ℕ) → Finds (way most to left from) (way most to (left + more) from)
  way_kept zero to left from = refl
  way_kept (suc most) to left from =
      counted _ _ (λ ps. ps) left (λ left. hop_kept (env (cells.Hop from to.switch)) from to (way most to left) (way most to (left + more)) (way_kept most to left))

  way_to_kept : (to : Place) (left : ℕ) → Finds (way_to switch to left) (way_to switch to (left + more))
  way_to_kept to left =
      let near = switch == to.switch in
      let lost : Run (List Place) = Done (Ends (Decided Dropped)) in
      either_kept (is_port to.port) (if near then gives (to ∷ []) else way 63 to left switch) (if near then gives (to ∷ []) else way 63 to (left + more) switch) lost lost
      (near_kept near to (way 63 to left switch) (way 63 to (left + more) switch) (way_kept 63 to left switch)) refl

  -- a part of a policy does so whatever names are in force
  abbrev Runs : Running → Type 0
  Runs part = (s : Scope) → Stays (part s)

  leaving_kept : (outer : Scope) (part : Giving Scope) → Stays part → Stays (λ left. leaving outer (part left))
  leaving_kept outer part h left = behind part _ _ raised left h (λ s left. refl)

  block_kept : (part : Running) → Runs part → Runs (in_block part)
  block_kept part h s left = leaving_kept s (part s) (h s) left

  chosen_kept : (held : Option Scope) (first second : Running) → Runs first → Runs second → Runs (chosen held first second)
  chosen_kept (Some inner) first second p q s left = leaving_kept s (first inner) (p inner) left
  chosen_kept None first second p q s left = q s left

  if_kept : (q : Ask) (first second : Running) → Runs first → Runs second → Runs (if_of q first second switch)
  if_kept q first second p r s left =
      behind (head_of q switch s) _ _ raised left (head_kept q s) (λ held left. chosen_kept held first second p r s left)

  round_kept : (b : Bool) (body next later : Running) → Runs body → ((s : Scope) → Twins (next s) (later s)) → (s : Scope) → Twins (round b body next s) (round b body later s)
  round_kept true body next later p q s left = behind (body s) _ _ raised left (p s) (λ s left. q s left)
  round_kept false body next later p q s left = refl

  -- a loop that had too few rounds is spent
  rounds_kept : (few many : ℕ) (e : Term) (body : Running) → few ≤ many → Runs body → (s : Scope) → Twins (rounds few e body switch s) (rounds many e body switch s)
  rounds_kept zero many e body h p s left = tt
  rounds_kept (suc few) zero e body h p s left = absurd (omega arith)
  rounds_kept (suc few) (suc many) e body h p s left =
      valued e s _ _ raised left (λ d left. round_kept (truth_in d) body (rounds few e body switch) (rounds many e body switch) p (rounds_kept few many e body (omega arith) p) s left)

  abbrev block : Acts → Running
  block b = in_block (acts_of b switch)

  mutual
    act_kept : (st : Act) → Runs (act_of st switch)
    act_kept Drop s left = refl
    act_kept Flood s left = refl
    act_kept (Out es) s left = behind (numbers_of es switch s) _ _ raised left (numbers_kept es s) (λ ns left. refl)
    act_kept (Route e) s left =
        valued e s _ _ raised left (λ d left. next_kept (λ ps. ps) raised (way_to switch (place_in d) left) (way_to switch (place_in d) (left + more)) _ _
        (way_to_kept (place_in d) left) (λ ps. refl))
    act_kept (Let x e) s left = valued e s _ _ raised left (λ d left. refl)
    act_kept (Assign x e) s left = valued e s _ _ raised left (λ d left. refl)
    act_kept (If q b) s left = if_kept q (block b) nothing_done (block_kept (acts_of b switch) (acts_kept b)) (λ s left. refl) s left
    act_kept (IfElse q b c) s left =
        if_kept q (block b) (block c) (block_kept (acts_of b switch) (acts_kept b)) (block_kept (acts_of c switch) (acts_kept c)) s left
    act_kept (While e b) s left =
        rounds_kept (suc left) (suc (left + more)) e (block b) (omega arith) (block_kept (acts_of b switch) (acts_kept b)) s left

    acts_kept : (b : Acts) → Runs (acts_of b switch)
    acts_kept NoActs s left = refl
    acts_kept (Then st rest) s left =
        counted _ _ raised left (λ left. behind (act_of st switch s) _ _ raised left (act_kept st s) (λ s left. acts_kept rest s left))

  pub policy_kept : (body : Acts) (budget : ℕ)
      → Kept raised (outcome_in (in_block (acts_of body switch) [] budget) key env) (outcome_in (in_block (acts_of body switch) [] (budget + more)) key env)
  policy_kept body budget = block_kept (acts_of body switch) (acts_kept body) [] budget

  whole_ends : {A : Type 0} (m : Run A) → outcome_in (whole (Decided Dropped) m) key env ≡ concluded (Decided Dropped) (outcome_in m key env)
  whole_ends (Done e) = refl
  whole_ends (AsksField f by) = whole_ends (by (field_of key f))
  whole_ends (AsksTest f v by) = whole_ends (by (field_of key f == v))
  whole_ends (AsksCell c by) = whole_ends (by (env c))

  concluded_still : {A : Type 0} (up : A → A) (e f : End A) (d : Decision) → Kept up e f → concluded (Decided Dropped) e ≡ Decided d → concluded (Decided Dropped) f ≡ Decided d
  concluded_still up (Goes a) f d h e = ap (concluded (Decided Dropped)) h ∙ e
  concluded_still up (Ends Spent) f d h e = absurd (cc)
  concluded_still up (Ends (Decided c)) f d h e = ap (concluded (Decided Dropped)) h ∙ e

  -- of whole runs, a decision stays
  pub decided_still : {A : Type 0} (m n : Run (A × ℕ)) (d : Decision) → Kept raised (outcome_in m key env) (outcome_in n key env)
      → outcome_in (whole (Decided Dropped) m) key env ≡ Decided d → outcome_in (whole (Decided Dropped) n) key env ≡ Decided d
  decided_still m n d h e = whole_ends n ∙ concluded_still raised (outcome_in m key env) (outcome_in n key env) d h (sym (whole_ends m) ∙ e)
