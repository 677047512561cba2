-- What a policy asks and how it ends: each step that it takes pays for one question of the packet at most.
use Rattle.std.proofs.Common.{◌≡◌, ℕ, zero, suc, ◌+◌, ◌-◌, ◌≤◌, Bool, true, false, List, [], ◌∷◌, refl, sym, subst, arith}
use Rattle.std.specs.Prelude.{◌==◌, if◌then◌else◌, Option, Some, None}
use Rattle.std.proofs.lemmas.Bool.{eqb-true}
use Rattle.maple_base.specs.declared.cells.Place.{Place}
use Rattle.maple_base.specs.declared.cells.Cell.{Cell}
use Rattle.maple_base.specs.declared.cells.Cell.TheVariants as cells
use Rattle.maple_base.specs.declared.cells.Value.{Value}
use Rattle.maple_base.specs.declared.cells.Value.TheVariants as value
use Rattle.maple_base.specs.declared.decision.Decision.TheVariants.{Drop as Dropped, Flood as Flooded, Path as Along}
use Rattle.maple_base.specs.declared.decision.Outcome.{Outcome}
use Rattle.maple_base.specs.declared.decision.Outcome.TheVariants.{Decided, Spent}
use Rattle.maple_base.specs.declared.operator.Operator.{Operator}
use Rattle.maple_base.specs.Ports.{is_port}
use Rattle.maple_base.specs.Questions.{same_bool}
use Rattle.policy_lang.specs.Tree.{Atom, Packet, Callee, Up, At, Term, Single, Call, Is, Not, Pair, Ask, Binds, Holds, Act, Acts, Drop, Flood, Out, Route, Let, Assign, If, IfElse, While, Done as NoActs, Then}
use Rattle.policy_meaning.specs.Asking.{Done, AsksField, AsksTest, AsksCell, Goes, Ends, Run, gives, ◌>>=◌, count}
use Rattle.policy_meaning.specs.Values.{Datum, Truth, Scope, truth_in, place_in, ports_among, sent_out, settling, hop_at}
use Rattle.policy_meaning.specs.Meaning.{Giving, Running, atom_of, called, behind_left, value_of, numbers_of, head_of, behind_hop, way, way_to, leaving, in_block, nothing_done, chosen, if_of, round, rounds, act_of, acts_of}

-- with so many questions left, it asks the packet no more on any way; where cells have values that they may have,
-- it ends as it should, and what it gives fits the questions that are left then
abbrev pub Fits : {A : Type 0} → (Cell → Value → Bool) → (Outcome → Bool) → (ℕ → A → Type 0) → ℕ → Run A → Type 0
Fits may such G n (Done (Goes a)) = G n a
Fits may such G n (Done (Ends o)) = such o ≡ true
Fits may such G n (AsksField f by) = (1 ≤ n) × ((v : ℕ) → Fits may such G (n - 1) (by v))
Fits may such G n (AsksTest f v by) = (1 ≤ n) × ((b : Bool) → Fits may such G (n - 1) (by b))
Fits may such G n (AsksCell c by) = (v : Value) → may c v ≡ true → Fits may such G n (by v)

-- each decision of a policy is one that it should make at its switch, and each part of a path one from the switch where it begins
pub record Suits (may : Cell → Value → Bool) (such : ℕ → Outcome → Bool) : Type 0 where
  pub spent : (n : ℕ) → such n Spent ≡ true
  pub dropped : (n : ℕ) → such n (Decided Dropped) ≡ true
  pub flooded : (n : ℕ) → such n (Decided Flooded) ≡ true
  pub out : (n : ℕ) (ns : List ℕ) → such n (Decided (sent_out (ports_among ns))) ≡ true
  pub here : (to : Place) → is_port to.port ≡ true → such to.switch (Decided (Along (to ∷ []))) ≡ true
  pub ahead : (from n : ℕ) (p : Place) (ps : List Place)
      → may (cells.Hop from n) (value.At p) ≡ true → such p.switch (Decided (Along ps)) ≡ true → such from (Decided (Along (hop_at from p.port ∷ ps))) ≡ true

module _ (may : Cell → Value → Bool) (such : ℕ → Outcome → Bool) (suits : Suits may such) (switch : ℕ) where
  abbrev Within : {A : Type 0} → (ℕ → A → Type 0) → ℕ → Run A → Type 0
  Within G n m = Fits may (such switch) G n m

  next_within : {A B : Type 0} (G : ℕ → A → Type 0) (H : ℕ → B → Type 0) (m : Run A) (next : A → Run B) (n : ℕ)
      → Within G n m → ((n : ℕ) (a : A) → G n a → Within H n (next a)) → Within H n (m >>= next)
  next_within G H (Done (Goes a)) next n h on = on n a h
  next_within G H (Done (Ends o)) next n h on = h
  next_within G H (AsksField f by) next n h on = (h.0, λ v. next_within G H (by v) next (n - 1) (h.1 v) on)
  next_within G H (AsksTest f v by) next n h on = (h.0, λ b. next_within G H (by b) next (n - 1) (h.1 b) on)
  next_within G H (AsksCell c by) next n h on = λ v may. next_within G H (by v) next n (h v may) on

  -- the steps that are left, and so many more, are no more than the questions that are left
  abbrev Steps : ℕ → ℕ → ℕ → Type 0
  Steps j n left = left + j ≤ n

  abbrev Left : {A : Type 0} → ℕ → ℕ → A × ℕ → Type 0
  Left j n a = Steps j n a.1

  -- a part asks no more questions than it takes steps
  abbrev Fair : {A : Type 0} → Giving A → Type 0
  Fair part = (j n left : ℕ) → Steps j n left → Within (Left j) n (part left)

  behind : {A B : Type 0} (part : Giving A) (next : A × ℕ → Run B) (H : ℕ → B → Type 0) (j n left : ℕ)
      → Fair part → Steps j n left → ((a : A) (n left : ℕ) → Steps j n left → Within H n (next (a, left))) → Within H n (part left >>= next)
  behind part next H j n left fair h on = next_within (Left j) H (part left) next n (fair j n left h) (λ n a h. on a.0 n a.1 h)

  counted : {B : Type 0} (next : ℕ → Run B) (H : ℕ → B → Type 0) (j n left : ℕ)
      → Steps j n left → ((n left : ℕ) → Steps (suc j) n left → Within H n (next left)) → Within H n (count left >>= next)
  counted next H j n zero h on = suits.spent switch
  counted next H j n (suc left) h on = on n left (omega arith)

  atom_within : (x : Atom) (s : Scope) (j n left : ℕ) → Steps (suc j) n left → Within (λ n d. Steps j n left) n (atom_of x switch s)
  atom_within (Packet f) s j n left h = (omega arith, λ v. omega arith)
  atom_within x s j n left h = omega arith

  called_within : (c : Callee) (d e : Datum) (j n left : ℕ) → Steps j n left → Within (Left j) n (called c d e >>= λ v. gives (v, left))
  called_within Up d e j n left h = λ v may. h
  called_within At d e j n left h = h

  unless_within : (settles b : Bool) (right : Giving Datum) → Fair right → Fair (λ left. if settles then gives (Truth b, left) else right left)
  unless_within true b right fair j n left h = h
  unless_within false b right fair j n left h = fair j n left h

  right_within : (w : Option Bool) (o : Operator) (d : Datum) (right : Giving Datum) → Fair right → Fair (behind_left w o d right)
  right_within (Some b) o d right fair j n left h = unless_within (same_bool (truth_in d) b) b right fair j n left h
  right_within None o d right fair j n left h = behind right _ (Left j) j n left fair h (λ e n left h. h)

  value_within : (e : Term) (s : Scope) → Fair (value_of e switch s)
  value_within (Single x) s j n left h =
      counted _ (Left j) j n left h (λ n left h. next_within (λ n d. Steps j n left) (Left j) (atom_of x switch s) _ n (atom_within x s j n left h) (λ n d h. h))
  value_within (Call c l r) s j n left h =
      counted _ (Left j) j n left h (λ n left h. behind (value_of l switch s) _ (Left j) j n left (value_within l s) (omega arith)
      (λ d n left h. behind (value_of r switch s) _ (Left j) j n left (value_within r s) h (λ e n left h. called_within c d e j n left h)))
  value_within (Is f e) s j n left h =
      counted _ (Left j) j n left h (λ n left h. behind (value_of e switch s) _ (Left j) (suc j) n left (value_within e s) h (λ d n left h. (omega arith, λ b. omega arith)))
  value_within (Not e) s j n left h =
      counted _ (Left j) j n left h (λ n left h. behind (value_of e switch s) _ (Left j) j n left (value_within e s) (omega arith) (λ d n left h. h))
  value_within (Pair o l r) s j n left h =
      counted _ (Left j) j n left h (λ n left h. behind (value_of l switch s) _ (Left j) j n left (value_within l s) (omega arith)
      (λ d n left h. right_within (settling o) o d (value_of r switch s) (value_within r s) j n left h))

  valued : {B : Type 0} (e : Term) (s : Scope) (next : Datum × ℕ → Run B) (H : ℕ → B → Type 0) (j n left : ℕ)
      → Steps j n left → ((d : Datum) (n left : ℕ) → Steps j n left → Within H n (next (d, left))) → Within H n (value_of e switch s left >>= next)
  valued e s next H j n left h on = behind (value_of e switch s) next H j n left (value_within e s) h on

  numbers_within : (es : List Term) (s : Scope) → Fair (numbers_of es switch s)
  numbers_within [] s j n left h = h
  numbers_within (e ∷ es) s j n left h =
      valued e s _ (Left j) j n left h
      (λ d n left h. behind (numbers_of es switch s) _ (Left j) j n left (numbers_within es s) h (λ ns n left h. h))

  head_within : (q : Ask) (s : Scope) → Fair (head_of q switch s)
  head_within (Binds t e x) s j n left h =
      counted _ (Left j) j n left h (λ n left h. valued e s _ (Left j) j n left (omega arith) (λ d n left h v may. h))
  head_within (Holds e) s j n left h = valued e s _ (Left j) j n left h (λ d n left h. h)

  -- these places are a way from this switch
  abbrev Leads : ℕ → ℕ → List Place → Type 0
  Leads from n ps = such from (Decided (Along ps)) ≡ true

  near_within : (near : Bool) (from : ℕ) (to : Place) (m : Run (List Place)) (n : ℕ) → (from == to.switch) ≡ near → is_port to.port ≡ true
      → Within (Leads from) n m → Within (Leads from) n (if near then gives (to ∷ []) else m)
  near_within true from to m n e port h = subst (λ f. such f (Decided (Along (to ∷ []))) ≡ true) (sym (eqb-true from to.switch e)) (suits.here to port)
  near_within false from to m n e port h = h

  hop_within : (v : Value) (from : ℕ) (to : Place) (next : ℕ → Run (List Place)) (n : ℕ) → is_port to.port ≡ true → may (cells.Hop from to.switch) v ≡ true
      → ((from : ℕ) → Within (Leads from) n (next from)) → Within (Leads from) n (behind_hop from to next v)
  hop_within (value.At p) from to next n port there on =
      next_within (Leads p.switch) (Leads from) (if p.switch == to.switch then gives (to ∷ []) else next p.switch) _ n
      (near_within (p.switch == to.switch) p.switch to (next p.switch) n refl port (on p.switch)) (λ n ps h. suits.ahead from to.switch p ps there h)
  hop_within v from to next n port there on = suits.dropped switch

  way_within : (more : ℕ) (to : Place) (left from n : ℕ) → is_port to.port ≡ true → Within (Leads from) n (way more to left from)
  way_within zero to left from n port = suits.dropped switch
  way_within (suc more) to zero from n port = suits.spent switch
  way_within (suc more) to (suc left) from n port = λ v there. hop_within v from to (way more to left) n port there (λ from. way_within more to left from n port)

  port_within : (port : Bool) (to : Place) (m : Run (List Place)) (n : ℕ) → is_port to.port ≡ port → (is_port to.port ≡ true → Within (Leads switch) n m)
      → Within (Leads switch) n (if port then m else Done (Ends (Decided Dropped)))
  port_within true to m n e h = h e
  port_within false to m n e h = suits.dropped switch

  way_to_within : (to : Place) (left n : ℕ) → Within (Leads switch) n (way_to switch to left)
  way_to_within to left n =
      port_within (is_port to.port) to (if switch == to.switch then gives (to ∷ []) else way 63 to left switch) n refl
      (λ port. near_within (switch == to.switch) switch to (way 63 to left switch) n refl port (way_within 63 to left switch n port))

  -- a part of a policy does so whatever names are in force
  abbrev Runs : Running → Type 0
  Runs part = (s : Scope) → Fair (part s)

  leaving_within : (outer : Scope) (part : Giving Scope) → Fair part → Fair (λ left. leaving outer (part left))
  leaving_within outer part fair j n left h = behind part _ (Left j) j n left fair h (λ s n left h. h)

  block_within : (part : Running) → Runs part → Runs (in_block part)
  block_within part runs s = leaving_within s (part s) (runs s)

  chosen_within : (held : Option Scope) (first second : Running) → Runs first → Runs second → Runs (chosen held first second)
  chosen_within (Some inner) first second p q s = leaving_within s (first inner) (p inner)
  chosen_within None first second p q s = q s

  if_within : (q : Ask) (first second : Running) → Runs first → Runs second → Runs (if_of q first second switch)
  if_within q first second p r s j n left h =
      behind (head_of q switch s) _ (Left j) j n left (head_within q s) h (λ held n left h. chosen_within held first second p r s j n left h)

  round_within : (b : Bool) (body next : Running) → Runs body → Runs next → Runs (round b body next)
  round_within true body next p q s j n left h = behind (body s) _ (Left j) j n left (p s) h (λ s n left h. q s j n left h)
  round_within false body next p q s j n left h = h

  rounds_within : (more : ℕ) (e : Term) (body : Running) → Runs body → Runs (rounds more e body switch)
  rounds_within zero e body p s j n left h = suits.spent switch
  rounds_within (suc more) e body p s j n left h =
      valued e s _ (Left j) j n left h
      (λ d n left h. round_within (truth_in d) body (rounds more e body switch) p (rounds_within more e body p) s j n left h)

  abbrev block : Acts → Running
  block b = in_block (acts_of b switch)

  mutual
    act_within : (st : Act) → Runs (act_of st switch)
    act_within Drop s j n left h = suits.dropped switch
    act_within Flood s j n left h = suits.flooded switch
    act_within (Out es) s j n left h = behind (numbers_of es switch s) _ (Left j) j n left (numbers_within es s) h (λ ns n left h. suits.out switch ns)
    act_within (Route e) s j n left h =
        valued e s _ (Left j) j n left h
        (λ d n left h. next_within (Leads switch) (Left j) (way_to switch (place_in d) left) _ n (way_to_within (place_in d) left n) (λ n ps h. h))
    act_within (Let x e) s j n left h = valued e s _ (Left j) j n left h (λ d n left h. h)
    act_within (Assign x e) s j n left h = valued e s _ (Left j) j n left h (λ d n left h. h)
    act_within (If q b) s j n left h = if_within q (block b) nothing_done (block_within (acts_of b switch) (acts_within b)) (λ s j n left h. h) s j n left h
    act_within (IfElse q b c) s j n left h =
        if_within q (block b) (block c) (block_within (acts_of b switch) (acts_within b)) (block_within (acts_of c switch) (acts_within c)) s j n left h
    act_within (While e b) s j n left h = rounds_within (suc left) e (block b) (block_within (acts_of b switch) (acts_within b)) s j n left h

    acts_within : (b : Acts) → Runs (acts_of b switch)
    acts_within NoActs s j n left h = h
    acts_within (Then st rest) s j n left h =
        counted _ (Left j) j n left h (λ n left h. behind (act_of st switch s) _ (Left j) j n left (act_within st s) (omega arith) (λ s n left h. acts_within rest s j n left h))

  pub policy_within : (body : Acts) (budget : ℕ) → Fits may (such switch) (Left 0) budget (in_block (acts_of body switch) [] budget)
  policy_within body budget = block_within (acts_of body switch) (acts_within body) [] 0 budget budget (omega arith)
