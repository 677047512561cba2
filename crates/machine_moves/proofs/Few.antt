-- What a policy decides has at most 16 ports, since none of its statements names more.
use Rattle.std.proofs.Common.{◌≡◌, ℕ, zero, suc, ◌≤◌, Bool, true, false, List, [], ◌∷◌, length, refl, arith}
use Rattle.std.specs.Prelude.{◌==◌, ◌&&◌, nat_le, not, filter, if◌then◌else◌, Option, Some, None}
use Rattle.std.specs.List.{list_all}
use Rattle.std.proofs.lemmas.Bool.{and_parts, cond_both, leb-true}
use Rattle.maple_base.specs.declared.key.Key.{Key}
use Rattle.maple_base.specs.declared.cells.Cell.{Cell}
use Rattle.maple_base.specs.declared.cells.Place.{Place}
use Rattle.maple_base.specs.declared.cells.Value.{Value}
use Rattle.maple_base.specs.declared.cells.Value.TheVariants as value
use Rattle.maple_base.specs.declared.decision.Decision.TheVariants.{Drop as Dropped, Out as SentOut}
use Rattle.maple_base.specs.declared.decision.Outcome.{Outcome}
use Rattle.maple_base.specs.declared.decision.Outcome.TheVariants.{Decided}
use Rattle.maple_base.specs.declared.operator.Operator.{Operator}
use Rattle.maple_base.specs.Ports.{is_port}
use Rattle.maple_base.specs.Questions.{same_bool}
use Rattle.policy_lang.specs.declared.Policy.{Policy}
use Rattle.policy_lang.specs.Sound.{sound_term, sound_ask, sound_act, sound_acts}
use Rattle.policy_lang.specs.Tree.{Atom, Packet, Callee, Up, At, Term, Single, Call, Is, Not, Pair, Ask, Binds, Holds, Act, Acts, Drop, Flood, Out, Route, Let, Assign, If, IfElse, While, Done as NoActs, Then}
use Rattle.policy_lang.specs.TreeOf.{tree_of}
use Rattle.policy_meaning.specs.Asking.{Done, AsksField, AsksTest, AsksCell, Goes, Ends, Run, gives, ◌>>=◌, count, whole}
use Rattle.policy_meaning.specs.Readings.{outcome_in}
use Rattle.policy_meaning.specs.Values.{Datum, Truth, Scope, truth_in, place_in, ports_among, sent_out, settling}
use Rattle.policy_meaning.specs.Meaning.{Giving, Running, atom_of, called, behind_left, value_of, numbers_of, head_of, behind_hop, way, way_to, in_block, nothing_done, chosen, if_of, round, rounds, act_of, acts_of, meaning}
use Rattle.machine_steps.proofs.Sound.Zipped.{few_filter}

-- at most 16 ports are decided
abbrev pub FewPorts : Outcome → Type 0
FewPorts (Decided (SentOut ports)) = length ports ≤ 16
FewPorts o = Unit {0}

-- each end of a part has few ports, and what it gives is so
abbrev EndsFew : {A : Type 0} → (A → Type 0) → Run A → Type 0
EndsFew G (Done (Goes a)) = G a
EndsFew G (Done (Ends o)) = FewPorts o
EndsFew G (AsksField f by) = (v : ℕ) → EndsFew G (by v)
EndsFew G (AsksTest f v by) = (b : Bool) → EndsFew G (by b)
EndsFew G (AsksCell c by) = (v : Value) → EndsFew G (by v)

-- whatever it gives
abbrev Any : {A : Type 0} → A → Type 0
Any a = Unit {0}

abbrev Fair : {A : Type 0} → Run A → Type 0
Fair m = EndsFew Any m

next_few : {A B : Type 0} (G : A → Type 0) (H : B → Type 0) (m : Run A) (next : A → Run B) → EndsFew G m → ((a : A) → G a → EndsFew H (next a)) → EndsFew H (m >>= next)
next_few G H (Done (Goes a)) next h on = on a h
next_few G H (Done (Ends o)) next h on = h
next_few G H (AsksField f by) next h on = λ v. next_few G H (by v) next (h v) on
next_few G H (AsksTest f v by) next h on = λ b. next_few G H (by b) next (h b) on
next_few G H (AsksCell c by) next h on = λ v. next_few G H (by v) next (h v) on

counted : {B : Type 0} (H : B → Type 0) (next : ℕ → Run B) (left : ℕ) → ((left : ℕ) → EndsFew H (next left)) → EndsFew H (count left >>= next)
counted H next zero on = tt
counted H next (suc left) on = on left

module _ (switch : ℕ) where
  atom_few : (x : Atom) (s : Scope) → Fair (atom_of x switch s)
  atom_few (Packet f) s = λ v. tt
  atom_few x s = tt

  called_few : (c : Callee) (d e : Datum) → Fair (called c d e)
  called_few Up d e = λ v. tt
  called_few At d e = tt

  unless_few : (settles b : Bool) (right : Giving Datum) → ((left : ℕ) → Fair (right left)) → (left : ℕ) → Fair (if settles then gives (Truth b, left) else right left)
  unless_few true b right fair left = tt
  unless_few false b right fair left = fair left

  right_few : (w : Option Bool) (o : Operator) (d : Datum) (right : Giving Datum) → ((left : ℕ) → Fair (right left)) → (left : ℕ) → Fair (behind_left w o d right left)
  right_few (Some b) o d right fair left = unless_few (same_bool (truth_in d) b) b right fair left
  right_few None o d right fair left = next_few Any Any (right left) _ (fair left) (λ e h. tt)

  value_few : (e : Term) (s : Scope) (left : ℕ) → Fair (value_of e switch s left)
  value_few (Single x) s left = counted Any _ left (λ left. next_few Any Any (atom_of x switch s) _ (atom_few x s) (λ d h. tt))
  value_few (Call c l r) s left =
      counted Any _ left (λ left. next_few Any Any (value_of l switch s left) _ (value_few l s left)
      (λ d h. next_few Any Any (value_of r switch s d.1) _ (value_few r s d.1) (λ e k. next_few Any Any (called c d.0 e.0) _ (called_few c d.0 e.0) (λ v q. tt))))
  value_few (Is f e) s left = counted Any _ left (λ left. next_few Any Any (value_of e switch s left) _ (value_few e s left) (λ d h. λ b. tt))
  value_few (Not e) s left = counted Any _ left (λ left. next_few Any Any (value_of e switch s left) _ (value_few e s left) (λ d h. tt))
  value_few (Pair o l r) s left =
      counted Any _ left (λ left. next_few Any Any (value_of l switch s left) _ (value_few l s left)
      (λ d h. right_few (settling o) o d.0 (value_of r switch s) (value_few r s) d.1))

  valued : {B : Type 0} (H : B → Type 0) (e : Term) (s : Scope) (left : ℕ) (next : Datum × ℕ → Run B) → ((d : Datum) (left : ℕ) → EndsFew H (next (d, left))) → EndsFew H (value_of e switch s left >>= next)
  valued H e s left next on = next_few Any H (value_of e switch s left) next (value_few e s left) (λ d h. on d.0 d.1)

  -- as many numbers as expressions
  abbrev AsMany : List Term → List ℕ × ℕ → Type 0
  AsMany es r = length r.0 ≡ length es

  numbers_few : (es : List Term) (s : Scope) (left : ℕ) → EndsFew (AsMany es) (numbers_of es switch s left)
  numbers_few [] s left = refl
  numbers_few (e ∷ es) s left =
      valued (AsMany (e ∷ es)) e s left _
      (λ d left. next_few (AsMany es) (AsMany (e ∷ es)) (numbers_of es switch s left) _ (numbers_few es s left) (λ r h. omega (arith, h)))

  head_few : (q : Ask) (s : Scope) (left : ℕ) → Fair (head_of q switch s left)
  head_few (Binds t e x) s left = counted Any _ left (λ left. valued Any e s left _ (λ d left. λ v. tt))
  head_few (Holds e) s left = valued Any e s left _ (λ d left. tt)

  -- ---- ways

  near_few : (near : Bool) (to : Place) (m : Run (List Place)) → Fair m → Fair (if near then gives (to ∷ []) else m)
  near_few true to m h = tt
  near_few false to m h = h

  hop_few : (v : Value) (from : ℕ) (to : Place) (next : ℕ → Run (List Place)) → ((from : ℕ) → Fair (next from)) → Fair (behind_hop from to next v)
  hop_few (value.At p) from to next on =
      next_few Any Any (if p.switch == to.switch then gives (to ∷ []) else next p.switch) _ (near_few (p.switch == to.switch) to (next p.switch) (on p.switch)) (λ ps h. tt)
  hop_few v from to next on = tt

  way_few : (more : ℕ) (to : Place) (left from : ℕ) → Fair (way more to left from)
  way_few zero to left from = tt
  way_few (suc more) to zero from = tt
  way_few (suc more) to (suc left) from = λ v. hop_few v from to (way more to left) (λ from. way_few more to left from)

  way_to_few : (to : Place) (left : ℕ) → Fair (way_to switch to left)
  way_to_few to left = go (is_port to.port)
    where
      go : (port : Bool) → Fair (if port then (if switch == to.switch then gives (to ∷ []) else way 63 to left switch) else Done (Ends (Decided Dropped)))
      go true = near_few (switch == to.switch) to (way 63 to left switch) (way_few 63 to left switch)
      go false = tt

  -- ---- statements

  abbrev Runs : Running → Type 0
  Runs part = (s : Scope) (left : ℕ) → Fair (part s left)

  block_few : (part : Running) → Runs part → Runs (in_block part)
  block_few part runs s left = next_few Any Any (part s left) _ (runs s left) (λ r h. tt)

  chosen_few : (held : Option Scope) (first second : Running) → Runs first → Runs second → Runs (chosen held first second)
  chosen_few (Some inner) first second p q s left = next_few Any Any (first inner left) _ (p inner left) (λ r h. tt)
  chosen_few None first second p q s left = q s left

  if_few : (q : Ask) (first second : Running) → Runs first → Runs second → Runs (if_of q first second switch)
  if_few q first second p r s left = next_few Any Any (head_of q switch s left) _ (head_few q s left) (λ held h. chosen_few held.0 first second p r s held.1)

  round_few : (b : Bool) (body next : Running) → Runs body → Runs next → Runs (round b body next)
  round_few true body next p q s left = next_few Any Any (body s left) _ (p s left) (λ r h. q r.0 r.1)
  round_few false body next p q s left = tt

  rounds_few : (more : ℕ) (e : Term) (body : Running) → Runs body → Runs (rounds more e body switch)
  rounds_few zero e body p s left = tt
  rounds_few (suc more) e body p s left = valued Any e s left _ (λ d left. round_few (truth_in d) body (rounds more e body switch) p (rounds_few more e body p) s left)

  no_more : (ns : List ℕ) → length (ports_among ns) ≤ length ns
  no_more [] = omega arith
  no_more (n ∷ ns) =
      let others : List ℕ = filter (λ m. not (m == n)) (ports_among ns) in
      let later = no_more ns in
      let fewer = few_filter (λ m. not (m == n)) (ports_among ns) in
      cond_both (is_port n) (n ∷ others) (ports_among ns) (λ ps. length ps ≤ length (n ∷ ns)) (λ e. omega (arith, later, fewer)) (λ e. omega (arith, later))

  sent_few : (ps : List ℕ) → length ps ≤ 16 → FewPorts (Decided (sent_out ps))
  sent_few [] h = tt
  sent_few (p ∷ ps) h = h

  abbrev block : Acts → Running
  block b = in_block (acts_of b switch)

  mutual
    act_few : (st : Act) → sound_act st ≡ true → Runs (act_of st switch)
    act_few Drop sound s left = tt
    act_few Flood sound s left = tt
    act_few (Out es) sound s left =
        let both = and_parts (nat_le 1 (length es) && nat_le (length es) 16) (list_all sound_term es) sound in
        let few = leb-true (length es) 16 (and_parts (nat_le 1 (length es)) (nat_le (length es) 16) both.0).1 in
        next_few (AsMany es) Any (numbers_of es switch s left) _ (numbers_few es s left) (λ r h. let fewer = no_more r.0 in sent_few (ports_among r.0) (omega (arith, few, h, fewer)))
    act_few (Route e) sound s left = valued Any e s left _ (λ d left. next_few Any Any (way_to switch (place_in d) left) _ (way_to_few (place_in d) left) (λ ps h. tt))
    act_few (Let x e) sound s left = valued Any e s left _ (λ d left. tt)
    act_few (Assign x e) sound s left = valued Any e s left _ (λ d left. tt)
    act_few (If q b) sound s left = if_few q (block b) nothing_done (block_few (acts_of b switch) (acts_few b (and_parts (sound_ask q) (sound_acts b) sound).1)) (λ s left. tt) s left
    act_few (IfElse q b c) sound s left =
        let parts = and_parts (sound_ask q && sound_acts b) (sound_acts c) sound in
        if_few q (block b) (block c) (block_few (acts_of b switch) (acts_few b (and_parts (sound_ask q) (sound_acts b) parts.0).1)) (block_few (acts_of c switch) (acts_few c parts.1)) s left
    act_few (While e b) sound s left = rounds_few (suc left) e (block b) (block_few (acts_of b switch) (acts_few b (and_parts (sound_term e) (sound_acts b) sound).1)) s left

    acts_few : (b : Acts) → sound_acts b ≡ true → Runs (acts_of b switch)
    acts_few NoActs sound s left = tt
    acts_few (Then st rest) sound s left =
        let parts = and_parts (sound_act st) (sound_acts rest) sound in
        counted Any _ left (λ left. next_few Any Any (act_of st switch s left) _ (act_few st parts.0 s left) (λ r h. acts_few rest parts.1 r.0 r.1))

whole_few : {A : Type 0} (G : A → Type 0) (m : Run A) → EndsFew G m → (k : Key) (env : Cell → Value) → FewPorts (outcome_in (whole (Decided Dropped) m) k env)
whole_few G (Done (Goes a)) h k env = tt
whole_few G (Done (Ends o)) h k env = h
whole_few G (AsksField f by) h k env = whole_few G (by _) (h _) k env
whole_few G (AsksTest f v by) h k env = whole_few G (by _) (h _) k env
whole_few G (AsksCell c by) h k env = whole_few G (by _) (h _) k env

-- what a policy decides of a packet
pub decides_few : (p : Policy) (budget switch : ℕ) (k : Key) (env : Cell → Value) → FewPorts (outcome_in (meaning (tree_of p.body) budget switch) k env)
decides_few p budget switch k env =
    let part = in_block (acts_of (tree_of p.body) switch) [] budget in
    whole_few Any part (block_few switch (acts_of (tree_of p.body) switch) (acts_few switch (tree_of p.body) p.sound.parts) [] budget) k env
