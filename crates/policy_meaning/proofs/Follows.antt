-- A tree without the settled questions, for a valid key and an environment that gave the answers so far.
use Rattle.std.proofs.Common.{◌≡◌, ℕ, suc, ◌+◌, ◌≤◌, Bool, true, false, cond, List, [], ◌∷◌, ◌++◌, length, refl, sym, ap, ◌∙◌, subst, arith}
use Rattle.std.specs.Prelude.{◌==◌, ◌&&◌, Option, Some, None, is_none, is_some}
use Rattle.std.proofs.lemmas.Bool.{false≢true, eq-eqb, eqb-true, and_from, or_from, false_from_ne_true}
use Rattle.maple_base.specs.declared.key.Key.{Key}
use Rattle.maple_base.specs.declared.key.Field.{Field}
use Rattle.maple_base.specs.declared.key.Field.TheVariants.{DlType, NwTos, NwProto, NwSrc, NwDst, TpSrc, TpDst}
use Rattle.maple_base.specs.declared.cells.Cell.{Cell}
use Rattle.maple_base.specs.declared.cells.Value.{Value}
use Rattle.maple_base.specs.declared.items.Item.{Item}
use Rattle.maple_base.specs.declared.items.Item.TheVariants.{Read, Test}
use Rattle.maple_base.specs.Assigned.{ip_type}
use Rattle.maple_base.specs.Keys.{field_of, in_domain, has_ports, fixed_to, fixed_ports, valid_key}
use Rattle.maple_base.specs.Questions.{meets, meets_item, known, excluded}
use Rattle.policy_meaning.specs.Asking.{Asking, Done, AsksField, AsksTest, AsksCell}
use Rattle.policy_meaning.specs.Cells.{given, Gives, reads_once}
use Rattle.policy_meaning.specs.Readings.{outcome_in, items_of, cells_of}
use Rattle.policy_meaning.specs.Through.{Seen, noted, looked, Onward, settled_by, is_ip, ask_net, no_ports, ask_proto, ask_ports, ask_header, settled_field, read_value, ask_field, settled_test, ask_value, settled_cell, through}
use Rattle.policy_meaning.proofs.Traces.{same_bool_own}
use Rattle.policy_meaning.proofs.Settled.{known_is, excluded_is, meets_more, given_is, gives_more, ruled_ports}
use Rattle.policy_meaning.proofs.Rightly.{AreRight, header_known, known_still, known_read, known_more, or_else}
use Rattle.policy_meaning.proofs.Valid.{has_header, domain_of, lacks}

-- the key and the environment gave these answers
pub record Met (k : Key) (env : Cell → Value) (s : Seen) : Type 0 where
  pub items : meets k s.items ≡ true
  pub cells : Gives env s.cells

-- of the two fields that other questions read, how many are not read yet
abbrev unknown : Option ℕ → ℕ
unknown (Some v) = 0
unknown None = 1

abbrev pub spare : List Item → ℕ
spare is = unknown (known DlType is) + unknown (known NwProto is)

-- a tree ends with this, and asks at most so many items besides the spare ones, rightly, and no cell again
pub record Follows {A : Type 0} (k : Key) (env : Cell → Value) (s : Seen) (n : ℕ) (o : A) (c : Asking A) : Type 0 where
  pub answer : outcome_in c k env ≡ o
  pub few : length (items_of c k env) ≤ n + spare s.items
  pub items : AreRight s.items (items_of c k env)
  pub cells : reads_once s.cells (cells_of c k env) ≡ true

-- what follows a value does so where the value is the true one
abbrev pub FollowsOn : {A V : Type 0} → Key → (Cell → Value) → V → ℕ → A → Onward V A → Type 0
FollowsOn k env v n o next = (s : Seen) → Met k env s → Follows k env s n o (next v s)

-- and what follows a truth does so where the items tell, if it is true, that this is so
abbrev pub FollowsIf : {A : Type 0} → (List Item → Bool) → Key → (Cell → Value) → Bool → ℕ → A → Onward Bool A → Type 0
FollowsIf told k env b n o next = (s : Seen) → Met k env s → (b ≡ true → told s.items ≡ true) → Follows k env s n o (next b s)

-- what is known of each field is known of it in these items too
abbrev Keeps : List Item → List Item → Type 0
Keeps before is = (g : Field) (w : ℕ) → known g before ≡ Some w → known g is ≡ Some w

abbrev net_known : List Item → Bool
net_known is = fixed_to (known DlType is) ip_type

abbrev ports_known : List Item → Bool
ports_known is = net_known is && fixed_ports (known NwProto is)

type_kept : (o p : Option ℕ) (n : ℕ) → fixed_to o n ≡ true → ((w : ℕ) → o ≡ Some w → p ≡ Some w) → fixed_to p n ≡ true
type_kept None p n h keep = absurd (cc)
type_kept (Some w) p n h keep = ap (λ x. fixed_to x n) (keep w refl) ∙ h

-- a value outside the domain isn't the key's
outside : (k : Key) (f : Field) (v : ℕ) → valid_key k ≡ true → in_domain f v ≡ false → (field_of k f == v) ≡ false
outside k f v valid h =
    false_from_ne_true (field_of k f == v) (λ e. false≢true (sym h ∙ ap (in_domain f) (sym (eqb-true (field_of k f) v e)) ∙ domain_of k f valid))

met_item : {k : Key} {env : Cell → Value} (s : Seen) (i : Item) → Met k env s → meets_item k i ≡ true → Met k env (noted s i)
met_item {k} {env} s i met h = record { items = meets_more s.items k i met.items h; cells = met.cells }

unknown_less : (o p : Option ℕ) → unknown (or_else o p) ≤ unknown o
unknown_less (Some v) p = omega arith
unknown_less None (Some v) = omega arith
unknown_less None None = omega arith

unknown_more : (is : List Item) (f : Field) (i : Item) → unknown (known f (is ++ i ∷ [])) ≤ unknown (known f is)
unknown_more is f i = subst (λ o. unknown o ≤ unknown (known f is)) (sym (known_more is f i)) (unknown_less (known f is) (known f (i ∷ [])))

spare_more : (is : List Item) (i : Item) → spare (is ++ i ∷ []) ≤ spare is
spare_more is i = omega (arith, unknown_more is DlType i, unknown_more is NwProto i)

-- a field that is read for other questions is spare no longer
abbrev IsSpare : Field → Type 0
IsSpare f = (is : List Item) (v : ℕ) → known f is ≡ None → suc (spare (is ++ Read f v ∷ [])) ≤ spare is

type_spare : IsSpare DlType
type_spare is v new = omega (arith, unknown_more is NwProto (Read DlType v), ap unknown (known_read is DlType v new), ap unknown new)

proto_spare : IsSpare NwProto
proto_spare is v new = omega (arith, unknown_more is DlType (Read NwProto v), ap unknown (known_read is NwProto v new), ap unknown new)

module _ {A : Type 0} (k : Key) (env : Cell → Value) (valid : valid_key k ≡ true) where
  follows_more : {s : Seen} {m n : ℕ} {o : A} {c : Asking A} → Follows k env s m o c → m ≤ n → Follows k env s n o c
  follows_more f h = record { answer = f.answer; few = omega (arith, f.few, h); items = f.items; cells = f.cells }

  settled : {V : Type 0} (s : Seen) (n : ℕ) (o : A) (next : Onward V A) (v w : V) → Met k env s → v ≡ w → FollowsOn k env v n o next → Follows k env s (n + 1) o (next w s)
  settled s n o next v w met e on = follows_more (subst (λ x. Follows k env s n o (next x s)) e (on s met)) (omega arith)

  reads_on : (s : Seen) (m n : ℕ) (o : A) (f : Field) (by : ℕ → Asking A) → known f s.items ≡ None → header_known f s.items ≡ true
      → suc (m + spare (s.items ++ Read f (field_of k f) ∷ [])) ≤ n + spare s.items
      → Follows k env (noted s (Read f (field_of k f))) m o (by (field_of k f)) → Follows k env s n o (AsksField f by)
  reads_on s m n o f by new there spares r = record {
    answer = r.answer;
    few = omega (arith, r.few, spares);
    items = (record { new = new; unsettled = ap is_some new; within = domain_of k f valid; there = there }, r.items);
    cells = r.cells;
  }

  tests_on : (s : Seen) (n : ℕ) (o : A) (f : Field) (v : ℕ) (by : Bool → Asking A)
      → in_domain f v ≡ true → known f s.items ≡ None → excluded f v s.items ≡ false → header_known f s.items ≡ true
      → Follows k env (noted s (Test f v (field_of k f == v))) n o (by (field_of k f == v)) → Follows k env s (n + 1) o (AsksTest f v by)
  tests_on s n o f v by inside new free there r = record {
    answer = r.answer;
    few = omega (arith, r.few, spare_more s.items (Test f v (field_of k f == v)));
    items = (record { new = new; unsettled = or_from (is_some (known f s.items)) (excluded f v s.items) (ap is_some new) free; within = inside; there = there }, r.items);
    cells = r.cells;
  }

  -- whether a field has one of some values, of which the items tell where its value is known
  by_settled : (told : List Item → Bool) (s : Seen) (n : ℕ) (o : A) (f : Field) (such : ℕ → Bool) (next : Onward Bool A) (fixed : Option ℕ) (ruled : Bool)
      → Met k env s → IsSpare f → header_known f s.items ≡ true → known f s.items ≡ fixed → (ruled ≡ true → such (field_of k f) ≡ false)
      → ((v : ℕ) (is : List Item) → known f is ≡ Some v → Keeps s.items is → such v ≡ true → told is ≡ true)
      → FollowsIf told k env (such (field_of k f)) n o next → Follows k env s n o (settled_by fixed ruled f such s next)
  by_settled told s n o f such next (Some v) ruled met spares there e x tell on =
      let same = known_is s.items k f v met.items e in
      let r = on s met (λ t. tell v s.items e (λ g w h. h) (sym (ap such same) ∙ t)) in
      subst (λ w. Follows k env s n o (next (such w) s)) same r
  by_settled told s n o f such next None true met spares there e x tell on =
      let r = on s met (λ t. absurd (false≢true (sym (x refl) ∙ t))) in
      subst (λ b. Follows k env s n o (next b s)) (x refl) r
  by_settled told s n o f such next None false met spares there e x tell on =
      let i : Item = Read f (field_of k f) in
      reads_on s n n o f (λ w. next (such w) (noted s (Read f w))) e there (omega (arith, spares s.items (field_of k f) e))
      (on (noted s i) (met_item s i met (eq-eqb (field_of k f) (field_of k f) refl))
      (λ t. tell (field_of k f) (s.items ++ i ∷ []) (known_read s.items f (field_of k f) e) (known_still s.items i) t))

  follows_net : (s : Seen) (n : ℕ) (o : A) (next : Onward Bool A) → Met k env s → FollowsIf net_known k env (is_ip k.dl_type) n o next → Follows k env s n o (ask_net s next)
  follows_net s n o next met on =
      by_settled net_known s n o DlType is_ip next (known DlType s.items) (excluded DlType ip_type s.items) met type_spare refl refl
      (λ x. excluded_is s.items k DlType ip_type met.items x) (λ v is e keeps t. ap (λ o. fixed_to o ip_type) e ∙ t) on

  follows_proto : (n : ℕ) (o : A) (next : Onward Bool A) (net : Bool)
      → FollowsIf ports_known k env (net && has_ports k.nw_proto) n o next → FollowsIf net_known k env net n o (ask_proto next)
  follows_proto n o next true on s met net =
      by_settled ports_known s n o NwProto has_ports next (known NwProto s.items) (no_ports s.items) met proto_spare (net refl) refl
      (λ x. ruled_ports k s.items met.items x)
      (λ v is e keeps t.
      and_from (net_known is) (fixed_ports (known NwProto is))
      (type_kept (known DlType s.items) (known DlType is) ip_type (net refl) (keeps DlType)) (ap fixed_ports e ∙ t))
      on
  follows_proto n o next false on s met net = on s met (λ t. absurd (false≢true t))

  follows_ports : (s : Seen) (n : ℕ) (o : A) (next : Onward Bool A)
      → Met k env s → FollowsIf ports_known k env (is_ip k.dl_type && has_ports k.nw_proto) n o next → Follows k env s n o (ask_ports s next)
  follows_ports s n o next met on = follows_net s n o (ask_proto next) met (follows_proto n o next (is_ip k.dl_type) on)

  follows_header : (f : Field) (s : Seen) (n : ℕ) (o : A) (next : Onward Bool A)
      → Met k env s → FollowsIf (header_known f) k env (has_header f k) n o next → Follows k env s n o (ask_header f s next)
  follows_header NwTos s n o next met on = follows_net s n o next met on
  follows_header NwProto s n o next met on = follows_net s n o next met on
  follows_header NwSrc s n o next met on = follows_net s n o next met on
  follows_header NwDst s n o next met on = follows_net s n o next met on
  follows_header TpSrc s n o next met on = follows_ports s n o next met on
  follows_header TpDst s n o next met on = follows_ports s n o next met on
  follows_header f s n o next met on = on s met (λ t. refl)

  field_settled : (f : Field) (s : Seen) (n : ℕ) (o : A) (next : Onward ℕ A) (fixed : Option ℕ)
      → Met k env s → header_known f s.items ≡ true → known f s.items ≡ fixed → FollowsOn k env (field_of k f) n o next
      → Follows k env s (n + 1) o (settled_field fixed f s next)
  field_settled f s n o next (Some v) met there e on = settled s n o next (field_of k f) v met (known_is s.items k f v met.items e) on
  field_settled f s n o next None met there e on =
      let i : Item = Read f (field_of k f) in
      reads_on s n (n + 1) o f (λ v. next v (noted s (Read f v))) e there (omega (arith, spare_more s.items i)) (on (noted s i) (met_item s i met (eq-eqb (field_of k f) (field_of k f) refl)))

  read_on : (f : Field) (n : ℕ) (o : A) (next : Onward ℕ A) (header : Bool)
      → has_header f k ≡ header → FollowsOn k env (field_of k f) n o next → FollowsIf (header_known f) k env header (n + 1) o (read_value f next)
  read_on f n o next true e on s met there = field_settled f s n o next (known f s.items) met (there refl) refl on
  read_on f n o next false e on s met there = settled s n o next (field_of k f) 0 met (lacks k f valid e) on

  follows_field : (f : Field) (s : Seen) (n : ℕ) (o : A) (next : Onward ℕ A)
      → Met k env s → FollowsOn k env (field_of k f) n o next → Follows k env s (n + 1) o (ask_field f s next)
  follows_field f s n o next met on =
      follows_header f s (n + 1) o (read_value f next) met (read_on f n o next (has_header f k) refl on)

  test_settled : (f : Field) (v : ℕ) (s : Seen) (n : ℕ) (o : A) (next : Onward Bool A) (fixed : Option ℕ) (ruled : Bool)
      → in_domain f v ≡ true → Met k env s → header_known f s.items ≡ true → known f s.items ≡ fixed → excluded f v s.items ≡ ruled
      → FollowsOn k env (field_of k f == v) n o next → Follows k env s (n + 1) o (settled_test fixed ruled f v s next)
  test_settled f v s n o next (Some w) ruled inside met there e x on =
      settled s n o next (field_of k f == v) (w == v) met (ap (λ u. u == v) (known_is s.items k f w met.items e)) on
  test_settled f v s n o next None true inside met there e x on = settled s n o next (field_of k f == v) false met (excluded_is s.items k f v met.items x) on
  test_settled f v s n o next None false inside met there e x on =
      let i : Item = Test f v (field_of k f == v) in
      tests_on s n o f v (λ b. next b (noted s (Test f v b))) inside e x there (on (noted s i) (met_item s i met (same_bool_own (field_of k f == v))))

  test_on : (f : Field) (v : ℕ) (n : ℕ) (o : A) (next : Onward Bool A) (header : Bool)
      → in_domain f v ≡ true → has_header f k ≡ header → FollowsOn k env (field_of k f == v) n o next
      → FollowsIf (header_known f) k env header (n + 1) o (ask_value f v next)
  test_on f v n o next true inside e on s met there =
      test_settled f v s n o next (known f s.items) (excluded f v s.items) inside met (there refl) refl refl on
  test_on f v n o next false inside e on s met there =
      settled s n o next (field_of k f == v) (0 == v) met (ap (λ w. w == v) (lacks k f valid e)) on

  inside_or_not : (f : Field) (v : ℕ) (s : Seen) (n : ℕ) (o : A) (next : Onward Bool A) (inside : Bool)
      → in_domain f v ≡ inside → Met k env s → FollowsOn k env (field_of k f == v) n o next
      → Follows k env s (n + 1) o (cond inside (ask_header f s (ask_value f v next)) (next false s))
  inside_or_not f v s n o next true e met on =
      follows_header f s (n + 1) o (ask_value f v next) met (test_on f v n o next (has_header f k) e refl on)
  inside_or_not f v s n o next false e met on =
      settled s n o next (field_of k f == v) false met (outside k f v valid e) on

  cell_settled : (c : Cell) (s : Seen) (n : ℕ) (o : A) (next : Onward Value A) (fixed : Option Value)
      → Met k env s → given c s.cells ≡ fixed → FollowsOn k env (env c) n o next → Follows k env s n o (settled_cell fixed c s next)
  cell_settled c s n o next (Some v) met e on = subst (λ x. Follows k env s n o (next x s)) (given_is s.cells env c v met.cells e) (on s met)
  cell_settled c s n o next None met e on =
      let m : Met k env (looked s c (env c)) = record { items = met.items; cells = gives_more s.cells env c (env c) met.cells refl } in
      let r = on (looked s c (env c)) m in record {
        answer = r.answer;
        few = r.few;
        items = r.items;
        cells = and_from (is_none (given c s.cells)) (reads_once (s.cells ++ (c, env c) ∷ []) (cells_of (next (env c) (looked s c (env c))) k env)) (ap is_none e) r.cells;
      }

  -- without the settled questions a tree ends as with them
  pub follows : (c : Asking A) (s : Seen) → Met k env s → Follows k env s (length (items_of c k env)) (outcome_in c k env) (through c s)
  follows (Done a) s met = record { answer = refl; few = omega arith; items = tt; cells = refl }
  follows (AsksField f by) s met =
      let n = length (items_of (by (field_of k f)) k env) in
      let o = outcome_in (by (field_of k f)) k env in
      follows_more (follows_field f s n o (λ v t. through (by v) t) met (λ t m. follows (by (field_of k f)) t m)) (omega arith)
  follows (AsksTest f v by) s met =
      let n = length (items_of (by (field_of k f == v)) k env) in
      let o = outcome_in (by (field_of k f == v)) k env in
      follows_more (inside_or_not f v s n o (λ b t. through (by b) t) (in_domain f v) refl met (λ t m. follows (by (field_of k f == v)) t m)) (omega arith)
  follows (AsksCell c by) s met =
      let n = length (items_of (by (env c)) k env) in
      let o = outcome_in (by (env c)) k env in
      cell_settled c s n o (λ v t. through (by v) t) (given c s.cells) met refl (λ t m. follows (by (env c)) t m)
