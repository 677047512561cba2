-- Traces of one tree.
use Rattle.std.proofs.Common.{◌≡◌, ℕ, Bool, true, false, cond, ◌∷◌, refl, sym, ap, ◌∙◌, subst}
use Rattle.std.specs.Prelude.{◌==◌, ◌&&◌, not}
use Rattle.std.proofs.lemmas.Bool.{false≢true, eq-eqb, eqb-true, and_parts, false_from_ne_true}
use Rattle.maple_base.specs.declared.key.Key.{Key}
use Rattle.maple_base.specs.declared.key.Field.{Field}
use Rattle.maple_base.specs.declared.cells.Cell.{Cell}
use Rattle.maple_base.specs.declared.cells.Value.{Value}
use Rattle.maple_base.specs.declared.items.Item.TheVariants.{Read, Test}
use Rattle.maple_base.specs.Keys.{field_of}
use Rattle.maple_base.specs.Questions.{field_number, same_field, same_bool, meets, clash}
use Rattle.policy_meaning.specs.Cells.{Gives}
use Rattle.policy_meaning.specs.Asking.{Asking, Done, AsksField, AsksTest, AsksCell}
use Rattle.policy_meaning.specs.Readings.{outcome_in, items_of, cells_of}
use Rattle.policy_meaning.specs.QuestionLaws.{Owns, GoAlike, OnlyItsCells, NoClash}

pub same_bool_own : (b : Bool) → same_bool b b ≡ true
same_bool_own true = refl
same_bool_own false = refl

pub same_bool_is : (a b : Bool) → same_bool a b ≡ true → a ≡ b
same_bool_is true b h = sym h
same_bool_is false true h = absurd (cc)
same_bool_is false false h = refl

pub same_field_own : (f : Field) → same_field f f ≡ true
same_field_own f = eq-eqb (field_number f) (field_number f) refl

pub owns : {A : Type 0} (c : Asking A) (k : Key) (env : Cell → Value) → Owns c k env
owns (Done a) k env = record { items = refl; cells = tt }
owns (AsksField f by) k env =
    let r = owns (by (field_of k f)) k env in record {
      items = ap (λ x. x && meets k (items_of (by (field_of k f)) k env)) (eq-eqb (field_of k f) (field_of k f) refl) ∙ r.items;
      cells = r.cells;
    }
owns (AsksTest f v by) k env =
    let r = owns (by (field_of k f == v)) k env in record {
      items = ap (λ x. x && meets k (items_of (by (field_of k f == v)) k env)) (same_bool_own (field_of k f == v)) ∙ r.items;
      cells = r.cells;
    }
owns (AsksCell c by) k env = let r = owns (by (env c)) k env in record { items = r.items; cells = (refl, r.cells) }

pub alike_field : {A : Type 0} (f : Field) (by : ℕ → Asking A) (k l : Key) (env other : Cell → Value)
    → field_of l f ≡ field_of k f → GoAlike (by (field_of k f)) k env l other → GoAlike (AsksField f by) k env l other
alike_field f by k l env other e r = record {
  items = ap (λ v. Read f v ∷ items_of (by v) l other) e ∙ ap (λ is. Read f (field_of k f) ∷ is) r.items;
  cells = ap (λ v. cells_of (by v) l other) e ∙ r.cells;
  outcome = ap (λ v. outcome_in (by v) l other) e ∙ r.outcome;
}

pub alike_test : {A : Type 0} (f : Field) (v : ℕ) (by : Bool → Asking A) (k l : Key) (env other : Cell → Value)
    → (field_of l f == v) ≡ (field_of k f == v) → GoAlike (by (field_of k f == v)) k env l other → GoAlike (AsksTest f v by) k env l other
alike_test f v by k l env other e r = record {
  items = ap (λ b. Test f v b ∷ items_of (by b) l other) e ∙ ap (λ is. Test f v (field_of k f == v) ∷ is) r.items;
  cells = ap (λ b. cells_of (by b) l other) e ∙ r.cells;
  outcome = ap (λ b. outcome_in (by b) l other) e ∙ r.outcome;
}

pub alike_cell : {A : Type 0} (c : Cell) (by : Value → Asking A) (k l : Key) (env other : Cell → Value)
    → other c ≡ env c → GoAlike (by (env c)) k env l other → GoAlike (AsksCell c by) k env l other
alike_cell c by k l env other e r = record {
  items = ap (λ v. items_of (by v) l other) e ∙ r.items;
  cells = ap (λ v. (c, v) ∷ cells_of (by v) l other) e ∙ ap (λ cs. (c, env c) ∷ cs) r.cells;
  outcome = ap (λ v. outcome_in (by v) l other) e ∙ r.outcome;
}

pub alike : {A : Type 0} (c : Asking A) (k l : Key) (env other : Cell → Value) → meets l (items_of c k env) ≡ true → Gives other (cells_of c k env) → GoAlike c k env l other
alike (Done a) k l env other h g = record { items = refl; cells = refl; outcome = refl }
alike (AsksField f by) k l env other h g =
    let q = and_parts (field_of l f == field_of k f) (meets l (items_of (by (field_of k f)) k env)) h in
    alike_field f by k l env other (eqb-true (field_of l f) (field_of k f) q.0) (alike (by (field_of k f)) k l env other q.1 g)
alike (AsksTest f v by) k l env other h g =
    let q = and_parts (same_bool (field_of l f == v) (field_of k f == v)) (meets l (items_of (by (field_of k f == v)) k env)) h in
    alike_test f v by k l env other (same_bool_is (field_of l f == v) (field_of k f == v) q.0) (alike (by (field_of k f == v)) k l env other q.1 g)
alike (AsksCell c by) k l env other h g = alike_cell c by k l env other g.0 (alike (by (env c)) k l env other h g.1)

-- of two first items that ask the same and do not part, the answers are equal, and the rest decides
clash_read : (s e x : Bool) → s ≡ true → cond (s && e) x (not (s && not e)) ≡ true → (e ≡ true) × (x ≡ true)
clash_read true true x q h = (refl, h)
clash_read true false x q h = absurd (cc)
clash_read false e x q h = absurd (cc)

clash_tested : (s e b x : Bool) → s ≡ true → e ≡ true → cond (s && e && b) x (not (s && e && not b)) ≡ true → (b ≡ true) × (x ≡ true)
clash_tested true true true x q r h = (refl, h)
clash_tested true true false x q r h = absurd (cc)
clash_tested true false b x q r h = absurd (cc)
clash_tested false e b x q r h = absurd (cc)

pub on_one_path : {A : Type 0} (c : Asking A) (k l : Key) (env other : Cell → Value)
    → Gives other (cells_of c k env) → clash (items_of c k env) (items_of c l other) ≡ true → GoAlike c k env l other
on_one_path (Done a) k l env other g h = record { items = refl; cells = refl; outcome = refl }
on_one_path (AsksField f by) k l env other g h =
    let q =
    clash_read (same_field f f) (field_of k f == field_of l f) (clash (items_of (by (field_of k f)) k env) (items_of (by (field_of l f)) l other)) (same_field_own f) h in
    let e = sym (eqb-true (field_of k f) (field_of l f) q.0) in
    let r = subst (λ v. clash (items_of (by (field_of k f)) k env) (items_of (by v) l other) ≡ true) e q.1 in
    alike_field f by k l env other e (on_one_path (by (field_of k f)) k l env other g r)
on_one_path (AsksTest f v by) k l env other g h =
    let a = field_of k f == v in
    let b = field_of l f == v in
    let q = clash_tested (same_field f f) (v == v) (same_bool a b) (clash (items_of (by a) k env) (items_of (by b) l other)) (same_field_own f) (eq-eqb v v refl) h in
    let e = sym (same_bool_is a b q.0) in
    let r = subst (λ x. clash (items_of (by a) k env) (items_of (by x) l other) ≡ true) e q.1 in
    alike_test f v by k l env other e (on_one_path (by a) k l env other g r)
on_one_path (AsksCell c by) k l env other g h =
    let r = subst (λ v. clash (items_of (by (env c)) k env) (items_of (by v) l other) ≡ true) g.0 h in
    alike_cell c by k l env other g.0 (on_one_path (by (env c)) k l env other g.1 r)

pub only_its_cells : OnlyItsCells
only_its_cells c k env other g = alike c k k env other (owns c k env).items g

-- in the environment that both have their cells' values in, traces that clash are the same
clash_now : {A : Type 0} (c : Asking A) (k l : Key) (env other now : Cell → Value)
    → Gives now (cells_of c k env) → Gives now (cells_of c l other) → clash (items_of c k env) (items_of c l other) ≡ true → items_of c l other ≡ items_of c k env
clash_now c k l env other now g h e =
    let a = alike c k k env now (owns c k env).items g in
    let b = alike c l l other now (owns c l other).items h in
    let both_now = subst (λ is. clash is (items_of c l now) ≡ true) (sym a.items) (subst (λ is. clash (items_of c k env) is ≡ true) (sym b.items) e) in
    sym b.items ∙ (on_one_path c k l now now (owns c k now).cells both_now).items ∙ a.items

pub no_clash : NoClash
no_clash c k l env other now g h unmet =
    let differ = λ (e : items_of c l other ≡ items_of c k env). false≢true (sym unmet ∙ subst (λ is. meets l is ≡ true) e (owns c l other).items) in (
      false_from_ne_true (clash (items_of c k env) (items_of c l other)) (λ e. differ (clash_now c k l env other now g h e)),
      false_from_ne_true (clash (items_of c l other) (items_of c k env)) (λ e. differ (sym (clash_now c l k other env now h g e))),
    )
