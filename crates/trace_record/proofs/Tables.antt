-- Tables of what items and cells tell, with one more.
use Rattle.std.proofs.Common.{◌≡◌, ℕ, ◌<◌, Bool, true, false, cond, List, [], ◌∷◌, ◌++◌, length, get_or, slice_set, refl, sym, ap, ◌∙◌, subst, ⊎_elim, arith}
use Rattle.std.specs.Prelude.{◌==◌, ◌&&◌, ◌||◌, nat_eq, Option, Some, None, IfSome, IsTrue}
use Rattle.std.specs.Option.{option_or}
use Rattle.std.specs.Str.{bytes_eq}
use Rattle.std.specs.List.{list_all, slice_index_or}
use Rattle.std.proofs.Math.Bool.{or_comm}
use Rattle.std.specs.HashMap.{HashMap, get}
use Rattle.std.specs.HashSet.{HashSet, contains}
use Rattle.std.proofs.lemmas.Bool.{cases_eq, eqb-true, eq-eqb, ne_eqb, and_parts, and_from, cond_both}
use Rattle.std.proofs.lemmas.Grind.{get_or-set_at}
use Rattle.std.proofs.lemmas.List.{get_or-set_other}
use Rattle.std.proofs.lemmas.Bool.Decides.{same_from_decides}
use Rattle.std.proofs.lemmas.List.Folds.{list_all-append}
use Rattle.std.proofs.lemmas.Slice.Eq.{bytes_eq-Decides}
use denote.Enum.Bare.{same_true, true_same}
use Rattle.maple_base.specs.contracts.key.Field.{the_type}
use Rattle.maple_base.specs.declared.key.Field.{Field}
use Rattle.maple_base.specs.declared.key.Field.TheVariants.{InPort, DlSrc, DlDst, DlVlan, DlType, NwTos, NwProto, NwSrc, NwDst, TpSrc, TpDst}
use Rattle.maple_base.specs.declared.items.Item.{Item}
use Rattle.maple_base.specs.declared.items.Item.TheVariants.{Read, Test}
use Rattle.maple_base.specs.declared.cells.Cell.{Cell}
use Rattle.maple_base.specs.declared.cells.Cell.TheVariants.{Host, Hop, Up, Num}
use Rattle.maple_base.specs.declared.cells.Value.{Value}
use Rattle.maple_base.specs.Kinds.{of_kind}
use Rattle.maple_base.specs.Questions.{field_number, same_field, known, excluded}
use Rattle.policy_lang.proofs.SameNames.{same_names}
use Rattle.policy_meaning.specs.Cells.{same_cell, given, is_of_kind}
use Rattle.policy_meaning.proofs.Settled.{same_field_is}
use Rattle.trace_record.specs.Tables.{equal_cells, equal_fields, equal_pairs, AreOf, AreKept}

ahead_first : {V : Type 0} (b : Bool) (w : V) (o p last : Option V) → p ≡ option_or o last → cond b (Some w) p ≡ option_or (cond b (Some w) o) last
ahead_first true w o p last h = refl
ahead_first false w o p last h = h

known_more : (is : List Item) (i : Item) (f : Field) → known f (is ++ i ∷ []) ≡ option_or (known f is) (known f (i ∷ []))
known_more [] i f = refl
known_more (Read g w ∷ is) i f = ahead_first (same_field f g) w (known f is) _ _ (known_more is i f)
known_more (Test g w true ∷ is) i f = ahead_first (same_field f g) w (known f is) _ _ (known_more is i f)
known_more (Test g w false ∷ is) i f = known_more is i f

given_more : (cs : List (Cell × Value)) (d : Cell) (v : Value) (c : Cell) → given c (cs ++ (d, v) ∷ []) ≡ option_or (given c cs) (cond (same_cell c d) (Some v) None)
given_more [] d v c = refl
given_more ((e, w) ∷ cs) d v c = ahead_first (same_cell c e) w (given c cs) _ _ (given_more cs d v c)

ahead_or : (a b c d : Bool) → d ≡ (b || c) → (a || d) ≡ (b || (a || c))
ahead_or true true c d h = refl
ahead_or true false c d h = refl
ahead_or false b c d h = h

excluded_more : (is : List Item) (i : Item) (f : Field) (v : ℕ) → excluded f v (is ++ i ∷ []) ≡ (excluded f v (i ∷ []) || excluded f v is)
excluded_more [] i f v = or_comm false (excluded f v (i ∷ []))
excluded_more (Read g w ∷ is) i f v = excluded_more is i f v
excluded_more (Test g w true ∷ is) i f v = excluded_more is i f v
excluded_more (Test g w false ∷ is) i f v = ahead_or (same_field f g && v == w) _ _ _ (excluded_more is i f v)

-- what is told of one key alone, where nothing was told of it
own_last : {V : Type 0} (b : Bool) (v : V) (o : Option V) → (b ≡ true → o ≡ None) → cond b (Some v) o ≡ option_or o (cond b (Some v) None)
own_last true v o h = rw (h refl)
own_last false v None h = refl
own_last false v (Some w) h = refl

turned : {K : Type 0} (same : K → K → Bool) → ((a b : K) → same a b ≡ true → a ≡ b) → (a b : K) → same a b ≡ true → same b a ≡ true
turned same is a b h = subst (λ x. same x a ≡ true) (is a b h) (subst (λ x. same a x ≡ true) (sym (is a b h)) h)

same_turned : {K : Type 0} (same : K → K → Bool) → ((a b : K) → same a b ≡ true → a ≡ b) → (a b : K) → same a b ≡ same b a
same_turned same is a b = same_from_decides {P = same a b ≡ true} (same a b) (same b a) (λ h. h, λ h. h) (turned same is b a, turned same is a b)

-- a table with one more key tells what a list with one more entry does
told_last : {K V : Type 0} (equal same : K → K → Bool) → ((a b : K) → equal a b ≡ same a b) → ((a b : K) → same a b ≡ true → a ≡ b) → (was : K → Option V) (k q : K) (v : V)
    → was k ≡ None → cond (equal k q) (Some v) (was q) ≡ option_or (was q) (cond (same q k) (Some v) None)
told_last equal same alike is was k q v new =
    ap (λ b. cond b (Some v) (was q)) (alike k q ∙ same_turned same is k q) ∙ own_last (same q k) v (was q) (λ t. ap was (is q k t) ∙ new)

fields_same : (f g : Field) → equal_fields f g ≡ same_field f g
fields_same f g = same_from_decides {P = f ≡ g} _ _ (same_true the_type tt f g, true_same the_type f g) (same_field_is f g, λ e. eq-eqb (field_number f) (field_number g) (ap field_number e))

cells_same : (c d : Cell) → equal_cells c d ≡ same_cell c d
cells_same (Host m) (Host n) = refl
cells_same (Hop from to) (Hop start end) = refl
cells_same (Up switch port) (Up other number) = refl
cells_same (Num table key) (Num other number) = ap (λ b. b && key == number) (same_names 31 table other)
cells_same c d = refl

both_same : {A B C : Type 0} (make : A → B → C) (a c : A) (b d : B) → a ≡ c → b ≡ d → make a b ≡ make c d
both_same make a c b d e f = ap (λ x. make x b) e ∙ ap (make c) f

same_cell_is : (c d : Cell) → same_cell c d ≡ true → c ≡ d
same_cell_is (Host m) (Host n) h = ap Host (eqb-true m n h)
same_cell_is (Hop m n) (Hop k l) h = let q = and_parts (m == k) (n == l) h in both_same Hop m k n l (eqb-true m k q.0) (eqb-true n l q.1)
same_cell_is (Up m n) (Up k l) h = let q = and_parts (m == k) (n == l) h in both_same Up m k n l (eqb-true m k q.0) (eqb-true n l q.1)
same_cell_is (Num s n) (Num t l) h = let q = and_parts (bytes_eq s t) (n == l) h in both_same Num s t n l ((bytes_eq-Decides s t).0 q.0) (eqb-true n l q.1)
same_cell_is c d h = absurd (cc)

few_fields : (f : Field) → field_number f < 11
few_fields InPort = omega (arith)
few_fields DlSrc = omega (arith)
few_fields DlDst = omega (arith)
few_fields DlVlan = omega (arith)
few_fields DlType = omega (arith)
few_fields NwTos = omega (arith)
few_fields NwProto = omega (arith)
few_fields NwSrc = omega (arith)
few_fields NwDst = omega (arith)
few_fields TpSrc = omega (arith)
few_fields TpDst = omega (arith)

-- a value is put at the place of its field
pub put_at : (old : List (Option ℕ)) (g : Field) (v : ℕ) → length old ≡ 11 → (f : Field)
    → slice_index_or (slice_set old (field_number g) (Some v)) (field_number f) None ≡ cond (same_field f g) (Some v) (slice_index_or old (field_number f) None)
put_at old g v long f = ⊎_elim
    (λ e. get_or-set_at old (field_number g) (field_number f) (Some v) None e (omega (arith, long, few_fields g)) ∙ sym (ap (λ b. cond b (Some v) (get_or old (field_number f) None)) (eq-eqb _ _ e)))
    (λ ne. get_or-set_other old (field_number g) (field_number f) (Some v) None ne ∙ sym (ap (λ b. cond b (Some v) (get_or old (field_number f) None)) (ne_eqb _ _ ne)))
    (cases_eq (field_number f) (field_number g))

-- an item fixes a field that nothing has fixed
pub fixed_now : {T : Type 0} (is : List Item) (i : Item) (g : Field) (v : ℕ) (old new : List (Option ℕ)) (ruled : HashSet (Field × ℕ) T)
    → ((f : Field) → known f (i ∷ []) ≡ cond (same_field f g) (Some v) None) → ((f : Field) (w : ℕ) → excluded f w (i ∷ []) ≡ false)
    → known g is ≡ None → length new ≡ 11 → ((f : Field) → slice_index_or new (field_number f) None ≡ cond (same_field f g) (Some v) (slice_index_or old (field_number f) None))
    → AreOf is old ruled → AreOf (is ++ i ∷ []) new ruled
fixed_now is i g v old new ruled fixes rules none long puts of = record {
  long = long;
  known = λ f. puts f ∙ ap (cond (same_field f g) (Some v)) (of.known f) ∙ own_last (same_field f g) v (known f is) (λ t. ap (λ x. known x is) (same_field_is f g t) ∙ none)
      ∙ sym (known_more is i f ∙ ap (option_or (known f is)) (fixes f));
  excluded = λ f w. of.excluded f w ∙ sym (excluded_more is i f w ∙ ap (λ b. b || excluded f w is) (rules f w));
}

or_none : {V : Type 0} (o : Option V) → option_or o None ≡ o
or_none None = refl
or_none (Some v) = refl

new_or : (b x : Bool) → cond b true x ≡ ((b || false) || x)
new_or true x = refl
new_or false x = refl

-- a false test excludes a value
pub ruled_now : {T : Type 0} (is : List Item) (g : Field) (v : ℕ) (fixed : List (Option ℕ)) (old new : HashSet (Field × ℕ) T)
    → ((q : Field × ℕ) → contains equal_pairs new q ≡ cond (equal_pairs (g, v) q) true (contains equal_pairs old q)) → AreOf is fixed old → AreOf (is ++ Test g v false ∷ []) fixed new
ruled_now is g v fixed old new puts of = record {
  long = of.long;
  known = λ f. of.known f ∙ sym (known_more is (Test g v false) f ∙ or_none (known f is));
  excluded = λ f w. puts (f, w) ∙ ap (cond (equal_fields g f && v == w) true) (of.excluded f w)
      ∙ ap (λ b. cond b true (excluded f w is)) (both_same ◌&&◌ _ _ _ _ (fields_same g f ∙ same_turned same_field same_field_is g f) (same_turned nat_eq eqb-true v w))
      ∙ new_or (same_field f g && w == v) (excluded f w is) ∙ sym (excluded_more is (Test g v false) f w);
}

-- a new cell is read
pub kept_now : {S : Type 0} (cs : List (Cell × Value)) (d : Cell) (v : Value) (old new : HashMap Cell Value S)
    → given d cs ≡ None → of_kind d v ≡ true → ((c : Cell) → get equal_cells new c ≡ cond (equal_cells d c) (Some v) (get equal_cells old c)) → AreKept cs old → AreKept (cs ++ (d, v) ∷ []) new
kept_now cs d v old new none kind puts kept = record {
  given = λ c. puts c ∙ ap (cond (equal_cells d c) (Some v)) (kept.given c) ∙ told_last equal_cells same_cell cells_same same_cell_is (λ x. given x cs) d c v none ∙ sym (given_more cs d v c);
  kinds = list_all-append is_of_kind cs ((d, v) ∷ []) ∙ and_from _ _ kept.kinds (ap (λ b. b && true) kind);
}

-- what was read in a cell is of its kind
pub given_kind : (cs : List (Cell × Value)) (c : Cell) → list_all is_of_kind cs ≡ true → IfSome (given c cs) (λ v. IsTrue (of_kind c v))
given_kind [] c kinds = tt
given_kind ((d, w) ∷ cs) c kinds =
    let q = and_parts (is_of_kind (d, w)) (list_all is_of_kind cs) kinds in
    cond_both (same_cell c d) (Some w) (given c cs) (λ o. IfSome o (λ v. IsTrue (of_kind c v))) (λ e. subst (λ x. of_kind x w ≡ true) (sym (same_cell_is c d e)) q.0) (λ e. given_kind cs c q.1)
