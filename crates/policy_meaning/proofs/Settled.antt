-- What the answers so far say of a key and an environment that gave them.
use Rattle.std.proofs.Common.{◌≡◌, ℕ, true, false, cond, List, [], ◌∷◌, ◌++◌, ap, ◌∙◌, ⊎_elim}
use Rattle.std.specs.Prelude.{◌==◌, ◌&&◌, ◌||◌, Some}
use Rattle.std.proofs.lemmas.Bool.{eqb-true, and_parts, or_cases, or_from, cond_both}
use Rattle.std.proofs.lemmas.Option.{same_Some}
use Rattle.std.proofs.lemmas.Slice.Eq.{bytes_eq-Decides}
use Rattle.std.specs.Str.{bytes_eq}
use Rattle.maple_base.specs.declared.key.Key.{Key}
use Rattle.maple_base.specs.declared.key.Field.{Field}
use Rattle.maple_base.specs.declared.key.Field.TheVariants.{NwProto}
use Rattle.maple_base.specs.declared.cells.Cell.{Cell}
use Rattle.maple_base.specs.declared.cells.Cell.TheVariants.{Host, Hop, Up, Num}
use Rattle.maple_base.specs.declared.cells.Value.{Value}
use Rattle.maple_base.specs.declared.items.Item.{Item}
use Rattle.maple_base.specs.declared.items.Item.TheVariants.{Read, Test}
use Rattle.maple_base.specs.Keys.{field_of, has_ports}
use Rattle.maple_base.specs.Questions.{field_number, same_field, same_bool, meets_item, meets, known, excluded}
use Rattle.maple_base.proofs.Fields.{field_same}
use Rattle.policy_meaning.specs.Cells.{same_cell, given, Gives}
use Rattle.policy_meaning.specs.Through.{no_ports}
use Rattle.policy_meaning.proofs.Traces.{same_bool_is}

pub same_field_is : (f g : Field) → same_field f g ≡ true → f ≡ g
same_field_is f g h = field_same f g (eqb-true (field_number f) (field_number g) h)

two_same : {A B C : Type 0} (make : A → B → C) (a c : A) (b d : B) → a ≡ c → b ≡ d → make a b ≡ make c d
two_same make a c b d e f = ap (λ x. make x b) e ∙ ap (make c) f

same_cell_is : (c d : Cell) → same_cell c d ≡ true → c ≡ d
same_cell_is (Host m) (Host n) h = ap Host (eqb-true m n h)
same_cell_is (Hop from to) (Hop start end) h = let q = and_parts (from == start) (to == end) h in two_same Hop from start to end (eqb-true from start q.0) (eqb-true to end q.1)
same_cell_is (Up switch port) (Up other number) h =
    let q = and_parts (switch == other) (port == number) h in two_same Up switch other port number (eqb-true switch other q.0) (eqb-true port number q.1)
same_cell_is (Num table key) (Num other number) h =
    let q = and_parts (bytes_eq table other) (key == number) h in two_same Num table other key number ((bytes_eq-Decides table other).0 q.0) (eqb-true key number q.1)
same_cell_is c d h = absurd (cc)

known_ahead : (is : List Item) (k : Key) (f g : Field) (w v : ℕ)
    → field_of k g ≡ w → (known f is ≡ Some v → field_of k f ≡ v) → cond (same_field f g) (Some w) (known f is) ≡ Some v → field_of k f ≡ v
known_ahead is k f g w v own rest h =
    cond_both (same_field f g) (Some w) (known f is) (λ o. o ≡ Some v → field_of k f ≡ v) (λ e i. ap (field_of k) (same_field_is f g e) ∙ own ∙ same_Some w v i) (λ e. rest) h

-- a value that the items fixed is the key's
pub known_is : (is : List Item) (k : Key) (f : Field) (v : ℕ) → meets k is ≡ true → known f is ≡ Some v → field_of k f ≡ v
known_is [] k f v m h = absurd (cc)
known_is (Read g w ∷ is) k f v m h =
    let q = and_parts (field_of k g == w) (meets k is) m in known_ahead is k f g w v (eqb-true (field_of k g) w q.0) (known_is is k f v q.1) h
known_is (Test g w true ∷ is) k f v m h =
    let q = and_parts (same_bool (field_of k g == w) true) (meets k is) m in
    known_ahead is k f g w v (eqb-true (field_of k g) w (same_bool_is (field_of k g == w) true q.0)) (known_is is k f v q.1) h
known_is (Test g w false ∷ is) k f v m h = known_is is k f v (and_parts (same_bool (field_of k g == w) false) (meets k is) m).1 h

-- a value that the items excluded isn't the key's
pub excluded_is : (is : List Item) (k : Key) (f : Field) (v : ℕ) → meets k is ≡ true → excluded f v is ≡ true → (field_of k f == v) ≡ false
excluded_is [] k f v m h = absurd (cc)
excluded_is (Read g w ∷ is) k f v m h = excluded_is is k f v (and_parts (field_of k g == w) (meets k is) m).1 h
excluded_is (Test g w true ∷ is) k f v m h = excluded_is is k f v (and_parts (same_bool (field_of k g == w) true) (meets k is) m).1 h
excluded_is (Test g w false ∷ is) k f v m h =
    let q = and_parts (same_bool (field_of k g == w) false) (meets k is) m in
    ⊎_elim
    (λ e.
    let p = and_parts (same_field f g) (v == w) e in
    ap (λ x. field_of k x == v) (same_field_is f g p.0) ∙ ap (λ x. field_of k g == x) (eqb-true v w p.1) ∙ same_bool_is (field_of k g == w) false q.0)
    (λ e. excluded_is is k f v q.1 e)
    (or_cases (same_field f g && v == w) (excluded f v is) h)

pub meets_more : (is : List Item) (k : Key) (i : Item) → meets k is ≡ true → meets_item k i ≡ true → meets k (is ++ i ∷ []) ≡ true
meets_more [] k i m h = ap (λ x. x && true) h
meets_more (j ∷ is) k i m h =
    let q = and_parts (meets_item k j) (meets k is) m in
    ap (λ x. x && meets k (is ++ i ∷ [])) q.0 ∙ meets_more is k i q.1 h

-- what was read in a cell is what the environment has
pub given_is : (cs : List (Cell × Value)) (env : Cell → Value) (c : Cell) (v : Value) → Gives env cs → given c cs ≡ Some v → env c ≡ v
given_is [] env c v g h = absurd (cc)
given_is ((d, w) ∷ cs) env c v g h =
    cond_both (same_cell c d) (Some w) (given c cs) (λ o. o ≡ Some v → env c ≡ v) (λ e i. ap env (same_cell_is c d e) ∙ g.0 ∙ same_Some w v i) (λ e i. given_is cs env c v g.1 i) h

pub gives_more : (cs : List (Cell × Value)) (env : Cell → Value) (c : Cell) (v : Value) → Gives env cs → env c ≡ v → Gives env (cs ++ (c, v) ∷ [])
gives_more [] env c v g h = (h, tt)
gives_more (d ∷ cs) env c v g h = (g.0, gives_more cs env c v g.1 h)

pub gives_fewer : (cs : List (Cell × Value)) (env : Cell → Value) (d : Cell × Value) → Gives env (cs ++ d ∷ []) → Gives env cs
gives_fewer [] env d g = tt
gives_fewer (c ∷ cs) env d g = (g.0, gives_fewer cs env d g.1)

-- a key whose protocol is none of the three has no ports
pub ruled_ports : (k : Key) (is : List Item) → meets k is ≡ true → no_ports is ≡ true → has_ports k.nw_proto ≡ false
ruled_ports k is met h =
    let q = and_parts (excluded NwProto 1 is && excluded NwProto 6 is) (excluded NwProto 17 is) h in
    let r = and_parts (excluded NwProto 1 is) (excluded NwProto 6 is) q.0 in
    or_from (k.nw_proto == 1 || k.nw_proto == 6) (k.nw_proto == 17)
    (or_from (k.nw_proto == 1) (k.nw_proto == 6) (excluded_is is k NwProto 1 met r.0) (excluded_is is k NwProto 6 met r.1)) (excluded_is is k NwProto 17 met q.1)
