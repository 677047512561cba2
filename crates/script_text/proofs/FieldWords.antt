-- The words of a packet line's fields, as the grammar has them and as they are read.
use Rattle.std.proofs.Common.{◌≡◌, ℕ, ◌^◌, cond, List, [], ◌∷◌, Option, Some, None, refl, sym, ap, ◌∙◌, subst, ⊎_elim}
use Rattle.std.specs.Prelude.{IfSome, is_none}
use Rattle.std.specs.Option.{option_and_then}
use Rattle.std.specs.Str.{bytes_eq}
use Rattle.std.proofs.lemmas.Bool.{cases_Bool}
use Rattle.std.proofs.lemmas.Slice.Eq.{bytes_eq-Decides}
use Rattle.maple_base.specs.declared.key.Field.{Field}
use Rattle.maple_base.specs.declared.key.Field.TheVariants.{InPort}
use Rattle.maple_base.specs.declared.key.Match.{Match}
use Rattle.maple_base.specs.FieldNames.{name_of, all_fields, field_among, field_named}
use Rattle.maple_base.specs.Keys.{width_of, fix, fixed_of}
use Rattle.script_text.specs.Words.{just_two, number_below}
use Rattle.script_text.specs.Spelling.{IsCutAt, IsField, AreFields, NoField, OneField}
use Rattle.script_text.specs.FieldReading.{but_in_port, field_called, field_word, naming, with_named, named_by}
use Rattle.script_text.proofs.Cuts.{parts_of, cut_parts, is_cut}
use Rattle.script_text.proofs.Options.{of_and_then, onward, number_is, number_back}

field_is : (fs : List Field) (name : List ℕ) (f : Field) → field_among fs name ≡ Some f → name ≡ name_of f
field_is [] name f e = absurd (cc e)
field_is (g ∷ gs) name f e =
    ⊎_elim
    (λ t.
    let q : g ≡ f = cc (e, ap (λ v. cond v (Some g) (field_among gs name)) t) in
    sym ((bytes_eq-Decides (name_of g) name).0 t) ∙ ap name_of q)
    (λ t. field_is gs name f (sym (ap (λ v. cond v (Some g) (field_among gs name)) t) ∙ e))
    (cases_Bool (bytes_eq (name_of g) name))

other_is : (g f : Field) → but_in_port g ≡ Some f → (g ≡ f) × (f ≡ InPort → ⊥)
other_is InPort f e = absurd (cc e)
other_is g f e = (cc e, λ h. absurd (cc (e, h)))

called_is : (name : List ℕ) (f : Field) → field_called name ≡ Some f → (name ≡ name_of f) × (f ≡ InPort → ⊥)
unfolding field_called
called_is name f e = go (field_named name) refl e
  where
    go : (o : Option Field) → field_named name ≡ o → option_and_then but_in_port o ≡ Some f → (name ≡ name_of f) × (f ≡ InPort → ⊥)
    go None n e = absurd (cc e)
    go (Some g) n e = let h = other_is g f e in (field_is all_fields name g n ∙ ap name_of h.0, h.1)

called_back : (f : Field) → (f ≡ InPort → ⊥) → field_called (name_of f) ≡ Some f
unfolding field_called
called_back InPort h = absurd (h refl)
called_back f h = refl

two_is : (parts : List (List ℕ)) (p : List ℕ × List ℕ) → just_two parts ≡ Some p → parts ≡ p.0 ∷ p.1 ∷ []
two_is [] p e = absurd (cc e)
two_is (a ∷ []) p e = absurd (cc e)
two_is (a ∷ b ∷ []) p e = let q : (a, b) ≡ p = cc e in ap (λ v. v.0 ∷ v.1 ∷ []) q
two_is (a ∷ b ∷ c ∷ r) p e = absurd (cc e)

abbrev Named : List ℕ → Field × ℕ → Type 0
Named word f = IsField word f.0 f.1

word_is : (word : List ℕ) → IfSome (field_word word) (Named word)
unfolding field_word
word_is word =
    of_and_then (Named word) _ (just_two (parts_of 61 word)) (λ p e.
    of_and_then (Named word) _ (field_called p.0) (λ f g.
    of_and_then (Named word) _ (number_below (2 ^ width_of f) p.1) (λ n h.
    let called = called_is p.0 f g in
    let number = number_is (2 ^ width_of f) p.1 n h in
    record {
      digits = p.1;
      parts = subst (λ name. IsCutAt 61 word (name ∷ p.1 ∷ [])) called.0 (subst (IsCutAt 61 word) (two_is (parts_of 61 word) p e) (is_cut 61 word));
      number = number.0;
      width = number.1;
      other = called.1;
    })))

word_back : (word : List ℕ) (f : Field) (n : ℕ) → IsField word f n → field_word word ≡ Some (f, n)
unfolding field_word
word_back word f n i =
    let cut = cut_parts 61 word (name_of f) (i.digits ∷ []) i.parts in
    let called = called_back f i.other in
    let number = number_back (2 ^ width_of f) i.digits n i.number i.width in
    rw (cut, called, number) refl

-- a word that names one more field
record IsNext (m : Match) (w : List ℕ) (n : Match) : Type 0 where
  f : Field
  v : ℕ
  word : IsField w f v
  free : fixed_of m f ≡ None
  new : fix f v m ≡ n

naming_is : (m : Match) (f : Field × ℕ) (n : Match) → naming m f ≡ Some n → (fixed_of m f.0 ≡ None) × (fix f.0 f.1 m ≡ n)
naming_is m f n e = go (fixed_of m f.0) refl
  where
    go : (o : Option ℕ) → fixed_of m f.0 ≡ o → (fixed_of m f.0 ≡ None) × (fix f.0 f.1 m ≡ n)
    go None h = let s = ap (λ o. cond (is_none o) (Some (fix f.0 f.1 m)) None) h in (h, cc (e, s))
    go (Some x) h = let s = ap (λ o. cond (is_none o) (Some (fix f.0 f.1 m)) None) h in absurd (cc (e, s))

next_is : (m : Match) (w : List ℕ) (n : Match) → with_named m w ≡ Some n → IsNext m w n
unfolding with_named
next_is m w n e = go (field_word w) refl (word_is w) e
  where
    go : (o : Option (Field × ℕ)) → field_word w ≡ o → IfSome o (Named w) → option_and_then (naming m) o ≡ Some n → IsNext m w n
    go None h i e = absurd (cc e)
    go (Some f) h i e = let k = naming_is m f n e in record { f = f.0; v = f.1; word = i; free = k.0; new = k.1 }

next_back : (m : Match) (w : List ℕ) (f : Field) (v : ℕ) → IsField w f v → fixed_of m f ≡ None → with_named m w ≡ Some (fix f v m)
unfolding with_named
next_back m w f v i free = rw (word_back w f v i, free) refl

pub fields_are : (ws : List (List ℕ)) (m : Match) → IfSome (named_by ws m) (AreFields m ws)
fields_are [] m = NoField
fields_are (w ∷ ws) m =
    of_and_then (AreFields m (w ∷ ws)) (named_by ws) (with_named m w) (λ n e.
    let x = next_is m w n e in
    onward (AreFields n ws) (AreFields m (w ∷ ws)) (named_by ws n) (fields_are ws n) (λ all a. OneField x.word x.free (subst (λ k. AreFields k ws all) (sym x.new) a)))

pub fields_back : {m all : Match} {ws : List (List ℕ)} → AreFields m ws all → named_by ws m ≡ Some all
fields_back NoField = refl
fields_back (OneField {m} {all} {w} {ws} {f} {n} i free rest) = rw (next_back m w f n i free) (fields_back rest)
