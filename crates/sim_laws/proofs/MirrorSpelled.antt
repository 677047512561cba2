-- Bytes that spell messages one behind the other.
use Rattle.std.proofs.Common.{◌≡◌, ℕ, List, [], ◌∷◌, ◌++◌, length, take, drop, refl, sym, ap, ◌∙◌, subst, append_assoc}
use Rattle.std.proofs.Math.Seq.{drop-append_seam}
use Rattle.of10_codec.specs.declared.message.Message.{Message}
use Rattle.of10_codec.specs.declared.fault.Bad.{Bad}
use Rattle.of10_codec.specs.Messages.{Spelled}
use Rattle.of10_codec.specs.Laws.{OneMessage}
use Rattle.of10_stream.specs.Cut.{told, IsOpen, NoHeader, IsBad}
use Rattle.of10_stream.proofs.Fronts.{front_taken, not_open, not_bad, open_not_bad}
use Rattle.device_port.specs.Devices.{Spell}

pub spell_append : (xs ys : List Message) (a b : List ℕ) → Spell xs a → Spell ys b → Spell (xs ++ ys) (a ++ b)
spell_append [] ys a b h k = subst (λ z. Spell ys (z ++ b)) (sym h) k
spell_append (x ∷ xs) ys a b (front, rest, e, s, later) k =
    (front, rest ++ b, ap (λ z. z ++ b) e ∙ append_assoc front rest b, s, spell_append xs ys rest b later k)

none_open : (b : List ℕ) → b ≡ [] → IsOpen b
none_open b e = subst IsOpen (sym e) (NoHeader refl)

-- a spelling at the front is that of the first message
pub record IsFirst (x : Message) (messages : List Message) (rest : List ℕ) : Type 0 where
  pub later : List Message
  pub parts : messages ≡ x ∷ later
  pub spell : Spell later rest

pub first_is : OneMessage → (messages : List Message) (x : Message) (b front rest : List ℕ) → Spell messages b → b ≡ front ++ rest → Spelled x front → IsFirst x messages rest
first_is one [] x b front rest h e s = absurd (not_open x front rest s (subst IsOpen e (none_open b h)))
first_is one (m ∷ ms) x b front rest (front', rest', e', s', h) e s =
    let same : front' ≡ front = sym (front_taken m front' rest' s') ∙ ap (λ z. take (told z) z) (sym e' ∙ e) ∙ front_taken x front rest s in
    let left : rest' ≡ rest = sym (drop-append_seam front' rest') ∙ ap (λ z. drop (length z) (front' ++ rest')) same ∙ ap (drop (length front)) (sym e' ∙ e) ∙ drop-append_seam front rest in
    record { later = ms; parts = ap (λ n. n ∷ ms) (one m x front' s' (subst (Spelled x) (sym same) s)); spell = subst (Spell ms) left h }

-- and there is no fault
pub faultless : (messages : List Message) (bad : Bad) (b : List ℕ) → Spell messages b → IsBad bad b → ⊥
faultless [] bad b h k = open_not_bad bad b (none_open b h) k
faultless (m ∷ ms) bad b (front, rest, e, s, h) k = not_bad m bad front rest s (subst (IsBad bad) e k)
