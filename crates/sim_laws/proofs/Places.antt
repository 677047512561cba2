-- The slots at places, where one of them is changed.
use Rattle.std.proofs.Common.{◌≡◌, ℕ, zero, suc, List, [], ◌∷◌, ◌++◌, length, refl, sym, ap, ◌∙◌, subst, arith}
use Rattle.std.specs.Prelude.{map, Option, Some, None}
use Rattle.std.specs.Option.{option_map}
use Rattle.std.specs.List.{slice_get}
use Rattle.std.proofs.lemmas.Option.{none-some, same_Some, slice_get-map}
use Rattle.device_port.specs.Devices.{Meaning}
use Rattle.sim_steps.specs.Benches.{Slot, MovesAt, slot_at, slot_of}

-- ---- lists

at_seam : (xs : List Slot) (x : Slot) (ys : List Slot) → slice_get (xs ++ x ∷ ys) (length xs) ≡ Some x
at_seam [] x ys = refl
at_seam (z ∷ xs) x ys = at_seam xs x ys

beside_seam : (xs : List Slot) (x y : Slot) (ys : List Slot) (n : ℕ) → (n ≡ length xs → ⊥) → slice_get (xs ++ x ∷ ys) n ≡ slice_get (xs ++ y ∷ ys) n
beside_seam [] x y ys zero other = absurd (other refl)
beside_seam [] x y ys (suc n) other = refl
beside_seam (z ∷ xs) x y ys zero other = refl
beside_seam (z ∷ xs) x y ys (suc n) other = beside_seam xs x y ys n (λ e. other (ap suc e))

-- ---- one slot is changed

-- the slot at a place is this one behind a change at another place, or is changed itself
pub record MovedHere (Moves : Slot → Slot → Type 0) (moved : List Slot) (c : ℕ) (s : Slot) : Type 0 where
  pub behind : Slot
  pub there : slot_at c moved ≡ Some behind
  pub moves : Moves s behind

module _ (d : ℕ) (Moves : Slot → Slot → Type 0) (slots moved : List Slot) (m : MovesAt d Moves slots moved) where
  number : d ≡ suc (length m.ahead)
  number = omega (arith, m.place)

  was_here : slot_at d slots ≡ Some m.old
  was_here = ap (λ n. slot_at n slots) number ∙ ap (λ ss. slice_get ss (length m.ahead)) m.before ∙ at_seam m.ahead m.old m.behind

  is_here : slot_at d moved ≡ Some m.new
  is_here = ap (λ n. slot_at n moved) number ∙ ap (λ ss. slice_get ss (length m.ahead)) m.after ∙ at_seam m.ahead m.new m.behind

  pub elsewhere : (c : ℕ) → (d ≡ c → ⊥) → slot_at c moved ≡ slot_at c slots
  elsewhere zero other = refl
  elsewhere (suc n) other =
      ap (λ ss. slice_get ss n) m.after
      ∙ beside_seam m.ahead m.new m.old m.behind n (λ e. other (number ∙ ap suc (sym e)))
      ∙ sym (ap (λ ss. slice_get ss n) m.before)

  pub here : (c : ℕ) (s : Slot) → d ≡ c → slot_at c slots ≡ Some s → MovedHere Moves moved c s
  here c s same found = record {
    behind = m.new;
    there = ap (λ n. slot_at n moved) (sym same) ∙ is_here;
    moves = subst (λ (x : Slot). Moves x m.new) (same_Some m.old s (sym was_here ∙ ap (λ n. slot_at n slots) same ∙ found)) m.moves;
  }

-- ---- at the opening

-- a slot ahead of the first deed is that of a device
pub opening_slot : (devices : List Meaning) (c : ℕ) (s : Slot) → slot_at c (map slot_of devices) ≡ Some s → (d : Meaning) × (s ≡ slot_of d)
opening_slot devices zero s e = absurd (none-some s e)
opening_slot devices (suc n) s e = go (slice_get devices n) (sym (slice_get-map slot_of devices n) ∙ e)
  where
    go : (o : Option Meaning) → option_map slot_of o ≡ Some s → (d : Meaning) × (s ≡ slot_of d)
    go None f = absurd (none-some s f)
    go (Some d) f = (d, sym (same_Some (slot_of d) s f))
