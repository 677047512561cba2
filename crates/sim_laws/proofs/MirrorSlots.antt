-- The slots at places where one of them moves.
use Rattle.std.proofs.Common.{◌≡◌, ◌≢◌, ℕ, zero, suc, ◌+◌, true, false, List, [], ◌∷◌, ◌++◌, length, Option, Some, None, is_some, slice_get, refl, sym, ap, ◌∙◌, arith}
use Rattle.std.specs.Prelude.{◌==◌}
use Rattle.std.proofs.lemmas.Bool.{eqb-false}
use Rattle.sim_steps.specs.Benches.{Slot, MovesAt, slot_at}

module _ {X : Type 0} where
  at_seam : (ahead : List X) (x : X) (behind : List X) → slice_get (ahead ++ x ∷ behind) (length ahead) ≡ Some x
  at_seam [] x behind = refl
  at_seam (y ∷ ahead) x behind = at_seam ahead x behind

  beside_seam : (ahead : List X) (x y : X) (behind : List X) (n : ℕ) → n ≢ length ahead → slice_get (ahead ++ x ∷ behind) n ≡ slice_get (ahead ++ y ∷ behind) n
  beside_seam [] x y behind zero other = absurd (other refl)
  beside_seam [] x y behind (suc n) other = refl
  beside_seam (z ∷ ahead) x y behind zero other = refl
  beside_seam (z ∷ ahead) x y behind (suc n) other = beside_seam ahead x y behind n (λ e. other (ap suc e))

  pub there_is : (o : Option X) → is_some o ≡ true → (x : X) × (o ≡ Some x)
  there_is None e = absurd (cc)
  there_is (Some x) e = (x, refl)

at_place : (c : ℕ) (ahead : List Slot) (s : Slot) (behind slots : List Slot) → c ≡ length ahead + 1 → slots ≡ ahead ++ s ∷ behind → slot_at c slots ≡ Some s
at_place c ahead s behind slots place parts =
    let next : c ≡ suc (length ahead) = omega (arith, place) in
    ap (λ n. slot_at n slots) next ∙ ap (λ l. slice_get l (length ahead)) parts ∙ at_seam ahead s behind

module _ (c : ℕ) (R : Slot → Slot → Type 0) (slots moved : List Slot) (at : MovesAt c R slots moved) where
  pub moved_old : slot_at c slots ≡ Some at.old
  moved_old = at_place c at.ahead at.old at.behind slots at.place at.before

  pub moved_new : slot_at c moved ≡ Some at.new
  moved_new = at_place c at.ahead at.new at.behind moved at.place at.after

  -- the others stay
  pub moved_others : (d : ℕ) → (c == d) ≡ false → slot_at d moved ≡ slot_at d slots
  moved_others zero other = refl
  moved_others (suc n) other =
      let e = eqb-false c (suc n) other in
      let place = at.place in
      ap (λ l. slice_get l n) at.after
      ∙ beside_seam at.ahead at.new at.old at.behind n (λ same. e (omega (arith, place, same)))
      ∙ sym (ap (λ l. slice_get l n) at.before)
