-- A step towards an empty place.
use Rattle.std.proofs.Common.{◌≡◌, ℕ, suc, ◌+◌, ◌<◌, Bool, true, false, cond, List, ◌∷◌, length, drop, get_or, refl, ap, ◌∙◌, add-one}
use Rattle.std.specs.Prelude.{◌==◌, ◌&&◌}
use Rattle.std.proofs.Math.Seq.{drop-cons}
use Rattle.std.proofs.lemmas.Bool.{eq-eqb}
use Rattle.maple_base.specs.declared.key.Field.{Field}
use Rattle.maple_base.specs.declared.items.Item.{Item}
use Rattle.maple_base.specs.declared.items.Item.TheVariants.{Read, Test}
use Rattle.maple_base.specs.Questions.{same_field, field_number}
use Rattle.trace_tree.specs.Shape.{Shape, Branches, Empty, Reads, Tests, NoBranch, Branch}
use Rattle.trace_tree.specs.Growth.{child, side, admits}
use Rattle.trace_tree.specs.Walks.{has_branch}

pub item_here : (is : List Item) (n : ℕ) (d i : Item) → n < length is → get_or is n d ≡ i → drop n is ≡ i ∷ drop (n + 1) is
item_here is n d i lt e = rw add-one (drop-cons is n d lt ∙ ap (λ x. x ∷ drop (suc n) is) e)

missing_step : (b : Bool) (t u : Shape) (r : Bool) → cond b true r ≡ false → (r ≡ false → u ≡ Empty) → cond b t u ≡ Empty
missing_step true t u r h k = absurd (cc)
missing_step false t u r h k = k h

pub child_missing : (bs : Branches) (v : ℕ) → has_branch v bs ≡ false → child v bs ≡ Empty
child_missing NoBranch v h = refl
child_missing (Branch w t bs) v h = missing_step (v == w) t (child v bs) (has_branch v bs) h (child_missing bs v)

same_itself : (f h : Field) → f ≡ h → same_field f h ≡ true
same_itself f h e = eq-eqb (field_number f) (field_number h) (ap field_number e)

pub admits_read : (f h : Field) (v : ℕ) (is : List Item) (bs : Branches) → f ≡ h → admits is (child v bs) ≡ true → admits (Read f v ∷ is) (Reads h bs) ≡ true
admits_read f h v is bs e a = ap (λ b. b && admits is (child v bs)) (same_itself f h e) ∙ a

pub admits_test : (f h : Field) (v w : ℕ) (b : Bool) (is : List Item) (n y : Shape) → f ≡ h → v ≡ w → admits is (side b n y) ≡ true → admits (Test f v b ∷ is) (Tests h w n y) ≡ true
admits_test f h v w b is n y e q a =
    ap (λ x. (x && v == w) && admits is (side b n y)) (same_itself f h e) ∙ ap (λ x. x && admits is (side b n y)) (eq-eqb v w q) ∙ a
