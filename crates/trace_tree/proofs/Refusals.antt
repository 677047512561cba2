-- Lists of tests that are all false but the last, as the tests of this crate make them.
use Rattle.std.proofs.Common.{◌≡◌, ℕ, Bool, true, false, List, [], ◌∷◌, ◌++◌, refl, ap, ◌∙◌}
use Rattle.std.specs.Prelude.{◌&&◌}
use Rattle.maple_base.specs.declared.key.Field.{Field}
use Rattle.maple_base.specs.declared.items.Item.{Item}
use Rattle.maple_base.specs.declared.items.Item.TheVariants.{Read, Test}
use Rattle.maple_base.specs.Keys.{in_domain}
use Rattle.maple_base.specs.Questions.{asks_once}
use Rattle.trace_tree.specs.Bounds.{items_within}

abbrev pub AllRefuse : List Item → Type 0
AllRefuse [] = Unit {0}
AllRefuse (Read f v ∷ is) = ⊥
AllRefuse (Test f v true ∷ is) = ⊥
AllRefuse (Test f v false ∷ is) = (in_domain f v ≡ true) × AllRefuse is

pub refuse_push : (is : List Item) (f : Field) (v : ℕ) → AllRefuse is → in_domain f v ≡ true → AllRefuse (is ++ Test f v false ∷ [])
refuse_push [] f v r d = (d, tt)
refuse_push (Read g w ∷ is) f v r d = absurd r
refuse_push (Test g w true ∷ is) f v r d = absurd r
refuse_push (Test g w false ∷ is) f v r d = (r.0, refuse_push is f v r.1 d)

pub refuse_once : (is : List Item) (f : Field) (v : ℕ) (b : Bool) → AllRefuse is → asks_once [] (is ++ Test f v b ∷ []) ≡ true
refuse_once [] f v true r = refl
refuse_once [] f v false r = refl
refuse_once (Read g w ∷ is) f v b r = absurd r
refuse_once (Test g w true ∷ is) f v b r = absurd r
refuse_once (Test g w false ∷ is) f v b r = refuse_once is f v b r.1

pub refuse_within : (is : List Item) (f : Field) (v : ℕ) (b : Bool) → AllRefuse is → in_domain f v ≡ true → items_within (is ++ Test f v b ∷ []) ≡ true
refuse_within [] f v b r d = ap (λ x. x && true) d
refuse_within (Read g w ∷ is) f v b r d = absurd r
refuse_within (Test g w true ∷ is) f v b r d = absurd r
refuse_within (Test g w false ∷ is) f v b r d = ap (λ x. x && items_within (is ++ Test f v b ∷ [])) r.0 ∙ refuse_within is f v b r.1 d
