-- What a trace has to be to be put into a tree.
use Rattle.std.proofs.Common.{◌≡◌, ℕ, ◌+◌, ◌<◌, true, false, List, [], ◌∷◌, length, get_or, drop, refl, sym, ap, ◌∙◌}
use Rattle.std.specs.Prelude.{◌&&◌, ◌||◌, not}
use Rattle.std.specs.List.{list_all, list_any}
use Rattle.maple_base.specs.declared.key.Field.{Field}
use Rattle.maple_base.specs.declared.items.Item.{Item}
use Rattle.maple_base.specs.declared.items.Item.TheVariants.{Read, Test}
use Rattle.maple_base.specs.Keys.{in_domain}
use Rattle.maple_base.specs.Questions.{among, asks_once, same_field, within_domain}
use Rattle.trace_tree.specs.Bounds.{items_within}
use Rattle.trace_tree.proofs.Growths.{both}
use Rattle.trace_tree.proofs.Admits.{item_here}
use Rattle.net_cases.specs.Fixed.{is_new, fixed_behind}

pub all_within : (is : List Item) → list_all within_domain is ≡ true → items_within is ≡ true
all_within [] h = refl
all_within (Read f v ∷ is) h = let p = both (in_domain f v) (list_all within_domain is) h in ap (λ b. b && items_within is) p.0 ∙ all_within is p.1
all_within (Test f v a ∷ is) h = let p = both (in_domain f v) (list_all within_domain is) h in ap (λ b. b && items_within is) p.0 ∙ all_within is p.1

among_any : (fs : List Field) (f : Field) → among fs f ≡ list_any (λ g. same_field g f) fs
among_any [] f = refl
among_any (g ∷ gs) f = ap (λ b. same_field g f || b) (among_any gs f)

pub asks_step : (fixed : List Field) (i : Item) (is : List Item) → is_new fixed i ≡ true → asks_once (fixed_behind i fixed) is ≡ true → asks_once fixed (i ∷ is) ≡ true
asks_step fixed (Read f v) is n h = ap (λ b. not b && asks_once (f ∷ fixed) is) (among_any fixed f) ∙ ap (λ b. b && asks_once (f ∷ fixed) is) n ∙ h
asks_step fixed (Test f v true) is n h = ap (λ b. not b && asks_once (f ∷ fixed) is) (among_any fixed f) ∙ ap (λ b. b && asks_once (f ∷ fixed) is) n ∙ h
asks_step fixed (Test f v false) is n h = ap (λ b. not b && asks_once fixed is) (among_any fixed f) ∙ ap (λ b. b && asks_once fixed is) n ∙ h

-- one item further: its field is new, and the fixed fields are those behind it
pub asks_further : (items : List Item) (n : ℕ) (d : Item) (seen fixed new : List Field) → n < length items → seen ≡ fixed → true ≡ is_new seen (get_or items n d) → new ≡ fixed_behind (get_or items n d) fixed → (asks_once fixed (drop n items) ≡ true → asks_once [] items ≡ true) → asks_once new (drop (n + 1) items) ≡ true → asks_once [] items ≡ true
asks_further items n d seen fixed new lt seen_is first new_is before h =
    let item = get_or items n d in
    let rest = drop (n + 1) items in
    let here = item_here items n d item lt refl in
    let unseen = ap (λ f. is_new f item) (sym seen_is) ∙ sym first in
    before (ap (asks_once fixed) here ∙ asks_step fixed item rest unseen (ap (λ f. asks_once f rest) (sym new_is) ∙ h))
