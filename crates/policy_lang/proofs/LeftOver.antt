-- What is left of a list as a loop goes over it.
use Rattle.std.proofs.Common.{◌≡◌, ℕ, suc, add-one, ◌+◌, ◌<◌, List, ◌∷◌, drop, length, get_or, sym, ap, ◌∙◌}
use Rattle.std.proofs.Math.Seq.{drop-cons}

pub rest_of : {A : Type 0} (as_ : List A) (k : ℕ) (a : A) → k < length as_ → a ≡ get_or as_ k a → drop k as_ ≡ a ∷ drop (k + 1) as_
rest_of as_ k a h q = drop-cons as_ k a h ∙ ap (λ d. d ∷ drop (suc k) as_) (sym q) ∙ ap (λ j. a ∷ drop j as_) (sym (add-one k))
