-- Small steps that several lemmas take.
use Rattle.std.proofs.Common.{◌≡◌, ℕ, suc, ◌+◌, ◌*◌, Bool, true, false, cond, List, drop, refl, ap, ◌∙◌, arith}
use Rattle.std.proofs.lemmas.List.{drop-drop}

-- the places of one more item of a width
pub drop_next : (width n : ℕ) (b : List ℕ) → drop (width * n) (drop width b) ≡ drop (width * suc n) b
drop_next width n b =
    let e : width + width * n ≡ width * suc n = omega arith in
    drop-drop (width * n) width b ∙ ap (λ k. drop k b) e

-- neither of two tests holds
pub neither : (s t : Bool) → cond s true t ≡ false → (s ≡ false) × (t ≡ false)
neither true t h = absurd (cc)
neither false t h = (refl, h)
