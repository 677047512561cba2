-- Whether two names have one text.
use Rattle.std.proofs.Common.{◌≡◌, ℕ, true, List, ◌++◌, take, length, refl, sym, ap, ◌∙◌, subst, Decides}
use Rattle.std.specs.Prelude.{◌==◌, ◌&&◌}
use Rattle.std.specs.Str.{bytes_eq}
use Rattle.std.proofs.lemmas.Bool.{eq-eqb, eqb-true}
use Rattle.std.proofs.lemmas.Bool.Decides.{same_from_decides}
use Rattle.std.proofs.lemmas.Slice.Eq.{bytes_eq-Decides}
use Rattle.std.proofs.Math.Seq.{take-append_seam}
use Rattle.maple_base.specs.Padded.{padded}
use Rattle.policy_lang.proofs.Both.{both}

same_front : (x y u v : List ℕ) → x ++ u ≡ y ++ v → length x ≡ length y → x ≡ y
same_front x y u v e h = sym (take-append_seam x u) ∙ ap (take (length x)) e ∙ ap (λ n. take n (y ++ v)) h ∙ take-append_seam y v

decided : (size : ℕ) (x y : List ℕ) → Decides (bytes_eq (padded size x) (padded size y) && length x == length y) (x ≡ y)
decided size x y = (
  λ h. let q = both (bytes_eq (padded size x) (padded size y)) (length x == length y) h in
      same_front x y _ _ ((bytes_eq-Decides (padded size x) (padded size y)).0 q.0) (eqb-true (length x) (length y) q.1),
  λ e. subst (λ z. (bytes_eq (padded size x) (padded size z) && length x == length z) ≡ true) e
      (ap (λ b. b && length x == length x) ((bytes_eq-Decides (padded size x) (padded size x)).1 refl) ∙ eq-eqb (length x) (length x) refl),
)

-- names are compared with the zeros behind them, and by their lengths
pub same_names : (size : ℕ) (x y : List ℕ) → (bytes_eq (padded size x) (padded size y) && length x == length y) ≡ bytes_eq x y
same_names size x y = same_from_decides _ (bytes_eq x y) (decided size x y) (bytes_eq-Decides x y)
