use Rattle.std.proofs.Common.{subst}
use Rattle.std.specs.Prelude.{◌≡◌, List, ℕ, [], ◌∷◌, Decides}
use Rattle.std.proofs.lemmas.Slice.Eq.{slice_eq-Decides}
use Rattle.std.proofs.lemmas.Bool.Decides.{Decides-eqb}
use Rattle.maple_base.specs.Ports.{controller_port}
use Rattle.model_switch.proofs.looking.sends_up.Goals as goal

pub returns : goal.returns
returns c =
    let same : Decides c.eq.result (c.items.result.now ≡ c.as_slice.result.now) = slice_eq-Decides Decides-eqb c.items.result.now c.as_slice.result.now c.eq.result c.eq.ensures in
    let shown : Decides c.eq.result (c.items.result.now ≡ controller_port ∷ []) = subst (λ (xs : List ℕ). Decides c.eq.result (c.items.result.now ≡ xs)) c.as_slice.ensures same in
    subst (λ (xs : List ℕ). Decides c.eq.result (xs ≡ controller_port ∷ [])) c.items.ensures shown
