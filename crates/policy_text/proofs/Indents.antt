-- The indent of a line, block by block.
use Rattle.std.proofs.Common.{◌≡◌, ℕ, ◌+◌, ◌-◌, ◌<◌, suc, List, ◌++◌, ap, sym, ◌∙◌, arith, append_assoc, codes}
use Rattle.policy_text.specs.Printed.{indent}

pub indent_step : (t : List ℕ) (blocks done : ℕ) → done < blocks → (t ++ codes "  ") ++ indent (blocks - (done + 1)) ≡ t ++ indent (blocks - done)
indent_step t blocks done h =
    let more : blocks - done ≡ suc (blocks - (done + 1)) = omega arith in
    append_assoc t (codes "  ") (indent (blocks - (done + 1))) ∙ ap (λ n. t ++ indent n) (sym more)
