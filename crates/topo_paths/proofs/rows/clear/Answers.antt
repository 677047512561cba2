use Rattle.std.proofs.Common.{None, get_or, ap, ◌∙◌, arith}
use Rattle.std.proofs.lemmas.List.{get_or-replicate}
use Rattle.topo_paths.proofs.rows.clear.Goals as goal

pub returns-clause-none : goal.returns-clause-none
returns-clause-none c = λ from to lf lt. ap (λ r. get_or r from None) (c.loop-place.invariant.none to (omega (arith, lt, c.loop-place-test.false))) ∙ get_or-replicate 64 from None None lf
