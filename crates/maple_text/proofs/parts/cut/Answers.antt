use Rattle.std.proofs.Common.{arith}
use Rattle.std.proofs.lemmas.List.{take_rest}
use Rattle.maple_text.proofs.Splits.{one_part, more_parts}
use Rattle.maple_text.proofs.parts.cut.Goals as goal

pub returns-then-at-text-clause-parts : goal.returns-then-at-text-clause-parts
returns-then-at-text-clause-parts c = one_part c.args.stop c.args.text.now (omega (arith, c.len_to-at.ensures.length))

pub returns-else-at-text-clause-parts : goal.returns-else-at-text-clause-parts
returns-else-at-text-clause-parts c =
    rw (take_rest, c.len_to-at.ensures.length) (more_parts c.args.stop c.args.text.now (omega (arith, c.len_to-at.ensures.length, c.len_to-at.ensures.bound)))
