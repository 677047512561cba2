use Rattle.std.proofs.Common.{arith, rules}
use Rattle.gen_script.specs.Summary.{counts, number_of}
use Rattle.gen_script.proofs.Totals.{few_lines}
use Rattle.gen_script.proofs.summing.number_of.Goals as goal

pub overflow_add-number : goal.overflow_add-number
overflow_add-number c = omega (arith, few_lines (counts c.args.tally) c.args.report.now, c.loop-rest.invariant)

pub returns : goal.returns
unfolding number_of
returns c = search (rules, c.loop-rest.invariant, c.in_default.is)
