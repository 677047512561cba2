use Rattle.std.proofs.Common.{◌∙◌, arith}
use Rattle.gen_script.proofs.Texts.{rounds_end}
use Rattle.gen_script.proofs.script.push_rounds.Goals as goal

pub returns : goal.returns
returns c = rounds_end c.loop.text.items c.args.count c.loop.counter c.loop.generator (omega (arith, c.loop-test.false)) ∙ c.loop.invariant
