use Rattle.std.proofs.Common.{length}
use Rattle.policy_eval.proofs.ports.+ports_among.Given as goal

abbrev pub decreases-ports_among : goal.decreases-ports_among
decreases-ports_among l = length l.numbers.now
