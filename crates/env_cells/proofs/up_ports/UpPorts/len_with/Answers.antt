use Rattle.std.proofs.Common.{rules}
use Rattle.std.specs.FinSet.{members}
use Rattle.env_cells.proofs.up_ports.UpPorts.len_with.Goals as goal

pub returns-then-has : goal.returns-then-has
returns-then-has c = grind (members, rules)

pub returns-else-has : goal.returns-else-has
returns-else-has c = grind (members, rules)
