use Rattle.std.proofs.Common.{ap, sym, ◌∙◌}
use Rattle.std.specs.FinSet as set
use Rattle.env_cells.proofs.Sets.{len-from_list}
use Rattle.env_cells.proofs.up_ports.UpPorts.len.Goals as goal

pub returns-clause-count : goal.returns-clause-count
returns-clause-count c = c.len.ensures.len ∙ sym (len-from_list _ c.len.ensures.ordered) ∙ ap set.len c.self.view_is
