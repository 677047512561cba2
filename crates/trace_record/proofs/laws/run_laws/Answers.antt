use Rattle.trace_record.proofs.Free.{never_clash}
use Rattle.trace_record.proofs.laws.run_laws.Goals as goal

pub returns : goal.returns
returns c = record { no_clash = never_clash c.tree_laws.ensures.no_clash }
