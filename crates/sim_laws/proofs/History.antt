-- The machine's turns are a legal history, and the bench has them.
use Rattle.sim_steps.specs.Benches.{opening_bench}
use Rattle.sim_steps.proofs.Turned.{leads_along, past_along}
use Rattle.sim_laws.specs.Laws.{HistoryLaw, PastLaw}

pub history_law : HistoryLaw
history_law policy settings devices es b runs = leads_along (opening_bench policy settings devices) es b runs

pub past_law : PastLaw
past_law = past_along
