use Rattle.report_text.specs.Report.{spelled_update}
use Rattle.report_text.proofs.spelling.refused_update.Goals as goal

pub returns-in-UnknownTable : goal.returns-in-UnknownTable
unfolding spelled_update
returns-in-UnknownTable g c = rw c.in-UnknownTable.is c.text.ensures

pub returns-in-UnknownSwitch : goal.returns-in-UnknownSwitch
unfolding spelled_update
returns-in-UnknownSwitch g c = rw c.in-UnknownSwitch.is c.text-in-UnknownSwitch.ensures
