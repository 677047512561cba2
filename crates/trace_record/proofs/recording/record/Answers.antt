use Rattle.std.proofs.lemmas.Result.{IfOk-at_ok}
use Rattle.trace_record.proofs.Runs.{is_run}
use Rattle.trace_record.proofs.recording.record.Goals as goal

pub invariant_of-result : goal.invariant_of-result
invariant_of-result g c =
    let reading = c.reading_laws.ensures in
    let means = c.meaning_laws.ensures in
    let recorded = IfOk-at_ok _ c.in-Ok.is c.walked-outcome.ensures.recorded in
    rw (c.into_items.ensures, c.of.ensures)
    (is_run reading.few reading.ends means.begins means.ports means.few _ c.requires.budget (rw c.into_cells.ensures.cells recorded.trace) c.into_cells.ensures.kinds)
