use Rattle.trace_record.proofs.Recordings.{recorded_if}
use Rattle.trace_record.proofs.recorder.walk.Goals as goal

pub returns-clause-recorded : goal.returns-clause-recorded
returns-clause-recorded g c =
    rw (c.finish.ensures.value, c.finish.ensures.same)
    (recorded_if (λ s. s.notes) (λ s. g.V.EnvView.gave s.view) c.args.policy.now c.args.budget c.args.switch _ c.run-outcome.result.1 c.run-outcome.result.0
    c.requires.key c.new.ensures c.new-2.ensures c.run-outcome.ensures.outcome)
