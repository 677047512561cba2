-- What a run's fields stand for.
use Rattle.trace_record.specs.Runs.{Recorded, IsRun}
use Rattle.trace_record.specs.declared.recording.Run.TheInside.{Inside}

abbrev pub recorded : Inside → Recorded
recorded a =
    record { number = a.number; switch = a.switch; key = a.key; items = a.items; cells = a.cells; outcome = a.outcome; budget = a.budget; policy = a.policy.value }

abbrev pub IsLawful : Inside → Type 0
IsLawful a = IsRun (recorded a)
