-- What the outbox of the cases tells.
use Rattle.std.specs.Prelude.{◌==◌, if◌then◌else◌, []}
use Rattle.board_cases.specs.declared.case_outbox.CaseOutbox.{CaseOutbox}
use Rattle.board_lines.specs.Queues.{OutboxView}

-- what it gave is for its one connection
abbrev pub outbox_view : CaseOutbox → OutboxView
outbox_view o = record { gave = λ d. (if d == o.number then o.given.value else []); asked = o.asked.value; told = o.told.value }
