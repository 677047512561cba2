use Rattle.board_cases.specs.Outboxes.{outbox_view}
use Rattle.board_lines.specs.Queues.{InStep}
use Rattle.board_cases.proofs.sending.run.Given as goal

-- what was given was sent, but for the rest
abbrev pub invariant-loop-word : goal.invariant-loop-word
invariant-loop-word l = InStep l.queue (outbox_view l.outbox) l.board.acts.value
