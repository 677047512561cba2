-- The controller's machine, its entries and its replies may go to another thread, and a host may move at any moment.
use denote.Param.Send.{sendable}
use Rattle.core_machine.proofs.Sending.{core_send}
use Rattle.machine_steps.proofs.Sending.{entry_send, reply_send}
use Rattle.machine_tests.proofs.stale.work_and_move.Goals as goal

pub beside-requires-send-M : goal.beside-requires-send-M
beside-requires-send-M g c κs within = search (core_send, sendable) depth 60 fits 20000

pub beside-requires-send-M-Reply : goal.beside-requires-send-M-Reply
beside-requires-send-M-Reply g c κs within = search (reply_send, sendable) depth 60 fits 20000

pub beside-requires-send-M-Entry : goal.beside-requires-send-M-Entry
beside-requires-send-M-Entry g c κs within = search (entry_send, sendable) depth 60 fits 20000

pub beside-requires-clause-admitted : goal.beside-requires-clause-admitted
beside-requires-clause-admitted g c κs within opening m log opens later run led alone = c.host_at.ensures m
