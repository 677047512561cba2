-- The controller's machine, its entries and its replies may go to another thread.
use denote.Param.Send.{sendable}
use Rattle.core_machine.proofs.Sending.{core_send}
use Rattle.machine_steps.proofs.Sending.{entry_send, reply_send}
use Rattle.machine_tests.proofs.halls.open_and_read.Goals as goal

pub both-requires-send-M : goal.both-requires-send-M
both-requires-send-M g c κs within = search (core_send, sendable) depth 60 fits 20000

pub both-requires-send-M-Reply : goal.both-requires-send-M-Reply
both-requires-send-M-Reply g c κs within = search (reply_send, sendable) depth 60 fits 20000

pub both-requires-send-M-Entry : goal.both-requires-send-M-Entry
both-requires-send-M-Entry g c κs within = search (entry_send, sendable) depth 60 fits 20000
