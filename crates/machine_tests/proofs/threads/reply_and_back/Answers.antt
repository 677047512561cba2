-- A reply may go to another thread.
use denote.Param.Send.{sendable}
use Rattle.machine_steps.proofs.Sending.{reply_send}
use Rattle.machine_tests.proofs.threads.reply_and_back.Goals as goal

pub and_back-requires-send-T : goal.and_back-requires-send-T
and_back-requires-send-T g c κs within = search (reply_send, sendable) depth 60 fits 20000
