-- A machine may go to another thread.
use denote.Param.Send.{sendable}
use Rattle.core_machine.proofs.Sending.{core_send}
use Rattle.machine_tests.proofs.threads.core_and_back.Goals as goal

pub and_back-requires-send-T : goal.and_back-requires-send-T
and_back-requires-send-T g c κs within = search (core_send, sendable) depth 60 fits 20000
