-- A machine may go to another thread.
use denote.Param.Send
use denote.Struct.Declared
use Rattle.machine_parts.proofs.Sending.{parts_send}
use Rattle.core_machine.specs.contracts.machine.Core
use Rattle.core_machine.specs.contracts.machine.Core.TheInside as core

pub core_send : Send.IsSend Core.the_row
core_send = Send.view_send core.the_row _ _ _ _ (Send.recorded_send (core.the_field).row _ _ (core.the_type).to_one (Send.struct_send (Declared.shape core.the_type) (parts_send, tt)))
