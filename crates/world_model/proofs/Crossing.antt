-- A world may go to another thread: the generated proof is only there for its parts.
use denote.Param.Send
use denote.Struct.Declared
use Rattle.std.below.std_heap.proofs.GlobalAllocator.TheSendSync as frees
use Rattle.std.proofs.alloc.Global.TheSendSync as global
use Rattle.std.proofs.vec.Vec.TheSendSync as vec
use Rattle.core_machine.proofs.Sending.{core_send}
use Rattle.world_places.proofs.Sending.{place_send}
use Rattle.world_model.specs.contracts.world.World
use Rattle.world_model.specs.contracts.world.World.TheInside as world

pub world_send : Send.IsSend World.the_row
world_send = Send.view_send world.the_row _ _ _ _ (Send.recorded_send (world.the_field).row _ _ (world.the_type).to_one (Send.struct_send (Declared.shape world.the_type) (core_send, (vec.the_send _ _ _ place_send global.the_send frees.the_frees, tt))))
