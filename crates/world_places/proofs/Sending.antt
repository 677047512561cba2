-- A place may go to another thread.
use denote.Param.Send
use Rattle.world_places.proofs.place.Place.TheSendSync as place
use Rattle.world_places.specs.contracts.place.Place

pub place_send : Send.IsSend Place.the_row
place_send = place.the_send
