-- The calls that a device tells.
use Rattle.std.specs.Prelude.{List, map}
use Rattle.device_port.specs.Devices.{Call}
use Rattle.device_port.specs.Devices.Call.{Offered, Turning, Looking}
use Rattle.model_switch.specs.declared.entry.Entry.{Entry}
use Rattle.model_switch.specs.declared.entry.Entry.TheVariants as entries

abbrev pub call_of : Entry → Call
call_of (entries.Offer message took) = Offered message took
call_of (entries.Turn turned bytes) = Turning turned bytes
call_of (entries.Packet port frame seen bytes) = Looking port frame seen bytes

abbrev pub calls_of : List Entry → List Call
calls_of list = map call_of list
