-- What the messages that wait in a model switch keep true.
use Rattle.std.specs.Prelude.{◌≡◌, List, map}
use Rattle.std.specs.List.{AllByRecursion}
use Rattle.of10_codec.specs.declared.message.Message.{Message}
use Rattle.device_port.specs.Devices.{IsOfController}
use Rattle.model_switch.specs.declared.waiting.Waiting.TheInside.{Inside}
use Rattle.model_switch.specs.States.{free_count}

abbrev pub FromController : List Message → Type 0
FromController ms = AllByRecursion (λ (m : Message). IsOfController m.body) ms

abbrev pub waiting : Inside → List Message
waiting a = map (λ b. b.value) a.list.items

pub record IsKept (a : Inside) : Type 0 where
  pub free : a.free ≡ free_count (waiting a)
  pub sent : FromController (waiting a)
