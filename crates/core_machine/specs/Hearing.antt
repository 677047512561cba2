-- What want of memory for a message is.
use Rattle.std.specs.Prelude.{◌⊎◌, ℕ}
use Rattle.of10_codec.specs.declared.message.Message.{Message}
use Rattle.machine_steps.specs.declared.reply.Reply.TheVariants.{NoMemory}
use Rattle.machine_steps.specs.Machine.{State}
use Rattle.machine_steps.specs.Steps.{HearsMessage, LacksForMessage}

-- memory ran out for the session, or for what the machine does with a message
abbrev pub LacksMemory : ℕ → Message → State → State → Type 0
LacksMemory c m old new = HearsMessage c m old NoMemory new ⊎ LacksForMessage c m old NoMemory new
