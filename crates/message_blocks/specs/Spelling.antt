-- The bytes that spell the messages of a block.
use Rattle.of10_codec.specs.declared.message.Message.{Message}
use Rattle.of10_codec.specs.Messages.{Spelled}
use Rattle.of10_codec.specs.Written.{written}

-- the bytes that a message is written as spell it
abbrev pub IsSpelled : Message → Type 0
IsSpelled m = Spelled m (written m)
