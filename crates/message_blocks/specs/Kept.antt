-- What each block keeps true.
use Rattle.std.specs.Prelude.{◌≡◌, ℕ, zero, suc, ◌-◌, ◌≤◌, List, [], ◌∷◌, length, drop}
use Rattle.std.specs.List.{flat_map, AllByRecursion}
use Rattle.of10_codec.specs.declared.message.Message.{Message}
use Rattle.of10_codec.specs.Written.{written}
use Rattle.message_blocks.specs.Spelling.{IsSpelled}

-- of messages that are written one behind the other, those that begin at this place or behind it
abbrev pub behind : ℕ → List Message → List Message
behind zero ms = ms
behind (suc n) [] = []
behind (suc n) (m ∷ ms) = behind (suc n - length (written m)) ms

-- the bytes are those of the messages, and a message begins at this place, or it is their end
pub record IsKept (place : ℕ) (bytes : List ℕ) (messages : List Message) : Type 0 where
  pub are_written : bytes ≡ flat_map written messages
  pub are_spelled : AllByRecursion IsSpelled messages
  pub within : place ≤ length bytes
  pub rest : drop place bytes ≡ flat_map written (behind place messages)
