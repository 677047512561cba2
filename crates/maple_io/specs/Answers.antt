-- What a source answers to reads, one behind the other.
use Rattle.std.specs.Prelude.{ℕ, Bool, true, false, List, [], ◌∷◌, take}
use Rattle.std.specs.List.{flat_map, list_all}
use Rattle.maple_io.specs.declared.source.Got.{Got}
use Rattle.maple_io.specs.declared.source.Got.TheVariants as got
use Rattle.maple_io.specs.declared.answer.Answer.{Answer}
use Rattle.maple_io.specs.declared.answer.Answer.TheVariants.{Gave, Ended, Failed}

-- the answer of a read that said this and left these bytes in its slice
abbrev pub answer_of : Got → List ℕ → Answer
answer_of (got.Bytes n) into = Gave (take n into)
answer_of got.End into = Ended
answer_of got.Failed into = Failed

-- the bytes that an answer gave
abbrev pub bytes_in : Answer → List ℕ
bytes_in (Gave bytes) = bytes
bytes_in Ended = []
bytes_in Failed = []

-- all bytes that were given, in order
abbrev pub given : List Answer → List ℕ
given answers = flat_map bytes_in answers

abbrev pub is_gift : Answer → Bool
is_gift (Gave bytes) = true
is_gift Ended = false
is_gift Failed = false

-- bytes were given, and nothing else was answered
abbrev pub gives : List Answer → Bool
gives answers = list_all is_gift answers

-- bytes were given, and then the end was told; behind it nothing was read
abbrev pub ends : List Answer → Bool
ends [] = false
ends (Gave bytes ∷ answers) = ends answers
ends (Ended ∷ []) = true
ends (answer ∷ answers) = false

-- bytes were given, and then a read failed; behind it nothing was read
abbrev pub fails : List Answer → Bool
fails [] = false
fails (Gave bytes ∷ answers) = fails answers
fails (Failed ∷ []) = true
fails (answer ∷ answers) = false
