-- What waits to be sent for a connection, and what was given for it.
use Rattle.std.specs.Prelude.{◌≡◌, ◌≢◌, ℕ, ◌<◌, Bool, List, [], ◌∷◌, ◌++◌, length, drop}
use Rattle.std.specs.List.{concat}
use Rattle.maple_io.specs.declared.act.Act.{Act}
use Rattle.maple_io.specs.Boards.{sent}

-- of a connection, what was taken out and wasn't sent yet, and whether a send failed
pub record QueueView : Type 0 where
  pub number : ℕ
  pub rest : List ℕ
  pub failed : Bool

-- all that was given for each connection so far, joined; the connections of which bytes were asked, in order; the connections that broke, in the order in
-- which that was told
pub record OutboxView : Type 0 where
  pub gave : ℕ → List ℕ
  pub asked : List ℕ
  pub told : List ℕ

-- this is given for a connection, and nothing for any other
pub record GivesFor (c : ℕ) (old new : OutboxView) (bytes : List ℕ) : Type 0 where
  pub own : new.gave c ≡ old.gave c ++ bytes
  pub others : (d : ℕ) → d ≢ c → new.gave d ≡ old.gave d

-- nothing is given
abbrev pub GivesNone : OutboxView → OutboxView → Type 0
GivesNone old new = (d : ℕ) → new.gave d ≡ old.gave d

-- bytes of a connection were asked, once
abbrev pub AsksOnce : ℕ → OutboxView → OutboxView → Type 0
AsksOnce c old new = new.asked ≡ old.asked ++ c ∷ []

-- none were asked
abbrev pub AsksNone : OutboxView → OutboxView → Type 0
AsksNone old new = new.asked ≡ old.asked

-- all that was given for the connection was sent, but for the rest: so what was sent begins what was given
abbrev pub InStep : QueueView → OutboxView → List Act → Type 0
InStep queue outbox log = outbox.gave queue.number ≡ sent queue.number log ++ queue.rest

-- ---- what is kept of a queue

-- none of these pieces is empty
abbrev pub AreFilled : List (List ℕ) → Type 0
AreFilled [] = Unit {0}
AreFilled (p ∷ ps) = (0 < length p) × AreFilled ps

-- so many bytes of the first piece were sent, and not all of it; no other piece is empty
abbrev pub IsQueued : List (List ℕ) → ℕ → Type 0
IsQueued [] at = at ≡ 0
IsQueued (p ∷ ps) at = (at < length p) × AreFilled ps

-- the bytes that weren't sent yet
abbrev pub unsent : List (List ℕ) → ℕ → List ℕ
unsent pieces at = drop at (concat pieces)
