-- The numbers of connections: each gets the next one.
use Rattle.std.specs.Prelude.{◌≡◌, ℕ, ◌+◌, ◌<◌, List, ⊤}
use Rattle.std.specs.List.{AllByRecursion}
use Rattle.maple_io.specs.declared.act.Act.{Act}
use Rattle.maple_io.specs.declared.act.Act.TheVariants as acts
use Rattle.maple_io.specs.declared.board.Turn.{Turn}
use Rattle.maple_io.specs.declared.board.Turn.TheVariants as turns

-- a connection that is opened has the next number; a turn that tells an end doesn't come
abbrev pub next_number : ℕ → ℕ → Turn → Type 0
next_number old new (turns.Opened c) = (c ≡ old) × (new ≡ old + 1)
next_number old new turns.End = ⊥
next_number old new turn = new ≡ old

-- each connection that was opened has a number below this
abbrev pub IsBelow : ℕ → Act → Type 0
IsBelow n (acts.Gives (turns.Opened c) bytes) = c < n
IsBelow n act = ⊤

abbrev pub AreBelow : ℕ → List Act → Type 0
AreBelow n log = AllByRecursion (IsBelow n) log
