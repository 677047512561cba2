-- The numbers of connections: 1, 2, 3 and so on.
use Rattle.std.specs.Prelude.{◌≡◌, ℕ, ◌+◌, Bool, true, false, List, length, ⊤}
use Rattle.std.specs.List.{filter}
use Rattle.maple_io.specs.declared.act.Act.{Act}
use Rattle.maple_io.specs.declared.act.Act.TheVariants.{Gives}
use Rattle.maple_io.specs.declared.board.Turn.{Turn}
use Rattle.maple_io.specs.declared.board.Turn.TheVariants.{Opened}

abbrev pub opens : Act → Bool
opens (Gives (Opened c) bytes) = true
opens act = false

-- how many connections were opened
abbrev pub opened : List Act → ℕ
opened log = length (filter opens log)

-- a connection that is opened has the number behind theirs
abbrev pub OpensNext : Turn → List Act → Type 0
OpensNext (Opened c) log = c ≡ opened log + 1
OpensNext turn log = ⊤
