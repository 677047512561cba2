-- Whether a board was started.
use Rattle.std.specs.Prelude.{Bool, true, false, List}
use Rattle.std.specs.List.{list_any}
use Rattle.maple_io.specs.declared.act.Act.{Act}
use Rattle.maple_io.specs.declared.act.Act.TheVariants.{Starts}

abbrev pub is_start : Act → Bool
is_start (Starts listen control) = true
is_start act = false

-- a start was answered Ready
abbrev pub was_started : List Act → Bool
was_started log = list_any is_start log
