-- The lines for which the controller keeps room.
use Rattle.std.specs.Prelude.{Bool, true, false}
use Rattle.report_text.specs.declared.line.Line.{Line}
use Rattle.report_text.specs.declared.line.Line.TheVariants.{Closed, Ready, Error, Quiet}

-- the lines that open, warn of or close a connection: they come also where memory has run out
abbrev pub is_short : Line → Bool
is_short (Ready c s) = true
is_short (Error c kind code) = true
is_short (Quiet s retired) = true
is_short (Closed c why) = true
is_short line = false
