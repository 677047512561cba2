-- What holds of the grammar of a script's lines.
use Rattle.std.specs.Prelude.{◌≡◌, ℕ, ◌↔◌, List, Some}
use Rattle.script_text.specs.declared.command.Command.{Command}
use Rattle.script_text.specs.Grammar.{IsLine}
use Rattle.script_text.specs.Reading.{line_command}

-- a line says one command at most
abbrev pub OneCommand : Type 0
OneCommand = (line : List ℕ) (c d : Command) → IsLine line c → IsLine line d → c ≡ d

-- the command that a reader's steps find is the one that the line says, and none where it says none
abbrev pub ReadsLines : Type 0
ReadsLines = (line : List ℕ) (c : Command) → (line_command line ≡ Some c) ↔ IsLine line c
