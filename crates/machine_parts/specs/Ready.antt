-- The line of a session that is ready.
use Rattle.std.specs.Prelude.{ℕ, Bool, true, false, List, [], ◌∷◌}
use Rattle.report_text.specs.declared.line.Line.{Line}
use Rattle.report_text.specs.declared.line.Line.TheVariants.{Ready}

-- at the first reply to a barrier its line is told
abbrev pub ready_lines : Bool → ℕ → ℕ → List Line
ready_lines true c switch = Ready c switch ∷ []
ready_lines false c switch = []

abbrev pub ready_count : Bool → ℕ
ready_count true = 1
ready_count false = 0
