-- Why a line of a script is refused, by numbers.
use Rattle.std.specs.Prelude.{◌≡◌, ℕ, Option, Some, None, if◌then◌else◌, ◌==◌}
use Rattle.report_text.specs.declared.line.ScriptRefusal.{ScriptRefusal}
use Rattle.report_text.specs.declared.line.ScriptRefusal.TheVariants.{Grammar, TooLong, Switch}

abbrev pub refusal_number : ScriptRefusal → ℕ
refusal_number Grammar = 1
refusal_number TooLong = 2
refusal_number Switch = 3

-- the refusal of a number
abbrev pub refusal_numbered : ℕ → Option ScriptRefusal
refusal_numbered n = if n == 1 then Some Grammar else (if n == 2 then Some TooLong else (if n == 3 then Some Switch else None))

-- the number of a refusal is that of no other, and leads back to it
abbrev pub RefusalsAreNumbered : Type 0
RefusalsAreNumbered = (refusal : ScriptRefusal) → refusal_numbered (refusal_number refusal) ≡ Some refusal
