-- What holds of the scripts that a number makes, and of the policy under which they run.
use Rattle.std.specs.Prelude.{◌≡◌, ℕ, ◌+◌, nat_le, if◌then◌else◌, Option, Some, None}
use Rattle.policy_lang.specs.declared.Policy.{Policy}
use Rattle.policy_text.specs.Texts.{IsTextOf}
use Rattle.report_text.specs.declared.line.ScriptRefusal.{ScriptRefusal}
use Rattle.report_text.specs.declared.line.ScriptRefusal.TheVariants.{Switch}
use Rattle.script_text.specs.Lines.{ended_lines}
use Rattle.script_text.specs.Orders.{refused_from}
use Rattle.gen_script.specs.Policy.{gen_policy}
use Rattle.gen_script.specs.Script.{script_of}

-- the text is that of a policy
abbrev pub IsPolicy : Type 0
IsPolicy = (policy : Policy) × IsTextOf policy gen_policy

-- the first refused line of a script where there are so many places: with four or more there is none, with fewer it plugs the first place that isn't there
abbrev pub first_refused : ℕ → Option (ℕ × ScriptRefusal)
first_refused places = if nat_le 4 places then None else Some (places + 1, Switch)

-- no line of a script is refused but for a place that isn't there
abbrev pub PlacesDecide : Type 0
PlacesDecide = (n places : ℕ) → refused_from places 1 (ended_lines (script_of n)) ≡ first_refused places
