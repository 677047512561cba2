-- Why the text of an input's policy is refused, as the report tells it.
use Rattle.std.specs.Prelude.{◌≡◌, ℕ, List}
use Rattle.maple_base.specs.declared.policy_fault.PolicyFault.{PolicyFault}
use Rattle.maple_base.specs.PolicyFaults.{number_of}
use Rattle.policy_text.specs.declared.reading.ReadError.TheVariants.{Refused}
use Rattle.policy_text.specs.Texts.{IsRefused}
use Rattle.report_text.specs.declared.line.Line.{Line}
use Rattle.report_text.specs.declared.line.Line.TheVariants.{RefusedPolicy}

-- the text has no policy, and the line by which it is refused tells where and why
abbrev pub IsRefusal : List ℕ → Line → Type 0
IsRefusal text l =
    (line column : ℕ) × (fault : PolicyFault) × IsRefused text (Refused line column (number_of fault)) × (l ≡ RefusedPolicy line column fault)
