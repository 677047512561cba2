-- What the evaluator's data stand for.
use Rattle.std.specs.Prelude.{◌≡◌, Bool, true, false, Option, Some, None}
use Rattle.maple_base.specs.declared.operator.Operator.{Operator}
use Rattle.maple_base.specs.Questions.{same_bool}
use Rattle.policy_meaning.specs.Values.{applied}
use Rattle.policy_eval.specs.declared.datum.Datum.{Datum}
use Rattle.policy_eval.specs.declared.datum.Datum.TheVariants.{Number, Truth, At}
use Rattle.policy_meaning.specs.Values.{Datum as Given, Numeral, Truth as True', Located, truth_in}

abbrev pub datum_of : Datum → Given
datum_of (Number n) = Numeral n
datum_of (Truth b) = True' b
datum_of (At p) = Located p

-- the answer where the left part's truth settles an operator, and none where the right part is evaluated
abbrev pub IsSettled : Option Datum → Option Bool → Given → Type 0
IsSettled r None d = r ≡ None
IsSettled (Some e) (Some b) d = (same_bool (truth_in d) b ≡ true) × (datum_of e ≡ True' b)
IsSettled None (Some b) d = same_bool (truth_in d) b ≡ false

-- what is made of both parts of an operator, where the left one doesn't settle it: of one that a truth settles the right part
abbrev pub IsMade : Datum → Option Bool → Operator → Given → Given → Type 0
IsMade r None o d e = datum_of r ≡ applied o d e
IsMade r (Some b) o d e = datum_of r ≡ e
