-- Which calls fail.
use Rattle.std.specs.Prelude.{◌≡◌, ℕ, Bool, true, ◌==◌, List, []}
use Rattle.std.specs.List.{list_any}
use Rattle.maple_base.specs.Counts.{next_count}
use Rattle.maple_base.specs.declared.device.Turned.{Turned}
use Rattle.maple_base.specs.declared.device.Turned.TheVariants.{Failed as FailedTurn}
use Rattle.maple_base.specs.declared.device.Seen.{Seen}
use Rattle.maple_base.specs.declared.device.Seen.TheVariants.{Failed as FailedLook}
use Rattle.flow_table.specs.Tables.{Entries}
use Rattle.model_switch.specs.Answers.{Sees}
use Rattle.model_switch.specs.States.{State, TurnsAt}

-- so many calls were answered, and the number of the next is one of these
abbrev pub fails_next : List ℕ → ℕ → Bool
fails_next fails calls = list_any (λ n. n == next_count calls) fails

-- an answer that fails comes exactly where the call's number is one of these; a call without memory doesn't count
pub record FailsJust {A : Type 0} (answer failed none : A) (fails : List ℕ) (old new : ℕ) : Type 0 where
  pub due : answer ≡ failed → fails_next fails old ≡ true
  pub fail : fails_next fails old ≡ true → answer ≡ failed
  pub lacking : answer ≡ none → new ≡ old
  pub counted : (answer ≡ none → ⊥) → new ≡ next_count old

-- the turn that the inner device takes, or, where it fails, none
abbrev pub TurnsUnlessFailed : State → Turned → List ℕ → State → Type 0
TurnsUnlessFailed s FailedTurn bytes t = (bytes ≡ []) × (t ≡ s)
TurnsUnlessFailed s answer bytes t = TurnsAt 0 s answer bytes t

abbrev pub SeesUnlessFailed : ℕ → List ℕ → Entries → Seen → List ℕ → Type 0
SeesUnlessFailed port frame table FailedLook bytes = bytes ≡ []
SeesUnlessFailed port frame table seen bytes = Sees port frame table seen bytes
