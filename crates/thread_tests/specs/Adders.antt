-- The calls that come of an item that is added to a sum.
use Rattle.std.specs.Prelude.{◌≡◌, ℕ, List, [], ◌∷◌, Ok, Err}
use Rattle.history_lock.specs.declared.view.Event.{Event}
use Rattle.history_lock.specs.Histories.{event}
use Rattle.thread_tests.specs.declared.sum.Sum.{Sum}
use Rattle.worker_crew.specs.Tasks.{Worked}

-- one call with the item where it was added, and else none
abbrev pub IsAdded : ℕ → Worked → List (Event Sum ℕ ℕ) → Type 0
IsAdded item (Ok x) calls = (reply : ℕ) × (sum : Sum) × (calls ≡ event item reply sum ∷ [])
IsAdded item (Err e) calls = calls ≡ []
