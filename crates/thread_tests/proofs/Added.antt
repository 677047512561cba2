-- What comes of an item that is added.
use Rattle.std.proofs.Common.{◌≡◌, ℕ, List, [], ◌∷◌, Ok, Err, sym, refl, ◌∙◌, append-nil}
use Rattle.history_lock.specs.declared.view.Event.{Event}
use Rattle.history_lock.specs.declared.view.Known.{Known}
use Rattle.history_lock.specs.Histories.{Calls, event}
use Rattle.history_lock.proofs.Deeds.{did_more, did_none}
use Rattle.thread_tests.specs.declared.sum.Sum.{Sum}
use Rattle.thread_tests.specs.Adders.{IsAdded}
use Rattle.worker_crew.specs.declared.gave_up.GaveUp.{GaveUp}
use Rattle.worker_crew.specs.Tasks.{OneWork, Worked}

abbrev Makes : ℕ → Worked → List (Event Sum ℕ ℕ) → Type 0
Makes item worked calls = IsAdded item worked calls

pub added_none : (u : Known Sum ℕ ℕ) (item : ℕ) (cause : GaveUp) → OneWork Makes item (Err cause) u u
added_none u item cause = record { calls = []; did = did_none u; made = refl }

pub added_worn : (u x : Known Sum ℕ ℕ) (item : ℕ) (cause : GaveUp) → x.seen ≡ u.seen → x.own ≡ u.own → OneWork Makes item (Err cause) u x
added_worn u x item cause seen own = record { calls = []; did = record { positions = []; own = own ∙ sym (append-nil u.own); later = ([], seen ∙ sym (append-nil u.seen)); at = tt }; made = refl }

pub added_one : (steps : Sum → ℕ → ℕ → Sum → Type 0) (allows : List (Event Sum ℕ ℕ) → ℕ → Type 0) (u x : Known Sum ℕ ℕ) (item reply : ℕ) → Calls steps allows u item reply x → OneWork Makes item (Ok tt) u x
added_one steps allows u x item reply c = record { calls = event item reply c.behind ∷ []; did = did_more steps allows u u [] item reply x (did_none u) c; made = (reply, c.behind, refl) }
