-- Why a policy's text wasn't put in force.
use Rattle.std.proofs.Common.{ℕ, List, refl, inl, inr}
use Rattle.policy_lang.specs.declared.Policy.{Policy}
use Rattle.policy_text.specs.declared.reading.ReadError.TheVariants.{Refused}
use Rattle.policy_text.specs.Texts.{IsRefused, IsTextOf}
use Rattle.machine_steps.specs.declared.entry.Entry.TheVariants as entries
use Rattle.machine_desk.specs.declared.asking.DeskStop.{DeskStop}
use Rattle.machine_desk.specs.declared.asking.DeskStop.TheVariants as stops
use Rattle.machine_desk.specs.Desks.{DeskView}
use Rattle.machine_desk.specs.Orders.{Stops, StopsRenewing, refusal}

pub stops_accepted : (text : List ℕ) (policy : Policy) (stop : DeskStop) (a b : DeskView) → IsTextOf policy text → Stops stop (entries.NewPolicy policy) a b → StopsRenewing stop text a b
stops_accepted text policy stops.NoMemory a b is h = inr (entries.NewPolicy policy, inl (policy, is, refl), h)
stops_accepted text policy stops.Worn a b is h = h

pub stops_refused : (text : List ℕ) (line column kind : ℕ) (stop : DeskStop) (a b : DeskView) → IsRefused text (Refused line column kind) → Stops stop (refusal line column kind) a b
    → StopsRenewing stop text a b
stops_refused text line column kind stops.NoMemory a b is h = inr (refusal line column kind, inr (line, column, kind, is, refl), h)
stops_refused text line column kind stops.Worn a b is h = h
