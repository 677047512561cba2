-- Deeds are turns of the machine, and the bench behind them has these turns behind those that it had.
use Rattle.std.proofs.Common.{◌≡◌, List, [], ◌∷◌, ◌++◌, append-nil, sym, ap, ◌∙◌}
use Rattle.std.proofs.lemmas.List.{append_assoc}
use Rattle.history_lock.specs.Histories.{event}
use Rattle.machine_sharing.specs.Legal.{turn_of as turn_by}
use Rattle.machine_steps.specs.Histories.{IsTurn, Leads}
use Rattle.sim_steps.specs.Benches.{Bench}
use Rattle.sim_steps.specs.Deeds.{Deed, Does, Event, Runs, entry_in, reply_in, turn_of, turns_of}
use Rattle.sim_steps.specs.Deeds.Deed.{Enters, Calls}

-- a note may be told at any moment
pub is_turn : (a : Bench) (deed : Deed) (b : Bench) → Does deed a b → IsTurn (record { before = a.machine; entry = entry_in deed; reply = reply_in deed; behind = b.machine })
is_turn a (Enters entry reply) b enters = record { admitted = enters.admitted; steps = enters.steps }
is_turn a (Calls c call reply) b calls = record { admitted = tt; steps = calls.noted }

pub leads_along : (a : Bench) (es : List Event) (b : Bench) → Runs a es b → Leads a.machine (turns_of es) b.machine
leads_along a [] b e = ap (λ (x : Bench). x.machine) e
leads_along a (e ∷ es) b (same, happens, rest) = (ap (λ (x : Bench). x.machine) same, is_turn e.before e.deed e.behind happens, leads_along e.behind es b rest)

past_on : (a : Bench) (deed : Deed) (b : Bench) → Does deed a b → b.past ≡ a.past ++ turn_by a.machine (event (entry_in deed) (reply_in deed) b.machine) ∷ []
past_on a (Enters entry reply) b enters = enters.past
past_on a (Calls c call reply) b calls = calls.past

pub past_along : (a : Bench) (es : List Event) (b : Bench) → Runs a es b → b.past ≡ a.past ++ turns_of es
past_along a [] b e = ap (λ (x : Bench). x.past) e ∙ sym (append-nil a.past)
past_along a (e ∷ es) b (same, happens, rest) =
    past_along e.behind es b rest
    ∙ ap (λ ts. ts ++ turns_of es) (past_on e.before e.deed e.behind happens ∙ ap (λ (x : Bench). x.past ++ turn_of e ∷ []) same)
    ∙ append_assoc a.past (turn_of e ∷ []) (turns_of es)
