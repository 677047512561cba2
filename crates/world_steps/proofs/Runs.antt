-- The machine's turns in a run of the world are a legal history, and a run's beginning is a run.
use Rattle.std.proofs.Common.{List, [], ◌∷◌, ◌++◌, refl, ap, subst}
use Rattle.machine_steps.specs.Histories.{Leads}
use Rattle.machine_steps.specs.Machine.{State}
use Rattle.world_steps.specs.Runs.{Event, Happens, Runs, HistoryLaw, turn_in, turns_of}
use Rattle.world_steps.specs.Worlds.{World, WorldStep, Goes, opening_world}
use Rattle.world_steps.specs.Worlds.WorldStep.{Enters, Acts}

-- a step's turn, if it has one, and those behind it
leads_on : (e : Event) (es : List Event) (last : State) (step : WorldStep) → Goes e.before step e.behind → Leads e.behind.machine (turns_of es) last
    → Leads e.before.machine (turn_in step e.before.machine e.behind.machine ++ turns_of es) last
leads_on e es last (Enters entry reply) enters later = (refl, record { admitted = enters.admitted; steps = enters.steps }, later)
leads_on e es last (Acts c step) acts later = subst (λ (w : World). Leads w.machine (turns_of es) last) acts.now_is later

leads_along : (w : World) (es : List Event) (last : World) → Runs w es last → Leads w.machine (turns_of es) last.machine
leads_along w [] last e = ap (λ (v : World). v.machine) e
leads_along w (e ∷ es) last (same, happens, rest) =
    subst (λ (v : World). Leads v.machine (turns_of (e ∷ es)) last.machine) same (leads_on e es last.machine e.step happens (leads_along e.behind es last rest))

pub history_law : HistoryLaw
history_law policy settings es w run = leads_along (opening_world policy settings) es w run.runs

-- ---- the events of a run up to one of them, without it and with it

pub record GoesTo (w : World) (before : List Event) (e : Event) : Type 0 where
  pub ahead : Runs w before e.before
  pub happens : Happens e
  pub behind : Runs w (before ++ e ∷ []) e.behind

pub runs_to : (w : World) (before : List Event) (e : Event) (later : List Event) (last : World) → Runs w (before ++ e ∷ later) last → GoesTo w before e
runs_to w [] e later last (same, happens, rest) = record { ahead = same; happens = happens; behind = (same, happens, refl) }
runs_to w (first ∷ before) e later last (same, happens, rest) =
    let r = runs_to first.behind before e later last rest in record { ahead = (same, happens, r.ahead); happens = r.happens; behind = (same, happens, r.behind) }
