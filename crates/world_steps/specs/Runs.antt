-- Runs of the world: steps one after the other from an opening.
use Rattle.std.specs.Prelude.{◌≡◌, List, [], ◌∷◌}
use Rattle.std.specs.List.{flat_map}
use Rattle.maple_base.specs.declared.decision.Settings.{Settings}
use Rattle.policy_lang.specs.declared.Policy.{Policy}
use Rattle.machine_steps.specs.Histories.{Turn, Leads}
use Rattle.machine_steps.specs.Machine.{State, opening}
use Rattle.machine_steps.specs.Sound.{AreInRange}
use Rattle.world_steps.specs.Worlds.{World, WorldStep, Goes, opening_world}
use Rattle.world_steps.specs.Worlds.WorldStep.{Enters, Acts}

-- a step, with the worlds before and behind it
pub record Event : Type 0 where
  pub before : World
  pub step : WorldStep
  pub behind : World

abbrev pub Happens : Event → Type 0
Happens e = Goes e.before e.step e.behind

-- these events lead one after the other from a world to the last
abbrev pub Runs : World → List Event → World → Type 0
Runs w [] last = last ≡ w
Runs w (e ∷ es) last = (e.before ≡ w) × Happens e × Runs e.behind es last

-- a run of the world: from an opening whose settings are in their ranges
pub record IsWorldRun (policy : Policy) (settings : Settings) (es : List Event) (w : World) : Type 0 where
  pub ranges : AreInRange settings
  pub runs : Runs (opening_world policy settings) es w

-- the machine's turn in an event, if it has one
abbrev pub turn_in : WorldStep → State → State → List Turn
turn_in (Enters entry reply) m n = record { before = m; entry = entry; reply = reply; behind = n } ∷ []
turn_in (Acts c step) m n = []

-- the history of a run: the turns of its machine
abbrev pub turns_of : List Event → List Turn
turns_of es = flat_map (λ (e : Event). turn_in e.step e.before.machine e.behind.machine) es

-- the history of each run is legal
abbrev pub HistoryLaw : Type 0
HistoryLaw =
    (policy : Policy) (settings : Settings) (es : List Event) (w : World) → IsWorldRun policy settings es w
    → Leads (opening policy settings) (turns_of es) w.machine
