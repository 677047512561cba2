-- What is made ready for the sessions ahead of an update.
use Rattle.std.specs.Prelude.{◌≡◌, ℕ, zero, suc, Bool, true, false, List, [], ◌∷◌, Option, Some, None, IfSome}
use Rattle.std.specs.List.{AllByRecursion}
use Rattle.trace_tree.specs.declared.node.Leaf.{Leaf}
use Rattle.env_cells.specs.declared.updates.Update.{Update}
use Rattle.env_cells.specs.Changes.{applied}
use Rattle.env_cells.specs.Environment.{Environment}
use Rattle.topo_paths.specs.Scenes.{cell_in}
use Rattle.tree_prune.specs.Current.{is_current}
use Rattle.switch_session.specs.Parts.{Update as Plan}
use Rattle.switch_session.specs.Sessions.{aimed, forgotten}
use Rattle.switch_session.specs.Calls.{IsGood}
use Rattle.switch_traces.specs.Traces.{Learnings}
use Rattle.machine_parts.specs.declared.connection.Connection.{Connection}
use Rattle.machine_parts.specs.declared.aims.Left.{Left}
use Rattle.machine_parts.specs.declared.aims.Left.TheVariants.{Current, Nothing}
use Rattle.machine_steps.specs.Machine.{Session, State, is_live, kept_of}
use Rattle.machine_steps.specs.Places.{CanReach, IsHeading}
use Rattle.machine_steps.specs.Steps.{AimsOne}

-- which traces are left
abbrev pub keeps : Left → Leaf → Bool
keeps (Current behind) = is_current (cell_in behind.now)
keeps Nothing = λ (l : Leaf). false

abbrev pub left_behind : Environment → Update → List Learnings → List Learnings
left_behind e u ls = kept_of (is_current (cell_in (applied e u))) ls

-- a session that is aimed at what was made ready for it, and one for which that is given up
abbrev pub turned : Option Plan → Session → Session
turned None s = s
turned (Some plan) s = aimed plan s

abbrev pub given_up : Option Plan → Session → Session
given_up None s = s
given_up (Some plan) s = forgotten s

abbrev pub turns : Connection → Connection
turns c = record { session = turned c.aim c.session; aim = None }

abbrev pub gives_up : Connection → Connection
gives_up c = record { session = given_up c.aim c.session; aim = None }

-- what was made ready for a session can be aimed at
abbrev pub CanTurn : Connection → Type 0
CanTurn c = IfSome c.aim (IsGood c.session)

-- an aim is made ready, where one is wanted: aimed at, it does what the next state asks, and given up, nothing has changed
pub record IsReadied (left : List Learnings) (c d : Connection) : Type 0 where
  pub aims : AimsOne left c.session (turned d.aim d.session)
  pub good : CanTurn d
  pub back : gives_up d ≡ c

-- the first n are
abbrev pub AreReadied : List Learnings → ℕ → List Connection → List Connection → Type 0
AreReadied left n [] ds = ds ≡ []
AreReadied left n (c ∷ cs) [] = ⊥
AreReadied left zero (c ∷ cs) (d ∷ ds) = (d ≡ c) × (ds ≡ cs)
AreReadied left (suc n) (c ∷ cs) (d ∷ ds) = IsReadied left c d × AreReadied left n cs ds

-- a session of a state that an update can leave
abbrev pub CanAim : State → Connection → Type 0
CanAim m c = (c.aim ≡ None) × (is_live c.session ≡ true → IsHeading m c.session)

pub record CanReady (learned : List Learnings) (cs : List Connection) : Type 0 where
  pub state : State
  pub learned_are : state.learned ≡ learned
  pub can : CanReach state
  pub sessions : AllByRecursion (CanAim state) cs
