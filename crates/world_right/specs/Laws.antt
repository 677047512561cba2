-- The headline, and what goes with it, of every run of the world.
use Rattle.std.specs.Prelude.{◌≡◌, ◌⊎◌, ℕ, ◌≤◌, true, List, [], ◌∷◌, ◌++◌, Some, None}
use Rattle.std.specs.List.Sorted.{IsPermutation}
use Rattle.maple_base.specs.declared.key.Key.{Key}
use Rattle.maple_base.specs.declared.decision.Decision.{Decision}
use Rattle.maple_base.specs.declared.decision.Outcome.TheVariants.{Decided}
use Rattle.maple_base.specs.declared.decision.Rule.{Rule}
use Rattle.maple_base.specs.declared.decision.Settings.{Settings}
use Rattle.maple_base.specs.Choice.{MayChoose}
use Rattle.maple_base.specs.Decisions.{actions_at}
use Rattle.maple_base.specs.Keys.{valid_key}
use Rattle.flow_table.specs.Shielding.{IsBarrier}
use Rattle.policy_lang.specs.declared.Policy.{Policy}
use Rattle.trace_tree.specs.Growth.{scratch}
use Rattle.priority_plan.specs.Rules.{rules_of}
use Rattle.machine_history.specs.Jobs.{eval_now}
use Rattle.machine_history.specs.Live.{live}
use Rattle.machine_steps.specs.Histories.{Turn}
use Rattle.machine_steps.specs.Machine.{Session, State, session_at, state_number}
use Rattle.world_stages.specs.StageLaws.{IsPlaced}
use Rattle.world_steps.specs.Worlds.{Link, World, link_at}
use Rattle.world_steps.specs.Runs.{Event, IsWorldRun, turns_of}
use Rattle.world_steps.specs.Right.{IsReadyAt, IsRight}
use Rattle.world_steps.specs.Since.{marks_of, since_by, whole_of}

-- the oldest state that a hit at a connection's session may show, behind these turns
abbrev pub since_of : ℕ → List Turn → State → Session → ℕ
since_of c ts m s = since_by s (state_number m) (marks_of c ts)

-- every run of the world is right
abbrev pub EveryRunIsRight : Type 0
EveryRunIsRight = (policy : Policy) (settings : Settings) (es : List Event) (w : World) → IsWorldRun policy settings es w → IsRight es

-- ---- stages

-- an open session has a link, and is in a stage with it
pub record HasPlace (c : ℕ) (ts : List Turn) (w : World) (s : Session) : Type 0 where
  pub link : Link
  pub there : link_at c w.links ≡ Some link
  pub placed : IsPlaced c w.machine (marks_of c ts) s link

abbrev pub SessionsArePlaced : Type 0
SessionsArePlaced =
    (policy : Policy) (settings : Settings) (es : List Event) (w : World) → IsWorldRun policy settings es w
    → (c : ℕ) (s : Session) → session_at c w.machine ≡ Some s → HasPlace c (turns_of es) w s

-- ---- with no barrier outstanding

-- a hit sends to the controller, or plain evaluation decides as the rule does in the state now
abbrev pub IsRightNow : State → ℕ → Key → Rule → Type 0
IsRightNow m switch k r = IsBarrier r ⊎ ((d : Decision) × (eval_now m switch k ≡ Decided d) × (r.actions ≡ actions_at d switch))

abbrev pub HitsAtRestAreNow : Type 0
HitsAtRestAreNow =
    (policy : Policy) (settings : Settings) (es : List Event) (w : World) → IsWorldRun policy settings es w
    → (c : ℕ) (s : Session) (l : Link) → IsReadyAt c w s l → s.under_way ≡ None
    → (k : Key) (r : Rule) → valid_key k ≡ true → MayChoose l.switch.table k r → IsRightNow w.machine l.switch.dpid k r

-- at a ready session with no barrier outstanding the switch's table is, up to order, exactly the rules of the live traces' tree
abbrev pub TablesAreComplete : Type 0
TablesAreComplete =
    (policy : Policy) (settings : Settings) (es : List Event) (w : World) → IsWorldRun policy settings es w
    → (c : ℕ) (s : Session) (l : Link) → IsReadyAt c w s l → s.under_way ≡ None
    → IsPermutation (rules_of (scratch (live (turns_of es) l.switch.dpid))) l.switch.table

-- ---- what since means

-- it isn't past now, and not before the state in which the target of the update that was acknowledged whole last was aimed at; it is now where no barrier is outstanding
pub record IsSinceWhole (c : ℕ) (ts : List Turn) (m : State) (s : Session) : Type 0 where
  pub until_now : since_of c ts m s ≤ state_number m
  pub whole : whole_of c ts ≤ since_of c ts m s
  pub at_rest : s.under_way ≡ None → since_of c ts m s ≡ state_number m

abbrev pub SinceIsWhole : Type 0
SinceIsWhole =
    (policy : Policy) (settings : Settings) (es : List Event) (w : World) → IsWorldRun policy settings es w
    → (c : ℕ) (s : Session) → session_at c w.machine ≡ Some s → s.ready ≡ true → IsSinceWhole c (turns_of es) w.machine s

-- and while a session is ready it never falls
abbrev pub SinceNeverFalls : Type 0
SinceNeverFalls =
    (policy : Policy) (settings : Settings) (es : List Event) (e : Event) (w : World) → IsWorldRun policy settings (es ++ e ∷ []) w
    → (c : ℕ) (s t : Session) → session_at c e.before.machine ≡ Some s → s.ready ≡ true → session_at c w.machine ≡ Some t → t.ready ≡ true
    → since_of c (turns_of es) e.before.machine s ≤ since_of c (turns_of (es ++ e ∷ [])) w.machine t
