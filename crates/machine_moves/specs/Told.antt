-- What a reply tells of the machine's sessions, jobs, states and policy: who drives the machine knows them by its replies.
use Rattle.std.specs.Prelude.{◌≡◌, ◌⊎◌, ℕ, Bool, true, false, not, ◌&&◌, ◌==◌, List, [], ◌∷◌, Some, None, is_some}
use Rattle.std.specs.List.{list_any}
use Rattle.policy_lang.specs.declared.Policy.{Policy}
use Rattle.tree_prune.specs.Stale.{stale_in}
use Rattle.topo_paths.specs.Scenes.{cell_in}
use Rattle.trace_record.specs.Runs.{Recorded}
use Rattle.machine_steps.specs.declared.entry.Entry.{Entry}
use Rattle.machine_steps.specs.declared.entry.Entry.TheVariants as entries
use Rattle.machine_steps.specs.declared.entry.Input.{Input}
use Rattle.machine_steps.specs.declared.reply.Reply.{Reply}
use Rattle.machine_steps.specs.declared.reply.Reply.TheVariants.{NoMemory, Ended, NewState, Job as JobOpened, Answered, Spent, Overload}
use Rattle.machine_steps.specs.declared.job.Job.{Job}
use Rattle.machine_steps.specs.Machine.{Session, State, policy_number, session_at, state_number, was_opened}
use Rattle.machine_steps.specs.Sound.{IsSound}
use Rattle.machine_steps.specs.Steps.{Steps, item_of}

abbrev pub is_end : Reply → Bool
is_end (Ended end) = true
is_end reply = false

-- the entry may end the session of a connection
abbrev pub may_end : ℕ → Entry → Bool
may_end c (entries.Heard d input) = d == c
may_end c (entries.Gone d fault) = d == c
may_end c entry = false

-- an open session ends where the reply to an entry of its connection tells that, and it stays open at all others
abbrev pub EndsAreTold : Type 0
EndsAreTold =
    (old : State) (entry : Entry) (reply : Reply) (new : State) → IsSound old → Steps old entry reply new
    → (c : ℕ) (s : Session) → session_at c old ≡ Some s → is_some (session_at c new) ≡ not (may_end c entry && is_end reply)

-- a connection is opened, in vain where the reply tells so
pub record IsOpenedNow (c : ℕ) (reply : Reply) (new : State) : Type 0 where
  pub opened : was_opened c new ≡ true
  pub session : is_some (session_at c new) ≡ not (is_end reply)

abbrev pub OpensAreTold : Type 0
OpensAreTold =
    (old : State) (c : ℕ) (reply : Reply) (new : State) → IsSound old → was_opened c old ≡ false → Steps old (entries.Open c) reply new
    → IsOpenedNow c reply new ⊎ ((reply ≡ NoMemory) × (new ≡ old))

-- an entry of this connection, or of a job of it
abbrev pub concerns : ℕ → Entry → State → Bool
concerns c (entries.Open d) m = d == c
concerns c (entries.Heard d input) m = d == c
concerns c (entries.Gone d fault) m = d == c
concerns c (entries.TakeOut d) m = d == c
concerns c (entries.Commit job run) m = list_any (λ (j : Job). j.number == job && j.connection == c) m.jobs
concerns c (entries.Decide job) m = list_any (λ (j : Job). j.number == job && j.connection == c) m.jobs
concerns c entry m = false

-- where no state is made, the sessions of other connections stay as they are
abbrev pub OthersStay : Type 0
OthersStay =
    (old : State) (entry : Entry) (reply : Reply) (new : State) → IsSound old → Steps old entry reply new → state_number new ≡ state_number old
    → (c : ℕ) → concerns c entry old ≡ false → session_at c new ≡ session_at c old

abbrev pub is_new_state : Reply → Bool
is_new_state (NewState state pruned) = true
is_new_state reply = false

-- under a policy that learns no hosts a state is made only where the reply tells so
abbrev pub StatesAreTold : Type 0
StatesAreTold =
    (old : State) (entry : Entry) (reply : Reply) (new : State) → Steps old entry reply new → old.policy.learning ≡ false → is_new_state reply ≡ false
    → state_number new ≡ state_number old

-- another policy is in force behind an accepted one alone
abbrev pub policy_behind : Entry → Reply → Policy → Policy
policy_behind (entries.NewPolicy p) (NewState state pruned) policy = p
policy_behind entry reply policy = policy

abbrev pub PolicyIsTold : Type 0
PolicyIsTold = (old : State) (entry : Entry) (reply : Reply) (new : State) → Steps old entry reply new → new.policy ≡ policy_behind entry reply old.policy

-- ---- jobs

-- no packet waits but one that the reply tells
abbrev pub WaitsAs : ℕ → Reply → List Job → Type 0
WaitsAs c (JobOpened item) jobs = (j : Job) × (jobs ≡ j ∷ []) × (item ≡ item_of j) × (j.connection ≡ c)
WaitsAs c Overload jobs = ⊥
WaitsAs c reply jobs = jobs ≡ []

-- of a connection something is heard while no packet waits
abbrev pub JobsAreTold : Type 0
JobsAreTold =
    (old : State) (c : ℕ) (input : Input) (reply : Reply) (new : State) → old.jobs ≡ [] → Steps old (entries.Heard c input) reply new → WaitsAs c reply new.jobs

abbrev pub is_heard : Entry → Bool
is_heard (entries.Heard c input) = true
is_heard entry = false

-- no other entry lets a packet wait
abbrev pub NoneElseWaits : Type 0
NoneElseWaits = (old : State) (entry : Entry) (reply : Reply) (new : State) → old.jobs ≡ [] → is_heard entry ≡ false → Steps old entry reply new → new.jobs ≡ []

-- a run that was recorded just now for the one packet that waits
pub record IsFresh (job : ℕ) (run : Recorded) (m : State) : Type 0 where
  pub one : Job
  pub waits : m.jobs ≡ one ∷ []
  pub number : one.number ≡ job
  pub switch : one.switch ≡ run.switch
  pub key : one.key ≡ run.key
  pub policy : run.number ≡ policy_number m
  pub cells : stale_in (cell_in m.scene) run.cells ≡ None

abbrev pub is_answer : Reply → Bool
is_answer (Answered decision told) = true
is_answer Spent = true
is_answer reply = false

-- is answered, and then no packet waits
abbrev pub FreshRunsAnswer : Type 0
FreshRunsAnswer =
    (old : State) (job : ℕ) (run : Recorded) (reply : Reply) (new : State) → IsFresh job run old → Steps old (entries.Commit job run) reply new
    → ((is_answer reply ≡ true) × (new.jobs ≡ [])) ⊎ ((reply ≡ NoMemory) × (new ≡ old))
