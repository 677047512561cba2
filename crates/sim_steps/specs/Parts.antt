-- What a script asks for, and which deeds follow it: a part of the deeds a line.
use Rattle.std.specs.Prelude.{◌≡◌, ◌⊎◌, ℕ, ◌+◌, ◌≤◌, ◌<◌, Bool, true, false, not, if◌then◌else◌, filter, List, [], ◌∷◌, ◌++◌, Option, Some, None}
use Rattle.std.specs.List.{AllByRecursion}
use Rattle.maple_base.specs.declared.device.Turned.{Turned}
use Rattle.maple_base.specs.declared.device.Turned.TheVariants.{Processed, Refused as RefusedChange}
use Rattle.maple_base.specs.declared.device.Seen.{Seen}
use Rattle.policy_lang.specs.declared.Policy.{Policy}
use Rattle.policy_text.specs.declared.reading.ReadError.TheVariants.{Refused}
use Rattle.policy_text.specs.Texts.{IsTextOf, IsRefused}
use Rattle.of10_stream.specs.Cut.{IsOpen}
use Rattle.of10_stream.specs.Steps.{Stream}
use Rattle.device_port.specs.Devices.Call.{Offered, Turning, Looking}
use Rattle.machine_steps.specs.declared.entry.Entry.{Entry}
use Rattle.machine_steps.specs.declared.entry.Entry.TheVariants as entries
use Rattle.machine_steps.specs.declared.note.Note.{Note}
use Rattle.machine_steps.specs.declared.note.Note.TheVariants as notes
use Rattle.machine_steps.specs.declared.reply.Reply.{Reply}
use Rattle.machine_steps.specs.Machine.{was_opened}
use Rattle.world_steps.specs.Worlds.{lacks_memory}
use Rattle.script_text.specs.Orders.{Order}
use Rattle.script_text.specs.Orders.Order.{Nothing, Plug, Unplug, Arrival, Turn, Settle, Change, NewPolicy, Rules}
use Rattle.sim_steps.specs.Benches.{Slot, Bench, IsPluggedAt, IsSolo, is_plugged}
use Rattle.sim_steps.specs.Deeds.{Deed, Event, Runs, entry_in, has_failed, reply_in}
use Rattle.sim_steps.specs.Deeds.Deed.{Enters, Calls}
use Rattle.sim_steps.specs.Ends.{IsStillFor}

-- ---- the deeds that orders ask for themselves; all others carry messages, answer packets, or tell that a device failed

abbrev pub asks : Entry → Bool
asks (entries.Open c) = true
asks (entries.Gone c fault) = not fault
asks (entries.Change update) = true
asks (entries.NewPolicy policy) = true
asks (entries.ReadRules switch) = true
asks (entries.Note note) = true
asks entry = false

abbrev pub is_asked : Deed → Bool
is_asked (Enters entry reply) = asks entry
is_asked (Calls c (Offered bytes took) reply) = false
is_asked (Calls c call reply) = true

abbrev pub asked_of : List Event → List Event
asked_of es = filter (λ (e : Event). is_asked e.deed) es

-- ---- one deed

abbrev pub JustEnters : Entry → List Event → Type 0
JustEnters entry es = (e : Event) × (reply : Reply) × (es ≡ e ∷ []) × (e.deed ≡ Enters entry reply)

abbrev pub JustNotes : Note → List Event → Type 0
JustNotes note es = JustEnters (entries.Note note) es

abbrev pub JustLooks : ℕ → ℕ → List ℕ → List Event → Type 0
JustLooks c port frame es =
    (e : Event) × (seen : Seen) × (bytes : List ℕ) × (reply : Reply) × (es ≡ e ∷ []) × (e.deed ≡ Calls c (Looking port frame seen bytes) reply)

-- ---- turns

-- a turn was taken that dealt with a message
abbrev pub has_dealt : Turned → ℕ
has_dealt (Processed xid) = 1
has_dealt (RefusedChange xid) = 1
has_dealt turned = 0

abbrev pub dealt_in : Deed → ℕ
dealt_in (Calls c (Turning turned bytes) reply) = has_dealt turned
dealt_in deed = 0

abbrev pub turns_taken : List Event → ℕ
turns_taken [] = 0
turns_taken (e ∷ es) = dealt_in e.deed + turns_taken es

-- a turn of the device at this place
abbrev pub IsTurnAt : ℕ → Event → Type 0
IsTurnAt c e = (turned : Turned) × (bytes : List ℕ) × (reply : Reply) × (e.deed ≡ Calls c (Turning turned bytes) reply)

-- no message waits in the device, or it was left
abbrev pub IsExhausted : ℕ → Bench → Type 0
IsExhausted c b = (s : Slot) → IsPluggedAt c b s → s.device.pending ≡ []

-- at most so many turns of one device, and fewer only where no message of it is left as that is told
pub record TakesTurns (c n : ℕ) (es : List Event) : Type 0 where
  pub turns : List Event
  pub note : Event
  pub parts : es ≡ turns ++ note ∷ []
  pub all : AllByRecursion (IsTurnAt c) turns
  pub most : turns_taken turns ≤ n
  pub fewer : turns_taken turns < n → IsExhausted c note.before
  pub reply : Reply
  pub told : note.deed ≡ Enters (entries.Note (notes.TurnedAll c (turns_taken turns))) reply

-- a message waits in a plugged device
pub record HasPending (c : ℕ) (b : Bench) : Type 0 where
  pub slot : Slot
  pub is : IsPluggedAt c b slot
  pub some : slot.device.pending ≡ [] → ⊥

-- a turn of the device at the lowest place where a message waits
pub record IsLowestTurn (e : Event) : Type 0 where
  pub place : ℕ
  pub turn : IsTurnAt place e
  pub pends : HasPending place e.before
  pub lowest : (c : ℕ) → c < place → HasPending c e.before → ⊥

-- the most turns of one `settle`
abbrev pub most_turns : ℕ
most_turns = 100000

-- no message waits any more as that is told, or the turns are used up and one does
abbrev pub EndsSettling : ℕ → Note → Bench → Type 0
EndsSettling taken note b =
    ((note ≡ notes.Settled taken) × ((c : ℕ) → HasPending c b → ⊥))
    ⊎ ((taken ≡ most_turns) × (note ≡ notes.Unsettled taken) × (c : ℕ) × HasPending c b)

pub record Settles (es : List Event) : Type 0 where
  pub turns : List Event
  pub note : Event
  pub parts : es ≡ turns ++ note ∷ []
  pub all : AllByRecursion IsLowestTurn turns
  pub most : turns_taken turns ≤ most_turns
  pub said : Note
  pub ends : EndsSettling (turns_taken turns) said note.before
  pub reply : Reply
  pub told : note.deed ≡ Enters (entries.Note said) reply

-- ---- orders

-- the entry that is made with the text of a new policy: the policy is put in force, or the text is of none, and where and why is told
abbrev pub RenewsBy : List ℕ → (Entry → Type 0) → Type 0
RenewsBy text Makes =
    ((policy : Policy) × IsTextOf policy text × Makes (entries.NewPolicy policy))
    ⊎ ((line column kind : ℕ) × IsRefused text (Refused line column kind) × Makes (entries.Note (notes.PolicyRefused line column kind)))

-- that entry alone is made
abbrev pub Renews : List ℕ → List Event → Type 0
Renews text es = RenewsBy text (λ (entry : Entry). JustEnters entry es)

-- where there is no open session at a place, that alone is told
abbrev pub IfPlugged : Bool → ℕ → List Event → Type 0 → Type 0
IfPlugged true c es Follows = Follows
IfPlugged false c es Follows = JustNotes (notes.Absent c) es

-- plugged already; left; or opened now
abbrev pub PlugsBy : Bool → Bool → ℕ → List Event → Type 0
PlugsBy true opened c es = JustNotes (notes.Present c) es
PlugsBy false true c es = JustNotes (notes.GoneAlready c) es
PlugsBy false false c es = JustEnters (entries.Open c) es

-- the deeds that an order asks for itself, behind this bench
abbrev pub Obeys : Order → Bench → List Event → Type 0
Obeys Nothing a es = es ≡ []
Obeys (Plug c) a es = PlugsBy (is_plugged c a.machine) (was_opened c a.machine) c es
Obeys (Unplug c) a es = IfPlugged (is_plugged c a.machine) c es (JustEnters (entries.Gone c false) es)
Obeys (Arrival c port frame) a es = IfPlugged (is_plugged c a.machine) c es (JustLooks c port frame es)
Obeys (Turn c n) a es = IfPlugged (is_plugged c a.machine) c es (TakesTurns c n es)
Obeys Settle a es = Settles es
Obeys (Change update) a es = JustEnters (entries.Change update) es
Obeys (NewPolicy text) a es = Renews text es
Obeys (Rules switch) a es = JustEnters (entries.ReadRules switch) es

-- ---- parts

-- the place at which the device has just failed
abbrev pub failed_in : Deed → Option ℕ
failed_in (Calls c call reply) = if has_failed call then Some c else None
failed_in deed = None

abbrev pub IsFault : Deed → Type 0
IsFault deed = (c : ℕ) × (reply : Reply) × (deed ≡ Enters (entries.Gone c true) reply)

-- entries that who works beside who drives may make at any moment
abbrev pub is_shared : Entry → Bool
is_shared entries.ReadPolicy = true
is_shared (entries.ReadCell cell) = true
is_shared entries.OpenJobs = true
is_shared (entries.Commit job run) = true
is_shared (entries.Decide job) = true
is_shared entry = false

-- where somebody works beside, such a deed may stand between any two of who drives
pub record IsBeside (e : Event) : Type 0 where
  pub shared : is_shared (entry_in e.deed) ≡ true
  pub beside : IsSolo e.before.machine → ⊥

-- the session of this place ends by a fault
abbrev pub EndsByFault : ℕ → Deed → Type 0
EndsByFault c deed = (reply : Reply) × (deed ≡ Enters (entries.Gone c true) reply)

-- a session ends by a fault directly behind a call in which its device failed, but for what others do between, and nowhere else
abbrev pub FaultsEnd : Option ℕ → List Event → Type 0
FaultsEnd None [] = Unit {0}
FaultsEnd (Some c) [] = ⊥
FaultsEnd None (e ∷ es) = (IsFault e.deed → ⊥) × FaultsEnd (failed_in e.deed) es
FaultsEnd (Some c) (e ∷ es) = (EndsByFault c e.deed × FaultsEnd None es) ⊎ (IsBeside e × FaultsEnd (Some c) es)

-- nothing more is heard of a stream: it shows no whole message, and no fault
pub record IsHeardOut (s : Stream) : Type 0 where
  pub unbroken : s.broken ≡ None
  pub open_end : IsOpen s.rest

-- all that was taken out for a plugged place was offered, and all that came from there was heard
pub record IsCalm (b : Bench) : Type 0 where
  pub offered : (c : ℕ) (s : Slot) → IsPluggedAt c b s → s.to ≡ []
  pub heard : (c : ℕ) (s : Slot) → IsPluggedAt c b s → IsHeardOut s.from

-- and no packet waits for an answer, and all that the machine has for a plugged place was taken out
pub record IsStill (b : Bench) : Type 0 where
  pub machine : IsStillFor (λ (c : ℕ). is_plugged c b.machine ≡ true) b.machine
  pub calm : IsCalm b

-- runs of the policy and what ends them
abbrev pub is_of_run : Entry → Bool
is_of_run entries.ReadPolicy = true
is_of_run (entries.Commit job run) = true
is_of_run (entries.Decide job) = true
is_of_run entry = false

-- memory doesn't run out in a deed, but for a run where somebody works beside
pub record MayLack (e : Event) : Type 0 where
  pub run : is_of_run (entry_in e.deed) ≡ true
  pub beside : IsSolo e.before.machine → ⊥

abbrev pub HadMemory : Event → Type 0
HadMemory e = lacks_memory (reply_in e.deed) ≡ true → MayLack e

-- it is told how a `settle` ended
abbrev pub tells_settling : Deed → Bool
tells_settling (Enters (entries.Note (notes.Settled taken)) reply) = true
tells_settling (Enters (entries.Note (notes.Unsettled taken)) reply) = true
tells_settling deed = false

-- ahead of a deed that an order asks for all that the ones before it brought about is done; where somebody works beside, ahead of what tells how a `settle`
-- ended
abbrev pub IsDrained : Event → Type 0
IsDrained e = IsSolo e.before.machine ⊎ (tells_settling e.deed ≡ true) → IsStill e.before

-- a place is heard while all that was taken out for it was offered, and, unless somebody works beside, while no packet waits
abbrev pub HearsInOrder : Deed → Bench → Type 0
HearsInOrder (Enters (entries.Heard c input) reply) b =
    (IsSolo b.machine → b.machine.jobs ≡ []) × ((s : Slot) → IsPluggedAt c b s → s.to ≡ [])
HearsInOrder deed b = Unit {0}

abbrev pub IsInOrder : Event → Type 0
IsInOrder e = HearsInOrder e.deed e.before

-- the part of an order
pub record IsPart (o : Order) (a : Bench) (es : List Event) (b : Bench) : Type 0 where
  pub runs : Runs a es b
  pub obeys : Obeys o a (asked_of es)
  pub drained : AllByRecursion IsDrained (asked_of es)
  pub in_order : AllByRecursion IsInOrder es
  pub memory : AllByRecursion HadMemory es
  pub faults : FaultsEnd None es
  pub calm : IsCalm b
  pub still : IsSolo b.machine → IsStill b

-- the deeds follow these orders, part by part; behind them packets may be answered, and the report taken
abbrev pub Follows : List Order → Bench → List Event → Bench → Type 0
Follows [] a es b = IsPart Nothing a es b
Follows (o ∷ os) a es b = (part rest : List Event) × (between : Bench) × (es ≡ part ++ rest) × IsPart o a part between × Follows os between rest b
