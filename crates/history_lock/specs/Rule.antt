-- The rule of the table: one legal history stands behind its words. And what each kind of step does to a view and tells its pass.
use Rattle.std.specs.Prelude.{◌≡◌, ℕ, ◌+◌, ◌-◌, ◌^◌, ◌<◌, ◌≤◌, ◌⊎◌, max, if◌then◌else◌, nat_lt, ◌||◌, Bool, true, false, IsTrue, List, [], ◌∷◌, ◌++◌, length, Option, Some, None, box_value}
use Rattle.std.specs.Option.{option_map}
use mathlib.Core.Option.{Option as Maybe, some, none}
use lib.ListN.{get_elem?}
use Rattle.atomic_table.specs.Table.{State, Me, Step}
use Rattle.atomic_table.specs.declared.shared.Seat.{Seat}
use Rattle.std.specs.declared.snapshot.Snapshot.{Snapshot}
use Rattle.history_lock.specs.declared.view.Event.{Event}
use Rattle.history_lock.specs.declared.view.Known.{Known}
use Rattle.history_lock.specs.declared.view.Slot.{Slot}
use Rattle.history_lock.specs.declared.view.Standing.{Standing}
use Rattle.history_lock.specs.declared.view.Standing.TheVariants.{Idle, Looked, Waits, Turn, Recorded}
use Rattle.history_lock.specs.declared.view.View.{View}
use Rattle.history_lock.specs.Histories.{StartsWith, longer, times, once_below, ArePositions, event, Replays, HasSeenLegal, AreAllowed, IsAllowedSince}

-- f of each, added up
abbrev pub total : {V : Type 0} → (V → ℕ) → List V → ℕ
total f [] = 0
total f (v ∷ vs) = f v + total f vs

-- 1 for the pass that leads
abbrev pub leader : Bool → ℕ
leader b = if b then 1 else 0

abbrev pub shorter : {X : Type 0} → List X → List X → List X
shorter a b = if nat_lt (length a) (length b) then a else b

module _ {M : Type 0} where
  -- whether a pass has a ticket that isn't used up
  abbrev pub waiting : Standing M → ℕ
  waiting Idle = 0
  waiting Looked = 0
  waiting (Waits t) = 1
  waiting (Turn t m) = 1
  waiting (Recorded t m) = 0

  -- whether a pass will yet record an entry
  abbrev pub pending : Standing M → ℕ
  pending Idle = 0
  pending Looked = 1
  pending (Waits t) = 1
  pending (Turn t m) = 1
  pending (Recorded t m) = 0

  abbrev pub HasTicket : Standing M → ℕ → Type 0
  HasTicket Idle t = ⊥
  HasTicket Looked t = ⊥
  HasTicket (Waits u) t = u ≡ t
  HasTicket (Turn u m) t = u ≡ t
  HasTicket (Recorded u m) t = u ≡ t

  abbrev pub HasTurn : Standing M → Type 0
  HasTurn Idle = ⊥
  HasTurn Looked = ⊥
  HasTurn (Waits u) = ⊥
  HasTurn (Turn u m) = Unit {0}
  HasTurn (Recorded u m) = Unit {0}

  -- how the stage stands to the machine and the words
  abbrev pub InStep : M → ℕ → ℕ → Standing M → Type 0
  InStep m turn next Idle = Unit {0}
  InStep m turn next Looked = Unit {0}
  InStep m turn next (Waits t) = (turn ≤ t) × (t < next)
  InStep m turn next (Turn t n) = (t ≡ turn) × (t < next) × (n ≡ m)
  InStep m turn next (Recorded t n) = (t ≡ turn) × (t < next) × (n ≡ m)

  abbrev pub look_stage : Bool → Standing M
  look_stage b = if b then Looked else Idle

module _ {M E R : Type 0} where
  -- the machine that lies behind the slot's pointer
  abbrev pub machine_in : Slot M E R → Option M
  machine_in slot = option_map box_value slot.machine

  -- the call that the slot's entry and reply are, with its machine behind it
  abbrev pub call_in : Option M → Option (Snapshot E) → Option (Snapshot R) → List (Event M E R)
  call_in (Some m) (Some e) (Some r) = event e.value r.value m ∷ []
  call_in (Some m) (Some e) None = []
  call_in (Some m) None r = []
  call_in None e r = []

module _ {M E R : Type 0} where
  abbrev pub opened : M → View M E R
  opened m = record { known = record { opening = Some m; seen = []; own = []; number = 0; parts = 1024; leads = true }; told = []; mark = []; stage = Idle }

  abbrev pub staged : View M E R → Standing M → View M E R
  staged v stage = record v { stage = stage }

  abbrev pub reads : View M E R → ℕ → View M E R
  reads v n = record v { known = record (v.known) { number = n }; stage = look_stage (nat_lt n (2 ^ 62)) }

  abbrev pub records : View M E R → List (Event M E R) → Event M E R → Standing M → View M E R
  records v log e stage = record v { known = record (v.known) { seen = log ++ e ∷ []; own = v.known.own ++ length log ∷ [] }; mark = log ++ e ∷ []; stage = stage }

  -- a view cut in two
  abbrev pub less : View M E R → ℕ → View M E R
  less v n = record v { known = record (v.known) { parts = v.known.parts - n } }

  abbrev pub share : View M E R → ℕ → View M E R
  share v n = record { known = record (v.known) { own = []; number = 0; parts = n; leads = false }; told = []; mark = []; stage = Idle }

  -- two views put together. The shorter history stays in `told` until the step behind it has told that the longer begins with it,
  -- and what the one that leads had seen stays in `mark` until that step has told that all since was allowed
  abbrev pub joined : View M E R → View M E R → View M E R
  joined v w = record v {
    known = record {
      opening = v.known.opening;
      seen = longer v.known.seen w.known.seen;
      own = v.known.own ++ w.known.own;
      number = max v.known.number w.known.number;
      parts = v.known.parts + w.known.parts;
      leads = v.known.leads || w.known.leads;
    };
    told = shorter v.known.seen w.known.seen;
    mark = if v.known.leads then v.known.seen else w.known.seen;
  }

  abbrev pub no_view : View M E R
  no_view = record { known = record { opening = None; seen = []; own = []; number = 0; parts = 0; leads = false }; told = []; mark = []; stage = Idle }

  -- the call and the machine of the slot that a pass has
  abbrev pub calls_of : List (ℕ × Slot M E R) → List (Event M E R)
  calls_of [] = []
  calls_of (x ∷ xs) = call_in (machine_in x.1) x.1.entry x.1.reply

  abbrev pub machines_of : List (ℕ × Slot M E R) → Option M
  machines_of [] = None
  machines_of (x ∷ xs) = machine_in x.1

  -- both lists are as before
  abbrev pub IsKept : Known M E R → Known M E R → Type 0
  IsKept old new = (new.seen ≡ old.seen) × (new.own ≡ old.own)

  -- what a pass knows is so
  pub record Knows (opening : M) (log : List (Event M E R)) (known : Known M E R) (told : List (Event M E R)) : Type 0 where
    pub begins : 0 < known.parts → known.opening ≡ Some opening
    pub prefix : StartsWith log known.seen
    pub heard : StartsWith log told
    pub below : (x : ℕ) → length known.seen ≤ x → times x known.own ≡ 0
    pub before : known.number ≤ length log
    pub spent : known.parts ≡ 0 → known.own ≡ []

  -- where a pass is in its call goes with the machine, the words and the slot
  pub record Stands (machine : M) (turn next : ℕ) (home : Maybe (Slot M E R)) (parts : ℕ) (stage : Standing M) : Type 0 where
    pub in_step : InStep machine turn next stage
    pub out : HasTurn stage → home ≡ none
    pub spent : parts ≡ 0 → stage ≡ Idle

  -- the entry is recorded, and the machine lies in the slot that the pass has
  abbrev pub HasRecorded : View M E R → List (ℕ × Slot M E R) → ℕ → Type 0
  HasRecorded v carried ticket =
      (m : M) × (slot : Slot M E R) × (carried ≡ (0, slot) ∷ []) × (v.stage ≡ Recorded ticket m) × (machine_in slot ≡ Some m)

module _ {S M E R : Type 0} where
  -- what the pass of a seat knows
  abbrev pub known_of : Seat S (View M E R) → Known M E R
  known_of s = s.me.0.known

  -- the seat isn't in a call, and no slot is out with it
  abbrev pub IsAtRest : Seat S (View M E R) → Type 0
  IsAtRest s = (s.me.0.stage ≡ Idle) × (s.me.1 ≡ [])

  -- it is as it lies in a pass
  abbrev pub IsFree : Seat S (View M E R) → Type 0
  IsFree s = IsAtRest s × (0 < (known_of s).parts) × ArePositions (length (known_of s).seen) (known_of s).own

abbrev pub Mine : Type 0 → Type 0 → Type 0 → Type 0
Mine M E R = Me (Slot M E R) (View M E R)

module _ {M E R : Type 0} (steps : M → E → R → M → Type 0) where
  -- the machine lies in its slot, or the pass whose turn it is has it
  abbrev pub IsHome : M → List (View M E R) → Maybe (Slot M E R) → Type 0
  IsHome m views home =
      ((slot : Slot M E R) × (home ≡ some slot) × (machine_in slot ≡ Some m))
      ⊎ ((home ≡ none) × (port : ℕ) × (v : View M E R) × (get_elem? views port ≡ some v) × HasTurn v.stage)

  -- what each kind of step tells its pass
  abbrev pub Looks : Step (Slot M E R) → Mine M E R → ℕ → Mine M E R → Type 0
  Looks st me r me' = me' ≡ (reads me.0 r, me.1)

  abbrev pub Draws : Step (Slot M E R) → Mine M E R → ℕ → Mine M E R → Type 0
  Draws st me r me' = (me' ≡ (staged me.0 (Waits r), me.1)) × (r + 1 < 2 ^ 64)

  abbrev pub Hands : Step (Slot M E R) → Mine M E R → ℕ → Mine M E R → Type 0
  Hands st me r me' = me' ≡ (staged me.0 Idle, [])

  -- the pass has its turn, and the machine that it holds has answered
  pub record Answered (v : View M E R) (carried : List (ℕ × Slot M E R)) (ticket : ℕ) (entry : E) (reply : R) : Type 0 where
    pub slot : Slot M E R
    pub before : M
    pub after : M
    pub stage : v.stage ≡ Turn ticket before
    pub carries : carried ≡ (0, slot) ∷ []
    pub is_call : call_in (machine_in slot) slot.entry slot.reply ≡ event entry reply after ∷ []
    pub has : machine_in slot ≡ Some after
    pub stepped : steps before entry reply after

  -- the pass has its turn, and holds the machine, which admits the entry
  pub record Holds (admits : M → E → Type 0) (v : View M E R) (carried : List (ℕ × Slot M E R)) (ticket : ℕ) (entry : E) : Type 0 where
    pub slot : Slot M E R
    pub machine : M
    pub stage : v.stage ≡ Turn ticket machine
    pub carries : carried ≡ (0, slot) ∷ []
    pub has : machine_in slot ≡ Some machine
    pub admitted : admits machine entry

module _ {M E R : Type 0} (steps : M → E → R → M → Type 0) (allows : List (Event M E R) → E → Type 0) where
  -- of the pass that leads all since what it has seen was allowed, and all since its mark
  abbrev pub IsLed : List (Event M E R) → View M E R → Type 0
  IsLed log v = IsTrue v.known.leads → IsAllowedSince allows log v.known.seen × IsAllowedSince allows log v.mark

  -- One legal history stands behind the words. Word 0 is its length, word 1 the next ticket, word 2 the turn
  pub record Kept (opening : M) (s : State (Slot M E R) (View M E R)) : Type 0 where
    pub log : List (Event M E R)
    pub machine : M
    pub next : ℕ
    pub turn : ℕ
    pub home : Maybe (Slot M E R)
    pub words : s.words ≡ length log ∷ next ∷ turn ∷ []
    pub slots : s.homes ≡ home ∷ []
    pub replays : Replays steps opening log machine
    pub is_home : IsHome steps machine s.views home
    pub knows : (port : ℕ) (v : View M E R) → get_elem? s.views port ≡ some v → Knows opening log v.known v.told
    pub stands : (port : ℕ) (v : View M E R) → get_elem? s.views port ≡ some v → Stands machine turn next home v.known.parts v.stage
    pub apart : (i j : ℕ) (u v : View M E R) (t : ℕ) → get_elem? s.views i ≡ some u → get_elem? s.views j ≡ some v
        → HasTicket u.stage t → HasTicket v.stage t → i ≡ j
    pub led : (port : ℕ) (v : View M E R) → get_elem? s.views port ≡ some v → IsLed log v
    pub leaders : total (λ v. leader v.known.leads) s.views ≤ 1
    pub order : turn ≤ next
    pub parts : total (λ v. v.known.parts) s.views ≡ 1024
    pub owners : (x : ℕ) → total (λ v. times x v.known.own) s.views ≡ once_below x (length log)
    pub tickets : next ≤ length log + total (λ v. waiting v.stage) s.views
    pub room : length log + total (λ v. pending v.stage) s.views ≤ 2 ^ 62 + 1024

  -- the machine after some legal history that begins with all that was seen is taken
  pub record Takes (v : View M E R) (t : ℕ) (me' : Mine M E R) : Type 0 where
    pub opening : M
    pub opens : v.known.opening ≡ Some opening
    pub slot : Slot M E R
    pub machine : M
    pub log : List (Event M E R)
    pub later : StartsWith log v.known.seen
    pub legal : Replays steps opening log machine
    pub led : IsTrue v.known.leads → IsAllowedSince allows log v.known.seen
    pub alone : v.known.parts ≡ 1024 → log ≡ v.known.seen
    pub has : machine_in slot ≡ Some machine
    pub mine : me' ≡ (staged v (Turn t machine), (0, slot) ∷ [])

  abbrev pub Turns : Step (Slot M E R) → Mine M E R → ℕ → Mine M E R → Type 0
  Turns st me r me' = (HasTicket me.0.stage r → Takes me.0 r me') × ((HasTicket me.0.stage r → ⊥) → me' ≡ me)

  -- the call of the slot is added to a legal history that begins with all that was seen
  pub record Adds (v : View M E R) (carried : List (ℕ × Slot M E R)) (me' : Mine M E R) : Type 0 where
    pub opening : M
    pub opens : v.known.opening ≡ Some opening
    pub log : List (Event M E R)
    pub call : Event M E R
    pub ticket : ℕ
    pub machine : M
    pub has_ticket : HasTicket v.stage ticket
    pub is_call : calls_of carried ≡ call ∷ []
    pub is_machine : machines_of carried ≡ Some machine
    pub later : StartsWith log v.known.seen
    pub before : M
    pub legal : Replays steps opening log before
    pub led : IsTrue v.known.leads → AreAllowed allows v.known.seen later.0
    pub alone : v.known.parts ≡ 1024 → log ≡ v.known.seen
    pub step : steps before call.entry call.reply call.behind
    pub mine : me' ≡ (records v log call (Recorded ticket machine), carried)

  abbrev pub Writes : Step (Slot M E R) → Mine M E R → ℕ → Mine M E R → Type 0
  Writes st me r me' = Adds me.0 me.1 me'

  -- a longer history begins with the other, it is legal, and the own positions lie below its length, each once. Of the pass that leads all since its mark was allowed
  abbrev pub Compares : Step (Slot M E R) → Mine M E R → ℕ → Mine M E R → Type 0
  Compares st me r me' =
      (me' ≡ me)
      × (length me.0.told ≤ length me.0.known.seen → StartsWith me.0.known.seen me.0.told)
      × (IsTrue me.0.known.leads → length me.0.mark ≤ length me.0.known.seen → IsAllowedSince allows me.0.known.seen me.0.mark)
      × (0 < me.0.known.parts → HasSeenLegal steps me.0.known)
      × ArePositions (length me.0.known.seen) me.0.known.own

  -- a whole turn: the entry with its reply comes behind a legal history that begins with all that was seen
  pub record Acts (v : View M E R) (entry : E) (reply : R) (w : View M E R) : Type 0 where
    pub opening : M
    pub opens : v.known.opening ≡ Some opening
    pub log : List (Event M E R)
    pub later : StartsWith log v.known.seen
    pub before : M
    pub behind : M
    pub legal : Replays steps opening log before
    pub led : IsTrue v.known.leads → AreAllowed allows v.known.seen later.0
    pub alone : v.known.parts ≡ 1024 → log ≡ v.known.seen
    pub step : steps before entry reply behind
    pub after : w ≡ records v log (event entry reply behind) Idle
