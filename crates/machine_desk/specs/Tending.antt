-- What a driver does about packets that wait: it asks the machine how many do, sleeps, and works some of them that it takes from the queue.
use Rattle.std.specs.Prelude.{◌≡◌, ◌==◌, ◌⊎◌, ℕ, nat_lt, Bool, true, false, IsFalse, IsTrue, List, [], ◌∷◌, Ok, Err}
use Rattle.crossbeam_queue.specs.Fifo.{Held}
use Rattle.machine_steps.specs.declared.entry.Entry.TheVariants.{OpenJobs}
use Rattle.machine_steps.specs.declared.reply.Reply.TheVariants.{Count}
use Rattle.machine_steps.specs.Machine.{most_jobs}
use Rattle.machine_steps.specs.Waiting.{Waiting}
use Rattle.worker_crew.specs.declared.gave_up.GaveUp.{GaveUp}
use Rattle.worker_crew.specs.declared.gave_up.GaveUp.TheVariants.{NoMemory, Worn}
use Rattle.worker_crew.specs.declared.rule.Account.{Account}
use Rattle.worker_crew.specs.Accounts.{HasLeft, OffersOne, Stood, TakesOne}
use Rattle.worker_crew.specs.Takers.{Taker, account}
use Rattle.worker_crew.specs.Tasks.{Worked as Told}
use Rattle.packet_workers.specs.declared.worked.Worked.{Worked}
use Rattle.packet_workers.specs.declared.worked.Worked.TheVariants as how
use Rattle.packet_workers.specs.Crewing.{told_as}
use Rattle.machine_desk.specs.Desks.{DeskView, Enters, WearsOut}
use Rattle.machine_desk.specs.Working.{Works}
use Rattle.machine_desk.specs.declared.tending.Broken.{Broken}
use Rattle.machine_desk.specs.declared.tending.Broken.TheVariants.{Own, Worker}
use Rattle.machine_desk.specs.declared.tending.Handed.{Handed}
use Rattle.machine_desk.specs.declared.tending.Handed.TheVariants.{Queued, Worked as WorkedAtOnce}

-- what a driver knows: of the machine by its desk, of the queue by its pass
pub record Sight : Type 0 where
  pub desk : DeskView
  pub queue : Account Waiting

abbrev pub at : DeskView → Taker Waiting → Sight
at desk taker = record { desk = desk; queue = account taker }

-- ---- a packet

-- the rule allowed a queue of so many packets at a step of the call; a pass with all parts offered these and took none of them
pub record Holds (count : ℕ) (queue : Account Waiting) : Type 0 where
  pub held : Held count (λ (items : List Waiting). Stood queue items)
  pub left : queue.parts ≡ 1024 → HasLeft count queue

abbrev pub IsEmptyFor : Account Waiting → Type 0
IsEmptyFor queue = Holds 0 queue

-- it was put at the end of the queue; or the queue was full, and it was worked
abbrev pub HandsOver : Handed → Waiting → ℕ → Sight → Sight → Type 0
HandsOver Queued item places s t = OffersOne s.queue item t.queue × (t.desk ≡ s.desk)
HandsOver (WorkedAtOnce worked) item places s t = Holds places s.queue × (t.queue ≡ s.queue) × Works item worked s.desk t.desk

-- the work on a packet came to its end
abbrev pub IsWhole : Worked → Type 0
IsWhole how.NoMemory = ⊥
IsWhole how.Worn = ⊥
IsWhole worked = Unit {0}

-- it was worked so, to the end
pub record IsWorked (item : Waiting) (a b : DeskView) : Type 0 where
  pub worked : Worked
  pub works : Works item worked a b
  pub whole : IsWhole worked

-- it is in the queue, or was worked to the end
abbrev pub IsInHand : Handed → Type 0
IsInHand Queued = Unit {0}
IsInHand (WorkedAtOnce worked) = IsWhole worked

-- one was taken from the queue, and this came of the work on it
pub record TakesAndWorks (worked : Worked) (s t : Sight) : Type 0 where
  pub item : Waiting
  pub takes : TakesOne s.queue item t.queue
  pub works : Works item worked s.desk t.desk

-- the same, by what is told of the work: memory sufficed and the hall had room, or which of these failed
pub record WorksSo (told : Told) (s t : Sight) : Type 0 where
  pub worked : Worked
  pub makes : TakesAndWorks worked s t
  pub told_is : told_as worked ≡ told

-- ---- rounds

-- until when it waits: until the machine takes a further packet in, or until none waits
pub data Until : Type 0 where
  Room : Until
  Done : Until

-- whether these are few enough
abbrev pub is_reached : Until → ℕ → Bool
is_reached Room count = nat_lt count most_jobs
is_reached Done count = count == 0

-- it asked, and so many packets wait
pub record Asks (count : ℕ) (s t : Sight) : Type 0 where
  pub enters : Enters s.desk OpenJobs (Count count) t.desk
  pub queue : t.queue ≡ s.queue

-- it asked, and too many wait
pub record AsksInVain (until : Until) (s t : Sight) : Type 0 where
  pub count : ℕ
  pub asks : Asks count s t
  pub more : IsFalse (is_reached until count)

-- where it may sleep: for room, only where the queue had no packet for it; for all, anywhere, though it is meant to sleep beside packets only where workers are
abbrev pub MaySleep : Until → Account Waiting → Type 0
MaySleep Room queue = IsEmptyFor queue
MaySleep Done queue = Unit {0}

-- whether it took a packet and worked it, which went well; where it didn't it may sleep
abbrev pub GoesOn : Until → Bool → Sight → Sight → Type 0
GoesOn until true s t = WorksSo (Ok tt) s t
GoesOn until false s t = (t ≡ s) × MaySleep until s.queue

-- it asked in vain, and went on so
pub record Round (until : Until) (s t : Sight) : Type 0 where
  pub asked : Sight
  pub asks : AsksInVain until s asked
  pub works : Bool
  pub goes_on : GoesOn until works asked t

-- one behind the other, each with what was known behind it
abbrev pub Rounds : Until → List Sight → Sight → Sight → Type 0
Rounds until [] s t = t ≡ s
Rounds until (m ∷ ms) s t = Round until s m × Rounds until ms m t

pub record Tends (until : Until) (s t : Sight) : Type 0 where
  pub behind : List Sight
  pub rounds : Rounds until behind s t

-- some rounds, and then it asked, and few enough wait
pub record Reaches (until : Until) (s t : Sight) : Type 0 where
  pub before : Sight
  pub tends : Tends until s before
  pub count : ℕ
  pub asks : Asks count before t
  pub reached : IsTrue (is_reached until count)

-- ---- why it stops

-- it asked a worn hall
abbrev pub FailsToAsk : GaveUp → Sight → Sight → Type 0
FailsToAsk Worn s t = WearsOut s.desk t.desk × (t.queue ≡ s.queue)
FailsToAsk NoMemory s t = ⊥

-- it asked in vain, and then the work on a packet that it took failed so
pub record FailsToWork (until : Until) (cause : GaveUp) (s t : Sight) : Type 0 where
  pub asked : Sight
  pub asks : AsksInVain until s asked
  pub works : WorksSo (Err cause) asked t

-- some rounds, and then one of these
pub record StopsBy (until : Until) (cause : GaveUp) (s t : Sight) : Type 0 where
  pub before : Sight
  pub tends : Tends until s before
  pub fails : FailsToAsk cause before t ⊎ FailsToWork until cause before t

-- some rounds, and then it asked in vain, and slept as it may
pub record StopsAsleep (until : Until) (s t : Sight) : Type 0 where
  pub before : Sight
  pub tends : Tends until s before
  pub asks : AsksInVain until before t
  pub sleeps : MaySleep until t.queue

-- who is told that a worker gave up so: where that was at a worn hall it asks once more
abbrev pub BreaksBy : GaveUp → Broken → DeskView → DeskView → Type 0
BreaksBy NoMemory why a b = (why ≡ Worker NoMemory) × (b ≡ a)
BreaksBy Worn (Own cause) a b = (cause ≡ Worn) × WearsOut a b
BreaksBy Worn (Worker cause) a b = (cause ≡ Worn) × (count : ℕ) × Enters a OpenJobs (Count count) b

-- then it was told that a worker gave up so; where that was at a worn hall it asked once more itself, and the hall had room for that
abbrev pub StopsBeside : Until → GaveUp → Sight → Sight → Type 0
StopsBeside until NoMemory s t = StopsAsleep until s t
StopsBeside until Worn s t = (asleep : Sight) × StopsAsleep until s asleep × (count : ℕ) × Asks count asleep t

-- by itself; or it was told so of a worker: of that nothing is known here
abbrev pub Stops : Until → Broken → Sight → Sight → Type 0
Stops until (Own cause) s t = StopsBy until cause s t
Stops until (Worker cause) s t = StopsBeside until cause s t
