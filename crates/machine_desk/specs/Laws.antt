-- What follows of the machine's turns while a driver tends to packets that wait.
use Rattle.std.specs.Prelude.{◌≡◌, ℕ, List, [], ◌++◌, length, IsTrue}
use Rattle.history_lock.specs.Histories.{AreAllowed}
use Rattle.machine_steps.specs.Histories.{Leads, Turn}
use Rattle.machine_steps.specs.Sound.{IsSound}
use Rattle.machine_steps.specs.Waiting.{Waiting}
use Rattle.machine_sharing.specs.Sharing.{Allows}
use Rattle.packet_workers.specs.declared.worked.Worked.{Worked}
use Rattle.machine_desk.specs.Desks.{DeskView, calls_of}
use Rattle.machine_desk.specs.declared.tending.Broken.{Broken}
use Rattle.machine_desk.specs.declared.tending.Handed.{Handed}
use Rattle.machine_desk.specs.Tending.{Done, HandsOver, Reaches, Sight, Stops, TakesAndWorks, Until, is_reached}

-- all turns in between, by the driver and by others, were allowed to who doesn't lead
pub record Meanwhile (a b : DeskView) : Type 0 where
  pub turns : List Turn
  pub past : b.past ≡ a.past ++ turns
  pub leads : Leads a.now turns b.now
  pub allowed : AreAllowed Allows (calls_of a.past) (calls_of turns)

-- so they were as a packet was handed over, as one was worked, and as it waited, however that ended
pub record TendingIsAllowed : Type 0 where
  pub hands : (handed : Handed) (item : Waiting) (places : ℕ) (s t : Sight) → HandsOver handed item places s t → Meanwhile s.desk t.desk
  pub works : (worked : Worked) (s t : Sight) → TakesAndWorks worked s t → Meanwhile s.desk t.desk
  pub reaches : (until : Until) (s t : Sight) → Reaches until s t → Meanwhile s.desk t.desk
  pub stops : (until : Until) (why : Broken) (s t : Sight) → Stops until why s t → Meanwhile s.desk t.desk

-- the packets that wait in the machine are few enough: it told how many they are
abbrev pub CountIsOfJobs : Type 0
CountIsOfJobs = (until : Until) (s t : Sight) → Reaches until s t → IsTrue (is_reached until (length t.desk.now.jobs))

-- where none waits others change nothing
abbrev pub NothingIsLeft : Type 0
NothingIsLeft = (s t : Sight) (d : DeskView) → IsSound t.desk.now → Reaches Done s t → Meanwhile t.desk d → (d.now ≡ t.desk.now) × (d.now.jobs ≡ [])
