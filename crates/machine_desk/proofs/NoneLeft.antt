-- A packet that alone waits, and is worked to the end by who has nobody beside, waits no more.
use Rattle.std.proofs.Common.{◌≡◌, Bool, true, false, List, [], ◌∷◌, refl, sym, ap, ◌∙◌, subst, arith}
use Rattle.std.specs.Prelude.{Contains, filter}
use Rattle.history_lock.specs.Histories.{state_behind}
use Rattle.machine_steps.specs.declared.job.Job.{Job}
use Rattle.machine_steps.specs.Histories.{Leads, Turn}
use Rattle.machine_steps.specs.Machine.{State}
use Rattle.machine_steps.specs.Sound.{IsSound}
use Rattle.machine_steps.specs.Steps.{item_of}
use Rattle.machine_steps.specs.Waiting.{Waiting}
use Rattle.packet_workers.specs.declared.worked.Worked.{Worked}
use Rattle.packet_workers.specs.declared.worked.Worked.TheVariants.{NoMemory, Worn}
use Rattle.packet_workers.specs.Rounds.{HasNoJob, IsClosedBy}
use Rattle.machine_desk.specs.Desks.{DeskView, calls_of}
use Rattle.machine_desk.specs.Driving.{DrivingLaws}
use Rattle.machine_desk.specs.Homes.{NoneWaits}
use Rattle.machine_desk.specs.Tending.{IsWhole, IsWorked}
use Rattle.machine_desk.proofs.Meanwhile.{worked_between}
use Rattle.machine_desk.proofs.Tended.{stays_between}

last_behind : (m : State) (ts : List Turn) (n : State) → Leads m ts n → state_behind m (calls_of ts) ≡ n
last_behind m [] n e = sym e
last_behind m (t ∷ ts) n (same, turn, rest) = last_behind t.behind ts n rest

closed : (item : Waiting) (m : State) (worked : Worked) → IsWhole worked → IsClosedBy worked item m → HasNoJob item m
closed item m NoMemory whole none = absurd whole
closed item m Worn whole none = absurd whole
closed item m worked whole none = none

-- what is left of it, where no open job is the packet's
none_left : (j : Job) (m : State) (left : Job → Bool) → HasNoJob (item_of j) m → m.jobs ≡ filter left (j ∷ []) → m.jobs ≡ []
none_left j m left none e = go (left j) refl
  where
    go : (b : Bool) → left j ≡ b → m.jobs ≡ []
    go false is = e ∙ rw is refl
    go true is =
        (let same : m.jobs ≡ j ∷ [] = e ∙ rw is refl in
        absurd (none j (record { there = subst (λ (xs : List Job). Contains xs j) (sym same) (0, omega arith, refl); number = refl; switch = refl; key = refl })))

module _ (laws : DrivingLaws) (item : Waiting) (j : Job) (a b : DeskView) (sound : IsSound a.now) (alone : a.footing.parts ≡ 1024) (waits : a.now.jobs ≡ j ∷ [])
    (its : item ≡ item_of j) (w : IsWorked item a b) where
  last : state_behind a.now w.works.calls ≡ b.now
  last = ap (state_behind a.now) (sym (w.works.alone alone)) ∙ last_behind a.now w.works.turns b.now w.works.meanwhile

  none : HasNoJob item b.now
  none = closed item b.now w.worked w.whole (subst (IsClosedBy w.worked item) last (laws.close item a.now.settings.budget 3 w.works.calls w.worked a.now w.works.rounds))

  pub answered : NoneWaits b
  answered =
      (let stays = stays_between laws sound (worked_between item w.worked a b w.works) in
      none_left j b.now stays.jobs.0 (subst (λ (x : Waiting). HasNoJob x b.now) its none) (stays.jobs.1 ∙ ap (filter stays.jobs.0) waits))
