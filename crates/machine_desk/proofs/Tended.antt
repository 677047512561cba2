-- What a driver of any kind does with others about packets that wait, and what that leaves of it and of the machine.
use Rattle.std.proofs.Common.{◌≡◌, ◌<◌, ℕ, true, false, arith, refl, sym, ap, ◌∙◌, subst, inl, inr, ◌++◌}
use Rattle.std.specs.Prelude.{Option, None, Some, OnOk, Result, Ok, Err, is_some, nat_lt}
use Rattle.std.specs.FinSet as set
use Rattle.std.specs.Ordering.{nat_cmp}
use Rattle.std.proofs.lemmas.Bool.Decides.{nat_tests}
use Rattle.history_lock.specs.Histories.{Replays}
use Rattle.maple_base.specs.declared.decision.Settings.{Settings}
use Rattle.machine_steps.specs.Machine.{Session, State, most_jobs, session_at, was_opened}
use Rattle.machine_steps.specs.Sound.{IsSound}
use Rattle.machine_steps.specs.Waiting.{Waiting}
use Rattle.machine_steps.specs.declared.entry.Entry.{Entry}
use Rattle.machine_steps.specs.declared.reply.Reply.{Reply}
use Rattle.machine_sharing.specs.Between.{Both, OnlyGrows, Stays}
use Rattle.machine_sharing.specs.Sharing.{Turns}
use Rattle.worker_crew.specs.Takers.{places}
use Rattle.packet_workers.specs.declared.worked.Worked.{Worked}
use Rattle.machine_desk.specs.declared.crew.Crew.{Crew}
use Rattle.machine_desk.specs.declared.tending.Handed.{Handed}
use Rattle.machine_desk.specs.Crews.{BySights, IsCrewStill, SameCrew, sight}
use Rattle.machine_desk.specs.Desks.{DeskView, Footing, calls_of, Enters}
use Rattle.machine_desk.specs.Driving.{DrivingLaws}
use Rattle.machine_desk.specs.Homes.{Attends, AwaitsAll, Beside, Home, IsAlone, IsQuiet, IsSame, IsStaffed, IsTended, MakesRoom, NoneWaits}
use Rattle.machine_desk.specs.Laws.{CountIsOfJobs, Meanwhile, NothingIsLeft, TendingIsAllowed}
use Rattle.machine_desk.specs.Tending.{Done, HandsOver, IsInHand, IsWhole, Reaches, Room, Sight}
use Rattle.machine_desk.specs.Working.{Works}
use Rattle.machine_desk.proofs.Crewed.{crew_then, same_crew, some_crew, still_crew}
use Rattle.machine_desk.proofs.Meanwhile.{none_between, worked_between}
use Rattle.machine_desk.specs.Next.{EntersNext}

-- ---- the same driver

module _ {D : Type 0} (home : Home D) where
  pub same_self : (a : D) → IsSame home a a
  same_self a = record { footing = refl; crew = same_crew (home.crew a) }

  -- where the crew stays as it is
  pub same_by : (a b : D) → home.crew b ≡ home.crew a → (home.desk b).footing ≡ (home.desk a).footing → IsSame home a b
  same_by a b crew footing = record { footing = footing; crew = subst (SameCrew (home.crew a)) (sym crew) (same_crew (home.crew a)) }

  pub same_then : {a b c : D} → IsSame home a b → IsSame home b c → IsSame home a c
  same_then {a} {b} {c} h k = record { footing = k.footing ∙ h.footing; crew = crew_then (home.crew a) (home.crew b) (home.crew c) h.crew k.crew }

  pub alone_on : {a b : D} → IsSame home a b → IsAlone home a → IsAlone home b
  alone_on {a} {b} h alone = some_crew (home.crew a) (home.crew b) h.crew ∙ alone

  pub alone_back : {a b : D} → IsSame home a b → IsAlone home b → IsAlone home a
  alone_back {a} {b} h alone = sym (some_crew (home.crew a) (home.crew b) h.crew) ∙ alone

  pub quiet_on : {a b : D} → IsSame home a b → (NoneWaits (home.desk a) → NoneWaits (home.desk b)) → IsQuiet home a → IsQuiet home b
  quiet_on h jobs (inl alone) = inl (alone_on h alone)
  quiet_on h jobs (inr none) = inr (jobs none)

  -- it still may have its crew
  pub staffed_on : {a b : D} → IsSame home a b → (home.desk b).now.settings ≡ (home.desk a).now.settings → IsStaffed home a → IsStaffed home b
  staffed_on {a} {b} h settings may = record {
    alone = λ none. ap (λ (f : Footing). f.parts) h.footing ∙ may.alone (alone_back h none);
    none = λ solo. alone_on h (may.none (sym (ap (λ (s : Settings). s.workers) settings) ∙ solo));
    is = still_crew (home.crew a) (home.crew b) h.crew may.is;
  }

-- ---- what others leave of the machine

both_some : (R : Session → Session → Type 0) (o p : Option Session) → Both R o p → is_some p ≡ is_some o
both_some R None None h = refl
both_some R (Some s) (Some t) h = refl
both_some R None (Some t) h = absurd h
both_some R (Some s) None h = absurd h

module _ (laws : DrivingLaws) {a b : DeskView} (sound : IsSound a.now) (h : Meanwhile a b) where
  replays : Replays Turns a.now (calls_of h.turns) b.now
  replays = (laws.calls a.now h.turns b.now sound h.leads).replays

  pub stays_between : Stays a.now b.now
  stays_between = laws.stays (calls_of a.past) (calls_of h.turns) a.now b.now replays h.allowed

  pub sound_between : IsSound b.now
  sound_between = laws.legal a.now (calls_of h.turns) b.now sound replays

  pub live_between : (c : ℕ) → is_some (session_at c b.now) ≡ is_some (session_at c a.now)
  live_between c = both_some OnlyGrows (session_at c a.now) (session_at c b.now) (stays_between.found c).0

  pub opened_between : (c : ℕ) → was_opened c b.now ≡ was_opened c a.now
  opened_between c = ap (λ (s : set.FinSet nat_cmp). set.contains s c) stays_between.opened

  -- where no packet waits they change nothing
  pub frozen_between : NoneWaits a → b.now ≡ a.now
  frozen_between none = laws.nothing (calls_of a.past) (calls_of h.turns) a.now b.now none replays h.allowed

  pub none_waits_between : NoneWaits a → NoneWaits b
  none_waits_between none = ap (λ (m : State). m.jobs) (frozen_between none) ∙ none

-- ---- an entry behind what they did

module _ {e : Entry} {r : Reply} {a b : DeskView} (h : Enters a e r b) where
  -- what the desk knows ahead of it
  abbrev pub ahead : DeskView
  ahead = record a { past = a.past ++ h.others; now = h.between }

  abbrev pub meanwhile_ahead : Meanwhile a ahead
  meanwhile_ahead = record { turns = h.others; past = refl; leads = h.meanwhile; allowed = h.allowed }

  pub enters_next : EntersNext e r ahead b
  enters_next = record { made = h.made; past = h.past; footing = h.footing }

-- ---- with others

few : {n : ℕ} → nat_lt n most_jobs ≡ true → n < most_jobs
few told = grind (arith, nat_tests)

no_sights : (R : ℕ → Sight → Sight → Type 0) (a b : DeskView) (c d : Option Crew) → is_some c ≡ false → BySights R a b c d
no_sights R a b None d none = tt
no_sights R a b (Some c) d none = absurd (cc)

module _ {D : Type 0} (home : Home D) (old new : D) (rest : new ≡ home.moved old (home.desk new) (home.crew new))
    (footing : (home.desk new).footing ≡ (home.desk old).footing) where
  -- beside a crew, whose pass alone changed
  module _ (c d : Crew) (is : home.crew old ≡ Some c) (now : home.crew new ≡ Some d) (still : IsCrewStill c d) where
    beside : IsAlone home old → ⊥
    beside none = (let f : true ≡ false = sym (ap is_some is) ∙ none in cc)

    tends : Meanwhile (home.desk old) (home.desk new) → IsTended home old new
    tends meanwhile = record {
      meanwhile = meanwhile;
      rest = rest;
      same = record { footing = footing; crew = subst (λ o. SameCrew o (home.crew new)) (sym is) (subst (SameCrew (Some c)) (sym now) still) };
    }

    -- of these crews it holds of what is known by their passes
    sights : (R : ℕ → Sight → Sight → Type 0) → R (places c.jobs.now) (sight (home.desk old) c) (sight (home.desk new) d) → Beside home R old new
    sights R r =
        subst (λ (o : Option Crew). BySights R (home.desk old) (home.desk new) o (home.crew new)) (sym is)
        (subst (λ (o : Option Crew). BySights R (home.desk old) (home.desk new) (Some c) o) (sym now) r)

    pub room_by : TendingIsAllowed → CountIsOfJobs → Reaches Room (sight (home.desk old) c) (sight (home.desk new) d) → MakesRoom home old new
    room_by allowed count r = record {
      tends = tends (allowed.reaches Room (sight (home.desk old) c) (sight (home.desk new) d) r);
      alone = λ none. absurd (beside none);
      room = inr (few (count Room (sight (home.desk old) c) (sight (home.desk new) d) r));
      asked = sights (λ n s t. Reaches Room s t) r;
    }

    module _ (laws : DrivingLaws) (allowed : TendingIsAllowed) (left : NothingIsLeft) (sound : IsSound (home.desk old).now)
        (r : Reaches Done (sight (home.desk old) c) (sight (home.desk new) d)) where
      meanwhile : Meanwhile (home.desk old) (home.desk new)
      meanwhile = allowed.reaches Done (sight (home.desk old) c) (sight (home.desk new) d) r

      pub done_none : NoneWaits (home.desk new)
      done_none = (left (sight (home.desk old) c) (sight (home.desk new) d) (home.desk new) (sound_between laws sound meanwhile) r (none_between (home.desk new))).1

      pub done_by : AwaitsAll home old new
      done_by = record { tends = tends meanwhile; alone = λ none. absurd (beside none); none = inr done_none; asked = sights (λ n s t. Reaches Done s t) r }

  -- alone
  module _ (alone : IsAlone home old) (crew : home.crew new ≡ home.crew old) (item : Waiting) (worked : Worked) (works : Works item worked (home.desk old) (home.desk new)) where
    pub worked_alone : IsWhole worked → Attends home item old new
    worked_alone whole = record {
      tends = record { meanwhile = worked_between item worked (home.desk old) (home.desk new) works; rest = rest; same = same_by home old new crew footing };
      alone = λ none. record { worked = worked; works = works; whole = whole };
      hands = no_sights (λ n s t. (handed : Handed) × HandsOver handed item n s t × IsInHand handed) (home.desk old) (home.desk new) (home.crew old) (home.crew new) alone;
    }

    -- if it was worked to the end
    pub attends_alone : {X Y : Type 0} (r : Result X Y) → OnOk r (IsWhole worked) → OnOk r (Attends home item old new)
    attends_alone (Ok x) whole = worked_alone whole
    attends_alone (Err y) whole = tt

-- where nothing is done
module _ {D : Type 0} (home : Home D) (driver : D) (rest : driver ≡ home.moved driver (home.desk driver) (home.crew driver)) where
  pub tends_still : IsTended home driver driver
  tends_still = record { meanwhile = none_between (home.desk driver); rest = rest; same = same_self home driver }

  pub room_alone : IsAlone home driver → MakesRoom home driver driver
  room_alone none = record {
    tends = tends_still;
    alone = λ alone. refl;
    room = inl none;
    asked = no_sights (λ n s t. Reaches Room s t) (home.desk driver) (home.desk driver) (home.crew driver) (home.crew driver) none;
  }

  pub done_alone : IsAlone home driver → AwaitsAll home driver driver
  done_alone none = record {
    tends = tends_still;
    alone = λ alone. refl;
    none = inl none;
    asked = no_sights (λ n s t. Reaches Done s t) (home.desk driver) (home.desk driver) (home.crew driver) (home.crew driver) none;
  }
