-- What the driver does with others about packets that wait, and what that leaves.
use Rattle.std.proofs.Common.{arith, ◌≡◌, ℕ, ◌<◌, Bool, true, false, List, [], length, append-nil, refl, sym, ap, ◌∙◌, subst, inl, inr}
use Rattle.std.proofs.lemmas.Bool.Decides.{nat_tests}
use Rattle.std.specs.Prelude.{Option, None, Some, is_some}
use Rattle.std.specs.List.{slice_get}
use Rattle.sim_channels.specs.declared.channel.Channel.{Channel}
use Rattle.machine_desk.specs.Homes.{rest_of}
use Rattle.device_port.specs.Devices.{Meaning}
use Rattle.machine_steps.specs.Machine.{session_at}
use Rattle.machine_steps.specs.Sound.{IsSound}
use Rattle.machine_steps.specs.Waiting.{Waiting}
use Rattle.worker_crew.specs.Takers.{places}
use Rattle.packet_workers.specs.declared.worked.Worked.{Worked}
use Rattle.machine_desk.specs.Desks.{DeskView}
use Rattle.machine_desk.specs.Working.{Works}
use Rattle.machine_desk.specs.Hearing.{came_of}
use Rattle.machine_desk.specs.declared.hearing.Heard.{Heard}
use Rattle.machine_desk.specs.declared.hearing.Heard.TheVariants as heards
use Rattle.machine_desk.specs.Laws.{Meanwhile, CountIsOfJobs, NothingIsLeft, TendingIsAllowed}
use Rattle.machine_desk.specs.declared.tending.Handed.{Handed}
use Rattle.machine_desk.specs.Tending.{Done, HandsOver, IsInHand, IsWhole, Reaches, Room, Sight}
use Rattle.sim_steps.specs.Stretches.{Carried}
use Rattle.sim_steps.proofs.Joining.{carried_none, carried_then}
use Rattle.sim_steps.proofs.Others.{carried_beside}
use Rattle.machine_desk.specs.declared.crew.Crew.{Crew}
use Rattle.sim_channels.specs.declared.driver.Driver.{Driver}
use Rattle.machine_desk.specs.Crews.{BySights, IsCrewStill, SameCrew, sight}
use Rattle.sim_channels.specs.Channels.{CarriedOver, IsKept, IsSame, Tends, WorksAlone, bench}
use Rattle.machine_desk.specs.Driving.{DrivingLaws}
use Rattle.sim_channels.specs.Passes.{Attends, AwaitsAll, Beside, HasHeard, HearsBy, MakesRoom, Passed, is_state, rest_at}
use Rattle.sim_channels.proofs.Keeping.{reached_sound}
use Rattle.sim_channels.proofs.Others.{alone_on, channel_stays, items_stay, same_desk, same_driver, same_then, tends_beside, tends_kept, tends_learning}

-- ---- turns in between

pub none_between : (a : DeskView) → Meanwhile a a
none_between a = record { turns = []; past = sym (append-nil a.past); leads = refl; allowed = tt }

pub worked_between : (item : Waiting) (worked : Worked) (a b : DeskView) → Works item worked a b → Meanwhile a b
worked_between item worked a b works = record { turns = works.turns; past = works.past; leads = works.meanwhile; allowed = works.allowed }

pub tends_still : (driver : Driver) → Tends driver driver
tends_still driver = record { meanwhile = none_between driver.desk; rest = refl; same = same_driver driver }

-- ---- beside a crew

pub same_beside : (old : Driver) (desk : DeskView) (c d : Crew) → old.crew ≡ Some c → IsCrewStill c d → desk.footing ≡ old.desk.footing → IsSame old (record old { desk = desk; crew = Some d })
same_beside old desk c d is still footing = record { footing = footing; crew = subst (λ (x : Option Crew). SameCrew x (Some d)) (sym is) still }

module _ (old : Driver) (desk : DeskView) (c d : Crew) (is : old.crew ≡ Some c) (same : IsSame old (record old { desk = desk; crew = Some d })) where
  abbrev Later : Driver
  Later = record old { desk = desk; crew = Some d }

  beside : WorksAlone old → ⊥
  beside none = (let f : true ≡ false = sym (ap is_some is) ∙ none in cc)

  tends : Meanwhile old.desk desk → Tends old Later
  tends meanwhile = record { meanwhile = meanwhile; rest = refl; same = same }

  -- of these crews it holds of what is known by their passes
  sights : (R : ℕ → Sight → Sight → Type 0) → R (places c.jobs.now) (sight old.desk c) (sight desk d) → Beside R old Later
  sights R r = subst (λ (o : Option Crew). BySights R old.desk desk o (Some d)) (sym is) r

  module _ (laws : DrivingLaws) (allowed : TendingIsAllowed) (kept : IsKept old) where
    sound : Meanwhile old.desk desk → IsSound desk.now
    sound meanwhile = reached_sound laws desk.now (tends_kept laws old Later kept (tends meanwhile)).reached

    pub room_by : CountIsOfJobs → Reaches Room (sight old.desk c) (sight desk d) → MakesRoom old Later
    room_by count r =
        let meanwhile = allowed.reaches Room (sight old.desk c) (sight desk d) r in
        record {
          tends = tends meanwhile;
          alone = λ none. absurd (beside none);
          room = inr (let few = count Room (sight old.desk c) (sight desk d) r in grind (arith, nat_tests));
          asked = sights (λ n s t. Reaches Room s t) r;
        }

    pub done_by : NothingIsLeft → Reaches Done (sight old.desk c) (sight desk d) → AwaitsAll old Later
    done_by left r =
        let meanwhile = allowed.reaches Done (sight old.desk c) (sight desk d) r in
        record {
          tends = tends meanwhile;
          alone = λ none. absurd (beside none);
          none = inr (left (sight old.desk c) (sight desk d) desk (sound meanwhile) r (none_between desk)).1;
          asked = sights (λ n s t. Reaches Done s t) r;
        }

-- without one

no_sights : (R : ℕ → Sight → Sight → Type 0) (a b : DeskView) (c d : Option Crew) → is_some c ≡ false → BySights R a b c d
no_sights R a b None d none = tt
no_sights R a b (Some c) d none = absurd (cc)

pub room_alone : (driver : Driver) → WorksAlone driver → MakesRoom driver driver
room_alone driver none = record {
  tends = tends_still driver;
  alone = λ alone. refl;
  room = inl none;
  asked = no_sights (λ n s t. Reaches Room s t) driver.desk driver.desk driver.crew driver.crew none;
}

pub done_alone : (driver : Driver) → WorksAlone driver → AwaitsAll driver driver
done_alone driver none = record {
  tends = tends_still driver;
  alone = λ alone. refl;
  none = inl none;
  asked = no_sights (λ n s t. Reaches Done s t) driver.desk driver.desk driver.crew driver.crew none;
}

pub worked_alone : (old : Driver) (desk : DeskView) (item : Waiting) (worked : Worked) → WorksAlone old → desk.footing ≡ old.desk.footing → Works item worked old.desk desk
    → IsWhole worked → Attends item old (record old { desk = desk })
worked_alone old desk item worked alone footing works whole = record {
  tends = record { meanwhile = worked_between item worked old.desk desk works; rest = refl; same = same_desk old (record old { desk = desk }) refl footing };
  alone = λ none. record { worked = worked; works = works; whole = whole };
  hands = no_sights (λ n s t. (handed : Handed) × HandsOver handed item n s t × IsInHand handed) old.desk desk old.crew old.crew alone;
}

-- somebody works beside, or nobody
pub by_crew : (driver : Driver) {P : Type 0} → (WorksAlone driver → P) → ((WorksAlone driver → ⊥) → P) → P
by_crew driver {P} alone beside = go (is_some driver.crew) refl
  where
    go : (b : Bool) → is_some driver.crew ≡ b → P
    go false e = alone e
    go true e = beside (λ none. (let f : true ≡ false = sym e ∙ none in cc))

-- ---- ahead of what is heard, and behind it

pub over_none : (old new : Driver) → ((ds : List Meaning) → bench new ds ≡ bench old ds) → CarriedOver old new
over_none old new same = λ ds long. subst (Carried (bench old ds)) (sym (same ds)) (carried_none (bench old ds))

pub over_then : (a b c : Driver) → length b.channels.items ≡ length a.channels.items → CarriedOver a b → CarriedOver b c → CarriedOver a c
over_then a b c long h k = λ ds e. carried_then (bench a ds) (bench b ds) (bench c ds) (h ds e) (k ds (e ∙ sym long))

module _ (laws : DrivingLaws) (a b : Driver) (kept : IsKept a) (t : Tends a b) where
  pub as_long : length b.channels.items ≡ length a.channels.items
  as_long = ap length (items_stay laws a b kept t)

  stays : (at : ℕ) → slice_get b.channels.items at ≡ slice_get a.channels.items at
  stays at = channel_stays laws a b kept t at

  pub carried_tends : (WorksAlone a → ⊥) → CarriedOver a b
  carried_tends beside ds long = carried_beside (bench a ds) (bench b ds) (tends_beside laws a b kept t (λ solo. beside (kept.crew.none solo)) ds)

  -- ahead
  module _ (alone : WorksAlone a → b ≡ a) (here : ℕ) (new : Driver) where
    pub over_ahead : CarriedOver a b
    over_ahead ds long =
        by_crew a (λ none. subst (λ (d : Driver). Carried (bench a ds) (bench d ds)) (sym (alone none)) (carried_none (bench a ds)))
        (λ beside. carried_tends beside ds long)

    heard_ahead : (made : Bool) → HasHeard here made b new → HasHeard here made a new
    heard_ahead made h = record {
      kept = h.kept;
      carried = over_then a b new as_long over_ahead h.carried;
      jobs = λ none. h.jobs (alone_on a b t.same none);
      offered = h.offered;
      channels = record {
        count = h.channels.count ∙ as_long;
        others = λ at other. h.channels.others at other ∙ stays at;
        waiting = λ k l was there. h.channels.waiting k l (stays here ∙ was) there;
      };
      others = λ untold no_hosts.
          (let s = h.others untold (tends_learning laws a b kept t ∙ no_hosts) in
          record {
            sessions = λ none c other. s.sessions (alone_on a b t.same none) c other ∙ ap (λ (d : Driver). session_at c d.desk.now) (alone none);
            channels = λ at other. s.channels at other ∙ stays at;
          });
      same = same_then a b new t.same h.same;
      learning = h.learning ∙ tends_learning laws a b kept t;
    }

    -- what came is told of a message
    hears_ahead : (heard : Heard) → HearsBy (came_of heard) here b new → HearsBy (came_of heard) here a new
    hears_ahead heards.Ended h = h
    hears_ahead heards.State h = subst (λ n. rest_at here new < n) (ap (rest_of (λ (c : Channel). c.inbound)) (stays here)) h
    hears_ahead (heards.Packet item) h = subst (λ n. rest_at here new < n) (ap (rest_of (λ (c : Channel). c.inbound)) (stays here)) h
    hears_ahead heards.Other h = subst (λ n. rest_at here new < n) (ap (rest_of (λ (c : Channel). c.inbound)) (stays here)) h

    pub passed_ahead : (heard : Heard) → Passed here b new (came_of heard) → Passed here a new (came_of heard)
    passed_ahead heard p = (heard_ahead (is_state (came_of heard)) p.0, hears_ahead heard p.1)
