-- The report is taken, behind what others did: nothing else changes.
use Rattle.std.proofs.Common.{◌≡◌, List, [], ◌∷◌, ◌++◌, length, map, refl, sym, ap, ◌∙◌, subst, inl, inr}
use Rattle.device_port.specs.Devices.{Meaning}
use Rattle.machine_steps.specs.declared.entry.Entry.TheVariants as entries
use Rattle.machine_steps.specs.declared.reply.Reply.TheVariants.{Lines}
use Rattle.machine_desk.specs.Desks.{DeskView, turn}
use Rattle.machine_steps.specs.Machine.{State}
use Rattle.machine_steps.specs.Steps.{Steps}
use Rattle.sim_steps.specs.Benches.{Slot}
use Rattle.sim_steps.specs.Stretches.{Stretch}
use Rattle.sim_steps.proofs.Joining.{carried_ahead}
use Rattle.sim_steps.proofs.Moments.{report_taken}
use Rattle.sim_channels.specs.declared.channel.Channel.{Channel}
use Rattle.sim_channels.specs.declared.driver.Driver.{Driver}
use Rattle.sim_channels.specs.Channels.{Fits, bench, slots_of}
use Rattle.machine_desk.specs.Driving.{DrivingLaws}
use Rattle.sim_channels.specs.Resting.{RestingLaws}
use Rattle.sim_channels.specs.Waiting.{IsAtRest, IsDone}
use Rattle.sim_channels.proofs.Keeping.{reached_on}
use Rattle.sim_channels.proofs.Others.{crew_on, others_carried, same_desk, tends_fits, tends_of}
use Rattle.sim_driver.specs.Passes.{TakesReport, waiting}
use Rattle.sim_driver.specs.Runs.{devices_of}

-- the machine with its lines taken
abbrev cleared : State → State
cleared m = record m { lines = [] }

-- the desk is so behind it, and the driver
module _ (d : Driver) (to : DeskView) where
  abbrev behind : Driver
  behind = record d { desk = record to { now = cleared d.desk.now } }

  fits_on : (ds : List Meaning) → to.footing ≡ d.desk.footing → Fits d ds → Fits behind ds
  fits_on ds footing h = record {
    kept = record {
      crew = crew_on d behind (same_desk d behind refl footing) refl h.kept.crew;
      reached = reached_on d.desk.now entries.TakeReport (Lines (waiting d)) behind.desk.now h.kept.reached tt (inl (refl, refl));
      numbers = h.kept.numbers;
      names = h.kept.names;
      sessions = record {
        staged = λ at k there. let s = h.kept.sessions.staged at k there in record { live = s.live; opened = s.opened };
        others = h.kept.sessions.others;
      };
      fresh = h.kept.fresh;
    };
    places = h.places;
    waiting = h.waiting;
  }

  done_on : IsDone d → IsDone behind
  done_on h = record { jobs = h.jobs; taken = h.taken }

  rests_on : IsAtRest d → IsAtRest behind
  rests_on h = record { done = λ alone. done_on (h.done alone); offered = h.offered; heard = h.heard }

  -- the deed
  taking_on : (ds : List Meaning) → to.past ≡ d.desk.past ++ turn d.desk.now entries.TakeReport (Lines (waiting d)) behind.desk.now ∷ []
      → Stretch [] (waiting d) (bench d ds) (bench behind ds)
  taking_on ds past =
      report_taken (waiting d) (bench d ds) (bench behind ds)
      (record { may = tt; admitted = tt; steps = inl (refl, refl); slots = refl; past = past })

module _ (laws : DrivingLaws) (d next : Driver) (h : TakesReport d next) where
  now_is : next.desk.now ≡ cleared h.ahead.desk.now
  now_is = go h.enters.made.steps
    where
      go : Steps h.ahead.desk.now entries.TakeReport (Lines (waiting h.ahead)) next.desk.now → next.desk.now ≡ cleared h.ahead.desk.now
      go (inl (told, is)) = is
      go (inr lacks) = let other = lacks.0 in absurd (cc)

  next_is : next ≡ behind h.ahead next.desk
  next_is =
      h.rest
      ∙ sym (ap (λ (x : Driver). record x { desk = next.desk }) h.others.rest)
      ∙ ap (λ (m : State). record h.ahead { desk = record next.desk { now = m } }) now_is

  past_is : next.desk.past ≡ h.ahead.desk.past ++ turn h.ahead.desk.now entries.TakeReport (Lines (waiting h.ahead)) (cleared h.ahead.desk.now) ∷ []
  past_is = h.enters.past ∙ ap (λ (m : State). h.ahead.desk.past ++ turn h.ahead.desk.now entries.TakeReport (Lines (waiting h.ahead)) m ∷ []) now_is

  pub taken_lines : next.desk.now.lines ≡ []
  taken_lines = ap (λ (m : State). m.lines) now_is

  module _ (ds : List Meaning) (fits : Fits d ds) where
    pub taken_fits : Fits next ds
    taken_fits =
        subst (λ (x : Driver). Fits x ds) (sym next_is) (
        fits_on h.ahead next.desk ds (h.footing ∙ sym h.others.footing)
        (tends_fits laws d h.ahead fits.kept (tends_of d h.ahead h.others) ds fits))

    pub taken_rests : RestingLaws → IsAtRest d → IsAtRest next
    taken_rests resting rest = subst IsAtRest (sym next_is) (rests_on h.ahead next.desk (resting.others d h.ahead fits.kept h.others rest))

    -- where all is done others change nothing
    pub taken_done : RestingLaws → IsDone d → IsDone next
    taken_done resting done = subst IsDone (sym next_is) (done_on h.ahead next.desk (resting.done d h.ahead fits.kept h.others done))

    pub taking : Stretch [] (waiting h.ahead) (bench d ds) (bench next ds)
    taking =
        carried_ahead [] (waiting h.ahead) (bench d ds) (bench h.ahead ds) (bench next ds)
        (others_carried laws d h.ahead fits.kept h.others ds (sym fits.places))
        (subst (λ (x : Driver). Stretch [] (waiting h.ahead) (bench h.ahead ds) (bench x ds)) (sym next_is) (taking_on h.ahead next.desk ds past_is))

-- the devices of a driver's bench
devices_in : (ks : List Channel) (ds : List Meaning) → length ks ≡ length ds → map (λ (s : Slot). s.device) (slots_of ks ds) ≡ ds
devices_in [] [] e = refl
devices_in [] (d ∷ ds) e = absurd (cc)
devices_in (k ∷ ks) [] e = absurd (cc)
devices_in (k ∷ ks) (d ∷ ds) e = ap (λ (xs : List Meaning). d ∷ xs) (devices_in ks ds (let h : length ks ≡ length ds = cc in h))

pub bench_devices : (d : Driver) (ds : List Meaning) → Fits d ds → devices_of (bench d ds) ≡ ds
bench_devices d ds h = devices_in d.channels.items ds h.places
