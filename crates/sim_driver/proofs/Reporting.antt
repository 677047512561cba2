-- One order is followed, and the report is taken and written behind it.
use Rattle.std.proofs.Common.{◌≡◌, ℕ, Bool, true, false, not, List, [], ◌++◌, refl, sym, ap, ◌∙◌, subst, inl, inr}
use Rattle.std.specs.Prelude.{OnOk, Option, Some, None, Result, Ok, Err, is_some}
use Rattle.maple_io.specs.Fronts.{IsFront}
use Rattle.maple_io.specs.Views.{SinkView, Wrote}
use Rattle.maple_io.proofs.Pieces.{wrote_nothing}
use Rattle.device_port.specs.Devices.{Meaning}
use Rattle.machine_desk.specs.declared.report.ReportStop.{ReportStop}
use Rattle.machine_desk.specs.declared.report.ReportStop.TheVariants.{Failed, NoMemory, Worn}
use Rattle.machine_desk.specs.Desks.{DeskView, Enters}
use Rattle.machine_desk.specs.Reports.{EndsReport, Reports, ReportsBy, ReportsInPart}
use Rattle.machine_steps.specs.declared.entry.Entry.TheVariants.{TakeReport}
use Rattle.machine_steps.specs.declared.reply.Reply.TheVariants.{Lines}
use Rattle.machine_steps.specs.Machine.{State}
use Rattle.machine_steps.specs.Steps.{Steps}
use Rattle.script_text.specs.Orders.{Order}
use Rattle.script_text.specs.Orders.Order.{Nothing}
use Rattle.script_text.specs.declared.step.Step.{Step}
use Rattle.script_text.specs.Steps.{order_with}
use Rattle.sim_steps.specs.Agreeing.{taken_report}
use Rattle.sim_steps.specs.Benches.{Bench, IsSolo}
use Rattle.sim_steps.specs.Deeds.{Event}
use Rattle.sim_steps.specs.Parts.{IsPart}
use Rattle.sim_steps.specs.Stretches.{BreaksOff, Carried, Obeyed, Stretch}
use Rattle.sim_steps.proofs.Broken.{broken_behind, broken_here}
use Rattle.sim_steps.proofs.Joining.{report_then}
use Rattle.machine_desk.specs.declared.crew.Crew.{Crew}
use Rattle.sim_channels.specs.declared.driver.Driver.{Driver}
use Rattle.sim_channels.specs.Channels.{EntersNext, Fits, IsKept, WorksAlone, bench}
use Rattle.machine_desk.specs.Driving.{DrivingLaws}
use Rattle.sim_channels.specs.Resting.{RestingLaws}
use Rattle.sim_channels.specs.Waiting.{IsAtRest}
use Rattle.machine_desk.specs.declared.asking.DeskStop.TheVariants as stops
use Rattle.sim_channels.proofs.Broken.{broken_stop, worn_past}
use Rattle.sim_channels.proofs.Others.{ahead, enters_next, others_ahead}
use Rattle.sim_driver.specs.Passes.{Breaks, Finished, IsCaughtUp, IsFinished, IsReady, IsReported, IsStopped, IsUnreported, Passed, ReadyAfter, TakesReport, untaken}
use Rattle.sim_driver.specs.Passes.{waiting}
use Rattle.sim_driver.proofs.Parting.{Stands, carried_part, nothing_part, part_longer}
use Rattle.sim_driver.proofs.Taking.{bench_devices, taken_done, taken_fits, taken_lines, taken_rests, taking}

-- a front of this text was written
abbrev pub WroteFront : List ℕ → SinkView → SinkView → Type 0
WroteFront text old new = (front : List ℕ) × IsFront front text × Wrote old new front

-- deeds of which none was asked for obey no order
pub carried_obeyed : (a b : Bench) → Carried a b → Stands b → Obeyed Nothing a b
carried_obeyed a b k stands = record { events = k.events; part = carried_part a b k stands; none = k.text_is }

-- a driver at rest
pub rest_stands : RestingLaws → (d : Driver) (ds : List Meaning) → IsKept d → IsAtRest d → Stands (bench d ds)
rest_stands resting d ds kept rest = (resting.calm d ds kept rest, λ solo. resting.still d ds kept rest (inl solo))

module _ (laws : DrivingLaws) (resting : RestingLaws) (o : Order) (a : Bench) (d next : Driver) (taken : TakesReport d next) (ds : List Meaning)
    (fits : Fits d ds) (rest : IsAtRest d) (h : Obeyed o a (bench d ds)) where
  -- with the report taken
  takes_it : Stretch [] (waiting taken.ahead) (bench d ds) (bench next ds)
  takes_it = taking laws d next taken ds fits

  abbrev events : List Event
  events = h.events ++ takes_it.events

  fits_then : Fits next ds
  fits_then = taken_fits laws d next taken ds fits

  part : IsPart o a events (bench next ds)
  part =
      part_longer o a h.events (bench d ds) (waiting taken.ahead) (bench next ds) h.part takes_it
      (rest_stands resting next ds fits_then.kept (taken_rests laws d next taken ds fits resting rest))

  text : taken_report events ≡ waiting taken.ahead
  text = report_then h.events takes_it.events ∙ ap (λ (bs : List ℕ). bs ++ taken_report takes_it.events) h.none ∙ takes_it.text_is

  pub reported : (old new : SinkView) → Wrote old new (waiting taken.ahead) → IsReported o a (bench next ds) old new
  reported old new w = record { events = events; part = part; wrote = subst (Wrote old new) (sym text) w }

  pub unreported : (old new : SinkView) → WroteFront (waiting taken.ahead) old new → IsUnreported o a (bench next ds) ds old new
  unreported old new (front, is, w) =
      record {
        events = events;
        part = part;
        devices = bench_devices next ds fits_then;
        front = front;
        is_front = subst (IsFront front) (sym text) is;
        wrote = w;
      }

-- ---- as the report is written at the desk

-- what was taken there is what waited
module _ (laws : DrivingLaws) (resting : RestingLaws) (d next : Driver) (ds : List Meaning) (same : next ≡ record d { desk = next.desk }) (fits : Fits d ds) (rest : IsAtRest d) where
  text_is : (m : State) (bytes : List ℕ) → Steps m TakeReport (Lines bytes) next.desk.now → bytes ≡ untaken m
  text_is m bytes (inl (told, is)) = let t = told in cc
  text_is m bytes (inr lacks) = let other = lacks.0 in absurd (cc)

  takes : (bytes : List ℕ) → Enters d.desk TakeReport (Lines bytes) next.desk → (taken : TakesReport d next) × (bytes ≡ waiting taken.ahead)
  takes bytes e =
      let between = ahead d TakeReport (Lines bytes) next.desk fits.kept e in
      let next_is = enters_next d TakeReport (Lines bytes) next.desk fits.kept e in
      let is = text_is between.desk.now bytes next_is.made.steps in (
        record {
          rest = same;
          ahead = between;
          others = others_ahead d TakeReport (Lines bytes) next.desk fits.kept e;
          enters = subst (λ (bs : List ℕ). EntersNext TakeReport (Lines bs) between.desk next.desk) is next_is;
          footing = e.footing;
        },
        is,
      )

  pub ready_by : (r : Result (Unit {0}) ReportStop) (old new : SinkView) → ReportsBy r d.desk next.desk old new → OnOk r (IsReady next ds)
  ready_by (Ok u) old new w =
      let (taken, is) = takes w.text w.enters in
      record {
        fits = taken_fits laws d next taken ds fits;
        rest = taken_rests laws d next taken ds fits resting rest;
        none_waits = taken_lines laws d next taken;
      }
  ready_by (Err stop) old new w = tt

  module _ (o : Order) (a : Bench) (old new : SinkView) (h : Obeyed o a (bench d ds)) where
    in_part : ReportsInPart d.desk next.desk old new → IsUnreported o a (bench next ds) ds old new
    in_part w =
        let (taken, is) = takes w.text w.enters in
        unreported laws resting o a d next taken ds fits rest h old new (w.front, subst (IsFront w.front) is w.is_front, w.wrote)

    whole : Reports d.desk next.desk old new → IsReported o a (bench next ds) old new
    whole w =
        let (taken, is) = takes w.text w.enters in
        reported laws resting o a d next taken ds fits rest h old new (subst (Wrote old new) is w.wrote)

    behind : BreaksOff (bench d ds) next.desk.past → BreaksOff a next.desk.past
    behind broken = broken_behind a h.events (bench d ds) next.desk.past h.part.runs broken

    breaks_by : (stop : ReportStop) → EndsReport stop d.desk next.desk old new → Breaks stop o a next ds old new
    breaks_by Failed (w, failed) = in_part w
    breaks_by NoMemory (inl (enters, same)) = inl (record { broken = behind (broken_stop laws d fits.kept ds TakeReport next.desk stops.NoMemory enters (λ m did kept still. tt)); unwritten = same })
    breaks_by NoMemory (inr w) = inr (in_part w)
    breaks_by Worn (wears, same) =
        (record { broken = behind (broken_here (bench d ds) next.desk.past (worn_past d.desk next.desk wears)); unwritten = same }, ap (λ (v : DeskView). v.worn) wears.same)

  pub follows_by : (r : Result (Unit {0}) ReportStop) (step : Step) (bytes : List ℕ) (was : Driver) (before : List Meaning) (old new : SinkView)
      → Obeyed (order_with step bytes) (bench was before) (bench d ds) → ReportsBy r d.desk next.desk old new → Passed r step bytes was before next ds old new
  follows_by (Ok u) step bytes was before old new h w = whole (order_with step bytes) (bench was before) old new h w
  follows_by (Err stop) step bytes was before old new h w = breaks_by (order_with step bytes) (bench was before) old new h stop w

-- whatever the devices are
pub ready_after : DrivingLaws → RestingLaws → (d next : Driver) (r : Result (Unit {0}) ReportStop) (old new : SinkView) → next ≡ record d { desk = next.desk }
    → ReportsBy r d.desk next.desk old new → OnOk r (ReadyAfter d next)
ready_after laws resting d next (Ok u) old new same w = λ ds fits rest. ready_by laws resting d next ds same fits rest (Ok u) old new w
ready_after laws resting d next (Err stop) old new same w = tt

-- an order wasn't followed, and nothing written
breaks_short : (stop : ReportStop) (o : Order) (a : Bench) (d : Driver) (ds : List Meaning) (to : SinkView) → BreaksOff a d.desk.past → IsStopped stop d → Breaks stop o a d ds to to
breaks_short Failed o a d ds to broken stopped = absurd stopped
breaks_short NoMemory o a d ds to broken stopped = inl (record { broken = broken; unwritten = refl })
breaks_short Worn o a d ds to broken stopped = (record { broken = broken; unwritten = refl }, stopped)

pub passed_short : (stop : ReportStop) (step : Step) (bytes : List ℕ) (was : Driver) (before : List Meaning) (d : Driver) (ds : List Meaning) (to : SinkView)
    → BreaksOff (bench was before) d.desk.past → IsStopped stop d → Passed (Err stop) step bytes was before d ds to to
passed_short stop step bytes was before d ds to broken stopped = breaks_short stop (order_with step bytes) (bench was before) d ds to broken stopped

-- ---- behind all lines

-- by what is told of that
pub alone_by : (crew : Option Crew) (told : Bool) → told ≡ not (is_some crew) → told ≡ true → is_some crew ≡ false
alone_by None told e is = refl
alone_by (Some crew) told e is = absurd (cc)

pub beside_by : (crew : Option Crew) (told : Bool) → told ≡ not (is_some crew) → told ≡ false → is_some crew ≡ true
beside_by None told e is = absurd (cc)
beside_by (Some crew) told e is = refl

-- who works alone has nothing left to do
pub finished_alone : RestingLaws → (d : Driver) (ds : List Meaning) (to : SinkView) → IsReady d ds → WorksAlone d → IsFinished (bench d ds) d ds to to
finished_alone resting d ds to ready alone =
    let kept = ready.fits.kept in
    record {
      ready = ready;
      reported = record { events = []; part = nothing_part (bench d ds) (rest_stands resting d ds kept ready.rest); wrote = wrote_nothing to };
      still = resting.still d ds kept ready.rest (inr (ready.rest.done alone));
    }

-- who has a crew has workers
not_solo : (d : Driver) → IsKept d → is_some d.crew ≡ true → IsSolo d.desk.now → ⊥
not_solo d kept some solo = let no : false ≡ true = sym (kept.crew.none solo) ∙ some in absurd (cc)

-- who stopped ahead of the report
pub finished_short : (was : Driver) (before : List Meaning) (d : Driver) (ds : List Meaning) (to : SinkView) (stop : ReportStop) → IsReady was before
    → is_some was.crew ≡ true → BreaksOff (bench was before) d.desk.past → IsStopped stop d → Finished (Err stop) was before d ds to to
finished_short was before d ds to stop ready some broken stopped =
    (not_solo was ready.fits.kept some, breaks_short stop Nothing (bench was before) d ds to broken stopped)

-- who caught up
pub finished_by : DrivingLaws → RestingLaws → (was : Driver) (before : List Meaning) (d next : Driver) (ds : List Meaning) (r : Result (Unit {0}) ReportStop)
    (old new : SinkView) → IsReady was before → is_some was.crew ≡ true → IsCaughtUp was before d ds
    → next ≡ record d { desk = next.desk } → ReportsBy r d.desk next.desk old new → Finished r was before next ds old new
finished_by laws resting was before d next ds r old new ready some caught same reports = by r reports
  where
    a : Bench
    a = bench was before

    h : Obeyed Nothing a (bench d ds)
    h = carried_obeyed a (bench d ds) caught.carried (rest_stands resting d ds caught.fits.kept caught.rest)

    by : (r : Result (Unit {0}) ReportStop) → ReportsBy r d.desk next.desk old new → Finished r was before next ds old new
    by (Ok u) w =
        let (taken, text) = takes laws resting d next ds same caught.fits caught.rest w.text w.enters in
        let now_ready = ready_after laws resting d next (Ok u) old new same w ds caught.fits caught.rest in
        record {
          ready = now_ready;
          reported = whole laws resting d next ds same caught.fits caught.rest Nothing a old new h w;
          still = resting.still next ds now_ready.fits.kept now_ready.rest (inr (taken_done laws d next taken ds caught.fits resting caught.done));
        }
    by (Err stop) w =
        (not_solo was ready.fits.kept some, breaks_by laws resting d next ds same caught.fits caught.rest Nothing a old new h stop w)
