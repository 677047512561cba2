-- A turn in which the device failed, behind its note and the end of the session.
use Rattle.std.proofs.Common.{◌≡◌, ℕ, ◌+◌, ◌<◌, true, false, List, length, refl, sym, ap, ◌∙◌, subst, inl, arith, ⊎_elim}
use Rattle.std.specs.Prelude.{Some}
use Rattle.std.specs.List.{slice_get}
use Rattle.std.proofs.lemmas.Bool.{cases_eq}
use Rattle.std.proofs.lemmas.Option.{same_Some, slice_get_within}
use Rattle.maple_base.specs.declared.device.Turned.{Turned}
use Rattle.maple_base.specs.declared.device.Turned.TheVariants.{Failed as FailedTurn}
use Rattle.of10_stream.specs.Steps.{fed}
use Rattle.device_port.specs.Devices.{Meaning, Turns}
use Rattle.device_port.specs.Devices.Call.{Turning}
use Rattle.machine_steps.specs.declared.entry.Entry.TheVariants as entries
use Rattle.machine_steps.specs.declared.note.Note.TheVariants as notes
use Rattle.machine_steps.specs.declared.reply.Reply.TheVariants.{Done}
use Rattle.sim_steps.specs.Benches.{Bench}
use Rattle.sim_steps.specs.Deeds.{CallsAt, has_failed}
use Rattle.sim_steps.specs.Parts.{has_dealt}
use Rattle.sim_steps.proofs.Moments.{called, stretch_failed}
use Rattle.machine_desk.specs.Hearing.{is_live}
use Rattle.sim_channels.specs.Channels.{EntersNext, Fits, IsKept, bench, slots_of}
use Rattle.sim_channels.specs.Delivering.{Leaves}
use Rattle.machine_desk.specs.Driving.{DrivingLaws}
use Rattle.sim_channels.specs.Resting.{RestingLaws}
use Rattle.sim_channels.specs.Waiting.{IsAtRest, IsAtRestBut}
use Rattle.sim_channels.specs.declared.channel.Channel.{Channel}
use Rattle.sim_channels.specs.declared.driver.Driver.{Driver}
use Rattle.sim_channels.specs.Turns.{Waits}
use Rattle.sim_channels.proofs.Kept.{waiting_but}
use Rattle.sim_channels.proofs.Looking.{fed_nothing}
use Rattle.sim_channels.proofs.Others.{others_beside}
use Rattle.sim_channels.proofs.Slots.{set_same}
use Rattle.sim_turns.specs.Taking.{IsTaken, IsTold, Tires, TurnsAt, plugged_count}
use Rattle.sim_turns.specs.Turning.{TakesOne}
use Rattle.sim_turns.proofs.Aside.{Brings}
use Rattle.sim_turns.proofs.Called.{turned_bench, calls_at}
use Rattle.sim_turns.proofs.Counted.{NoneOpens, count_lt}
use Rattle.sim_turns.proofs.Dealt.{device_there, devices_beside, devices_long}
use Rattle.sim_turns.proofs.Noted.{noted_fits, noted_kept, noted_rest}
use Rattle.sim_turns.proofs.Pending.{there_is}

-- nothing else is left to do where a device was left
pub rest_left : RestingLaws → (old new : Driver) (at : ℕ) → IsKept old → Leaves at old new → IsAtRestBut at old → IsAtRestBut at new
rest_left resting old new at kept left rest =
    let stays = left.spares.others in
    let none = resting.left at new left.left in
    resting.beside at old new kept rest (record {
      kept = left.kept;
      same = left.spares.same;
      others = record { sessions = λ alone. stays.sessions (inl alone); channels = stays.channels };
      jobs = λ alone. left.spares.jobs (rest.done alone).jobs;
      taken = λ alone. none.taken;
      offered = none.offered;
    })

module _ (laws : DrivingLaws) (resting : RestingLaws) (at : ℕ) (turned : Turned) (bytes : List ℕ) (old mid new : Driver) (kept : IsKept old)
    (rest : IsAtRest old) (waits : Waits at old)
    (taken : IsTaken turned) (failed : turned ≡ FailedTurn) (enters : EntersNext (entries.Note (notes.Turned (at + 1) turned)) Done old.desk mid.desk)
    (same : mid ≡ record old { desk = mid.desk }) (footing : mid.desk.footing ≡ old.desk.footing) (leaves : Leaves at mid new) where
  abbrev K : Channel
  K = waits.channel

  channels_same : mid.channels.items ≡ old.channels.items
  channels_same = ap (λ (x : Driver). x.channels.items) same

  -- ---- behind the note

  kept_told : IsKept mid
  kept_told = noted_kept laws (notes.Turned (at + 1) turned) old mid kept enters same footing

  rest_told : IsAtRest mid
  rest_told = noted_rest laws (notes.Turned (at + 1) turned) old mid kept enters same footing resting rest

  there_told : slice_get mid.channels.items at ≡ Some K
  there_told = ap (λ ks. slice_get ks at) channels_same ∙ waits.there

  -- ---- behind the session's end

  failed_rest : IsAtRestBut at new
  failed_rest = rest_left resting mid new at kept_told leaves (resting.but at mid rest_told)

  left_shut : (y : Channel) → slice_get new.channels.items at ≡ Some y → is_live y.inbound.stage ≡ false
  left_shut y there = ap is_live (leaves.left y there)

  none_opens : NoneOpens mid.channels.items new.channels.items
  none_opens n x y e f open_now =
      ⊎_elim (λ here. (let g : true ≡ false = sym open_now ∙ left_shut y (ap (slice_get new.channels.items) (sym here) ∙ f) in absurd (cc)))
      (λ o.
      (let is : x ≡ y = same_Some x y (sym e ∙ sym (leaves.spares.others.channels n o) ∙ f) in
      ap (λ (z : Channel). is_live z.inbound.stage) is ∙ open_now)) (cases_eq n at)

  failed_tires : Tires turned old new
  failed_tires =
      let within : at < length mid.channels.items = slice_get_within mid.channels.items at K there_told in
      let l = there_is new.channels.items at (omega (arith, leaves.places)) in
      let fewer =
      count_lt mid.channels.items new.channels.items at K l.0 leaves.places none_opens there_told l.1 (ap is_live waits.plugged) (left_shut l.0 l.1) in
      let none : has_dealt turned ≡ 0 = ap has_dealt failed in
      subst (λ ks. plugged_count new.channels.items < plugged_count ks + has_dealt turned) channels_same (omega arith)

  module _ (before behind : List Meaning) (fits : Fits old before) (turns : TurnsAt at turned bytes before behind) where
    fails : Turns FailedTurn bytes turns.before turns.behind
    fails = subst (λ t. Turns t bytes turns.before turns.behind) failed turns.turns

    fits_told : Fits mid before
    fits_told = noted_fits laws (notes.Turned (at + 1) turned) old mid kept enters same footing before fits

    here : (x : Channel) (d : Meaning) → slice_get new.channels.items at ≡ Some x → slice_get behind at ≡ Some d → x.waiting ≡ length d.pending
    here x d e f =
        leaves.waiting K x there_told e ∙ fits.waiting at K turns.before waits.there turns.there ∙ ap length (sym fails.0.pending)
        ∙ ap (λ (m : Meaning). length m.pending) (device_there at turned bytes before behind turns d f)

    long : length behind ≡ length mid.channels.items
    long = devices_long at turned bytes before behind turns ∙ sym fits_told.places

    fits_behind : Fits new behind
    fits_behind = record {
      kept = leaves.kept;
      places = leaves.places ∙ sym long;
      waiting = waiting_but mid new before behind at fits_told leaves.spares.others.channels (devices_beside at turned bytes before behind turns) here;
    }

    nothing_fed : K.inbound.from.stream ≡ fed bytes K.inbound.from.stream
    nothing_fed = sym (ap (λ bs. fed bs K.inbound.from.stream) fails.1 ∙ fed_nothing K.inbound.from.stream)

    bench_is : turned_bench at turned bytes old before behind fits turns waits taken mid.desk K ≡ bench mid behind
    bench_is =
        let same_channels = set_same old.channels.items at K waits.there ∙ sym channels_same in
        λ i. record { past = mid.desk.past; machine = mid.desk.now; slots = slots_of (same_channels i) (sym turns.set_is i) }

    calls : CallsAt (at + 1) (Turning turned bytes) Done (bench old before) (bench mid behind)
    calls =
        subst (λ (x : Bench). CallsAt (at + 1) (Turning turned bytes) Done (bench old before) x) bench_is
        (calls_at at turned bytes old before behind fits turns waits taken Done mid.desk K refl nothing_fed enters)

    one : TakesOne (at + 1) turned (bench old before) (bench new behind)
    one = record {
      event = called (at + 1) (Turning turned bytes) Done (bench old before) (bench mid behind);
      bytes = bytes;
      reply = Done;
      stretch =
          stretch_failed (at + 1) (Turning turned bytes) Done (bench old before) (bench mid behind) leaves.reply (bench leaves.ahead behind) (bench new behind)
          (others_beside laws mid leaves.ahead kept_told leaves.others behind) refl (λ by. resting.still old before kept rest (⊎_elim inl (λ e. absurd (cc)) by))
          (ap (λ t. has_failed (Turning t bytes)) failed) refl leaves.memory calls (leaves.enters behind long);
      before = record { slots = refl; sessions = λ c. refl; alone = λ solo. refl };
      deed = refl;
    }

    told : IsTold at turned old new before behind
    told = record { fits = fits_behind; one = one }

  pub failed_brings : Brings at turned bytes old new
  failed_brings = record { rest = failed_rest; told = told; tires = failed_tires }
