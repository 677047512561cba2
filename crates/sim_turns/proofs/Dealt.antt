-- A turn in which a message was dealt with, behind its note and with what was appended.
use Rattle.std.proofs.Common.{◌≡◌, ℕ, ◌+◌, List, [], ◌∷◌, length, refl, sym, ap, ◌∙◌, subst, inl, arith, ⊎_elim}
use Rattle.std.specs.Prelude.{Some}
use Rattle.std.specs.List.{slice_get}
use Rattle.std.proofs.lemmas.Bool.{cases_eq}
use Rattle.std.proofs.lemmas.List.{length-set}
use Rattle.std.proofs.lemmas.Option.{same_Some}
use Rattle.maple_base.specs.declared.device.Turned.{Turned}
use Rattle.maple_base.specs.declared.device.Turned.TheVariants.{Failed as FailedTurn}
use Rattle.device_port.specs.Devices.{Meaning}
use Rattle.device_port.specs.Devices.Call.{Turning}
use Rattle.machine_steps.specs.declared.entry.Entry.{Entry}
use Rattle.machine_steps.specs.declared.entry.Entry.TheVariants as entries
use Rattle.machine_steps.specs.declared.note.Note.TheVariants as notes
use Rattle.machine_steps.specs.declared.reply.Reply.TheVariants.{Done}
use Rattle.machine_steps.specs.Machine.{session_at}
use Rattle.sim_steps.specs.Benches.{Bench}
use Rattle.sim_steps.specs.Stretches.{Stretch}
use Rattle.sim_steps.proofs.Moments.{called, stretch_call}
use Rattle.machine_desk.specs.Hearing.{is_live}
use Rattle.sim_channels.specs.Channels.{EntersNext, Fits, IsKept, IsSame, bench, slots_of}
use Rattle.machine_desk.specs.Driving.{DrivingLaws}
use Rattle.sim_channels.specs.Resting.{RestingLaws}
use Rattle.sim_channels.specs.Waiting.{IsAtRest, IsAtRestBut, IsOffered}
use Rattle.sim_channels.specs.declared.channel.Channel.{Channel}
use Rattle.sim_channels.specs.declared.driver.Driver.{Driver}
use Rattle.sim_channels.specs.Turns.{Appends, ChannelMoves, Waits}
use Rattle.sim_channels.proofs.Keeping.{session_same}
use Rattle.sim_channels.proofs.Kept.{ChannelAt, channel_at, is_as_long, is_beside, is_there, kept_channel, not_fresh, waiting_but}
use Rattle.sim_channels.proofs.Slots.{set_beside, set_there}
use Rattle.sim_turns.specs.Taking.{IsTaken, IsTold, Tires, TurnsAt}
use Rattle.sim_turns.specs.Turning.{TakesOne}
use Rattle.sim_turns.proofs.Aside.{Brings}
use Rattle.sim_turns.proofs.Called.{turned_bench, calls_at, dealt_one, is_dealt}
use Rattle.sim_turns.proofs.Counted.{NoneOpens, count_le}

-- ---- one device among the others

module _ (at : ℕ) (turned : Turned) (bytes : List ℕ) (before behind : List Meaning) (turns : TurnsAt at turned bytes before behind) where
  pub devices_long : length behind ≡ length before
  devices_long = ap length turns.set_is ∙ length-set before at turns.behind

  pub devices_beside : (n : ℕ) → (n ≡ at → ⊥) → slice_get behind n ≡ slice_get before n
  devices_beside n other = ap (λ ds. slice_get ds n) turns.set_is ∙ set_beside before at n turns.behind other

  pub device_there : (d : Meaning) → slice_get behind at ≡ Some d → turns.behind ≡ d
  device_there d e = same_Some turns.behind d (sym (ap (λ ds. slice_get ds at) turns.set_is ∙ set_there before at turns.before turns.behind turns.there) ∙ e)

-- ---- the turn

module _ (laws : DrivingLaws) (resting : RestingLaws) (at : ℕ) (turned : Turned) (bytes : List ℕ) (old mid new : Driver) (kept : IsKept old)
    (rest : IsAtRest old) (waits : Waits at old)
    (taken : IsTaken turned) (other : turned ≡ FailedTurn → ⊥) (enters : EntersNext (entries.Note (notes.Turned (at + 1) turned)) Done old.desk mid.desk)
    (rest_is : mid ≡ record old { desk = mid.desk }) (same : IsSame old new) (desk : new.desk ≡ mid.desk)
    (moves : ChannelMoves at (Appends bytes) mid new) where
  abbrev Telling : Entry
  Telling = entries.Note (notes.Turned (at + 1) turned)

  abbrev K : Channel
  K = waits.channel

  abbrev L : Channel
  L = moves.behind

  was : moves.before ≡ K
  was = same_Some moves.before K (sym moves.there ∙ ap (λ (x : Driver). slice_get x.channels.items at) rest_is ∙ waits.there)

  changes : Appends bytes K L
  changes = subst (λ x. Appends bytes x L) was moves.moves

  at_channel : ChannelAt at K L old new
  at_channel = channel_at at old mid K waits.there rest_is L new moves.set_is same

  noted : EntersNext Telling Done old.desk new.desk
  noted = subst (EntersNext Telling Done old.desk) (sym desk) enters

  kept_behind : IsKept new
  kept_behind = kept_channel laws old new Telling Done kept tt noted.made.steps (λ c. refl) at K L at_channel changes.feeds.1
      (not_fresh L (changes.feeds.1.1 ∙ waits.plugged))

  -- the machine has no message more for any device
  sessions_stay : (c : ℕ) → session_at c new.desk.now ≡ session_at c old.desk.now
  sessions_stay c = session_same laws old.desk.now Telling Done new.desk.now kept.reached noted.made.steps refl c refl

  offered : IsOffered at new
  offered x there plugged =
      let is : L ≡ x = same_Some L x (sym (is_there at K L old new at_channel) ∙ there) in
      ap (λ (y : Channel). y.to) (sym is) ∙ changes.to ∙ rest.offered at K waits.there waits.plugged

  dealt_rest : IsAtRestBut at new
  dealt_rest =
      resting.beside at old new kept (resting.but at old rest) (record {
        kept = kept_behind;
        same = same;
        others = record { sessions = λ alone c o. sessions_stay c; channels = is_beside at K L old new at_channel };
        jobs = λ alone. laws.none old.desk.now Telling Done new.desk.now (rest.done alone).jobs refl noted.made.steps;
        taken = λ alone. resting.taken at old new kept kept_behind (sessions_stay (at + 1)) ((rest.done alone).taken at);
        offered = offered;
      })

  none_opens : NoneOpens old.channels.items new.channels.items
  none_opens n x y e f open_now =
      ⊎_elim (λ here.
      (let is : L ≡ y = same_Some L y (sym (is_there at K L old new at_channel) ∙ ap (slice_get new.channels.items) (sym here) ∙ f) in
      let first : K ≡ x = same_Some K x (sym waits.there ∙ ap (slice_get old.channels.items) (sym here) ∙ e) in
      ap (λ (z : Channel). is_live z.inbound.stage) (sym first) ∙ ap is_live (sym changes.feeds.1.1)
      ∙ ap (λ (z : Channel). is_live z.inbound.stage) is ∙ open_now))
      (λ o.
      (let is : x ≡ y = same_Some x y (sym e ∙ sym (is_beside at K L old new at_channel n o) ∙ f) in
      ap (λ (z : Channel). is_live z.inbound.stage) is ∙ open_now)) (cases_eq n at)

  dealt_tires : Tires turned old new
  dealt_tires =
      let le = count_le old.channels.items new.channels.items (is_as_long at K L old new at_channel) none_opens in
      let one = dealt_one turned taken other in
      omega arith

  module _ (before behind : List Meaning) (fits : Fits old before) (turns : TurnsAt at turned bytes before behind) where
    here : (x : Channel) (d : Meaning) → slice_get new.channels.items at ≡ Some x → slice_get behind at ≡ Some d → x.waiting ≡ length d.pending
    here x d e f =
        let is : L ≡ x = same_Some L x (sym (is_there at K L old new at_channel) ∙ e) in
        let device : turns.behind ≡ d = device_there at turned bytes before behind turns d f in
        let count : K.waiting ≡ length turns.before.pending = fits.waiting at K turns.before waits.there turns.there in
        let fewer : length turns.before.pending ≡ length turns.behind.pending + 1 =
        (is_dealt turned bytes turns.before turns.behind taken other turns.turns).fewer in
        let less : K.waiting ≡ L.waiting + 1 = changes.waiting in
        let now : L.waiting ≡ length turns.behind.pending = omega arith in
        ap (λ (y : Channel). y.waiting) (sym is) ∙ now ∙ ap (λ (m : Meaning). length m.pending) device

    fits_behind : Fits new behind
    fits_behind = record {
      kept = kept_behind;
      places = is_as_long at K L old new at_channel ∙ fits.places ∙ sym (devices_long at turned bytes before behind turns);
      waiting = waiting_but old new before behind at fits (is_beside at K L old new at_channel) (devices_beside at turned bytes before behind turns) here;
    }

    bench_is : turned_bench at turned bytes old before behind fits turns waits taken new.desk L ≡ bench new behind
    bench_is = λ i. record { past = new.desk.past; machine = new.desk.now; slots = slots_of (sym at_channel.channels i) (sym turns.set_is i) }

    one : TakesOne (at + 1) turned (bench old before) (bench new behind)
    one =
        let b = turned_bench at turned bytes old before behind fits turns waits taken new.desk L in
        let event = called (at + 1) (Turning turned bytes) Done (bench old before) b in
        let calls = calls_at at turned bytes old before behind fits turns waits taken Done new.desk L changes.to changes.feeds.0 noted in
        let whole = (is_dealt turned bytes turns.before turns.behind taken other turns.turns).whole in
        record {
          event = event;
          bytes = bytes;
          reply = Done;
          stretch = subst (λ (x : Bench). Stretch (event ∷ []) [] (bench old before) x) bench_is
              (stretch_call (at + 1) (Turning turned bytes) Done (bench old before) b refl (λ by. resting.still old before kept rest (⊎_elim inl (λ e. absurd (cc)) by))
              whole refl calls);
          before = record { slots = refl; sessions = λ c. refl; alone = λ solo. refl };
          deed = refl;
        }

    told : IsTold at turned old new before behind
    told = record { fits = fits_behind; one = one }

  pub dealt_brings : Brings at turned bytes old new
  dealt_brings = record { rest = dealt_rest; told = told; tires = dealt_tires }
