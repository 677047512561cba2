-- A frame comes to a device.
use Rattle.std.proofs.Common.{◌≡◌, ℕ, ◌+◌, ◌<◌, Bool, false, List, [], length, set, get_or, length-set, map, append-nil, refl, sym, ap, ◌∙◌, subst}
use Rattle.std.specs.Prelude.{Option, Some, None}
use Rattle.std.specs.List.{slice_get}
use Rattle.std.specs.Option.{option_map}
use Rattle.std.proofs.lemmas.List.{map-set}
use Rattle.std.proofs.lemmas.Option.{slice_get-get_or, slice_get-map, same_Some}
use Rattle.maple_base.specs.declared.device.Seen.{Seen}
use Rattle.maple_base.specs.declared.device.Seen.TheVariants.{Failed}
use Rattle.of10_codec.specs.declared.fault.Bad.{Bad}
use Rattle.of10_stream.specs.Steps.{Stream, appended, fed}
use Rattle.device_port.specs.Devices.{Meaning}
use Rattle.device_port.specs.Devices.Call.{Looking}
use Rattle.machine_steps.specs.declared.entry.Entry.{Entry}
use Rattle.machine_steps.specs.declared.entry.Entry.TheVariants as entries
use Rattle.machine_steps.specs.declared.note.Note.TheVariants as notes
use Rattle.machine_steps.specs.declared.reply.Reply.{Reply}
use Rattle.machine_steps.specs.declared.reply.Reply.TheVariants.{Done, NoMemory}
use Rattle.world_steps.specs.Worlds.{lacks_memory}
use Rattle.machine_steps.specs.Machine.{session_at}
use Rattle.sim_steps.specs.Benches.{MovesAt, Slot}
use Rattle.sim_steps.specs.Deeds.{CallsAt, CallsSlot, has_failed}
use Rattle.sim_steps.specs.Stretches.{BreaksOff}
use Rattle.sim_steps.proofs.Broken.{broken_behind, broken_by, broken_here}
use Rattle.sim_steps.proofs.Moments.{called}
use Rattle.sim_steps.specs.Parts.{IsHeardOut}
use Rattle.sim_channels.specs.declared.channel.Channel.{Channel}
use Rattle.machine_desk.specs.declared.inbound.Stage.TheVariants.{Live}
use Rattle.sim_channels.specs.declared.driver.Driver.{Driver}
use Rattle.machine_desk.specs.Desks.{Enters}
use Rattle.machine_desk.specs.Orders.{Stops}
use Rattle.machine_desk.specs.declared.asking.DeskStop.{DeskStop}
use Rattle.machine_desk.specs.declared.asking.DeskStop.TheVariants as stops
use Rattle.sim_channels.specs.Channels.{EntersNext, Fits, IsKept, IsSame, OthersDid, bench, slots_of}
use Rattle.machine_desk.specs.Driving.{DrivingLaws}
use Rattle.sim_channels.specs.Waiting.{IsAtRest, IsAtRestBut}
use Rattle.sim_channels.proofs.Broken.{worn_past}
use Rattle.sim_channels.proofs.Keeping.{session_same}
use Rattle.sim_channels.proofs.Kept.{ChannelAt, is_as_long, is_beside, is_there, kept_channel, not_fresh, now_there, plugged_at, waiting_but, while_there}
use Rattle.sim_channels.proofs.Slots.{set_beside, set_there, slots_move}
use Rattle.sim_channels.proofs.Others.{ahead, enters_next, kept_ahead, others_ahead, others_beside, others_rest}
use Rattle.sim_channels.specs.Looking.{IsCalled, LooksUpBy, is_failure}
use Rattle.sim_channels.proofs.Places.{all_heard, but_here, done_beside, taken_still, while_still}
use Rattle.sim_channels.proofs.Staged.{Stands}

-- ---- the call

-- of no bytes a stream stays as it is
pub fed_nothing : (s : Stream) → fed [] s ≡ s
fed_nothing s = go s.broken
  where
    go : (o : Option (ℕ × Bad)) → appended o [] s ≡ s
    go None = λ i. record s { rest = append-nil s.rest i }
    go (Some fault) = refl

failing : (port : ℕ) (frame : List ℕ) (seen : Seen) (bytes : List ℕ) → has_failed (Looking port frame seen bytes) ≡ is_failure seen
failing port frame Failed bytes = refl
failing port frame seen bytes = refl

-- ---- the driver behind it

-- of the channel with one index the device was called, and the machine told
module _ (laws : DrivingLaws) (d e : Driver) (before after : List Meaning) (at port : ℕ) (frame : List ℕ) (seen : Seen) (k l : Channel) (m n : Meaning) (fits : Fits d before) (rest : IsAtRest d)
    (s : Stands at Live d k) (channels : e.channels.items ≡ set d.channels.items at l) (same : IsSame d e) (device : slice_get before at ≡ Some m) (devices : after ≡ set before at n)
    (looks : LooksUpBy port frame seen k m l n) (reply : Reply) (enters : Enters d.desk (entries.Note (notes.Seen (at + 1) port frame seen)) reply e.desk) where
  abbrev telling : Entry
  telling = entries.Note (notes.Seen (at + 1) port frame seen)

  abbrev calls : Slot → Slot → Type 0
  calls = CallsSlot (Looking port frame seen looks.bytes)

  -- behind what others did
  abbrev next : Driver
  next = ahead d telling reply e.desk fits.kept enters

  others : OthersDid d next
  others = others_ahead d telling reply e.desk fits.kept enters

  kept : IsKept next
  kept = kept_ahead laws d telling reply e.desk fits.kept enters

  rest_next : IsAtRest next
  rest_next = others_rest laws d next fits.kept others rest

  told : EntersNext telling reply next.desk e.desk
  told = enters_next d telling reply e.desk fits.kept enters

  channel : ChannelAt at k l next e
  channel = record { there = s.there; channels = channels; same = record { footing = same.footing; crew = same.crew } }

  beside : (i : ℕ) → (i ≡ at → ⊥) → slice_get e.channels.items i ≡ slice_get d.channels.items i
  beside = is_beside at k l next e channel

  live : l.inbound.stage ≡ Live
  live = looks.session.1 ∙ s.is

  kept_called : IsKept e
  kept_called = kept_channel laws next e telling reply kept tt told.made.steps (λ c. refl) at k l channel looks.session (not_fresh l live)

  fits_called : Fits e after
  fits_called = record {
    kept = kept_called;
    places = is_as_long at k l next e channel ∙ fits.places ∙ sym (ap length devices ∙ length-set before at n);
    waiting = waiting_but d e before after at fits beside (λ i other. ap (λ xs. slice_get xs i) devices ∙ set_beside before at i n other)
        (λ x y is are. (let its = same_Some n y (sym (ap (λ xs. slice_get xs at) devices ∙ set_there before at m n device) ∙ are) in
        now_there at k l next e channel (λ z. z.waiting ≡ length y.pending)
        (looks.waiting ∙ fits.waiting at k m s.there device ∙ sym looks.pending ∙ ap (λ (z : Meaning). length z.pending) its) x is));
  }

  -- a note gives the machine no message for a device
  session : (c : ℕ) → session_at c e.desk.now ≡ session_at c next.desk.now
  session c = session_same laws next.desk.now telling reply e.desk.now kept.reached told.made.steps refl c refl

  rest_called : IsAtRestBut at e
  rest_called = done_beside laws at next e kept (but_here at next rest_next) (record {
    kept = kept_called;
    same = channel.same;
    others = record { sessions = λ alone c other. session c; channels = beside };
    jobs = λ alone. laws.none next.desk.now telling reply e.desk.now (rest_next.done alone).jobs refl told.made.steps;
    taken = λ alone. taken_still laws at next e kept kept_called (session (at + 1)) ((rest_next.done alone).taken at);
    offered = while_there at k l next e channel (λ x. x.to ≡ []) (λ open_now. looks.to ∙ rest.offered at k s.there s.is);
  })

  slots : MovesAt (at + 1) calls (slots_of d.channels.items before) (slots_of e.channels.items after)
  slots =
      subst (λ xs. MovesAt (at + 1) calls (slots_of d.channels.items before) (slots_of xs after)) (sym channels)
      (subst (λ ys. MovesAt (at + 1) calls (slots_of d.channels.items before) (slots_of (set d.channels.items at l) ys)) (sym devices)
      (slots_move d.channels.items before at k l m n calls s.there device looks.looks))

  calling : CallsAt (at + 1) (Looking port frame seen looks.bytes) reply (bench next before) (bench e after)
  calling = record { plugged = plugged_at next at k kept s.there s.is; slots = slots; noted = told.made.steps; past = told.past }

  -- the device did so, whatever the machine replied
  pub broken_of : BreaksOff (bench d before) e.desk.past
  broken_of =
      let did = others_beside laws d next fits.kept others before in
      broken_behind (bench d before) did.events (bench next before) e.desk.past did.runs
      (broken_by (called (at + 1) (Looking port frame seen looks.bytes) reply (bench next before) (bench e after)) calling)

  pub told_of : lacks_memory reply ≡ false → (failed : Bool) → failed ≡ is_failure seen → IsCalled at port frame failed d before e after
  told_of memory failed is = record {
    fits = fits_called;
    rest = rest_called;
    plugged = record { channel = l; there = is_there at k l next e channel; is = live };
    ahead = next;
    others = others;
    called = record {
      seen = seen;
      bytes = looks.bytes;
      reply = reply;
      calls = calling;
      memory = memory;
      failed_is = failing port frame seen looks.bytes ∙ sym is;
    };
  }

module _ {B : Type 0} (f : B → Meaning) (laws : DrivingLaws) (d e : Driver) (xs : List B) (at port : ℕ) (frame given : List ℕ) (seen : Seen) (number : ℕ) (k l : Channel) (x y : B)
    (fits : Fits d (map f xs)) (rest : IsAtRest d) (s : Stands at Live d k) (within : at < length xs) (device_is : x ≡ get_or xs at x) (given_is : given ≡ frame)
    (looks : LooksUpBy port given seen k (f (get_or xs at x)) l (f y)) (channels : e.channels.items ≡ set d.channels.items at l) (same : IsSame d e) (place : number ≡ at + 1) where
  device : slice_get (map f xs) at ≡ Some (f x)
  device = slice_get-map f xs at ∙ ap (option_map f) (slice_get-get_or xs at x within ∙ ap Some (sym device_is))

  looked : LooksUpBy port frame seen k (f x) l (f y)
  looked = subst (λ bytes. LooksUpBy port bytes seen k (f x) l (f y)) given_is (subst (λ (z : B). LooksUpBy port given seen k (f z) l (f y)) (sym device_is) looks)

  placed : (reply : Reply) → Enters d.desk (entries.Note (notes.Seen number port frame seen)) reply e.desk → Enters d.desk (entries.Note (notes.Seen (at + 1) port frame seen)) reply e.desk
  placed reply enters = subst (λ n. Enters d.desk (entries.Note (notes.Seen n port frame seen)) reply e.desk) place enters

  pub is_called : Enters d.desk (entries.Note (notes.Seen number port frame seen)) Done e.desk → (failed : Bool) → failed ≡ is_failure seen
      → IsCalled at port frame failed d (map f xs) e (map f (set xs at y))
  is_called enters failed is =
      told_of laws d e (map f xs) (map f (set xs at y)) at port frame seen k l (f x) (f y) fits rest s channels same device (map-set f xs at y) looked Done (placed Done enters) refl failed is

  -- the machine couldn't be told
  pub called_stop : (stop : DeskStop) → Stops stop (entries.Note (notes.Seen number port frame seen)) d.desk e.desk → BreaksOff (bench d (map f xs)) e.desk.past
  called_stop stops.NoMemory h =
      broken_of laws d e (map f xs) (map f (set xs at y)) at port frame seen k l (f x) (f y) fits rest s channels same device (map-set f xs at y) looked NoMemory (placed NoMemory h)
  called_stop stops.Worn h = broken_here (bench d (map f xs)) e.desk.past (worn_past d.desk e.desk h)

-- a device that appended nothing leaves nothing to hear
pub rests_silent : (at : ℕ) (k l : Channel) (d e : Driver) → ChannelAt at k l d e → l ≡ k → IsAtRest d → IsAtRestBut at e → IsAtRest e
rests_silent at k l d e h silent rest but =
    all_heard at e but (while_still (λ x. IsHeardOut x.inbound.from.stream) at d e (is_there at k l d e h ∙ ap Some silent ∙ sym h.there) (rest.heard at))
