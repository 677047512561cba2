-- The next message is offered to a device, and the machine is told.
use Rattle.std.proofs.Common.{◌≡◌, ℕ, ◌+◌, ◌<◌, Bool, true, false, List, length, get_or, map, set, refl, sym, ap, ◌∙◌, subst}
use Rattle.std.specs.Prelude.{Some}
use Rattle.std.specs.List.{AllByRecursion, slice_get}
use Rattle.std.specs.Option.{option_map}
use Rattle.std.specs.Vec.{with_item}
use Rattle.std.proofs.lemmas.List.{length-set, map-set}
use Rattle.std.proofs.lemmas.Option.{same_Some, slice_get-get_or, slice_get-map}
use Rattle.device_port.specs.Devices.{Meaning}
use Rattle.device_port.specs.Devices.Call.{Offered}
use Rattle.machine_desk.specs.Desks.{Enters}
use Rattle.machine_desk.specs.Orders.{Stops}
use Rattle.machine_desk.specs.declared.asking.DeskStop.{DeskStop}
use Rattle.machine_desk.specs.declared.asking.DeskStop.TheVariants as stops
use Rattle.machine_moves.specs.Sends.{CanBeOffered}
use Rattle.machine_steps.specs.declared.entry.Entry.{Entry}
use Rattle.machine_steps.specs.declared.entry.Entry.TheVariants as entries
use Rattle.machine_steps.specs.declared.note.Note.TheVariants as notes
use Rattle.machine_steps.specs.declared.reply.Reply.{Reply}
use Rattle.machine_steps.specs.declared.reply.Reply.TheVariants.{Done, NoMemory}
use Rattle.world_steps.specs.Worlds.{lacks_memory}
use Rattle.sim_steps.specs.Benches.{MovesAt, Slot, is_plugged}
use Rattle.sim_steps.specs.Deeds.{CallsAt, CallsSlot}
use Rattle.sim_steps.specs.Stretches.{BreaksOff, Carried}
use Rattle.sim_steps.proofs.Broken.{broken_behind, broken_by, broken_here}
use Rattle.sim_steps.proofs.Joining.{carried_then}
use Rattle.sim_steps.proofs.Moments.{called, carried_call, carried_failed}
use Rattle.sim_channels.specs.declared.channel.Channel.{Channel}
use Rattle.machine_desk.specs.declared.inbound.Inbound.{Inbound}
use Rattle.machine_desk.specs.declared.inbound.Stage.TheVariants.{Live}
use Rattle.sim_channels.specs.declared.driver.Driver.{Driver}
use Rattle.sim_channels.specs.Channels.{EntersNext, Fits, IsKept, IsSame, OthersDid, bench, slots_of}
use Rattle.sim_channels.specs.Delivering.{CanOffer, GoesOn, Leaves, OffersAt, OffersFirst, Spares, left_in, offers_left, took_by}
use Rattle.machine_desk.specs.Driving.{DrivingLaws}
use Rattle.sim_channels.specs.Staging.{HasStage}
use Rattle.sim_channels.specs.Waiting.{IsTaken}
use Rattle.sim_channels.proofs.Broken.{worn_past}
use Rattle.sim_channels.proofs.Keeping.{messages_same, session_same}
use Rattle.sim_channels.proofs.Kept.{ChannelAt, all_left, is_as_long, is_there, kept_channel, not_fresh, now_there, plugged_at, spares, spares_then, waiting_but, while_there}
use Rattle.sim_channels.proofs.Others.{ahead, enters_next, kept_ahead, others_ahead, others_beside, others_carried, others_taken, same_by, spares_others}
use Rattle.sim_channels.proofs.Slots.{set_beside, set_there, slots_move}
use Rattle.sim_channels.proofs.Staged.{Stands}

-- the device with an index is another
pub record DeviceAt (at : ℕ) (d e : Meaning) (ds es : List Meaning) : Type 0 where
  pub there : slice_get ds at ≡ Some d
  pub devices : es ≡ set ds at e

device_there : {B : Type 0} (f : B → Meaning) (xs : List B) (at : ℕ) (x : B) → at < length xs → slice_get (map f xs) at ≡ Some (f (get_or xs at x))
device_there f xs at x within = slice_get-map f xs at ∙ ap (option_map f) (slice_get-get_or xs at x within)

-- what the first message of a channel is offered by
pub record Reads (k : Channel) (d : Meaning) : Type 0 where
  pub some : 0 < length k.to
  pub can : AllByRecursion CanBeOffered k.to
  pub waiting : k.waiting ≡ length d.pending

pub reads : {B : Type 0} (f : B → Meaning) (xs : List B) (at : ℕ) (x : B) (driver : Driver) (k : Channel) → Fits driver (map f xs) → Stands at Live driver k → CanOffer at driver
    → 0 < offers_left at driver → at < length xs → Reads k (f (get_or xs at x))
reads f xs at x driver k fits s can some within = record {
  some = subst (λ o. 0 < left_in o) s.there some;
  can = can k s.there s.is;
  waiting = fits.waiting at k (f (get_or xs at x)) s.there (device_there f xs at x within);
}

-- what is known once the machine was told of an offer
pub record IsTold (at : ℕ) (old mid : Driver) (ds es : List Meaning) (failed : Bool) : Type 0 where
  pub kept : IsKept mid
  pub plugged : HasStage at Live mid
  pub taken : failed ≡ false → OffersAt at old ds mid es
  pub goes_on : failed ≡ false → GoesOn true at old mid
  pub left : failed ≡ true → (new : Driver) → Leaves at mid new → OffersAt at old ds new es

module _ (laws : DrivingLaws) (at : ℕ) (old mid : Driver) (k l : Channel) (d e : Meaning) (ds es : List Meaning) (fits : Fits old ds) (s : Stands at Live old k)
    (same : IsSame old mid) (channels : mid.channels.items ≡ set old.channels.items at l) (g : DeviceAt at d e ds es) (failed : Bool) (o : OffersFirst failed k d l e)
    (reply : Reply) (enters : Enters old.desk (entries.Note (notes.Offered (at + 1) failed)) reply mid.desk) where
  abbrev telling : Entry
  telling = entries.Note (notes.Offered (at + 1) failed)

  abbrev deals : Slot → Slot → Type 0
  deals = CallsSlot (Offered o.bytes (took_by failed))

  -- behind what others did
  abbrev next : Driver
  next = ahead old telling reply mid.desk fits.kept enters

  others : OthersDid old next
  others = others_ahead old telling reply mid.desk fits.kept enters

  kept : IsKept next
  kept = kept_ahead laws old telling reply mid.desk fits.kept enters

  told_next : EntersNext telling reply next.desk mid.desk
  told_next = enters_next old telling reply mid.desk fits.kept enters

  h : ChannelAt at k l next mid
  h = record { there = s.there; channels = channels; same = record { footing = same.footing; crew = same.crew } }

  is_open : is_plugged (at + 1) next.desk.now ≡ true
  is_open = plugged_at next at k kept s.there s.is

  is_live : l.inbound.stage ≡ Live
  is_live = ap (λ (i : Inbound). i.stage) o.inbound ∙ s.is

  is_e : slice_get es at ≡ Some e
  is_e = ap (λ xs. slice_get xs at) g.devices ∙ set_there ds at d e g.there

  device_beside : (n : ℕ) → (n ≡ at → ⊥) → slice_get es n ≡ slice_get ds n
  device_beside n other = ap (λ xs. slice_get xs n) g.devices ∙ set_beside ds at n e other

  mid_kept : IsKept mid
  mid_kept =
      kept_channel laws next mid telling reply kept tt told_next.made.steps (λ c. refl) at k l h (ap (λ (i : Inbound). i.connection) o.inbound, ap (λ (i : Inbound). i.stage) o.inbound) (not_fresh l is_live)

  mid_spares : Spares at old mid
  mid_spares =
      spares_others laws old next fits.kept others at mid
      (spares laws next mid telling reply kept told_next.made.steps refl at k l h (λ c other. refl) (ap (λ (i : Inbound). i.from.stream) o.inbound) (λ f. s.is))

  slots : MovesAt (at + 1) deals (bench next ds).slots (bench mid es).slots
  slots =
      subst (λ ks. MovesAt (at + 1) deals (slots_of old.channels.items ds) (slots_of ks es)) (sym channels)
      (subst (λ xs. MovesAt (at + 1) deals (slots_of old.channels.items ds) (slots_of (set old.channels.items at l) xs)) (sym g.devices)
      (slots_move old.channels.items ds at k l d e deals s.there g.there o.offers))

  -- by whether it failed
  calls_by : (b : Bool) → MovesAt (at + 1) (CallsSlot (Offered o.bytes (took_by b))) (bench next ds).slots (bench mid es).slots
      → EntersNext (entries.Note (notes.Offered (at + 1) b)) reply next.desk mid.desk → CallsAt (at + 1) (Offered o.bytes (took_by b)) reply (bench next ds) (bench mid es)
  calls_by true m t = record { plugged = is_open; slots = m; noted = t.made.steps; past = t.past }
  calls_by false m t = record { plugged = is_open; slots = m; noted = t.made.steps; past = t.past }

  calls : (b : Bool) → failed ≡ b → CallsAt (at + 1) (Offered o.bytes (took_by b)) reply (bench next ds) (bench mid es)
  calls b is = subst (λ f. CallsAt (at + 1) (Offered o.bytes (took_by f)) reply (bench next ds) (bench mid es)) is (calls_by failed slots told_next)

  mid_waiting : (x : Channel) (y : Meaning) → slice_get mid.channels.items at ≡ Some x → slice_get es at ≡ Some y → x.waiting ≡ length y.pending
  mid_waiting x y there is =
      now_there at k l next mid h (λ z. z.waiting ≡ length y.pending) (o.waiting ∙ ap (λ (z : Meaning). length z.pending) (same_Some e y (sym is_e ∙ is))) x there

  mid_fits : Fits mid es
  mid_fits = record {
    kept = mid_kept;
    places = is_as_long at k l next mid h ∙ fits.places ∙ sym (ap length g.devices ∙ length-set ds at e);
    waiting = waiting_but old mid ds es at fits mid_spares.others.channels device_beside mid_waiting;
  }

  -- up to here others alone did something
  carried : (new : Driver) → Carried (bench next ds) (bench new es) → Carried (bench old ds) (bench new es)
  carried new = carried_then (bench old ds) (bench next ds) (bench new es) (others_carried laws old next fits.kept others ds (sym fits.places))

  -- it took the message in
  taken_still : IsTaken at next → IsTaken at mid
  taken_still taken x there stage =
      messages_same laws (at + 1) next.desk.now mid.desk.now kept.reached mid_kept.reached is_open
      (session_same laws next.desk.now telling reply mid.desk.now kept.reached told_next.made.steps refl (at + 1) refl)
      ∙ taken k s.there s.is

  -- the device did so, whatever the machine replied
  pub is_broken : BreaksOff (bench old ds) mid.desk.past
  is_broken =
      let did = others_beside laws old next fits.kept others ds in
      broken_behind (bench old ds) did.events (bench next ds) mid.desk.past did.runs
      (broken_by (called (at + 1) (Offered o.bytes (took_by failed)) reply (bench next ds) (bench mid es)) (calls failed refl))

  pub is_told : lacks_memory reply ≡ false → IsTold at old mid ds es failed
  is_told memory = record {
    kept = mid_kept;
    plugged = record { channel = l; there = is_there at k l next mid h; is = is_live };
    taken = λ whole. record {
      fits = mid_fits;
      carried = carried mid (carried_call (at + 1) (Offered o.bytes (took_by false)) reply (bench next ds) (bench mid es) refl refl memory (calls false whole));
      spares = mid_spares;
      taken = λ quiet taken. taken_still (others_taken laws old next fits.kept others quiet at taken);
    };
    goes_on = λ whole. record {
      plugged = record { channel = l; there = is_there at k l next mid h; is = is_live };
      can = while_there at k l next mid h (λ x. AllByRecursion CanBeOffered x.to) (λ open_now. o.can);
      fewer = subst (λ n. left_in n < offers_left at old) (sym (is_there at k l next mid h)) (subst (λ n. length l.to < left_in n) (sym s.there) (o.fewer whole));
    };
    left = λ fails new leaves. record {
      fits = record {
        kept = leaves.kept;
        places = leaves.places ∙ mid_fits.places;
        waiting = waiting_but mid new es es at mid_fits leaves.spares.others.channels (λ n other. refl)
            (λ x y there is. leaves.waiting l x (is_there at k l next mid h) there ∙ mid_waiting l y (is_there at k l next mid h) is);
      };
      carried = carried new
          (carried_failed (at + 1) (Offered o.bytes (took_by true)) reply (bench next ds) (bench mid es) leaves.reply (bench leaves.ahead es) (bench new es)
          (others_beside laws mid leaves.ahead mid_kept leaves.others es) refl refl memory leaves.memory (calls true fails) (leaves.enters es (sym mid_fits.places)));
      spares = spares_then at old mid new mid_spares leaves.spares;
      taken = λ quiet taken. all_left _ at new leaves.left;
    };
  }

module _ (laws : DrivingLaws) {B : Type 0} (f : B → Meaning) (xs : List B) (at : ℕ) (x y : B) (old mid : Driver) (k l : Channel) (failed : Bool) (c : ℕ) (fits : Fits old (map f xs))
    (s : Stands at Live old k) (within : at < length xs) (o : OffersFirst failed k (f (get_or xs at x)) l (f y))
    (rest : mid ≡ record old { desk = mid.desk; channels = with_item old.channels at l }) (footing : mid.desk.footing ≡ old.desk.footing) (is : c ≡ at + 1) where
  same : IsSame old mid
  same = same_by old mid (ap (λ (m : Driver). m.crew) rest) footing

  device : DeviceAt at (f (get_or xs at x)) (f y) (map f xs) (map f (set xs at y))
  device = record { there = device_there f xs at x within; devices = map-set f xs at y }

  told_so : (reply : Reply) → Enters old.desk (entries.Note (notes.Offered c failed)) reply mid.desk → Enters old.desk (entries.Note (notes.Offered (at + 1) failed)) reply mid.desk
  told_so reply enters = subst (λ n. Enters old.desk (entries.Note (notes.Offered n failed)) reply mid.desk) is enters

  pub told : Enters old.desk (entries.Note (notes.Offered c failed)) Done mid.desk → IsTold at old mid (map f xs) (map f (set xs at y)) failed
  told enters =
      is_told laws at old mid k l (f (get_or xs at x)) (f y) (map f xs) (map f (set xs at y)) fits s same (ap (λ (m : Driver). m.channels.items) rest) device failed o Done (told_so Done enters) refl

  pub told_broken : (reply : Reply) → Enters old.desk (entries.Note (notes.Offered c failed)) reply mid.desk → BreaksOff (bench old (map f xs)) mid.desk.past
  told_broken reply enters =
      is_broken laws at old mid k l (f (get_or xs at x)) (f y) (map f xs) (map f (set xs at y)) fits s same (ap (λ (m : Driver). m.channels.items) rest) device failed o reply (told_so reply enters)

  -- the machine couldn't be told
  pub told_stop : (stop : DeskStop) → Stops stop (entries.Note (notes.Offered c failed)) old.desk mid.desk → BreaksOff (bench old (map f xs)) mid.desk.past
  told_stop stops.NoMemory h = told_broken NoMemory h
  told_stop stops.Worn h = broken_here (bench old (map f xs)) mid.desk.past (worn_past old.desk mid.desk h)
