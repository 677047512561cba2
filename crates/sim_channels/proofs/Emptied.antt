-- The messages for a device are taken out of the machine.
use Rattle.std.proofs.Common.{◌≡◌, ℕ, ◌+◌, true, List, [], ◌∷◌, ◌++◌, length, refl, sym, ap, ◌∙◌, subst}
use Rattle.std.specs.List.{AllByRecursion}
use Rattle.of10_codec.specs.declared.message.Message.{Message}
use Rattle.device_port.specs.Devices.{Meaning}
use Rattle.message_blocks.specs.Spelling.{IsSpelled}
use Rattle.machine_desk.specs.Desks.{DeskView, Enters, turn}
use Rattle.machine_moves.specs.Sends.{CanBeOffered}
use Rattle.machine_steps.specs.declared.entry.Entry.{Entry}
use Rattle.machine_steps.specs.declared.entry.Entry.TheVariants as entries
use Rattle.machine_steps.specs.declared.reply.Reply.{Reply}
use Rattle.machine_steps.specs.declared.reply.Reply.TheVariants.{Out}
use Rattle.machine_steps.specs.Histories.{Turn}
use Rattle.machine_steps.specs.Machine.{State}
use Rattle.world_steps.specs.Worlds.{messages_for}
use Rattle.sim_steps.specs.Benches.{MovesAt, is_plugged}
use Rattle.sim_steps.specs.Deeds.{GetsMessages}
use Rattle.sim_steps.specs.Stretches.{Carried}
use Rattle.sim_steps.proofs.Joining.{carried_then}
use Rattle.sim_steps.proofs.Moments.{carried_entry}
use Rattle.sim_channels.specs.declared.channel.Channel.{Channel}
use Rattle.machine_desk.specs.declared.inbound.Stage.TheVariants.{Live}
use Rattle.sim_channels.specs.declared.driver.Driver.{Driver}
use Rattle.sim_channels.specs.Channels.{EntersNext, IsKept, OthersDid, bench, slot_by, slots_of}
use Rattle.sim_channels.specs.Delivering.{TakesMessages, TakesOut, ahead_of_last}
use Rattle.machine_desk.specs.Driving.{DrivingLaws}
use Rattle.sim_channels.proofs.Keeping.{can_offer, elsewhere, nothing_left}
use Rattle.sim_channels.proofs.Kept.{ChannelAt, is_as_long, is_there, kept_channel, not_fresh, plugged_at, spares, waits_as, while_there}
use Rattle.sim_channels.proofs.Others.{ahead, enters_next, kept_ahead, others_ahead, others_carried, spares_others}
use Rattle.sim_channels.proofs.Places.{there_too}
use Rattle.sim_channels.proofs.Slots.{slots_channel}

pub all_spelled : (ms : List Message) → AllByRecursion CanBeOffered ms → AllByRecursion IsSpelled ms
all_spelled [] all = tt
all_spelled (m ∷ ms) all = (all.0.spelled, all_spelled ms all.1)

-- ---- which messages

last_ahead : (ts : List Turn) (t : Turn) (m : State) → ahead_of_last (ts ++ t ∷ []) m ≡ t.before
last_ahead [] t m = refl
last_ahead (u ∷ ts) t m = last_ahead ts t u.before

pub takes_messages : (c : ℕ) (bytes : List ℕ) (ms : List Message) (a b : DeskView) (reply : Reply) → reply ≡ Out bytes → Enters a (entries.TakeOut c) reply b
    → ms ≡ messages_for c (ahead_of_last b.past b.now) → TakesMessages c bytes ms a b
takes_messages c bytes ms a b reply is enters are = go (subst (λ r. Enters a (entries.TakeOut c) r b) is enters)
  where
    go : Enters a (entries.TakeOut c) (Out bytes) b → TakesMessages c bytes ms a b
    go h = record {
      enters = h;
      are = are ∙ ap (λ (ts : List Turn). messages_for c (ahead_of_last ts b.now)) h.past
          ∙ ap (messages_for c) (last_ahead (a.past ++ h.others) (turn h.between (entries.TakeOut c) (Out bytes) b.now) b.now);
    }

-- ---- behind what others did

pub taken_spelled : DrivingLaws → (old : Driver) → IsKept old → (c : ℕ) (bytes : List ℕ) (ms : List Message) (b : DeskView) → TakesMessages c bytes ms old.desk b → AllByRecursion IsSpelled ms
taken_spelled laws old kept c bytes ms b takes =
    subst (AllByRecursion IsSpelled) (sym takes.are)
    (all_spelled _ (can_offer laws takes.enters.between (kept_ahead laws old (entries.TakeOut c) (Out bytes) b kept takes.enters).reached c))

module _ (laws : DrivingLaws) (at : ℕ) (old new : Driver) (bytes : List ℕ) (ms : List Message) (k : Channel) (kept : IsKept old) (live : k.inbound.stage ≡ Live) (offered : k.to ≡ [])
    (h : ChannelAt at k (record k { to = ms }) old new) (takes : TakesMessages (at + 1) bytes ms old.desk new.desk) where
  abbrev l : Channel
  l = record k { to = ms }

  abbrev taking : Entry
  taking = entries.TakeOut (at + 1)

  abbrev mid : Driver
  mid = ahead old taking (Out bytes) new.desk kept takes.enters

  others : OthersDid old mid
  others = others_ahead old taking (Out bytes) new.desk kept takes.enters

  mid_kept : IsKept mid
  mid_kept = kept_ahead laws old taking (Out bytes) new.desk kept takes.enters

  enters : EntersNext taking (Out bytes) mid.desk new.desk
  enters = enters_next old taking (Out bytes) new.desk kept takes.enters

  channel : ChannelAt at k l mid new
  channel = record { there = h.there; channels = h.channels; same = record { footing = h.same.footing; crew = h.same.crew } }

  is_open : is_plugged (at + 1) mid.desk.now ≡ true
  is_open = plugged_at mid at k mid_kept h.there live

  abbrev waiting : List Message
  waiting = messages_for (at + 1) mid.desk.now

  gets : (d : Meaning) → GetsMessages waiting (slot_by k d) (slot_by l d)
  gets d = λ i. record { device = d; to = (takes.are ∙ ap (λ xs. xs ++ waiting) (sym offered)) i; from = k.inbound.from.stream }

  carried : (devices : List Meaning) → length devices ≡ length old.channels.items → Carried (bench mid devices) (bench new devices)
  carried devices long =
      let d = there_too devices old.channels.items at k long h.there in
      carried_entry taking (Out bytes) (bench mid devices) (bench new devices) refl refl refl (record {
        may = is_open;
        admitted = tt;
        steps = enters.made.steps;
        slots = subst (λ ks. MovesAt (at + 1) (GetsMessages waiting) (slots_of old.channels.items devices) (slots_of ks devices)) (sym h.channels)
            (slots_channel old.channels.items devices at k l d.0 (GetsMessages waiting) h.there d.1 (gets d.0));
        past = enters.past;
      })

  pub taken_out : TakesOut at old new
  taken_out = record {
    kept = kept_channel laws mid new taking (Out bytes) mid_kept tt enters.made.steps (λ c. refl) at k l channel (refl, refl) (not_fresh l live);
    carried = λ devices long.
        carried_then (bench old devices) (bench mid devices) (bench new devices) (others_carried laws old mid kept others devices long) (carried devices long);
    places = is_as_long at k l old new h;
    waiting = waits_as at k l old new h refl;
    spares = spares_others laws old mid kept others at new (spares laws mid new taking (Out bytes) mid_kept enters.made.steps refl at k l channel (elsewhere at) refl (λ e. e));
    taken = λ x there stage. nothing_left laws (at + 1) mid.desk.now (Out bytes) new.desk.now mid_kept.reached enters.made.steps refl is_open;
    plugged = record { channel = l; there = is_there at k l old new h; is = live };
    can = while_there at k l old new h (λ x. AllByRecursion CanBeOffered x.to)
        (λ open_now. subst (AllByRecursion CanBeOffered) (sym takes.are) (can_offer laws mid.desk.now mid_kept.reached (at + 1)));
  }
