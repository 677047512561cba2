-- The session of a device that failed ends.
use Rattle.std.proofs.Common.{◌≡◌, ℕ, ◌+◌, Bool, true, false, refl, sym, ap, ◌∙◌, inl, inr}
use Rattle.std.specs.Prelude.{is_some}
use Rattle.std.proofs.lemmas.Option.{same_Some}
use Rattle.machine_desk.specs.declared.inbound.Stage.TheVariants.{Over, Live}
use Rattle.machine_steps.specs.declared.entry.Entry.{Entry}
use Rattle.machine_steps.specs.declared.entry.Entry.TheVariants as entries
use Rattle.machine_steps.specs.declared.reply.Reply.{Reply}
use Rattle.machine_steps.specs.declared.reply.Reply.TheVariants.{Ended}
use Rattle.machine_steps.specs.Machine.{State}
use Rattle.machine_steps.specs.Steps.{Steps, link_end}
use Rattle.sim_steps.specs.Benches.{Bench, is_plugged}
use Rattle.sim_channels.specs.declared.channel.Channel.{Channel}
use Rattle.sim_channels.specs.declared.driver.Driver.{Driver}
use Rattle.sim_channels.specs.Channels.{EntersNext, IsKept, IsSame, OthersDid}
use Rattle.sim_channels.specs.Delivering.{Leaves}
use Rattle.machine_desk.specs.Driving.{DrivingLaws}
use Rattle.sim_channels.specs.Staging.{ClosesAt, HasStage}
use Rattle.sim_channels.proofs.Keeping.{elsewhere}
use Rattle.sim_channels.proofs.Kept.{ChannelAt, is_as_long, now_there, plugged_at, spares, waits_as}
use Rattle.sim_channels.proofs.Others.{ahead, enters_next, kept_ahead, others_ahead, spares_others}
use Rattle.sim_channels.proofs.Places.{EntersAndStages, staged_slots, with_stage}
use Rattle.sim_channels.proofs.Staged.{closed_so}

-- an open session ends, whatever the machine has
told_end : (c : ℕ) (fault : Bool) (old : State) (reply : Reply) (new : State) → is_plugged c old ≡ true → Steps old (entries.Gone c fault) reply new → reply ≡ Ended (link_end fault)
told_end c fault old reply new plugged (inl (none, passes)) = (let f : true ≡ false = sym plugged ∙ ap is_some none in absurd (cc))
told_end c fault old reply new plugged (inr (s, found, r, e)) = r

module _ (laws : DrivingLaws) (at : ℕ) (old new : Driver) (kept : IsKept old) (live : HasStage at Live old) (closes_so : ClosesAt at true old new) (now_kept : IsKept new) (same : IsSame old new) where
  abbrev goes : Entry
  goes = entries.Gone (at + 1) true

  closes : (reply : Reply) × EntersAndStages at goes reply Over old new
  closes = closed_so laws old new at true kept same closes_so

  abbrev reply : Reply
  reply = closes.0

  abbrev h : EntersAndStages at goes reply Over old new
  h = closes.1

  abbrev left : Channel
  left = with_stage Over h.channel

  -- behind what others did
  abbrev next : Driver
  next = ahead old goes reply new.desk kept h.enters

  others : OthersDid old next
  others = others_ahead old goes reply new.desk kept h.enters

  next_kept : IsKept next
  next_kept = kept_ahead laws old goes reply new.desk kept h.enters

  ends : EntersNext goes reply next.desk new.desk
  ends = enters_next old goes reply new.desk kept h.enters

  channel : ChannelAt at h.channel left next new
  channel = record { there = h.there; channels = h.channels; same = record { footing = same.footing; crew = same.crew } }

  is_open : is_plugged (at + 1) next.desk.now ≡ true
  is_open = plugged_at next at h.channel next_kept h.there (ap (λ (x : Channel). x.inbound.stage) (same_Some h.channel live.channel (sym h.there ∙ live.there)) ∙ live.is)

  ended : reply ≡ Ended (link_end true)
  ended = told_end (at + 1) true next.desk.now reply new.desk.now is_open ends.made.steps

  pub leaves : Leaves at old new
  leaves = record {
    kept = now_kept;
    ahead = next;
    others = others;
    reply = reply;
    memory = h.memory;
    enters = λ devices long. record {
      may = is_open;
      admitted = tt;
      steps = ends.made.steps;
      slots = ap (λ (b : Bench). b.slots) (staged_slots at goes reply Over old new h devices);
      past = ends.past;
    };
    places = is_as_long at h.channel left next new channel;
    spares = spares_others laws old next kept others at new
        (spares laws next new goes reply next_kept ends.made.steps refl at h.channel left channel (elsewhere at) refl (λ other. (let f : Over ≡ Live = other in absurd (cc))));
    left = now_there at h.channel left next new channel (λ x. x.inbound.stage ≡ Over) refl;
    waiting = waits_as at h.channel left next new channel refl;
  }
