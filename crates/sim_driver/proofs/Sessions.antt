-- A session is opened or ends, and no other place changes.
use Rattle.std.proofs.Common.{◌≡◌, ℕ, ◌+◌, Bool, true, false, List, length, refl, sym, ap, ◌∙◌, subst, inl}
use Rattle.std.specs.Prelude.{[], Option, Some, is_some}
use Rattle.std.specs.List.{slice_get}
use Rattle.std.proofs.lemmas.Option.{same_Some}
use Rattle.of10_stream.specs.Cut.IsOpen.{NoHeader}
use Rattle.sim_steps.specs.Parts.{IsHeardOut}
use Rattle.sim_channels.specs.declared.channel.Channel.{Channel}
use Rattle.device_port.specs.Devices.{Meaning}
use Rattle.machine_steps.specs.declared.entry.Entry.{Entry}
use Rattle.machine_steps.specs.declared.entry.Entry.TheVariants as entries
use Rattle.machine_steps.specs.declared.reply.Reply.{Reply}
use Rattle.machine_steps.specs.Machine.{session_at}
use Rattle.machine_moves.specs.Told.{concerns, is_end, is_heard}
use Rattle.sim_steps.specs.Benches.{Slot}
use Rattle.sim_steps.specs.Deeds.{MayEnter}
use Rattle.sim_steps.specs.Deeds.Deed.{Enters}
use Rattle.sim_steps.specs.Parts.{asks, tells_settling}
use Rattle.sim_steps.specs.Stretches.{BreaksOff}
use Rattle.sim_turns.proofs.Broken.{asked_stop}
use Rattle.machine_desk.specs.Desks.{DeskView}
use Rattle.machine_desk.specs.Orders.{Stops}
use Rattle.machine_desk.specs.declared.asking.DeskStop.{DeskStop}
use Rattle.machine_desk.specs.Hearing.{stage_opened, was_begun}
use Rattle.machine_desk.specs.declared.inbound.Stage.{Stage}
use Rattle.machine_desk.specs.declared.inbound.Stage.TheVariants.{Over, Live, Unopened}
use Rattle.sim_channels.specs.declared.driver.Driver.{Driver}
use Rattle.sim_channels.specs.Channels.{Fits, IsFresh, IsKept, IsSame, OthersDid, bench, slots_of}
use Rattle.machine_desk.specs.Driving.{DrivingLaws}
use Rattle.sim_channels.specs.Resting.{DoesAt, RestingLaws}
use Rattle.sim_channels.specs.Staging.{ClosesAt, HasStage, OpensAt}
use Rattle.sim_channels.specs.Waiting.{IsAtRest, IsDone, IsHeard, IsLeft, IsOffered}
use Rattle.sim_channels.proofs.Keeping.{elsewhere, session_same}
use Rattle.sim_channels.proofs.Kept.{ChannelAt, is_as_long, is_beside, now_there, plugged_at, waits_as}
use Rattle.sim_channels.proofs.Making.{may_make}
use Rattle.sim_channels.proofs.Others.{ahead, kept_ahead, others_ahead, others_quiet, tends_none, tends_of}
use Rattle.sim_channels.proofs.Places.{EntersAndStages, staged_slots, there_too, with_stage}
use Rattle.sim_channels.proofs.Slots.{set_there, slot_next, slots_get}
use Rattle.sim_channels.proofs.Staged.{closed_so, opened_so}
use Rattle.sim_driver.specs.Commands.{AsksFor, IsChanged}
use Rattle.sim_driver.proofs.Asking.{asks_for}
use Rattle.sim_driver.proofs.Doing.{begun_at}

-- when an entry is made

may_open : (d : Driver) (at : ℕ) → HasStage at Unopened d → IsKept d → (devices : List Meaning) → length devices ≡ length d.channels.items → MayEnter (entries.Open (at + 1)) (bench d devices)
may_open d at un kept devices long =
    let device = there_too devices d.channels.items at un.channel long un.there in
    let ks = d.channels.items in (
      ap (λ (o : Option Slot). is_some o) (slot_next at (slots_of ks devices) ∙ slots_get ks devices at un.channel device.0 un.there device.1),
      begun_at d at un.channel kept un.there ∙ ap was_begun un.is,
    )

may_close : (d : Driver) (at : ℕ) (fault : Bool) → HasStage at Live d → (devices : List Meaning) → Fits d devices
    → MayEnter (entries.Gone (at + 1) fault) (bench d devices)
may_close d at fault live devices fits = plugged_at d at live.channel fits.kept live.there live.is

-- memory didn't suffice for it, or the hall is worn
pub broken_open : DrivingLaws → (d : Driver) (at : ℕ) → IsKept d → HasStage at Unopened d → (b : DeskView) (stop : DeskStop) → Stops stop (entries.Open (at + 1)) d.desk b
    → (devices : List Meaning) → length devices ≡ length d.channels.items → BreaksOff (bench d devices) b.past
broken_open laws d at kept un b stop stops devices long = asked_stop laws (entries.Open (at + 1)) d b kept devices stop stops refl (may_open d at un kept devices long)

-- the machine was given an entry, and then a channel has another stage
module _ (laws : DrivingLaws) (resting : RestingLaws) (d e : Driver) (at : ℕ) (kept : IsKept d) (also : IsKept e) (same : IsSame d e) (entry : Entry) (reply : Reply) (stage : Stage)
    (h : EntersAndStages at entry reply stage d e) where
  -- the driver behind what others did
  abbrev M : Driver
  M = ahead d entry reply e.desk kept h.enters

  others : OthersDid d M
  others = others_ahead d entry reply e.desk kept h.enters

  at_channel : ChannelAt at h.channel (with_stage stage h.channel) M e
  at_channel = record { there = h.there; channels = h.channels; same = record { footing = same.footing; crew = same.crew } }

  changed : may_make entry ≡ false → is_heard entry ≡ false → ((c : ℕ) → (c ≡ at + 1 → ⊥) → concerns c entry h.enters.between ≡ false) → IsChanged at d e
  changed none other beside =
      let K = h.channel in
      let L = with_stage stage K in
      record {
        kept = also;
        stays = record {
          sessions = λ quiet c o.
              session_same laws h.enters.between entry reply e.desk.now (kept_ahead laws d entry reply e.desk kept h.enters).reached h.enters.made.steps none c
              (beside c o)
              ∙ ap (session_at c) (others_quiet laws d M kept others quiet);
          channels = is_beside at K L M e at_channel;
        };
        channels = record {
          count = is_as_long at K L M e at_channel;
          others = is_beside at K L M e at_channel;
          waiting = waits_as at K L M e at_channel refl;
        };
        jobs = λ idle. laws.none h.enters.between entry reply e.desk.now (tends_none laws d M kept (tends_of d M others) idle) other h.enters.made.steps;
        same = same;
      }

  left : stage ≡ Over → IsLeft at e
  left is = now_there at h.channel (with_stage stage h.channel) M e at_channel (λ x. x.inbound.stage ≡ Over) is

  -- whatever the devices are, the entry alone was asked for
  asked_staged : IsAtRest d → asks entry ≡ true → (tells_settling (Enters entry reply) ≡ true → IsDone d)
      → ((devices : List Meaning) → Fits d devices → MayEnter entry (bench d devices)) → AsksFor entry d e
  asked_staged rest asked settled may =
      asks_for laws resting d entry reply e.desk kept h.enters e (staged_slots at entry reply stage d e h) rest asked settled h.memory may

module _ (laws : DrivingLaws) (resting : RestingLaws) (d e : Driver) (at : ℕ) (kept : IsKept d) (also : IsKept e) (same : IsSame d e) where
  module _ (opens : OpensAt at d e) where
    opened_as : (reply : Reply) × EntersAndStages at (entries.Open (at + 1)) reply (stage_opened (is_end reply)) d e
    opened_as = opened_so laws d e at kept same opens

    abbrev stage_now : Stage
    stage_now = stage_opened (is_end opened_as.0)

    pub opened : IsChanged at d e
    opened = changed laws resting d e at kept also same (entries.Open (at + 1)) opened_as.0 stage_now opened_as.1 refl refl (elsewhere at)

    -- nothing was taken out for the device, and nothing came from it
    fresh : HasStage at Unopened d → IsFresh opened_as.1.channel
    fresh un = kept.fresh at opened_as.1.channel opened_as.1.there (ap (λ (x : Channel). x.inbound.stage) (same_Some opened_as.1.channel un.channel (sym opened_as.1.there ∙ un.there)) ∙ un.is)

    there_now : (k : Channel) → slice_get e.channels.items at ≡ Some k → with_stage stage_now opened_as.1.channel ≡ k
    there_now k there =
        let h = opened_as.1 in
        same_Some (with_stage stage_now h.channel) k (sym (ap (λ ks. slice_get ks at) h.channels ∙ set_there d.channels.items at h.channel (with_stage stage_now h.channel) h.there) ∙ there)

    pub offered_opened : HasStage at Unopened d → IsOffered at e
    offered_opened un k there live = subst (λ (x : Channel). x.to ≡ []) (there_now k there) (fresh un).to

    pub heard_opened : HasStage at Unopened d → IsHeard at e
    heard_opened un k there live =
        subst (λ (x : Channel). IsHeardOut x.inbound.from.stream) (there_now k there)
        (subst IsHeardOut (sym (fresh un).from) (record { unbroken = refl; open_end = NoHeader refl }))

    pub asked_opened : HasStage at Unopened d → IsAtRest d → AsksFor (entries.Open (at + 1)) d e
    asked_opened un rest =
        asked_staged laws resting d e at kept also same (entries.Open (at + 1)) opened_as.0 stage_now opened_as.1 rest refl (λ is. absurd (cc)) (λ devices fits. may_open d at un kept devices (sym fits.places))

  module _ (fault : Bool) (closes : ClosesAt at fault d e) where
    closed_as : (reply : Reply) × EntersAndStages at (entries.Gone (at + 1) fault) reply Over d e
    closed_as = closed_so laws d e at fault kept same closes

    pub closed : IsChanged at d e
    closed = changed laws resting d e at kept also same (entries.Gone (at + 1) fault) closed_as.0 Over closed_as.1 refl refl (elsewhere at)

    pub asked_closed : asks (entries.Gone (at + 1) fault) ≡ true → HasStage at Live d → IsAtRest d → AsksFor (entries.Gone (at + 1) fault) d e
    asked_closed can live rest =
        asked_staged laws resting d e at kept also same (entries.Gone (at + 1) fault) closed_as.0 Over closed_as.1 rest can (λ is. absurd (cc)) (may_close d at fault live)

    -- the device is left
    pub rest_left : IsAtRest d → IsAtRest e
    rest_left rest =
        let change = closed in
        let none = resting.left at e (left laws resting d e at kept also same (entries.Gone (at + 1) fault) closed_as.0 Over closed_as.1 refl) in
        let does : DoesAt at d e = record {
          kept = also;
          same = same;
          others = record { sessions = λ alone. change.stays.sessions (inl alone); channels = change.stays.channels };
          jobs = λ alone. change.jobs (rest.done alone).jobs;
          taken = λ alone. none.taken;
          offered = none.offered;
        } in
        resting.all at e (resting.beside at d e kept (resting.but at d rest) does) none.heard
