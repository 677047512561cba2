-- What the driver keeps of the machine, behind an entry and where one channel became another.
use Rattle.std.proofs.Common.{◌≡◌, ℕ, ◌+◌, true, false, List, length, set, refl, sym, ap, ◌∙◌, subst, ⊎_elim, arith}
use Rattle.std.specs.Prelude.{Some}
use Rattle.std.specs.List.{slice_get}
use Rattle.std.proofs.lemmas.Bool.{cases_eq}
use Rattle.std.proofs.lemmas.List.{length-set}
use Rattle.std.proofs.lemmas.Option.{same_Some, slice_get_within}
use Rattle.device_port.specs.Devices.{Meaning}
use Rattle.machine_moves.specs.Told.{concerns, is_heard}
use Rattle.machine_steps.specs.declared.entry.Entry.{Entry}
use Rattle.machine_steps.specs.declared.entry.Entry.TheVariants as entries
use Rattle.machine_steps.specs.declared.reply.Reply.{Reply}
use Rattle.machine_steps.specs.Admitting.{Admits}
use Rattle.machine_steps.specs.Machine.{State, was_opened}
use Rattle.machine_steps.specs.Steps.{Steps}
use Rattle.sim_steps.specs.Benches.{is_plugged}
use Rattle.sim_steps.specs.Parts.{IsHeardOut}
use Rattle.sim_channels.specs.declared.channel.Channel.{Channel}
use Rattle.machine_desk.specs.declared.inbound.Inbound.{Inbound}
use Rattle.machine_desk.specs.declared.inbound.Stage.TheVariants.{Over, Live, Unopened}
use Rattle.sim_channels.specs.declared.driver.Driver.{Driver}
use Rattle.machine_desk.specs.Hearing.{IsSameSession, IsStaged, is_live, was_begun}
use Rattle.sim_channels.specs.Channels.{Fits, IsFresh, IsKept, IsReached, IsSame}
use Rattle.sim_channels.specs.Delivering.{Spares}
use Rattle.machine_desk.specs.Driving.{DrivingLaws}
use Rattle.sim_channels.specs.Waiting.{IsLeft, WhilePlugged}
use Rattle.sim_channels.proofs.Keeping.{IsAside, aside, bears_on, reached_on, session_same}
use Rattle.sim_channels.proofs.Making.{may_make}
use Rattle.sim_channels.proofs.Others.{IsPlaced, kept_all, kept_each, quiet_on, same_desk, same_then, still_placed, places_alone}
use Rattle.sim_channels.proofs.Slots.{set_beside, set_there}

-- of the channels this one became another
pub record ChannelAt (at : ℕ) (k l : Channel) (old new : Driver) : Type 0 where
  pub there : slice_get old.channels.items at ≡ Some k
  pub channels : new.channels.items ≡ set old.channels.items at l
  pub same : IsSame old new

module _ (at : ℕ) (k l : Channel) (old new : Driver) (h : ChannelAt at k l old new) where
  pub is_there : slice_get new.channels.items at ≡ Some l
  is_there = ap (λ ks. slice_get ks at) h.channels ∙ set_there old.channels.items at k l h.there

  pub is_beside : (n : ℕ) → (n ≡ at → ⊥) → slice_get new.channels.items n ≡ slice_get old.channels.items n
  is_beside n other = ap (λ ks. slice_get ks n) h.channels ∙ set_beside old.channels.items at n l other

  pub is_as_long : length new.channels.items ≡ length old.channels.items
  is_as_long = ap length h.channels ∙ length-set old.channels.items at l

  -- of the channel that stands there now
  pub now_there : (P : Channel → Type 0) → P l → (x : Channel) → slice_get new.channels.items at ≡ Some x → P x
  now_there P p x there = subst P (same_Some l x (sym is_there ∙ there)) p

  pub while_there : (P : Channel → Type 0) → (l.inbound.stage ≡ Live → P l) → WhilePlugged P at new
  while_there P p = now_there (λ x. x.inbound.stage ≡ Live → P x) p

  pub waits_as : l.waiting ≡ k.waiting → (x y : Channel) → slice_get old.channels.items at ≡ Some x → slice_get new.channels.items at ≡ Some y → y.waiting ≡ x.waiting
  waits_as same x y was = now_there (λ z. z.waiting ≡ x.waiting) (same ∙ ap (λ (z : Channel). z.waiting) (same_Some k x (sym h.there ∙ was))) y

  -- all stays kept, where the one channel is placed and the sessions of others are as they were
  pub kept_but : IsKept old → new.desk.now.settings ≡ old.desk.now.settings → IsReached new.desk.now → IsPlaced at new.desk.now l
      → ((c : ℕ) → (c ≡ at + 1 → ⊥) → IsAside c old.desk.now new.desk.now) → IsKept new
  kept_but kept settings reached placed aside =
      kept_each old new kept h.same settings reached is_as_long
      (λ n x there. ⊎_elim
      (λ e. subst (λ i. IsPlaced i new.desk.now x) (sym e) (now_there (IsPlaced at new.desk.now) placed x (ap (slice_get new.channels.items) (sym e) ∙ there)))
      (λ o. still_placed old new kept h.same settings reached n x (sym (is_beside n o) ∙ there) (aside (n + 1) (λ e. o (omega (arith, e))))) (cases_eq n at))
      (λ c open_now. ⊎_elim (λ e. (let within = slice_get_within old.channels.items at k h.there in (omega (arith, e), omega (arith, e, within))))
      (λ o. places_alone old.channels.items old.desk.now kept.sessions c (sym (aside c o).live ∙ open_now)) (cases_eq c (at + 1)))

-- from how the machine is given an entry, and how a channel is written then
pub channel_at : (at : ℕ) (old mid : Driver) (k : Channel) → slice_get old.channels.items at ≡ Some k → mid ≡ record old { desk = mid.desk } → (l : Channel) (new : Driver)
    → new.channels.items ≡ set mid.channels.items at l → IsSame old new → ChannelAt at k l old new
channel_at at old mid k there rest l new channels same = record {
  there = there;
  channels = channels ∙ ap (λ (x : Driver). set x.channels.items at l) rest;
  same = same;
}

-- ---- stages

pub staged_as : (i j : Inbound) (m : State) → IsSameSession i j → IsStaged i m → IsStaged j m
staged_as i j m same h = record {
  live = ap (λ c. is_plugged c m) same.0 ∙ h.live ∙ ap is_live (sym same.1);
  opened = ap (λ c. was_opened c m) same.0 ∙ h.opened ∙ ap was_begun (sym same.1);
}

pub staged_at : (driver : Driver) (at : ℕ) (k : Channel) → IsKept driver → slice_get driver.channels.items at ≡ Some k → is_plugged (at + 1) driver.desk.now ≡ is_live k.inbound.stage
staged_at driver at k kept there = ap (λ c. is_plugged c driver.desk.now) (sym (kept.names at k there)) ∙ (kept.sessions.staged at k there).live

pub plugged_at : (driver : Driver) (at : ℕ) (k : Channel) → IsKept driver → slice_get driver.channels.items at ≡ Some k → k.inbound.stage ≡ Live → is_plugged (at + 1) driver.desk.now ≡ true
plugged_at driver at k kept there plugged = staged_at driver at k kept there ∙ ap is_live plugged

pub all_left : (P : Channel → Type 0) (at : ℕ) (driver : Driver) → IsLeft at driver → WhilePlugged P at driver
all_left P at driver left = λ k e plugged. (let other : Over ≡ Live = sym (left k e) ∙ plugged in absurd (cc))

pub not_fresh : (k : Channel) → k.inbound.stage ≡ Live → k.inbound.stage ≡ Unopened → IsFresh k
not_fresh k plugged unplugged = (let f : Live ≡ Unopened = sym plugged ∙ unplugged in absurd (cc))

-- ---- behind an entry

module _ (laws : DrivingLaws) (old new : Driver) (entry : Entry) (reply : Reply) (kept : IsKept old) (admitted : Admits old.desk.now entry) (steps : Steps old.desk.now entry reply new.desk.now) where
  settings : new.desk.now.settings ≡ old.desk.now.settings
  settings = (laws.grow old.desk.now entry reply new.desk.now steps).settings

  reached : IsReached new.desk.now
  reached = reached_on old.desk.now entry reply new.desk.now kept.reached admitted steps

  beside : (c : ℕ) → bears_on c entry ≡ false → IsAside c old.desk.now new.desk.now
  beside = aside laws old.desk.now entry reply new.desk.now kept.reached steps

  -- of the session at a place, if of any
  pub kept_session : (at : ℕ) (k l : Channel) → ChannelAt at k l old new → IsPlaced at new.desk.now l → ((c : ℕ) → (c ≡ at + 1 → ⊥) → bears_on c entry ≡ false) → IsKept new
  kept_session at k l h placed others = kept_but at k l old new h kept settings reached placed (λ c o. beside c (others c o))

  -- of no session, where no channel changes
  module _ (none : (c : ℕ) → bears_on c entry ≡ false) where
    pub kept_entry : new ≡ record old { desk = new.desk } → new.desk.footing ≡ old.desk.footing → IsKept new
    kept_entry e footing =
        kept_all old new kept (same_desk old new e footing) settings reached (ap (λ (x : Driver). x.channels.items) e) (λ c. beside c (none c))

    -- or one does, and its session stays as it is
    pub kept_channel : (at : ℕ) (k l : Channel) → ChannelAt at k l old new → IsSameSession k.inbound l.inbound → (l.inbound.stage ≡ Unopened → IsFresh l) → IsKept new
    kept_channel at k l h session fresh =
        let was = still_placed old new kept h.same settings reached at k h.there (beside (at + 1) (none (at + 1))) in
        kept_session at k l h (record { name = session.0 ∙ was.name; staged = staged_as k.inbound l.inbound new.desk.now session was.staged; fresh = fresh }) (λ c o. none c)

-- ---- other places

unheard : (entry : Entry) → may_make entry ≡ false → is_heard entry ≡ false
unheard (entries.Heard c input) f = f
unheard entry f = refl

-- an entry that makes no state, and is of this place alone
pub spares : DrivingLaws → (old new : Driver) (entry : Entry) (reply : Reply) → IsKept old → Steps old.desk.now entry reply new.desk.now → may_make entry ≡ false → (at : ℕ) (k l : Channel)
    → ChannelAt at k l old new → ((c : ℕ) → (c ≡ at + 1 → ⊥) → concerns c entry old.desk.now ≡ false) → l.inbound.from.stream ≡ k.inbound.from.stream → (l.inbound.stage ≡ Live → k.inbound.stage ≡ Live) → Spares at old new
spares laws old new entry reply kept steps none at k l h others from stage = record {
  others = record {
    sessions = λ quiet c o. session_same laws old.desk.now entry reply new.desk.now kept.reached steps none c (others c o);
    channels = λ n o. is_beside at k l old new h n o;
  };
  heard = λ was. while_there at k l old new h (λ x. IsHeardOut x.inbound.from.stream) (λ plugged. subst IsHeardOut (sym from) (was k h.there (stage plugged)));
  jobs = λ jobs. laws.none old.desk.now entry reply new.desk.now jobs (unheard entry none) steps;
  same = h.same;
}

pub spares_then : (at : ℕ) (a b c : Driver) → Spares at a b → Spares at b c → Spares at a c
spares_then at a b c h k = record {
  others = record {
    sessions = λ quiet n o. k.others.sessions (quiet_on a b h.same h.jobs quiet) n o ∙ h.others.sessions quiet n o;
    channels = λ n o. k.others.channels n o ∙ h.others.channels n o;
  };
  heard = λ e. k.heard (h.heard e);
  jobs = λ e. k.jobs (h.jobs e);
  same = same_then a b c h.same k.same;
}

-- ---- counts

-- the counts are right at all other places, and here
pub waiting_but : (old new : Driver) (ds es : List Meaning) (at : ℕ) → Fits old ds → ((n : ℕ) → (n ≡ at → ⊥) → slice_get new.channels.items n ≡ slice_get old.channels.items n)
    → ((n : ℕ) → (n ≡ at → ⊥) → slice_get es n ≡ slice_get ds n)
    → ((k : Channel) (d : Meaning) → slice_get new.channels.items at ≡ Some k → slice_get es at ≡ Some d → k.waiting ≡ length d.pending)
    → (n : ℕ) (k : Channel) (d : Meaning) → slice_get new.channels.items n ≡ Some k → slice_get es n ≡ Some d → k.waiting ≡ length d.pending
waiting_but old new ds es at fits channels devices here n k d e f =
    ⊎_elim (λ same. here k d (ap (slice_get new.channels.items) (sym same) ∙ e) (ap (slice_get es) (sym same) ∙ f))
    (λ o. fits.waiting n k d (sym (channels n o) ∙ e) (sym (devices n o) ∙ f)) (cases_eq n at)
