-- A session is opened at the desk, something of it is heard there, or it ends.
use Rattle.std.proofs.Common.{◌≡◌, ℕ, ◌+◌, Bool, true, false, List, length, set, get_or, sym, ap, ◌∙◌, subst, inl, inr}
use Rattle.std.specs.Prelude.{◌==◌, Some, Result, Ok, Err, OnErr}
use Rattle.std.specs.List.{slice_get}
use Rattle.std.specs.Vec.{with_item}
use Rattle.std.proofs.Math.Nat.{ℕ_set}
use Rattle.std.proofs.lemmas.Option.{get_or_from_slice_get}
use Rattle.machine_desk.specs.Desks.{DeskView, Enters}
use Rattle.machine_desk.specs.Hearing.{Closes, Hears, IsStaged, Opens, stage_heard, stage_opened, was_begun}
use Rattle.machine_desk.specs.declared.hearing.Heard.{Heard}
use Rattle.machine_desk.specs.declared.hearing.Heard.TheVariants as heards
use Rattle.machine_desk.specs.declared.inbound.Inbound.{Inbound}
use Rattle.machine_desk.specs.declared.inbound.Stage.{Stage}
use Rattle.machine_desk.specs.declared.inbound.Stage.TheVariants.{Live, Over, Unopened}
use Rattle.machine_moves.specs.Told.{is_end}
use Rattle.machine_steps.specs.declared.entry.Entry.{Entry}
use Rattle.machine_steps.specs.declared.entry.Entry.TheVariants as entries
use Rattle.machine_steps.specs.declared.entry.Input.{Input}
use Rattle.machine_steps.specs.declared.reply.Reply.{Reply}
use Rattle.machine_steps.specs.Machine.{State, was_opened}
use Rattle.machine_steps.specs.Steps.{Steps}
use Rattle.world_steps.specs.Worlds.{lacks_memory}
use Rattle.sim_channels.specs.declared.channel.Channel.{Channel}
use Rattle.sim_channels.specs.declared.driver.Driver.{Driver}
use Rattle.sim_channels.specs.Channels.{IsKept, IsSame, with_inbound}
use Rattle.machine_desk.specs.Driving.{DrivingLaws}
use Rattle.sim_channels.specs.Staging.{ClosesAt, HasStage, OpensAt}
use Rattle.sim_channels.proofs.Keeping.{bears_on, elsewhere}
use Rattle.sim_channels.proofs.Kept.{kept_session}
use Rattle.sim_channels.proofs.Making.{had_memory}
use Rattle.sim_channels.proofs.Others.{ahead, kept_ahead}
use Rattle.sim_channels.proofs.Places.{EntersAndStages}
use Rattle.sim_channels.proofs.Slots.{set_same}

-- ---- the channel that is read

pub record Stands (at : ℕ) (stage : Stage) (driver : Driver) (k : Channel) : Type 0 where
  pub there : slice_get driver.channels.items at ≡ Some k
  pub is : k.inbound.stage ≡ stage

pub stands : (at : ℕ) (stage : Stage) (driver : Driver) (k : Channel) → HasStage at stage driver → k ≡ get_or driver.channels.items at k → Stands at stage driver k
stands at stage driver k has value =
    let same : k ≡ has.channel = value ∙ get_or_from_slice_get driver.channels.items at has.channel k has.there in
    record { there = has.there ∙ ap Some (sym same); is = ap (λ (x : Channel). x.inbound.stage) same ∙ has.is }

-- ---- what is kept

never_unopened : (b : Bool) → stage_opened b ≡ Unopened → ⊥
never_unopened true e = absurd (cc)
never_unopened false e = absurd (cc)

still_unopened : (heard : Heard) (stage : Stage) → stage_heard heard stage ≡ Unopened → stage ≡ Unopened
still_unopened heards.Ended stage e = absurd (cc)
still_unopened heard stage e = e

-- that takes no memory
pub gone_enough : (c : ℕ) (fault : Bool) (old : State) (reply : Reply) (new : State) → Steps old (entries.Gone c fault) reply new → lacks_memory reply ≡ false
gone_enough c fault old reply new (inl (none, passes)) = ap lacks_memory passes.0
gone_enough c fault old reply new (inr (s, found, r, e)) = ap lacks_memory r

-- the inbound of a channel is another behind an entry of its session
module _ (laws : DrivingLaws) (old new : Driver) (at : ℕ) (k : Channel) (j : Inbound) (kept : IsKept old) (there : slice_get old.channels.items at ≡ Some k)
    (rest : new ≡ record old { desk = new.desk; channels = new.channels }) (channels : new.channels.items ≡ set old.channels.items at (with_inbound j k)) (same : IsSame old new) where
  name : k.inbound.connection ≡ at + 1
  name = kept.names at k there

  others : (c : ℕ) → (c ≡ at + 1 → ⊥) → (k.inbound.connection == c) ≡ false
  others c other = ap (λ n. n == c) name ∙ elsewhere at c other

  -- with another stage, which is that of the session
  kept_staged : (entry : Entry) (reply : Reply) (stage : Stage) → Enters old.desk entry reply new.desk → j ≡ record k.inbound { stage = stage } → IsStaged j new.desk.now
      → (stage ≡ Unopened → k.inbound.stage ≡ Unopened) → ((c : ℕ) → (c ≡ at + 1 → ⊥) → bears_on c entry ≡ false) → IsKept new
  kept_staged entry reply stage enters is staged fresh =
      kept_session laws (ahead old entry reply new.desk kept enters) new entry reply (kept_ahead laws old entry reply new.desk kept enters) enters.made.admitted enters.made.steps at k (with_inbound j k)
      (record { there = there; channels = channels; same = record { footing = same.footing; crew = same.crew } })
      (record {
        name = ap (λ (i : Inbound). i.connection) is ∙ name;
        staged = staged;
        fresh = λ unopened.
            (let f = kept.fresh at k there (fresh (sym (ap (λ (i : Inbound). i.stage) is) ∙ unopened)) in
            record { to = f.to; from = ap (λ (i : Inbound). i.from.stream) is ∙ f.from });
      })

  channels_as : (stage : Stage) → j ≡ record k.inbound { stage = stage } → new.channels.items ≡ set old.channels.items at (with_inbound (record k.inbound { stage = stage }) k)
  channels_as stage is = channels ∙ ap (λ (i : Inbound). set old.channels.items at (with_inbound i k)) is

  module _ (h : Opens old.desk k.inbound new.desk j) where
    pub opens_at : (reply : Reply) × EntersAndStages at (entries.Open (at + 1)) reply (stage_opened (is_end reply)) old new
    opens_at = (
      h.reply,
      record {
        enters = subst (λ n. Enters old.desk (entries.Open n) h.reply new.desk) name h.asks.enters;
        memory = had_memory h.reply h.asks.memory;
        channel = k;
        there = there;
        rest = rest;
        channels = channels_as (stage_opened (is_end h.reply)) h.stage;
      },
    )

    pub kept_opened : k.inbound.stage ≡ Unopened → (was_opened k.inbound.connection old.desk.now ≡ false → IsStaged j new.desk.now) → IsKept new
    kept_opened unopened staged =
        kept_staged (entries.Open k.inbound.connection) h.reply (stage_opened (is_end h.reply)) h.asks.enters h.stage (staged ((kept.sessions.staged at k there).opened ∙ ap was_begun unopened))
        (λ e. absurd (never_unopened (is_end h.reply) e)) others

  module _ (fault : Bool) (h : Closes fault old.desk k.inbound new.desk j) where
    pub closes_at : (reply : Reply) × EntersAndStages at (entries.Gone (at + 1) fault) reply Over old new
    closes_at = (
      h.reply,
      record {
        enters = subst (λ n. Enters old.desk (entries.Gone n fault) h.reply new.desk) name h.enters;
        memory = gone_enough k.inbound.connection fault h.enters.between h.reply new.desk.now h.enters.made.steps;
        channel = k;
        there = there;
        rest = rest;
        channels = channels_as Over h.stage;
      },
    )

    pub kept_closed : k.inbound.stage ≡ Live → (was_begun k.inbound.stage ≡ true → IsStaged k.inbound old.desk.now → IsStaged j new.desk.now) → IsKept new
    kept_closed live staged =
        kept_staged (entries.Gone k.inbound.connection fault) h.reply Over h.enters h.stage (staged (ap was_begun live) (kept.sessions.staged at k there)) (λ e. absurd (cc)) others

  module _ (input : Input) (heard : Heard) (h : Hears input heard old.desk k.inbound new.desk j) where
    pub kept_heard : (IsStaged k.inbound old.desk.now → IsStaged j new.desk.now) → IsKept new
    kept_heard staged =
        kept_staged (entries.Heard k.inbound.connection input) h.reply (stage_heard heard k.inbound.stage) h.asks.enters h.stage (staged (kept.sessions.staged at k there))
        (still_unopened heard k.inbound.stage) others

-- the same, as a channel was opened or closed

pub opened_so : DrivingLaws → (old new : Driver) (at : ℕ) → IsKept old → IsSame old new → OpensAt at old new
    → (reply : Reply) × EntersAndStages at (entries.Open (at + 1)) reply (stage_opened (is_end reply)) old new
opened_so laws old new at kept same o = opens_at laws old new at o.connection o.behind kept o.there o.rest o.all same o.does

pub closed_so : DrivingLaws → (old new : Driver) (at : ℕ) (fault : Bool) → IsKept old → IsSame old new → ClosesAt at fault old new
    → (reply : Reply) × EntersAndStages at (entries.Gone (at + 1) fault) reply Over old new
closed_so laws old new at fault kept same o = closes_at laws old new at o.connection o.behind kept o.there o.rest o.all same fault o.does.0

-- ---- nothing was done

pub on_err : {X Y P : Type 0} (result : Result X Y) → P → OnErr result P
on_err (Ok x) p = tt
on_err (Err y) p = p

-- a channel is written back as it was
same_channels : (driver : Driver) (at : ℕ) (k : Channel) → slice_get driver.channels.items at ≡ Some k → with_item driver.channels at k ≡ driver.channels
same_channels driver at k there =
    subst Writes (sym (set_same driver.channels.items at k there))
    (λ long. ap (λ (l : driver.channels.len ≡ length driver.channels.items). record driver.channels { ok = (l, driver.channels.ok.1) }) (ℕ_set _ _ long driver.channels.ok.0))
    (with_item driver.channels at k).ok.0
  where
    Writes : List Channel → Type 0
    Writes ks = (long : driver.channels.len ≡ length ks) → record driver.channels { items = ks; ok = (long, driver.channels.ok.1) } ≡ driver.channels

pub stays_as_it_was : (old : Driver) (at : ℕ) (k : Channel) (j : Inbound) (desk : DeskView) → slice_get old.channels.items at ≡ Some k → j ≡ k.inbound
    → record old { desk = desk; channels = with_item old.channels at (with_inbound j k) } ≡ record old { desk = desk }
stays_as_it_was old at k j desk there same =
    ap (λ (i : Inbound). record old { desk = desk; channels = with_item old.channels at (with_inbound i k) }) same
    ∙ ap (λ ks. record old { desk = desk; channels = ks }) (same_channels old at k there)
