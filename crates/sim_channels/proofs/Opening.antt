-- The driver ahead of its first entry.
use Rattle.std.proofs.Common.{◌≡◌, ◌⊎◌, ℕ, zero, suc, ◌+◌, ◌^◌, ◌<◌, false, List, [], ◌∷◌, ◌++◌, inl, inr, ⊎_elim, length, map, refl, sym, ap, ◌∙◌, subst, arith}
use Rattle.std.specs.Prelude.{Some}
use Rattle.std.specs.FinSet as set
use Rattle.std.specs.List.{AllByRecursion, slice_get}
use Rattle.std.specs.Ordering.{nat_cmp}
use Rattle.std.proofs.lemmas.Option.{none-some, same_Some}
use Rattle.device_port.specs.Devices.{Meaning}
use Rattle.machine_steps.specs.Machine.{State, was_opened}
use Rattle.world_steps.specs.Worlds.{messages_for}
use Rattle.sim_steps.specs.Benches.{is_plugged, slot_of}
use Rattle.sim_steps.specs.Parts.{IsHeardOut}
use Rattle.sim_steps.specs.Showing.{AllIdle}
use Rattle.sim_channels.specs.declared.channel.Channel.{Channel}
use Rattle.machine_desk.specs.declared.inbound.Stage.TheVariants.{Live, Unopened}
use Rattle.sim_channels.specs.declared.driver.Driver.{Driver}
use Rattle.machine_desk.specs.Crews.{MayHave}
use Rattle.machine_desk.specs.Hearing.{is_live, was_begun}
use Rattle.machine_desk.specs.Openings.{IsAtStart}
use Rattle.machine_steps.specs.Sound.{AreInRange}
use Rattle.sim_channels.specs.Channels.{AreNumbered, Fits, IsKept, bench, bench_at_start, slot_by, slots_of}
use Rattle.sim_channels.specs.Delivering.{IsUnused}
use Rattle.sim_channels.specs.Waiting.{IsAtRest, WhilePlugged}

unused_at : (ks : List Channel) (n : ℕ) (k : Channel) → AllByRecursion IsUnused ks → slice_get ks n ≡ Some k → IsUnused k
unused_at [] n k all e = absurd (none-some k e)
unused_at (x ∷ ks) zero k all e = subst IsUnused (same_Some x k e) all.0
unused_at (x ∷ ks) (suc n) k all e = unused_at ks n k all.1 e

idle_at : (ds : List Meaning) (n : ℕ) (d : Meaning) → AllIdle ds → slice_get ds n ≡ Some d → d.pending ≡ []
idle_at [] n d all e = absurd (none-some d e)
idle_at (x ∷ ds) zero d all e = subst (λ (y : Meaning). y.pending ≡ []) (same_Some x d e) all.0
idle_at (x ∷ ds) (suc n) d all e = idle_at ds n d all.1 e

slot_unused : (k : Channel) (d : Meaning) → IsUnused k → slot_by k d ≡ slot_of d
slot_unused k d h = λ i. record { device = d; to = h.to i; from = h.from i }

slots_unused : (ks : List Channel) (ds : List Meaning) → length ks ≡ length ds → AllByRecursion IsUnused ks → slots_of ks ds ≡ map slot_of ds
slots_unused [] [] e all = refl
slots_unused [] (d ∷ ds) e all = absurd (omega (arith, e))
slots_unused (k ∷ ks) [] e all = absurd (omega (arith, e))
slots_unused (k ∷ ks) (d ∷ ds) e all =
    ap (λ s. s ∷ slots_of ks ds) (slot_unused k d all.0) ∙ ap (λ ss. slot_of d ∷ ss) (slots_unused ks ds (omega (arith, e)) all.1)

-- one channel more is of the next connection
last_or : (ks : List Channel) (k : Channel) (n : ℕ) (x : Channel) → slice_get (ks ++ k ∷ []) n ≡ Some x → (slice_get ks n ≡ Some x) ⊎ ((n ≡ length ks) × (k ≡ x))
last_or [] k zero x e = inr (refl, same_Some k x e)
last_or [] k (suc n) x e = absurd (none-some x e)
last_or (y ∷ ks) k zero x e = inl e
last_or (y ∷ ks) k (suc n) x e = ⊎_elim inl (λ h. inr (ap suc h.0, h.1)) (last_or ks k n x e)

pub numbered_more : (ks : List Channel) (k : Channel) → AreNumbered ks → k.inbound.connection ≡ length ks + 1 → AreNumbered (ks ++ k ∷ [])
numbered_more ks k names is n x there =
    ⊎_elim (λ e. names n x e) (λ e. ap (λ (y : Channel). y.inbound.connection) (sym e.1) ∙ is ∙ ap (λ m. m + 1) (sym e.0)) (last_or ks k n x there)

-- a driver at a desk at its start
pub record IsNewDriver (driver : Driver) (places : ℕ) : Type 0 where
  pub start : IsAtStart driver.desk
  pub ranges : AreInRange driver.desk.now.settings
  pub crew : MayHave driver.crew driver.desk.footing.parts driver.desk.now
  pub unused : AllByRecursion IsUnused driver.channels.items
  pub count : length driver.channels.items ≡ places
  pub few : places < 2 ^ 32
  pub names : AreNumbered driver.channels.items

module _ (driver : Driver) (ds : List Meaning) (h : IsNewDriver driver (length ds)) where
  pub new_bench : bench driver ds ≡ bench_at_start driver.desk ds
  new_bench = (let slots = slots_unused driver.channels.items ds h.count h.unused in λ i. record { past = h.start.none i; machine = h.start.opening i; slots = slots i })

  none_open : (c : ℕ) → is_plugged c driver.desk.now ≡ false
  none_open c = ap (is_plugged c) h.start.opening

  none_opened : (c : ℕ) → was_opened c driver.desk.now ≡ false
  none_opened c = ap (was_opened c) h.start.opening ∙ set.contains-empty nat_cmp c

  new_kept : IsKept driver
  new_kept = record {
    crew = h.crew;
    reached = record { policy = driver.desk.now.policy; settings = driver.desk.now.settings; ranges = h.ranges; turns = []; leads = h.start.opening };
    numbers = subst (λ n. n < 2 ^ 32) (sym h.count) h.few;
    names = h.names;
    sessions = record {
      staged = λ n k there.
          (let stage = (unused_at driver.channels.items n k h.unused there).stage in
          record { live = none_open k.inbound.connection ∙ ap is_live (sym stage); opened = none_opened k.inbound.connection ∙ ap was_begun (sym stage) });
      others = λ c unknown. none_open c;
    };
    fresh = λ n k there unplugged. (let unused = unused_at driver.channels.items n k h.unused there in record { to = unused.to; from = unused.from });
  }

  pub new_fits : AllIdle ds → Fits driver ds
  new_fits idle = record {
    kept = new_kept;
    places = h.count;
    waiting = λ n k d there is. (unused_at driver.channels.items n k h.unused there).waiting ∙ sym (ap length (idle_at ds n d idle is));
  }

  none_waits : (P : Channel → Type 0) (n : ℕ) → WhilePlugged P n driver
  none_waits P n k there plugged =
      (let other : Unopened ≡ Live = sym (unused_at driver.channels.items n k h.unused there).stage ∙ plugged in absurd (cc))

  pub new_rest : IsAtRest driver
  new_rest = record {
    done = λ alone. record { jobs = ap (λ (m : State). m.jobs) h.start.opening; taken = λ n. none_waits (λ k. messages_for (n + 1) driver.desk.now ≡ []) n };
    offered = λ n. none_waits (λ (k : Channel). k.to ≡ []) n;
    heard = λ n. none_waits (λ (k : Channel). IsHeardOut k.inbound.from.stream) n;
  }
