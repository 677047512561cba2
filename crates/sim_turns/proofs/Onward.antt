-- What is known behind several messages, one after the other.
use Rattle.std.proofs.Common.{◌≡◌, ℕ, Bool, true, false, get_or, refl, sym, ap, ◌∙◌, arith}
use Rattle.std.specs.Prelude.{Some}
use Rattle.std.specs.List.{slice_get}
use Rattle.std.proofs.lemmas.Option.{same_Some, slice_get_within, slice_get-get_or}
use Rattle.sim_steps.proofs.Joining.{carried_none, carried_then}
use Rattle.sim_channels.specs.declared.channel.Channel.{Channel}
use Rattle.sim_channels.specs.declared.driver.Driver.{Driver}
use Rattle.sim_channels.specs.Channels.{IsKept, WorksAlone, bench}
use Rattle.sim_channels.specs.Waiting.{IsOffered, NoneWaits, StaysBut}
use Rattle.sim_channels.specs.Hearing.{KeepsChannels}
use Rattle.sim_channels.specs.Passes.{HasHeard, Passed, is_state}
use Rattle.machine_desk.specs.declared.hearing.Came.{Came}
use Rattle.machine_desk.specs.declared.hearing.Came.TheVariants.{Nothing, State}
use Rattle.sim_channels.proofs.Others.{alone_on, same_driver, same_then}
use Rattle.sim_turns.specs.declared.hear.Reach.{Reach}
use Rattle.sim_turns.specs.declared.hear.Reach.TheVariants.{Anybody, Itself, Nobody}

heard_none : (here : ℕ) (made : Bool) (driver : Driver) → IsKept driver → (WorksAlone driver → NoneWaits driver.desk) → IsOffered here driver
    → HasHeard here made driver driver
heard_none here made driver kept none offered = record {
  kept = kept;
  carried = λ ds long. carried_none (bench driver ds);
  jobs = none;
  offered = offered;
  channels = record {
    count = refl;
    others = λ n other. refl;
    waiting = λ x y was there. ap (λ (z : Channel). z.waiting) (same_Some y x (sym there ∙ was));
  };
  others = λ untold no_hosts. record { sessions = λ alone c other. refl; channels = λ n other. refl };
  same = same_driver driver;
  learning = refl;
}

channel_there : (here : ℕ) (old new : Driver) → KeepsChannels here old new → (x : Channel) → slice_get old.channels.items here ≡ Some x
    → (y : Channel) × (slice_get new.channels.items here ≡ Some y)
channel_there here old new keeps x there =
    (let within = slice_get_within old.channels.items here x there in
    (get_or new.channels.items here x, slice_get-get_or new.channels.items here x (omega (arith, within, keeps.count))))

-- a state was made by neither, or may have been
heard_then : (here : ℕ) (first second made : Bool) (a b d : Driver) → (made ≡ false → (first ≡ false) × (second ≡ false)) → HasHeard here first a b
    → HasHeard here second b d
    → HasHeard here made a d
heard_then here first second made a b d by h k = record {
  kept = k.kept;
  carried = λ ds long. carried_then (bench a ds) (bench b ds) (bench d ds) (h.carried ds long) (k.carried ds (long ∙ sym h.channels.count));
  jobs = λ alone. k.jobs (alone_on a b h.same alone);
  offered = k.offered;
  channels = record {
    count = k.channels.count ∙ h.channels.count;
    others = λ n other. k.channels.others n other ∙ h.channels.others n other;
    waiting = λ x z was there. (let y = channel_there here a b h.channels x was in k.channels.waiting y.0 z y.1 there ∙ h.channels.waiting x y.0 was y.1);
  };
  others = λ untold no_hosts.
      (let s = h.others (by untold).0 no_hosts in
      let t = k.others (by untold).1 (h.learning ∙ no_hosts) in
      record {
        sessions = λ alone c other. t.sessions (alone_on a b h.same alone) c other ∙ s.sessions alone c other;
        channels = λ n other. t.channels n other ∙ s.channels n other;
      });
  same = same_then a b d h.same k.same;
  learning = k.learning ∙ h.learning;
}

-- ---- whom it reaches

abbrev pub reaches_all : Reach → Bool
reaches_all Anybody = true
reaches_all reach = false

not_all : (r : Reach) → (r ≡ Anybody → ⊥) → reaches_all r ≡ false
not_all Nobody other = refl
not_all Itself other = refl
not_all Anybody other = absurd (other refl)

none_made : (reach next : Reach) (made : Bool) → (next ≡ Nobody → ⊥) → (next ≡ Itself → (reach ≡ Anybody → ⊥) × (made ≡ false)) → reaches_all next ≡ false
    → (reaches_all reach ≡ false) × (made ≡ false)
none_made reach Nobody made some itself e = absurd (some refl)
none_made reach Itself made some itself e = (let by = itself refl in (not_all reach by.0, by.1))
none_made reach Anybody made some itself e = absurd (cc)

all_some : Anybody ≡ Nobody → ⊥
all_some e = cc

all_others : Anybody ≡ Itself → ⊥
all_others e = cc

-- what the loop over them knows
pub record HearsOn (here : ℕ) (reach : Reach) (old now : Driver) : Type 0 where
  pub heard : HasHeard here (reaches_all reach) old now
  pub nobody : reach ≡ Nobody → now.desk ≡ old.desk
  pub learns : reach ≡ Itself → old.desk.now.policy.learning ≡ false

pub others_stay : (here : ℕ) (reach : Reach) (old now : Driver) → HearsOn here reach old now → reach ≡ Itself → StaysBut (WorksAlone old) here old now
others_stay here reach old now h e = h.heard.others (ap reaches_all e) (h.learns e)

pub hears_none : (here : ℕ) (driver : Driver) → IsKept driver → (WorksAlone driver → NoneWaits driver.desk) → IsOffered here driver
    → HearsOn here Nobody driver driver
hears_none here driver kept none offered = record {
  heard = heard_none here false driver kept none offered;
  nobody = λ e. refl;
  learns = λ e. absurd (cc);
}

module _ (here : ℕ) (reach : Reach) (old mid new : Driver) (h : HearsOn here reach old mid) where
  -- nothing could be heard
  pub hears_nothing : Passed here mid new Nothing → HearsOn here reach old new
  hears_nothing p = record {
    heard = heard_then here (reaches_all reach) false (reaches_all reach) old mid new (λ e. (e, refl)) h.heard p.0;
    nobody = λ e. p.1.1 ∙ h.nobody e;
    learns = h.learns;
  }

  -- something was heard
  pub hears_on : (came : Came) (next : Reach) → (next ≡ Nobody → ⊥)
      → (next ≡ Itself → (old.desk.now.policy.learning ≡ false) × (reach ≡ Anybody → ⊥) × (is_state came ≡ false)) → Passed here mid new came
      → HearsOn here next old new
  hears_on came next some itself p = record {
    heard =
        heard_then here (reaches_all reach) (is_state came) (reaches_all next) old mid new
        (none_made reach next (is_state came) some (λ e. ((itself e).1, (itself e).2))) h.heard p.0;
    nobody = λ e. absurd (some e);
    learns = λ e. (itself e).0;
  }

  -- and a state was made by it
  pub hears_state : Passed here mid new State → HearsOn here Anybody old new
  hears_state p = hears_on State Anybody all_some (λ e. absurd (all_others e)) p
