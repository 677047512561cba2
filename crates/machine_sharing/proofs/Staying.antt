-- What allowed entries leave as it is.
use Rattle.std.proofs.Common.{◌≡◌, ◌⊎◌, ℕ, Bool, true, List, [], ◌∷◌, ◌++◌, refl, sym, ap, ◌∙◌, subst, inl, inr}
use Rattle.std.specs.Prelude.{◌&&◌, filter}
use Rattle.std.specs.List.{AllZip}
use Rattle.history_lock.specs.Histories.{StartsWith, state_behind}
use Rattle.history_lock.proofs.States.{replays_since}
use Rattle.machine_steps.specs.declared.entry.Entry.{Entry}
use Rattle.machine_steps.specs.declared.entry.Entry.TheVariants as entries
use Rattle.machine_steps.specs.declared.job.Job.{Job}
use Rattle.machine_steps.specs.declared.reply.Reply.{Reply}
use Rattle.machine_steps.specs.Machine.{State, traces_of}
use Rattle.machine_steps.specs.Sound.{IsSound}
use Rattle.machine_steps.specs.Steps.{Steps}
use Rattle.machine_steps.proofs.Changes.{AreLeft, Changes, Extends, Follows, JobsBy, Network, changes, network}
use Rattle.machine_steps.proofs.Changes.Follows.{Next, Renewed, Stays as StaysSo}
use Rattle.machine_steps.proofs.Changes.JobsBy.{Added, AreMany, Left}
use Rattle.machine_steps.proofs.Effects.{effect_of}
use Rattle.machine_steps.proofs.Sound.Zipped.{zip_refl, zip_then, zip_weaker}
use Rattle.machine_sharing.specs.Between.{DoesTo, EachDoesSo, MostStays, OnlyGrows, SinceStays, Stays}
use Rattle.machine_sharing.specs.Sharing.{Turns}
use Rattle.machine_sharing.proofs.Doing.{Does, IsShared, does_by, does_grows, found_both, grows_same, grows_then, may_share, never, shared_of}
use Rattle.machine_sharing.proofs.Lists.{filter_all, filter_twice, starts_same, starts_then}

-- some of the jobs
abbrev SomeOf : List Job → List Job → Type 0
SomeOf js ks = (waits : Job → Bool) × (ks ≡ filter waits js)

all_of : (js ks : List Job) → ks ≡ js → SomeOf js ks
all_of js ks e = ((λ j. true), e ∙ sym (filter_all js))

some_then : (js ks ls : List Job) → SomeOf js ks → SomeOf ks ls → SomeOf js ls
some_then js ks ls (p, e) (q, f) = ((λ j. p j && q j), f ∙ ap (filter q) e ∙ filter_twice p q js)

-- ---- one entry

module _ (old : State) (entry : Entry) (reply : Reply) (new : State) (shared : IsShared entry) where
  network_stays : (n : Network) → Follows old entry reply n → n ≡ network old
  network_stays n (StaysSo untold e) = e
  network_stays n (Next scene may told e) = absurd (never (sym may ∙ shared.still))
  network_stays n (Renewed scene p is told e) = absurd (never (sym shared.shared ∙ ap may_share is))

  record JobsGo : Type 0 where
    count : new.job_count ≡ old.job_count
    some : SomeOf old.jobs new.jobs

  left_go : AreLeft old.jobs new.jobs → SomeOf old.jobs new.jobs
  left_go (inl e) = all_of old.jobs new.jobs e
  left_go (inr some) = some

  jobs_go : JobsBy old entry reply new → JobsGo
  jobs_go (Left untold count left) = record { count = count; some = left_go left }
  jobs_go (AreMany r count many e) = record { count = count; some = all_of old.jobs new.jobs e }
  jobs_go (Added h t j from r its number count e) = absurd (never (sym shared.shared ∙ ap may_share from.is))

  one_stays : IsSound old → Steps old entry reply new → Stays old new
  one_stays sound steps = record {
    settings = c.settings;
    earlier = ap (λ (n : Network). n.0) net;
    policy = ap (λ (n : Network). n.1) net;
    states = ap (λ (n : Network). n.2) net;
    scene = ap (λ (n : Network). n.3) net;
    opened = opened c.opened;
    job_count = jobs.count;
    jobs = jobs.some;
    sessions = grow;
    found = found_both OnlyGrows old new (λ s t g. g) grow;
    traces = does.traces;
    lines = lines c.lines;
  }
    where
      c : Changes old entry reply new
      c = changes old entry reply new steps

      net : network new ≡ network old
      net = network_stays (network new) c.follows

      jobs : JobsGo
      jobs = jobs_go c.jobs

      does : Does old entry reply new
      does = does_by old sound entry reply new shared (effect_of old reply new entry steps)

      grow : AllZip OnlyGrows old.sessions new.sessions
      grow = zip_weaker (DoesTo old entry reply new) OnlyGrows (does_grows old entry reply new) old.sessions new.sessions does.sessions

      opened : (new.opened ≡ old.opened) ⊎ ((d : ℕ) × (entry ≡ entries.Open d)) → new.opened ≡ old.opened
      opened (inl e) = e
      opened (inr (d, is)) = absurd (never (sym shared.shared ∙ ap may_share is))

      lines : (entry ≡ entries.TakeReport) ⊎ Extends old new → StartsWith new.lines old.lines
      lines (inl is) = absurd (never (sym shared.shared ∙ ap may_share is))
      lines (inr x) = (x.more, x.are)

pub each_does_so : EachDoesSo
each_does_so log old entry reply new is turn =
    let shared = shared_of log entry is in
    let does = does_by old turn.sound entry reply new shared (effect_of old reply new entry turn.steps) in
    found_both (DoesTo old entry reply new) old new (does_grows old entry reply new) does.sessions

-- ---- one behind the other

stays_same : (old new : State) → new ≡ old → Stays old new
stays_same old new e = subst (Stays old) (sym e) record {
  settings = refl;
  earlier = refl;
  policy = refl;
  states = refl;
  scene = refl;
  opened = refl;
  job_count = refl;
  jobs = all_of old.jobs old.jobs refl;
  sessions = zip_refl OnlyGrows (λ s. grows_same s s refl) old.sessions;
  found = found_both OnlyGrows old old (λ s t g. g) (zip_refl OnlyGrows (λ s. grows_same s s refl) old.sessions);
  traces = λ switch. starts_same (traces_of switch old) (traces_of switch old) refl;
  lines = starts_same old.lines old.lines refl;
}

stays_then : (a b c : State) → Stays a b → Stays b c → Stays a c
stays_then a b c h k = record {
  settings = k.settings ∙ h.settings;
  earlier = k.earlier ∙ h.earlier;
  policy = k.policy ∙ h.policy;
  states = k.states ∙ h.states;
  scene = k.scene ∙ h.scene;
  opened = k.opened ∙ h.opened;
  job_count = k.job_count ∙ h.job_count;
  jobs = some_then a.jobs b.jobs c.jobs h.jobs k.jobs;
  sessions = grow;
  found = found_both OnlyGrows a c (λ s t g. g) grow;
  traces = λ switch. starts_then (traces_of switch a) (traces_of switch b) (traces_of switch c) (h.traces switch) (k.traces switch);
  lines = starts_then a.lines b.lines c.lines h.lines k.lines;
}
  where
    grow : AllZip OnlyGrows a.sessions c.sessions
    grow = zip_then OnlyGrows OnlyGrows OnlyGrows grows_then a.sessions b.sessions c.sessions h.sessions k.sessions

pub most_stays : MostStays
most_stays log [] old new same all = stays_same old new same
most_stays log (e ∷ es) old new (turn, rest) (is, all) =
    stays_then old e.behind new (one_stays old e.entry e.reply e.behind (shared_of log e.entry is) turn.sound turn.steps) (most_stays (log ++ e ∷ []) es e.behind new rest all)

pub since_stays : SinceStays
since_stays opening m log seen all (rest, is, allowed) = most_stays seen rest (state_behind opening seen) m (replays_since Turns opening log seen m (rest, is) all) allowed
