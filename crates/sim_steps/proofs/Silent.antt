-- Turns of the machine that touch no device, one behind the other: reads, and what answers packets.
use Rattle.std.proofs.Common.{◌≡◌, true, false, List, [], ◌∷◌, ◌++◌, map, append-nil, refl, sym, ap, ◌∙◌, subst}
use Rattle.std.specs.List.{AllByRecursion}
use Rattle.std.proofs.lemmas.List.{append_assoc, map-append}
use Rattle.history_lock.specs.Histories.{AreAllowed, event}
use Rattle.maple_base.specs.declared.decision.Settings.{Settings}
use Rattle.machine_steps.specs.declared.entry.Entry.{Entry}
use Rattle.machine_steps.specs.declared.entry.Entry.TheVariants as entries
use Rattle.machine_steps.specs.declared.reply.Reply.{Reply}
use Rattle.machine_steps.specs.Admitting.{Admits}
use Rattle.machine_steps.specs.Histories.{IsTurn, Leads, Turn}
use Rattle.machine_steps.specs.Machine.{State}
use Rattle.machine_steps.specs.Steps.{Steps}
use Rattle.machine_steps.proofs.Changes.{changes}
use Rattle.machine_sharing.specs.Legal.{call_of, turn_of as turn_by}
use Rattle.machine_sharing.specs.Sharing.{Allows, Call}
use Rattle.world_steps.specs.Worlds.{lacks_memory}
use Rattle.sim_steps.specs.Benches.{Bench, IsSolo}
use Rattle.sim_steps.specs.Deeds.{EntersAt}
use Rattle.sim_steps.specs.Parts.{asks}
use Rattle.sim_steps.specs.Stretches.{Beside, BreaksOff, Carried}
use Rattle.sim_steps.proofs.Broken.{broken_here}
use Rattle.sim_steps.proofs.Joining.{carried_none, carried_then, stretch_between}
use Rattle.sim_steps.proofs.Moments.{carried_entry, entered, is_plain}
use Rattle.sim_steps.proofs.Others.{allows_shared, beside_none, beside_then, lacks_in_run}

abbrev calls_in : List Turn → List Call
calls_in turns = map call_of turns

-- memory suffices in such a turn
abbrev pub IsEasy : Turn → Type 0
IsEasy t = lacks_memory t.reply ≡ false

-- only the machine moves, by these turns
abbrev pub with_turns : List Turn → State → Bench → Bench
with_turns turns m a = record a { past = a.past ++ turns; machine = m }

-- what is known of an entry that who doesn't lead may make
record Ways (entry : Entry) (reply : Reply) (a : Bench) (m : State) : Type 0 where
  asks : asks entry ≡ false
  plain : is_plain entry ≡ true
  enters : EntersAt entry reply a (with_turns (turn_by a.machine (event entry reply m) ∷ []) m a)

ways : (entry : Entry) (reply : Reply) (a : Bench) (m : State) → Allows (calls_in a.past) entry → Admits a.machine entry → Steps a.machine entry reply m → Ways entry reply a m
ways entries.ReadPolicy reply a m may admitted steps =
    record { asks = refl; plain = refl; enters = record { may = tt; admitted = admitted; steps = steps; slots = refl; past = refl } }
ways (entries.ReadCell cell) reply a m may admitted steps =
    record { asks = refl; plain = refl; enters = record { may = tt; admitted = admitted; steps = steps; slots = refl; past = refl } }
ways entries.OpenJobs reply a m may admitted steps =
    record { asks = refl; plain = refl; enters = record { may = tt; admitted = admitted; steps = steps; slots = refl; past = refl } }
ways (entries.Commit job run) reply a m may admitted steps =
    record { asks = refl; plain = refl; enters = record { may = tt; admitted = admitted; steps = steps; slots = refl; past = refl } }
ways (entries.Decide job) reply a m may admitted steps =
    record { asks = refl; plain = refl; enters = record { may = may; admitted = admitted; steps = steps; slots = refl; past = refl } }
ways entry reply a m may admitted steps = absurd may

module _ (a : Bench) (t : Turn) (same : t.before ≡ a.machine) (turn : IsTurn t) where
  abbrev ahead : Bench
  ahead = record a { machine = t.before }

  abbrev behind : Bench
  behind = with_turns (t ∷ []) t.behind a

  is_at : ahead ≡ a
  is_at = ap (λ (m : State). record a { machine = m }) same

  carried_one : Allows (calls_in a.past) t.entry → IsEasy t → Carried a (with_turns (t ∷ []) t.behind a)
  carried_one may easy =
      let w = ways t.entry t.reply ahead t.behind may turn.admitted turn.steps in
      stretch_between [] [] ahead behind a behind is_at refl (carried_entry t.entry t.reply ahead behind w.asks w.plain easy w.enters)

-- whatever of that is done is carried
pub carried_along : (a : Bench) (turns : List Turn) (m : State) → Leads a.machine turns m → AreAllowed Allows (calls_in a.past) (calls_in turns) → AllByRecursion IsEasy turns
    → Carried a (record a { past = a.past ++ turns; machine = m })
carried_along a [] m leads allowed all =
    stretch_between [] [] a a a (with_turns [] m a) refl
    (ap (λ (n : State). record a { machine = n }) (sym leads) ∙ ap (λ (ts : List Turn). record a { past = ts; machine = m }) (sym (append-nil a.past))) (carried_none a)
carried_along a (t ∷ ts) m (same, turn, rest) allowed all =
    let next = with_turns (t ∷ []) t.behind a in
    let later = subst (λ (log : List Call). AreAllowed Allows log (calls_in ts)) (sym (map-append call_of a.past (t ∷ []))) allowed.1 in
    stretch_between [] [] a (with_turns ts m next) a (with_turns (t ∷ ts) m a) refl (ap (λ (us : List Turn). record a { past = us; machine = m }) (append_assoc a.past (t ∷ []) ts))
    (carried_then a next (with_turns ts m next) (carried_one a t same turn allowed.0 all.0) (carried_along next ts m rest later all.1))

-- ---- what others do

module _ (a : Bench) (t : Turn) (same : t.before ≡ a.machine) (turn : IsTurn t) (beside : IsSolo a.machine → ⊥) where
  beside_one : Allows (calls_in a.past) t.entry → Beside a (with_turns (t ∷ []) t.behind a)
  beside_one may =
      let there = behind a t same turn in
      let shared = allows_shared (calls_in a.past) t.entry may in
      let w = ways t.entry t.reply (ahead a t same turn) t.behind may turn.admitted turn.steps in
      let other : IsSolo t.before → ⊥ = λ solo. beside (subst IsSolo same solo) in
      subst (λ (x : Bench). Beside x there) (is_at a t same turn) (record {
        events = entered t.entry t.reply (ahead a t same turn) there ∷ [];
        runs = (refl, w.enters, refl);
        all = (record { shared = shared; beside = other }, tt);
        memory = (λ lacks. record { run = lacks_in_run t.entry shared t.before t.reply t.behind turn.steps lacks; beside = other }, tt);
      })

-- whatever others do
pub beside_along : (a : Bench) (turns : List Turn) (m : State) → (IsSolo a.machine → ⊥) → Leads a.machine turns m → AreAllowed Allows (calls_in a.past) (calls_in turns)
    → Beside a (record a { past = a.past ++ turns; machine = m })
beside_along a [] m beside leads allowed =
    subst (λ (x : Bench). Beside a x)
    (ap (λ (n : State). record a { machine = n }) (sym leads) ∙ ap (λ (ts : List Turn). record a { past = ts; machine = m }) (sym (append-nil a.past))) (beside_none a)
beside_along a (t ∷ ts) m beside (same, turn, rest) allowed =
    let next = with_turns (t ∷ []) t.behind a in
    let later = subst (λ (log : List Call). AreAllowed Allows log (calls_in ts)) (sym (map-append call_of a.past (t ∷ []))) allowed.1 in
    let settings = (changes t.before t.entry t.reply t.behind turn.steps).settings in
    let still : IsSolo t.behind → ⊥ = λ solo. beside (ap (λ (n : State). n.settings.workers) (sym same) ∙ ap (λ (s : Settings). s.workers) (sym settings) ∙ solo) in
    subst (λ (x : Bench). Beside a x) (ap (λ (us : List Turn). record a { past = us; machine = m }) (append_assoc a.past (t ∷ []) ts))
    (beside_then a next (with_turns ts m next) (beside_one a t same turn beside allowed.0) (beside_along next ts m still rest later))

-- ---- whatever came of it

-- such turns are deeds, though memory ran out in them
pub broken_along : (a : Bench) (turns : List Turn) (m : State) → Leads a.machine turns m → AreAllowed Allows (calls_in a.past) (calls_in turns) → BreaksOff a (a.past ++ turns)
broken_along a [] m leads allowed = broken_here a (a.past ++ []) (sym (append-nil a.past))
broken_along a (t ∷ ts) m (same, turn, rest) allowed =
    let next = with_turns (t ∷ []) t.behind a in
    let later = subst (λ (log : List Call). AreAllowed Allows log (calls_in ts)) (sym (map-append call_of a.past (t ∷ []))) allowed.1 in
    let w = ways t.entry t.reply (ahead a t same turn) t.behind allowed.0 turn.admitted turn.steps in
    let h = broken_along next ts m rest later in
    record {
      events = entered t.entry t.reply (ahead a t same turn) next ∷ h.events;
      last = h.last;
      runs = (is_at a t same turn, w.enters, h.runs);
      past_is = h.past_is ∙ append_assoc a.past (t ∷ []) ts;
    }
