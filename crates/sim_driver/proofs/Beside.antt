-- Workers' passes are joined into the driver's: how a run ends that was beside them.
use Rattle.std.proofs.Common.{◌≡◌, ℕ, ◌^◌, ◌≤◌, Bool, true, false, List, [], ◌∷◌, ◌++◌, append-nil, append_assoc, length, refl, sym, ap, ◌∙◌, subst, inl, inr}
use Rattle.std.proofs.Common.{arith}
use Rattle.std.specs.Prelude.{Option, Some, None, Ok, Err, is_some}
use Rattle.sim_steps.specs.Ends.{IsFaultOf}
use Rattle.maple_io.specs.Views.{NoWriteFailed, SinkView}
use Rattle.report_text.specs.declared.line.ScriptRefusal.{ScriptRefusal}
use Rattle.device_port.specs.Devices.{Meaning}
use Rattle.history_lock.specs.Histories.{AreAllowed, AreAllPositions, HasSeenLegal, IsAllowedSince, Replays, state_behind}
use Rattle.history_lock.proofs.States.{replays_cut}
use Rattle.maple_base.specs.declared.decision.Settings.{Settings}
use Rattle.machine_steps.specs.Histories.{Leads as Steady, Turn}
use Rattle.machine_steps.specs.Machine.{Session, State, opening, session_at}
use Rattle.machine_steps.specs.Waiting.{Waiting}
use Rattle.machine_sharing.specs.Between.{Both, MostStays, NothingChanges, OnlyGrows, Stays}
use Rattle.machine_sharing.specs.Legal.{CallsAreTurns, turns_of as turns_along}
use Rattle.machine_sharing.specs.Sharing.{Allows, Call, Turns}
use Rattle.machine_desk.specs.Arriving.{OthersFindRoom}
use Rattle.machine_desk.specs.Desks.{DeskView, HadMemory, NoneOverflows, calls_of}
use Rattle.machine_desk.proofs.Turning.{calls_same, turns_append, turns_length}
use Rattle.packet_workers.specs.Adding.{PassView}
use Rattle.packet_workers.specs.Crewing.{Makes}
use Rattle.worker_crew.specs.declared.gave_up.GaveUp.{GaveUp}
use Rattle.worker_crew.specs.declared.gave_up.GaveUp.TheVariants as gave_up
use Rattle.worker_crew.specs.declared.rule.Account.{Account}
use Rattle.worker_crew.specs.Tasks.{Toiled, Worked}
use Rattle.world_steps.specs.Worlds.{messages_for}
use Rattle.script_text.specs.Orders.{Order}
use Rattle.script_text.specs.Orders.Order.{Nothing}
use Rattle.sim_steps.specs.Agreeing.{taken_report}
use Rattle.sim_steps.specs.Benches.{Bench, IsSolo, is_plugged}
use Rattle.sim_steps.specs.Deeds.{Event, Runs, turns_of}
use Rattle.sim_steps.specs.Parts.{Follows, IsCalm, IsStill}
use Rattle.sim_steps.specs.Stretches.{Carried}
use Rattle.sim_steps.proofs.Joining.{report_then, runs_then}
use Rattle.sim_steps.proofs.Others.{carried_beside}
use Rattle.sim_steps.proofs.Silent.{beside_along}
use Rattle.sim_driver.specs.declared.drive.SimEnd.{SimEnd}
use Rattle.sim_driver.specs.declared.drive.SimEnd.TheVariants as ends
use Rattle.sim_driver.specs.Passes.{DroveAt, DroveBy, EndsAt, joined, sim_ends, untaken, with_memory}
use Rattle.sim_driver.specs.Runs.{AllHadMemory, Ends, EndsWith, Given, IsAtRefused, IsBrokenOff, IsFollowed, IsFull, IsRunOf, IsUnwritten, is_whole, just}
use Rattle.sim_driver.specs.Runs.{of_part, opened, orders, report}
use Rattle.sim_driver.proofs.Going.{Known, report_append, run_of, settings_stay}
use Rattle.machine_desk.specs.Crews.{given_up}
use Rattle.machine_desk.proofs.Smooth.{memory_joined, room_joined}
use Rattle.sim_driver.proofs.Parting.{Stands, part_longer}

-- ---- what is told of an end

pub record Told (end : SimEnd) (refused : Option (ℕ × ScriptRefusal)) (old new : SinkView) : Type 0 where
  pub done : end ≡ ends.Done → refused ≡ None
  pub script : IsAtRefused end refused
  pub writes : IsFaultOf (end ≡ ends.WriteFault) old new

module _ (refused : Option (ℕ × ScriptRefusal)) (old new : SinkView) where
  spared_whole : (end : SimEnd) → is_whole end ≡ true → Told end refused old new → NoWriteFailed old new
  spared_whole ends.Done whole told = told.writes.spared (λ e. absurd (cc))
  spared_whole (ends.Script line kind) whole told = told.writes.spared (λ e. absurd (cc))
  spared_whole end whole told = absurd (cc)

  told_short : NoWriteFailed old new → Told ends.NoMemory refused old new
  told_short spared = record { done = λ e. absurd (cc); script = tt; writes = record { fault = λ e. absurd (cc); spared = λ n. spared } }

  pub told_memory : (end : SimEnd) (had : Bool) → Told end refused old new → Told (with_memory end had) refused old new
  told_memory ends.Done true told = told
  told_memory ends.Done false told = told_short (spared_whole ends.Done refl told)
  told_memory (ends.Script line kind) true told = told
  told_memory (ends.Script line kind) false told = told_short (spared_whole (ends.Script line kind) refl told)
  told_memory end had told = told

-- ---- where memory ran out

-- who followed all orders followed some
pub short_of : (g : Given) (after : List Meaning) (history : List Turn) (text : List ℕ) → IsFollowed g after history text → IsBrokenOff g history text
short_of g after history text h = record {
  done = orders g;
  events = h.events;
  between = h.last;
  are = record { run = h.run; later = []; orders_are = sym (append-nil (orders g)); follows = h.follows };
  begun = [];
  last = h.last;
  run = subst (λ (es : List Event). IsRunOf g es h.last) (sym (append-nil h.events)) h.run;
  history_is = h.history_is ∙ ap turns_of (sym (append-nil h.events));
  text_is = h.text_is;
}

-- at the desk
pub with_memory_drove : (end : SimEnd) (had : Bool) (g : Given) (refused : Option (ℕ × ScriptRefusal)) (desk : DeskView)
    (after : List Meaning) (old new : SinkView) → EndsAt end g desk after old new → Told end refused old new
    → (had ≡ true → HadMemory (calls_of desk.past) desk.own) → NoneOverflows desk.past
    → DroveAt (with_memory end had) g refused desk after old new
with_memory_drove end had g refused desk after old new (text, e, wrote) told memory room =
    let is = told_memory refused old new end had told in
    record {
      ends = (text, ends_so end had e, wrote);
      smooth = record { room = room; memory = λ whole. memory (had_so end had whole) };
      done = is.done;
      script = is.script;
      writes = is.writes;
    }
  where
    ends_so : (end : SimEnd) (had : Bool) → EndsWith end g after desk.number desk.past text → EndsWith (with_memory end had) g after desk.number desk.past text
    ends_so ends.Done true e = e
    ends_so ends.Done false e = inl (short_of g after desk.past text e)
    ends_so (ends.Script line kind) true e = e
    ends_so (ends.Script line kind) false e = inl (short_of g after desk.past text e)
    ends_so end had e = e

    had_so : (end : SimEnd) (had : Bool) → is_whole (with_memory end had) ≡ true → had ≡ true
    had_so ends.Done true whole = refl
    had_so ends.Done false whole = absurd (cc)
    had_so (ends.Script line kind) true whole = refl
    had_so (ends.Script line kind) false whole = absurd (cc)
    had_so end had whole = absurd (cc)

-- ---- what others did behind it

-- what is carried belongs to the part behind all orders
follows_longer : (os : List Order) (a : Bench) (es : List Event) (b c : Bench) → Follows os a es b → (k : Carried b c) → Stands c
    → Follows os a (es ++ k.events) c
follows_longer [] a es b c h k stands = part_longer Nothing a es b [] c h k stands
follows_longer (o ∷ os) a es b c (part, rest, between, is, h, more) k stands =
    let split = ap (λ (xs : List Event). xs ++ k.events) is ∙ append_assoc part rest k.events in
    (part, rest ++ k.events, between, split, h, follows_longer os between rest b c more k stands)

leads_end : (m : State) (ts : List Turn) (n o : State) → Steady m ts n → Steady m ts o → o ≡ n
leads_end m [] n o h k = k ∙ sym h
leads_end m (t ∷ ts) n o (same, turn, h) (same', turn', k) = leads_end t.behind ts n o h k

both_some : (o p : Option Session) → Both OnlyGrows o p → is_some p ≡ is_some o
both_some None None h = refl
both_some (Some s) (Some t) h = refl
both_some None (Some t) h = absurd h
both_some (Some s) None h = absurd h

module _ (calls : CallsAreTurns) (nothing : NothingChanges) (stays : MostStays) (g : Given) (known : Known g) (start : State)
    (is : start ≡ opening g.policy g.settings) (beside : IsSolo start → ⊥) (seen rest : List Call) (m : State) (all : Replays Turns start (seen ++ rest) m)
    (allowed : AreAllowed Allows seen rest) where
  -- the machine behind what the driver had seen
  abbrev mid : State
  mid = state_behind start seen

  cut : Replays Turns start seen mid × Replays Turns mid rest m
  cut = replays_cut Turns start seen rest m all

  abbrev later : List Turn
  later = turns_along mid rest

  abbrev was : List Turn
  was = turns_along start seen

  abbrev now : List Turn
  now = turns_along start (seen ++ rest)

  now_is : now ≡ was ++ later
  now_is = turns_append start seen rest

  module _ (es : List Event) (last : Bench) (run : IsRunOf g es last) (told : was ≡ turns_of es) where
    ends_at : last.machine ≡ mid
    ends_at =
        leads_end start was mid last.machine (calls start seen mid cut.0).leads
        (subst (λ (ts : List Turn). Steady start ts last.machine) (sym told) (subst (λ (s : State). Steady s (turns_of es) last.machine) (sym is) run.history))

    past_is : last.past ≡ was
    past_is = known.laws.past (opened g) es last run.runs ∙ sym told

    from_there : Replays Turns last.machine rest m
    from_there = subst (λ (s : State). Replays Turns s rest m) (sym ends_at) cut.1

    stay : Stays last.machine m
    stay = stays seen rest last.machine m from_there allowed

    not_solo : IsSolo last.machine → ⊥
    not_solo solo =
        let kept = settings_stay (opening g.policy g.settings) (turns_of es) last.machine run.history in
        beside (ap (λ (s : State). s.settings.workers) is ∙ ap (λ (s : Settings). s.workers) (sym kept) ∙ solo)

    not_solo_then : IsSolo m → ⊥
    not_solo_then solo = not_solo (ap (λ (s : Settings). s.workers) (sym stay.settings) ∙ solo)

    -- only the machine moves
    abbrev next : Bench
    next = record last { past = last.past ++ later; machine = m }

    carried : Carried last next
    carried =
        carried_beside last next (
        beside_along last later m not_solo (subst (λ (s : State). Steady s later m) (sym ends_at) (calls mid rest m cut.1).leads)
        (subst (λ (cs : List Call). AreAllowed Allows cs (calls_of later)) (sym (ap calls_of past_is ∙ calls_same start seen))
        (subst (λ (cs : List Call). AreAllowed Allows seen cs) (sym (calls_same mid rest)) allowed))
        )

    abbrev more : List Event
    more = carried.events

    runs_on : Runs (opened g) (es ++ more) next
    runs_on = runs_then (opened g) es last more next run.runs carried.runs

    run_on : IsRunOf g (es ++ more) next
    run_on = run_of g known (es ++ more) next runs_on

    told_on : now ≡ turns_of (es ++ more)
    told_on = now_is ∙ ap (λ (ts : List Turn). ts ++ later) (sym past_is) ∙ known.laws.past (opened g) (es ++ more) next runs_on

    plugged_stays : (c : ℕ) → is_plugged c m ≡ is_plugged c last.machine
    plugged_stays c = both_some (session_at c last.machine) (session_at c m) (stay.found c).0

    calm_on : IsCalm last → IsCalm next
    calm_on calm = record {
      offered = λ c s h. calm.offered c s (record { plugged = sym (plugged_stays c) ∙ h.plugged; there = h.there });
      heard = λ c s h. calm.heard c s (record { plugged = sym (plugged_stays c) ∙ h.plugged; there = h.there });
    }

    stands_on : IsCalm last → Stands next
    stands_on calm = (calm_on calm, λ solo. absurd (not_solo_then solo))

    -- where no packet waits the machine stays
    module _ (still : IsStill last) where
      same : m ≡ last.machine
      same = nothing seen rest last.machine m still.machine.jobs from_there allowed

      still_on : IsStill next
      still_on = record {
        machine =
            record {
              jobs = ap (λ (s : State). s.jobs) same ∙ still.machine.jobs;
              taken = λ c h. ap (messages_for c) same ∙ still.machine.taken c (sym (plugged_stays c) ∙ h);
            };
        calm = calm_on still.calm;
      }

      report_on : report es ≡ report (es ++ more)
      report_on =
          known.laws.report es g.policy g.settings last.machine run.history
          ∙ ap (λ (s : State). taken_report es ++ untaken s) (sym same)
          ∙ ap (λ (bs : List ℕ). bs ++ untaken m)
          (sym (report_then es more ∙ ap (λ (bs : List ℕ). taken_report es ++ bs) carried.text_is ∙ append-nil (taken_report es)))
          ∙ sym (known.laws.report (es ++ more) g.policy g.settings next.machine (known.laws.history g.policy g.settings g.devices (es ++ more) next runs_on))

  broken_on : (text : List ℕ) → IsBrokenOff g was text → IsBrokenOff g now text
  broken_on text h =
      let es = h.events ++ h.begun in
      let k = carried es h.last h.run h.history_is in
      let to = next es h.last h.run h.history_is in
      let apart = append_assoc h.events h.begun k.events in
      record {
        done = h.done;
        events = h.events;
        between = h.between;
        are = h.are;
        begun = h.begun ++ k.events;
        last = to;
        run = subst (λ (xs : List Event). IsRunOf g xs to) apart (run_on es h.last h.run h.history_is);
        history_is = told_on es h.last h.run h.history_is ∙ ap turns_of apart;
        text_is = h.text_is;
      }

  followed_on : (after : List Meaning) (text : List ℕ) → IsFollowed g after was text → IsFollowed g after now text
  followed_on after text h =
      let k = carried h.events h.last h.run h.history_is in
      let to = next h.events h.last h.run h.history_is in
      record {
        events = h.events ++ k.events;
        last = to;
        run = run_on h.events h.last h.run h.history_is;
        follows = follows_longer (orders g) (opened g) h.events h.last to h.follows k (stands_on h.events h.last h.run h.history_is h.still.calm);
        history_is = told_on h.events h.last h.run h.history_is;
        text_is = h.text_is ∙ report_on h.events h.last h.run h.history_is h.still;
        still = still_on h.events h.last h.run h.history_is h.still;
        devices = h.devices;
      }

  unwritten_on : (after : List Meaning) (text : List ℕ) → IsUnwritten g after was text → IsUnwritten g after now text
  unwritten_on after text u =
      let es = u.events ++ u.part in
      let k = carried es u.last u.are.run u.history_is in
      let to = next es u.last u.are.run u.history_is in
      let stands = stands_on es u.last u.are.run u.history_is u.is_part.calm in
      let apart = append_assoc u.events u.part k.events in
      record {
        ahead = u.ahead;
        order = u.order;
        behind_all = u.behind_all;
        events = u.events;
        between = u.between;
        follows = u.follows;
        part = u.part ++ k.events;
        last = to;
        is_part = part_longer (of_part u.order) u.between u.part u.last [] to u.is_part k stands;
        are = record {
          run = subst (λ (xs : List Event). IsRunOf g xs to) apart (run_on es u.last u.are.run u.history_is);
          later = u.are.later;
          orders_are = u.are.orders_are;
          follows =
              subst (λ (xs : List Event). Follows (u.ahead ++ just u.order) (opened g) xs to) apart
              (follows_longer (u.ahead ++ just u.order) (opened g) es u.last to u.are.follows k stands);
        };
        history_is = told_on es u.last u.are.run u.history_is ∙ ap turns_of apart;
        front = u.front;
        rest = u.rest ++ report k.events;
        report_is = report_append u.part k.events ∙ ap (λ (bs : List ℕ). bs ++ report k.events) u.report_is ∙ append_assoc u.front u.rest (report k.events);
        text_is = u.text_is;
        devices = u.devices;
        beside = λ none. not_solo_then es u.last u.are.run u.history_is;
      }

  ends_on : (end : SimEnd) (outcome : Worked) (after : List Meaning) (number : ℕ) (text : List ℕ) → EndsWith end g after number was text → number ≤ length now
      → (outcome ≡ Err gave_up.Worn → IsFull (length now)) → EndsWith (joined end outcome) g after (length now) now text
  ends_on ends.Done (Ok done) after number text h few worn = followed_on after text h
  ends_on ends.Done (Err gave_up.NoMemory) after number text h few worn = inl (broken_on text (short_of g after was text h))
  ends_on ends.Done (Err gave_up.Worn) after number text h few worn = (broken_on text (short_of g after was text h), worn refl)
  ends_on (ends.Script line kind) (Ok done) after number text h few worn = followed_on after text h
  ends_on (ends.Script line kind) (Err gave_up.NoMemory) after number text h few worn = inl (broken_on text (short_of g after was text h))
  ends_on (ends.Script line kind) (Err gave_up.Worn) after number text h few worn = (broken_on text (short_of g after was text h), worn refl)
  ends_on ends.WriteFault outcome after number text h few worn = unwritten_on after text h
  ends_on ends.NoMemory outcome after number text (inl h) few worn = inl (broken_on text h)
  ends_on ends.NoMemory outcome after number text (inr h) few worn = inr (unwritten_on after text h)
  ends_on ends.Worn outcome after number text (h, full) few worn = (broken_on text h, omega (arith, full, few))

-- who gives up isn't whole
short : (cause : GaveUp) → is_whole (given_up sim_ends cause) ≡ false
short gave_up.NoMemory = refl
short gave_up.Worn = refl

seen_legal : (start : State) (x : PassView) (seen rest : List Call) → x.seen ≡ seen ++ rest → x.opening ≡ Some start → (legal : HasSeenLegal Turns x)
    → Replays Turns start (seen ++ rest) legal.0
seen_legal start x seen rest is opens legal =
    let same : legal.1.0 ≡ start = let opened_with = legal.1.1 in cc in
    subst (λ (s : State). Replays Turns s (seen ++ rest) legal.0) same (subst (λ (cs : List Call). Replays Turns legal.1.0 cs legal.0) is legal.1.2)

long_enough : (start : State) (x : PassView) (seen rest : List Call) (n : ℕ) → x.seen ≡ seen ++ rest → n ≤ length x.seen
    → n ≤ length (turns_along start (seen ++ rest))
long_enough start x seen rest n is few = let a = ap length is in let b = turns_length start (seen ++ rest) in omega (arith, a, b, few)

pub joined_ends : OthersFindRoom → (calls : CallsAreTurns) (nothing : NothingChanges) (stays : MostStays) (end : SimEnd) (outcome : Worked) (g : Given) → Known g
    → (refused : Option (ℕ × ScriptRefusal)) (start : State) → start ≡ opening g.policy g.settings → (IsSolo start → ⊥)
    → (budget : ℕ) (mine x : PassView) (account w : Account Waiting) (after : List Meaning) (old new : SinkView)
    → DroveBy end g refused start after mine old new
    → Toiled (λ item told made. Makes budget item told made) mine account outcome x w → mine.number ≤ x.number → x.number ≤ length x.seen
    → IsAllowedSince Allows x.seen mine.seen → HasSeenLegal Turns x → x.opening ≡ Some start → AreAllPositions (length x.seen) x.own
    → Ends (joined end outcome) g after old new
joined_ends find calls nothing stays end outcome g known refused start is beside budget mine x account w after old new drove toiled number few since legal opens
    all =
    let rest = since.0 in (
      drove.ends.0,
      (
        turns_along start (mine.seen ++ rest),
        record {
          ends =
              ends_on calls nothing stays g known start is beside mine.seen rest legal.0 (seen_legal start x mine.seen rest since.1 opens legal) since.2
              end outcome after mine.number drove.ends.0 drove.ends.1 (long_enough start x mine.seen rest mine.number since.1 (omega (arith, number, few)))
              (λ worn. long_enough start x mine.seen rest (2 ^ 62) since.1 (omega (arith, toiled.worn worn, few)));
          smooth = record {
            room = room_joined find start mine.seen rest legal.0 (seen_legal start x mine.seen rest since.1 opens legal) since.2 drove.smooth.room;
            memory =
                subst (λ cs. is_whole (joined end outcome) ≡ true → AllHadMemory (turns_along start cs)) since.1
                (memory_joined sim_ends short end outcome start budget mine x account w drove.smooth toiled all);
          };
        },
      ),
      drove.ends.2,
    )
