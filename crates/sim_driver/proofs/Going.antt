-- How far a run has come, and how it ends.
use Rattle.std.proofs.Common.{◌≡◌, ◌⊎◌, ℕ, ◌+◌, ◌≤◌, true, List, [], ◌∷◌, ◌++◌, append-nil, append_assoc, refl, sym, ap, ◌∙◌, subst, length, inl}
use Rattle.std.proofs.Common.{inr, arith}
use Rattle.std.specs.Prelude.{Option, Some, None, Err}
use Rattle.std.specs.List.{flat_map}
use Rattle.std.proofs.lemmas.Grind.{flat_map-append}
use Rattle.std.proofs.lemmas.List.{append_cancel_left}
use Rattle.maple_io.specs.Views.{SinkView, Wrote}
use Rattle.maple_io.proofs.Pieces.{wrote_nothing, wrote_then}
use Rattle.report_text.specs.declared.line.Line.{Line}
use Rattle.report_text.specs.Report.{spelled}
use Rattle.device_port.specs.Devices.{Meaning}
use Rattle.machine_desk.specs.declared.report.ReportStop.{ReportStop}
use Rattle.machine_desk.specs.declared.report.ReportStop.TheVariants.{Failed, NoMemory, Worn}
use Rattle.machine_desk.specs.Desks.{DeskLaw, Footing, SameHall}
use Rattle.maple_base.specs.declared.decision.Settings.{Settings}
use Rattle.machine_steps.specs.Histories.{Leads as Steady, Turn, report_of, said}
use Rattle.machine_steps.specs.Machine.{State, opening}
use Rattle.machine_steps.specs.Sound.{AreInRange}
use Rattle.machine_steps.proofs.Changes.{changes}
use Rattle.script_text.specs.Orders.{Order, orders_of, refused_from}
use Rattle.script_text.specs.declared.step.Step.{Step}
use Rattle.script_text.specs.Steps.{Leads, order_with}
use Rattle.sim_steps.specs.Agreeing.{taken_report}
use Rattle.sim_steps.specs.Benches.{Bench, IsSolo}
use Rattle.sim_steps.specs.Deeds.{Event, Runs, turn_of, turns_of}
use Rattle.sim_steps.specs.Ends.{IsSmooth}
use Rattle.sim_steps.specs.Parts.{Follows, IsCalm}
use Rattle.sim_steps.specs.Showing.{AllIdle}
use Rattle.sim_steps.specs.Stretches.{BreaksOff}
use Rattle.sim_steps.proofs.Broken.{broken_here}
use Rattle.sim_steps.proofs.Joining.{report_then, runs_then}
use Rattle.sim_channels.specs.declared.driver.Driver.{Driver}
use Rattle.sim_channels.specs.Channels.{bench}
use Rattle.sim_driver.specs.declared.drive.SimEnd.{SimEnd}
use Rattle.sim_driver.specs.declared.drive.SimEnd.TheVariants as ends
use Rattle.sim_driver.specs.Passes.{Breaks, DeedLaws, EndsAt, Finished, IsFinished, IsReady, IsReported, IsUnreported, Passed, end_of}
use Rattle.sim_driver.specs.Passes.{untaken}
use Rattle.sim_driver.specs.Runs.{Ends, EndsOver, EndsWith, Given, IsBrokenOff, IsFollowed, IsRunOf, IsUnwritten, is_whole, just}
use Rattle.sim_driver.specs.Runs.{of_part, opened, orders, report}
use Rattle.sim_driver.proofs.Parting.{Parts, Stands, part_follows, parts_follow, parts_run, parts_then}
use Rattle.sim_driver.proofs.Taking.{bench_devices}

-- what holds of all deeds, and of what is given
pub record Known (g : Given) : Type 0 where
  pub laws : DeedLaws
  pub ranges : AreInRange g.settings
  pub idle : AllIdle g.devices

-- the parts of the orders ahead of these lines were done, and their report was written
pub record Went (g : Given) (places : ℕ) (old now : SinkView) (driver : Driver) (devices : List Meaning) (line : ℕ) (left : List (List ℕ)) : Type 0 where
  pub known : Known g
  pub done : List Order
  pub events : List Event
  pub parts : Parts done (opened g) events (bench driver devices)
  pub orders_are : orders g ≡ done ++ orders_of places left
  pub refused_is : refused_from places g.first g.lines ≡ refused_from places line left
  pub wrote : Wrote old now (taken_report events)
  pub stands : Stands (bench driver devices)
  pub none_waits : driver.desk.now.lines ≡ []

-- ---- ahead of the script

opened_stands : (g : Given) → Stands (opened g)
opened_stands g = (calm, (λ solo. record { machine = record { jobs = refl; taken = λ c h. absurd (cc) }; calm = calm }))
  where
    calm : IsCalm (opened g)
    calm = record { offered = λ c s h. absurd (let e = h.plugged in cc); heard = λ c s h. absurd (let e = h.plugged in cc) }

pub went_none : (g : Given) (places : ℕ) (old : SinkView) (driver : Driver) (devices : List Meaning) → Known g → length g.devices ≡ places
    → bench driver devices ≡ opened g
    → Went g places old old driver devices g.first g.lines
went_none g places old driver devices known n e = record {
  known = known;
  done = [];
  events = [];
  parts = (refl, e);
  orders_are = ap (λ (n : ℕ). orders_of n g.lines) n;
  refused_is = refl;
  wrote = wrote_nothing old;
  stands = subst Stands (sym e) (opened_stands g);
  none_waits = ap (λ (b : Bench). b.machine.lines) e;
}

-- with the same footing it is the same hall
pub same_hall : (f g : Footing) → g ≡ f → SameHall f g
same_hall f g same = record {
  place = ap (λ (x : Footing). x.place) same;
  name = ap (λ (x : Footing). x.name) same;
  start = ap (λ (x : Footing). x.start) same;
  parts = ap (λ (x : Footing). x.parts) same;
}

-- ---- one order more

orders_on : (g : Given) (places : ℕ) (left behind : List (List ℕ)) (done : List Order) (o : Order) (passed : ℕ) → orders g ≡ done ++ orders_of places left
    → Leads places left o passed behind → orders g ≡ (done ++ o ∷ []) ++ orders_of places behind
orders_on g places left behind done o passed are leads =
    are ∙ ap (λ (os : List Order). done ++ os) leads.orders ∙ sym (append_assoc done (o ∷ []) (orders_of places behind))

pub went_further : {g : Given} {places : ℕ} {old now : SinkView} {driver : Driver} {devices : List Meaning} {line : ℕ} {left : List (List ℕ)}
    → (new : SinkView) (next : Driver) (after : List Meaning) (o : Order) (passed : ℕ) (behind : List (List ℕ))
    → Went g places old now driver devices line left → Leads places left o passed behind
    → IsReported o (bench driver devices) (bench next after) now new → IsReady next after → Went g places old new next after (line + passed) behind
went_further {g} {places} {old} {now} {driver} {devices} {line} {left} new next after o passed behind h leads k ready = record {
  known = h.known;
  done = h.done ++ o ∷ [];
  events = h.events ++ k.events;
  parts = parts_then (bench driver devices) k.events (bench next after) h.done (opened g) h.events o h.parts k.part;
  orders_are = orders_on g places left behind h.done o passed h.orders_are leads;
  refused_is = h.refused_is ∙ leads.refused line;
  wrote = subst (Wrote old new) (sym (report_then h.events k.events)) (wrote_then old now new (taken_report h.events) (taken_report k.events) h.wrote k.wrote);
  stands = (k.part.calm, k.part.still);
  none_waits = ready.none_waits;
}

-- ---- the ends

-- it ends behind all lines
ends_whole : (end : SimEnd) → is_whole end ≡ true → (g : Given) (after : List Meaning) (number : ℕ) (history : List Turn) (text : List ℕ)
    → IsFollowed g after history text
    → EndsWith end g after number history text
ends_whole ends.Done is g after number history text h = h
ends_whole (ends.Script line kind) is g after number history text h = h
ends_whole end is g after number history text h = absurd (cc)

pub run_of : (g : Given) → Known g → (es : List Event) (b : Bench) → Runs (opened g) es b → IsRunOf g es b
run_of g known es b runs = record {
  runs = runs;
  history = known.laws.history g.policy g.settings g.devices es b runs;
  agree = known.laws.agree g.policy g.settings g.devices es b known.ranges runs;
  world = λ keep. known.laws.world g.policy g.settings g.devices es b known.ranges keep known.idle runs;
}

pub settings_stay : (m : State) (ts : List Turn) (n : State) → Steady m ts n → n.settings ≡ m.settings
settings_stay m [] n same = ap (λ (x : State). x.settings) same
settings_stay m (t ∷ ts) n (same, turn, rest) =
    settings_stay t.behind ts n rest ∙ (changes t.before t.entry t.reply t.behind turn.steps).settings ∙ ap (λ (x : State). x.settings) same

-- where none of its lines waits the report is what was taken
report_whole : (g : Given) → Known g → (es : List Event) (b : Bench) → Runs (opened g) es b → b.machine.lines ≡ [] → report es ≡ taken_report es
report_whole g known es b runs none =
    known.laws.report es g.policy g.settings b.machine (known.laws.history g.policy g.settings g.devices es b runs)
    ∙ ap (λ (ls : List Line). taken_report es ++ flat_map spelled ls) none
    ∙ append-nil (taken_report es)

pub report_append : (es fs : List Event) → report (es ++ fs) ≡ report es ++ report fs
report_append es fs =
    let lines : Turn → List Line = λ (t : Turn). said t.before t.entry t.behind in
    ap (λ (ts : List Turn). flat_map spelled (report_of ts)) (flat_map-append (λ (e : Event). turn_of e ∷ []) es fs)
    ∙ ap (flat_map spelled) (flat_map-append lines (turns_of es) (turns_of fs))
    ∙ flat_map-append spelled (report_of (turns_of es)) (report_of (turns_of fs))

module _ {g : Given} {places : ℕ} {old now : SinkView} {driver : Driver} {devices : List Meaning} {line : ℕ} {left : List (List ℕ)}
    (h : Went g places old now driver devices line left) where
  runs : Runs (opened g) h.events (bench driver devices)
  runs = parts_run h.done (opened g) h.events (bench driver devices) h.parts

  abbrev text_so_far : List ℕ
  text_so_far = report h.events

  whole : text_so_far ≡ taken_report h.events
  whole = report_whole g h.known h.events (bench driver devices) runs h.none_waits

  written : Wrote old now text_so_far
  written = subst (Wrote old now) (sym whole) h.wrote

  -- memory ran out ahead of an order, or in it, or the hall was found worn
  broken : (history : List Turn) → BreaksOff (bench driver devices) history → IsBrokenOff g history text_so_far
  broken history k =
      let all_run = runs_then (opened g) h.events (bench driver devices) k.events k.last runs k.runs in
      record {
        done = h.done;
        events = h.events;
        between = bench driver devices;
        are = record {
          run = run_of g h.known h.events (bench driver devices) runs;
          later = orders_of places left;
          orders_are = h.orders_are;
          follows = parts_follow h.done (opened g) h.events (bench driver devices) h.parts h.stands;
        };
        begun = k.events;
        last = k.last;
        run = run_of g h.known (h.events ++ k.events) k.last all_run;
        history_is = sym k.past_is ∙ h.known.laws.past (opened g) (h.events ++ k.events) k.last all_run;
        text_is = refl;
      }

  pub broken_off : (text : List ℕ) × (IsBrokenOff g driver.desk.past text ⊎ IsUnwritten g devices driver.desk.past text) × Wrote old now text
  broken_off = (text_so_far, inl (broken driver.desk.past (broken_here (bench driver devices) driver.desk.past refl)), written)

  -- all lines were followed, and what is done behind them too
  module _ (next : Driver) (after : List Meaning) (new : SinkView) (k : IsFinished (bench driver devices) next after now new)
      (none : orders_of places left ≡ []) where
    all : orders g ≡ h.done ++ []
    all = h.orders_are ∙ ap (λ (os : List Order). h.done ++ os) none

    abbrev all_events : List Event
    all_events = h.events ++ k.reported.events

    ends_run : Runs (opened g) all_events (bench next after)
    ends_run = runs_then (opened g) h.events (bench driver devices) k.reported.events (bench next after) runs k.reported.part.runs

    text_is : report all_events ≡ taken_report h.events ++ taken_report k.reported.events
    text_is = report_whole g h.known all_events (bench next after) ends_run k.ready.none_waits ∙ report_then h.events k.reported.events

    of_all : IsFollowed g after next.desk.past (report all_events)
    of_all = record {
      events = all_events;
      last = bench next after;
      run = run_of g h.known all_events (bench next after) ends_run;
      follows =
          subst (λ (os : List Order). Follows os (opened g) all_events (bench next after)) (sym all)
          (part_follows None h.done (opened g) h.events (bench driver devices) k.reported.events (bench next after) h.parts k.reported.part);
      history_is = h.known.laws.past (opened g) all_events (bench next after) ends_run;
      text_is = refl;
      still = k.still;
      devices = bench_devices next after k.ready.fits;
    }

    pub followed : (end : SimEnd) → is_whole end ≡ true → EndsAt end g next.desk after old new
    followed end is = (
      report all_events,
      ends_whole end is g after next.desk.number next.desk.past (report all_events) of_all,
      subst (Wrote old new) (sym text_is) (wrote_then old now new (taken_report h.events) (taken_report k.reported.events) h.wrote k.reported.wrote),
    )

  -- an order, or what is done behind all of them, wasn't followed to its end
  module _ (order : Option Order) (later : List Order) (orders_are : orders g ≡ (h.done ++ just order) ++ later)
      (all : order ≡ None → later ≡ []) (beside : order ≡ None → IsSolo driver.desk.now → ⊥) where
    module _ {new : SinkView} {after : List Meaning} {last : Bench} (u : IsUnreported (of_part order) (bench driver devices) last after now new) where
      all_runs : Runs (opened g) (h.events ++ u.events) last
      all_runs = runs_then (opened g) h.events (bench driver devices) u.events last runs u.part.runs

      abbrev waits : List ℕ
      waits = untaken last.machine

      -- of the last part the report is what was taken, and what waits
      last_report : report u.events ≡ taken_report u.events ++ waits
      last_report =
          let t = taken_report h.events in
          append_cancel_left t (report u.events) (taken_report u.events ++ waits) (
          ap (λ (bs : List ℕ). bs ++ report u.events) (sym whole)
          ∙ sym (report_append h.events u.events)
          ∙ h.known.laws.report (h.events ++ u.events) g.policy g.settings last.machine (h.known.laws.history g.policy g.settings g.devices (h.events ++ u.events) last all_runs)
          ∙ ap (λ (bs : List ℕ). bs ++ waits) (report_then h.events u.events)
          ∙ append_assoc t (taken_report u.events) waits
          )

      -- the settings are those at first
      solo_back : IsSolo last.machine → IsSolo driver.desk.now
      solo_back solo =
          let first = opening g.policy g.settings in
          let now =
          settings_stay first (turns_of h.events) driver.desk.now (h.known.laws.history g.policy g.settings g.devices h.events (bench driver devices) runs) in
          let then =
          settings_stay first (turns_of (h.events ++ u.events)) last.machine
          (h.known.laws.history g.policy g.settings g.devices (h.events ++ u.events) last all_runs) in
          ap (λ (s : Settings). s.workers) (now ∙ sym then) ∙ solo

      whole_script : order ≡ None → h.done ≡ orders g
      whole_script none =
          sym (
          orders_are
          ∙ ap (λ (os : List Order). (h.done ++ just order) ++ os) (all none)
          ∙ append-nil (h.done ++ just order)
          ∙ ap (λ (o : Option Order). h.done ++ just o) none
          ∙ append-nil h.done
          )

      cut : IsUnwritten g after last.past (text_so_far ++ u.front)
      cut = record {
        ahead = h.done;
        order = order;
        behind_all = whole_script;
        events = h.events;
        between = bench driver devices;
        follows = parts_follow h.done (opened g) h.events (bench driver devices) h.parts h.stands;
        part = u.events;
        last = last;
        is_part = u.part;
        are = record {
          run = run_of g h.known (h.events ++ u.events) last all_runs;
          later = later;
          orders_are = orders_are;
          follows = part_follows order h.done (opened g) h.events (bench driver devices) u.events last h.parts u.part;
        };
        history_is = h.known.laws.past (opened g) (h.events ++ u.events) last all_runs;
        front = u.front;
        rest = u.is_front.0 ++ waits;
        report_is = last_report ∙ ap (λ (bs : List ℕ). bs ++ waits) (sym u.is_front.1) ∙ append_assoc u.front u.is_front.0 waits;
        text_is = refl;
        devices = u.devices;
        beside = λ none solo. beside none (solo_back solo);
      }

      unwritten : (text : List ℕ) × IsUnwritten g after last.past text × Wrote old new text
      unwritten = (text_so_far ++ u.front, cut, wrote_then old now new text_so_far u.front written u.wrote)

    -- a write failed, memory ran out, or the hall was found worn
    module _ (next : Driver) (law : DeskLaw next.desk) where
      unchanged : (new : SinkView) → new ≡ now → Wrote old new text_so_far
      unchanged new same = subst (λ (s : SinkView). Wrote old s text_so_far) (sym same) written

      pub stopped : (new : SinkView) (after : List Meaning) (stop : ReportStop) → Breaks stop (of_part order) (bench driver devices) next after now new
          → EndsAt (end_of stop) g next.desk after old new
      stopped new after Failed u = unwritten u
      stopped new after NoMemory (inl e) = (text_so_far, inl (broken next.desk.past e.broken), unchanged new e.unwritten)
      stopped new after NoMemory (inr u) = let (text, cut, wrote) = unwritten u in (text, inr cut, wrote)
      stopped new after Worn (e, worn) = (text_so_far, (broken next.desk.past e.broken, law.full worn), unchanged new e.unwritten)

  -- in a step
  pub stopped_in : (next : Driver) (law : DeskLaw next.desk) (new : SinkView) (after : List Meaning) (step : Step) (text : List ℕ) (passed : ℕ) (behind : List (List ℕ)) (stop : ReportStop)
      → Passed (Err stop) step text driver devices next after now new → Leads places left (order_with step text) passed behind
      → EndsAt (end_of stop) g next.desk after old new
  stopped_in next law new after step text passed behind stop breaks leads =
      let o = order_with step text in
      let are = orders_on g places left behind h.done o passed h.orders_are leads in
      stopped (Some o) (orders_of places behind) are (λ none. absurd (cc)) (λ none. absurd (cc)) next law new after stop breaks

  -- behind all lines
  pub stopped_behind : (next : Driver) (law : DeskLaw next.desk) (new : SinkView) (after : List Meaning) (stop : ReportStop) → orders_of places left ≡ [] → Finished (Err stop) driver devices next after now new
      → EndsAt (end_of stop) g next.desk after old new
  stopped_behind next law new after stop none (beside, breaks) =
      let all = h.orders_are ∙ ap (λ (os : List Order). os ++ orders_of places left) (sym (append-nil h.done)) in
      stopped None (orders_of places left) all (λ is. none) (λ is. beside) next law new after stop breaks

-- memory ran out ahead of the machine
never : (g : Given) → Known g → IsBrokenOff g [] []
never g known = record {
  done = [];
  events = [];
  between = opened g;
  are = record {
    run = run_of g known [] (opened g) refl;
    later = orders g;
    orders_are = refl;
    follows = parts_follow [] (opened g) [] (opened g) (refl, refl) (opened_stands g);
  };
  begun = [];
  last = opened g;
  run = run_of g known [] (opened g) refl;
  history_is = refl;
  text_is = refl;
}

pub never_begun : (g : Given) → Known g → (after : List Meaning) (number : ℕ) (history : List Turn) → history ≡ [] → (old : SinkView)
    → EndsOver ends.NoMemory g after number history old old
never_begun g known after number history none old =
    ([], inl (subst (λ (ts : List Turn). IsBrokenOff g ts []) (sym none) (never g known)), wrote_nothing old)

-- ---- the history of a hall that was closed

-- a front of it was read
pub closed : (end : SimEnd) (g : Given) (after : List Meaning) (number : ℕ) (history : List Turn) (old new : SinkView) → number ≤ length history
    → IsSmooth (is_whole end) history → EndsOver end g after number history old new → Ends end g after old new
closed end g after number history old new few smooth (text, e, wrote) = (text, (history, record { ends = go end e; smooth = smooth }), wrote)
  where
    go : (end : SimEnd) → EndsWith end g after number history text → EndsWith end g after (length history) history text
    go ends.Done e = e
    go (ends.Script line kind) e = e
    go ends.WriteFault e = e
    go ends.NoMemory e = e
    go ends.Worn (e, full) = (e, omega (arith, full, few))
