-- The part of a turn is whole.
use Rattle.std.proofs.Common.{◌≡◌, ◌⊎◌, ℕ, Bool, true, false, not, ◌&&◌, List, [], ◌∷◌, ◌++◌, None, append_assoc, refl, sym, ap, ◌∙◌, subst, inl, inr, ⊎_elim}
use Rattle.std.specs.List.{list_any}
use Rattle.std.proofs.lemmas.Bool.{and_from, and_parts, not-false, not-true, or_cases, or_right}
use Rattle.std.proofs.lemmas.List.Folds.{list_any-append}
use Rattle.maple_base.specs.declared.decision.Settings.{Settings}
use Rattle.maple_io.specs.declared.act.Act.{Act}
use Rattle.maple_io.specs.declared.act.Act.TheVariants as acts
use Rattle.maple_io.specs.declared.board.Turn.{Turn as BoardTurn}
use Rattle.maple_io.specs.Boards.{control_in, control_text, was_closed}
use Rattle.maple_io.specs.Views.{SinkView, Wrote}
use Rattle.machine_desk.specs.Desks.{DeskLaw, DeskView}
use Rattle.machine_desk.specs.Hearing.{is_live}
use Rattle.machine_desk.specs.Reports.{Reports}
use Rattle.machine_moves.specs.MoveLaws.{StatesGrow}
use Rattle.machine_steps.specs.declared.entry.Entry.{Entry}
use Rattle.machine_steps.specs.Histories.{Leads, Turn}
use Rattle.machine_steps.specs.Machine.{State, opening}
use Rattle.board_lines.specs.Laws.{held_behind}
use Rattle.board_lines.specs.Readings.{beginning}
use Rattle.world_steps.specs.Worlds.{messages_for}
use Rattle.serve_steps.specs.Deeds.{Past, acts_of, ends, ends_by_link, fails, is_open, is_over, last_answer, opens, turns_of, was_accepted, was_cut}
use Rattle.serve_steps.specs.Deeds.Deed.{Does}
use Rattle.serve_steps.specs.Laws.{EndedIsGiven, LastAsks, LinesGoOn, StatesAreTold}
use Rattle.serve_steps.specs.Parts.{Asks, Given, IsAsked, IsDelivered, IsPart, IsSent, IsWorked, Part, deeds_of, due, ended_here, is_last, is_not_yet, is_served, is_taken, state_of, was_held}
use Rattle.serve_steps.specs.Runs.{IsAtRest, taken_in, taken_report}
use Rattle.serve_channels.specs.declared.server.Server.{Server}
use Rattle.serve_channels.specs.Delivering.{AllLive, IsStill, OpensOnce, WentReporting}
use Rattle.serve_channels.specs.Keeping.{IsKept}
use Rattle.serve_channels.specs.Servers.{IsKnown, IsUnknown, number_of}
use Rattle.serve_channels.specs.Stretches.{IsAside, Stretch}
use Rattle.serve_channels.proofs.Stretching.{gathered_then, stretch_then}
use Rattle.serve_pump.specs.declared.pump.Pump.{Pump}
use Rattle.serve_pump.specs.Running.{GoesOn, IsRunning, IsSettled, RunsOn}
use Rattle.serve_pump.specs.Turning.{Acted, AllSent, Entered, Follows, IsPassedBy, IsReached, ReadsBy, TurnLaws}
use Rattle.serve_pump.proofs.Asked.{asks_by, entered_then, held_by as reader_held, last_by, reads_on, text_behind}
use Rattle.serve_pump.proofs.Reached.{is_there, passed_behind, reached_behind, taken_open}
use Rattle.serve_pump.proofs.Stretched.{Passes, any_behind, any_grows, closed_before, none_cut, over_stays, sent_stays, taken_stays}

-- ---- the machine

leads_same : StatesGrow → (m last : State) (ts : List Turn) → Leads m ts last → last.settings ≡ m.settings
leads_same grow m last [] e = ap (λ (s : State). s.settings) e
leads_same grow m last (t ∷ ts) (begins, made, rest) =
    leads_same grow t.behind last ts rest ∙ (grow t.before t.entry t.reply t.behind made.steps).settings ∙ ap (λ (s : State). s.settings) begins

-- what the desk knows of it is what was done
module _ (g : Given) (before : List Act) (past : Past) (log : List Act) (s : Server) (kept : IsKept g before past log s) (law : DeskLaw s.desk) where
  pub legal : Leads (opening g.policy g.settings) (turns_of past) s.desk.now
  legal =
      subst (λ (m : State). Leads m (turns_of past) s.desk.now) kept.start (subst (λ (ts : List Turn). Leads s.desk.footing.start ts s.desk.now) kept.turns law.legal)

  pub state_is : StatesAreTold → state_of g past ≡ s.desk.now
  state_is told = told (opening g.policy g.settings) s.desk.now past legal

  pub is_worked : StatesAreTold → StatesGrow → IsWorked g past
  is_worked told grow none =
      ap (λ (m : State). m.jobs) (state_is told)
      ∙ kept.jobs (kept.crew.none (ap (λ (x : Settings). x.workers) (leads_same grow (opening g.policy g.settings) s.desk.now (turns_of past) legal) ∙ none))

  pub is_at_rest : StatesAreTold → IsStill s → IsAtRest g past
  is_at_rest told still = record {
    jobs = ap (λ (m : State). m.jobs) (state_is told) ∙ still.jobs;
    taken = λ c opened. subst (λ (m : State). messages_for c m ≡ []) (sym (state_is told)) (taken_open g before past log s kept still c opened);
  }

-- ---- sessions

open_is : (c : ℕ) (past : Past) → is_open c past ≡ true → (was_accepted c past ≡ true) × (is_over c past ≡ false)
open_is c past h =
    let both = and_parts (was_accepted c past) (not (is_over c past)) h in
    (both.0, not-true (is_over c past) both.1)

-- each connection that is there is open
module _ (g : Given) (before : List Act) (past : Past) (log : List Act) (s : Server) (kept : IsKept g before past log s) (live : AllLive s) where
  open_there : (c : ℕ) → IsKnown c s.connections.items → is_open c past ≡ true
  open_there c known =
      let k = known.1.connection in
      subst (λ n. is_open n past ≡ true) known.1.number ((kept.agree known.0 k known.1.there).live ∙ live known.0 k known.1.there)

  not_over : (c : ℕ) → was_closed c (acts_of past) ≡ false → is_over c past ≡ false
  not_over c unclosed =
      ⊎_elim (λ known. (open_is c past (open_there c known)).1) (λ unknown. sym (kept.forgotten c unknown).closed ∙ unclosed) (is_there c s.connections.items)

  -- and so just those whose sessions are over are closed
  closed_is : (c : ℕ) → was_closed c (acts_of past) ≡ is_over c past
  closed_is c =
      ⊎_elim
      (λ (known : IsKnown c s.connections.items).
      (let k = known.1.connection in
      subst (λ n. was_closed n (acts_of past) ≡ false) known.1.number (kept.agree known.0 k known.1.there).closed ∙ sym (open_is c past (open_there c known)).1))
      (λ unknown. (kept.forgotten c unknown).closed) (is_there c s.connections.items)

-- ---- the part

module _ (g : Given) (before : List Act) (first : Past) (parts : List Part) (old_log : List Act) (p : Pump) (h : GoesOn g before first parts old_log p) (t : BoardTurn) (bytes : List ℕ) where
  abbrev pub ahead : Past
  ahead = deeds_of first parts

  abbrev pub gives : Past
  gives = Does (acts.Gives t bytes) ∷ []

  abbrev pub turned : Past
  turned = Does (acts.Gives t bytes) ∷ ahead

  aside_gives : (c : ℕ) → IsAside c gives
  aside_gives c = record { taken = refl; unsent = refl; unanswered = refl; unfailed = refl; unended = refl }

  module _ (own : List Entry) (done : Past) (log : List Act) (s : Server) (stretch : Stretch own done turned) (entered : Entered t bytes p.reader turned own done)
      (each : (c : ℕ) → IsPassedBy c turned done ⊎ IsReached c turned done) (kept : IsKept g before (done ++ turned) log s) (live : AllLive s) (law : DeskLaw s.desk)
      (once : OpensOnce t ahead) (untold : s.desk.now.lines ≡ []) where
    abbrev pub part : Part
    part = record { given = t; bytes = bytes; done = done }

    abbrev after : Past
    after = done ++ turned

    is_asked : EndedIsGiven → LinesGoOn → LastAsks → IsAsked g first parts part
    is_asked given on last = record {
      goes_on = h.goes_on;
      asked =
          subst (λ (es : List Entry). Asks ahead t bytes after es) (sym stretch.own_is)
          (asks_by on last ahead t bytes p.reader own done (reads_on given g first parts p.reader h.running.cut h.goes_on h.read) entered);
      memory = stretch.memory;
      while_open = stretch.while_open;
      told = stretch.told;
      none_due = stretch.due_is;
    }

    -- ---- the sessions ahead

    not_over_ahead : (c : ℕ) → IsReached c turned done → is_over c ahead ≡ false
    not_over_ahead c r = not_over g before ahead old_log p.server h.running.kept h.running.live c (closed_before c gives ahead r.unclosed)

    unknown_ahead : (c : ℕ) → IsPassedBy c turned done → IsUnknown c p.server.connections.items
    unknown_ahead c k known =
        let was = open_is c ahead (open_there g before ahead old_log p.server h.running.kept h.running.live c known) in
        let opened : is_open c after ≡ true =
        and_from (was_accepted c after) (not (is_over c after)) (any_grows (opens c) done turned was.0) (ap not (over_stays c done turned k.aside ∙ was.1)) in
        let f : true ≡ false = sym opened ∙ k.shut in
        absurd (cc)

    -- ---- what was taken out

    uncut : (c : ℕ) → IsReached c turned done → list_any (ends_by_link c) done ≡ false → was_cut c after ≡ false
    uncut c r none = any_behind (ends_by_link c) done turned none ∙ none_cut c ahead (not_over_ahead c r)

    taken_reached : (c : ℕ) → IsReached c turned done → is_served c done after ≡ true → is_taken c done ≡ true
    taken_reached c r served =
        ⊎_elim (λ opened. r.taken (none_cut c after (open_is c after opened).1))
        (λ (ended : ended_here c done after ≡ true).
        (let both = and_parts (list_any (ends c) done && not (list_any (ends_by_link c) done)) (was_accepted c after) ended in
        r.taken (uncut c r (not-true (list_any (ends_by_link c) done) (and_parts (list_any (ends c) done) (not (list_any (ends_by_link c) done)) both.0).1))))
        (or_cases (is_open c after) (ended_here c done after) served)

    not_served : (c : ℕ) → IsPassedBy c turned done → is_served c done after ≡ false
    not_served c k = rw k.shut (rw k.aside.unended refl)

    taken : (c : ℕ) → is_served c done after ≡ true → is_taken c done ≡ true
    taken c served =
        ⊎_elim (λ k. (let f : true ≡ false = sym served ∙ not_served c k in absurd (cc))) (λ r. taken_reached c r served) (each c)

    -- ---- what was sent

    -- what was done stays settled, where nothing was done now
    settled_still : (c : ℕ) → IsPassedBy c turned done → IsSettled c first (part ∷ parts)
    settled_still c k = still (h.running.settled c (unknown_ahead c k))
      where
        still : IsSettled c first parts → IsSettled c first (part ∷ parts)
        still (inl e) =
            inl (sent_stays c done turned k.aside ∙ sent_stays c gives ahead (aside_gives c) ∙ e
            ∙ sym (taken_stays c done turned k.aside ∙ taken_stays c gives ahead (aside_gives c)))
        still (inr (inl e)) = inr (inl (any_grows (fails c) done turned (any_grows (fails c) gives ahead e)))
        still (inr (inr (inl e))) = inr (inr (inl (any_grows (ends_by_link c) done turned (any_grows (ends_by_link c) gives ahead e))))
        still (inr (inr (inr e))) = inr (inr (inr (rw k.aside.unanswered e)))

    sent_if : (c : ℕ) → IsSettled c first (part ∷ parts) → IsSent c first parts part
    sent_if c (inl e) = inl e
    sent_if c (inr (inl e)) = inr (inl e)
    sent_if c (inr (inr (inl e))) = inr (inr (inl e))
    sent_if c (inr (inr (inr e))) = inr (inr (inr (or_right (is_not_yet (last_answer c done)) (was_held c (part ∷ parts)) e)))

    sent_reached : (c : ℕ) → AllSent c after (last_answer c done) → IsSent c first parts part
    sent_reached c (inl e) = inl e
    sent_reached c (inr (inl e)) = inr (inl e)
    sent_reached c (inr (inr (inl e))) = inr (inr (inl e))
    sent_reached c (inr (inr (inr e))) = inr (inr (inr (rw e refl)))

    all_sent : (c : ℕ) → IsSent c first parts part
    all_sent c = ⊎_elim (λ k. sent_if c (settled_still c k)) (λ (r : IsReached c turned done). sent_reached c r.all_sent) (each c)

    -- a connection that isn't there any more ended in this part
    ended_now : (c : ℕ) → IsReached c turned done → is_open c after ≡ false → list_any (ends c) done ≡ true
    ended_now c r shut =
        ⊎_elim (λ e. e) (λ over. (let f : true ≡ false = sym over ∙ not_over_ahead c r in absurd (cc)))
        (or_cases (list_any (ends c) done) (is_over c turned) (sym (list_any-append (ends c) done turned) ∙ r.over ∙ ap not shut))

    settled_reached : (c : ℕ) → list_any (ends c) done ≡ true → AllSent c after (last_answer c done) → IsSettled c first (part ∷ parts)
    settled_reached c ended (inl e) = inl e
    settled_reached c ended (inr (inl e)) = inr (inl e)
    settled_reached c ended (inr (inr (inl e))) = inr (inr (inl e))
    settled_reached c ended (inr (inr (inr e))) = inr (inr (inr (rw e ended)))

    settled : (c : ℕ) → IsUnknown c s.connections.items → IsSettled c first (part ∷ parts)
    settled c unknown =
        ⊎_elim (λ k. settled_still c k) (λ (r : IsReached c turned done). settled_reached c (ended_now c r (kept.forgotten c unknown).shut) r.all_sent) (each c)

    -- ---- all of it

    is_delivered : IsDelivered first parts part
    is_delivered = record {
      taken = taken;
      in_order = stretch.in_order;
      all_sent = all_sent;
      closed = closed_is g before after log s kept live;
    }

    is_part : EndedIsGiven → LinesGoOn → LastAsks → StatesAreTold → StatesGrow → IsPart g first parts part
    is_part given on last told grow = record {
      asked = is_asked given on last;
      free = stretch.free;
      delivered = is_delivered;
      worked = is_worked g before after log s kept law told grow;
    }

    is_running : EndedIsGiven → LinesGoOn → LastAsks → StatesAreTold → StatesGrow → IsRunning g before first (part ∷ parts) log s
    is_running given on last told grow = record {
      kept = kept;
      parts_are = (is_part given on last told grow, h.running.parts_are);
      cut = (stretch.quiet, h.running.cut);
      opened = (once, h.running.opened);
      told = untold;
      live = live;
      settled = settled;
    }

    text_is : control_text (acts_of after) ≡ control_text (acts_of ahead) ++ control_in (acts.Gives t bytes)
    text_is = text_behind t bytes done ahead stretch.quiet

    runs_on_so : EndedIsGiven → LinesGoOn → LastAsks → StatesAreTold → StatesGrow → (ended : Bool) (q : Pump) (old new : SinkView) → q.server ≡ s
        → ReadsBy t bytes ended p.reader q.reader → (ended ≡ true → IsStill s) → Wrote old new (taken_report done) → RunsOn g before first parts ended log q old new
    runs_on_so given on last told grow ended q old new is reads still wrote =
        let reading = reads_on given g first parts p.reader h.running.cut h.goes_on h.read in
        let text = control_text (acts_of ahead) in
        record {
          part = part;
          running = subst (λ (x : Server). IsRunning g before first (part ∷ parts) log x) (sym is) (is_running given on last told grow);
          ended_is = ap (is_last t) text_is ∙ last_by text bytes ended p.reader q.reader reading t reads;
          wrote = wrote;
          read = λ e. reader_held text bytes ended p.reader q.reader reading t reads e ∙ ap (held_behind beginning) (sym text_is);
          rest = λ e. is_at_rest g before after log s kept law told (still e);
        }

-- ---- what was done behind a turn, and the report

-- it was taken whole
pub lines_taken : (a b : DeskView) (old new : SinkView) → Reports a b old new → b.now.lines ≡ []
lines_taken a b old new h = ⊎_elim (λ taken. ap (λ (m : State). m.lines) taken.1) (λ lacks. absurd (cc)) h.enters.made.steps

each_behind : (c : ℕ) (past done more : Past) → due done ≡ None → Passes more (done ++ past) → IsPassedBy c past done ⊎ IsReached c past done
    → IsPassedBy c past (more ++ done) ⊎ IsReached c past (more ++ done)
each_behind c past done more none h (inl k) = inl (passed_behind c done more past h k)
each_behind c past done more none h (inr k) = inr (reached_behind c done more past h none k)

module _ (laws : TurnLaws) (g : Given) (before : List Act) (first : Past) (parts : List Part) (old_log log : List Act) (p q : Pump) (a : Server) (h : GoesOn g before first parts old_log p)
    (t : BoardTurn) (bytes : List ℕ) (ended : Bool) (old new : SinkView) where
  abbrev came : Past
  came = Does (acts.Gives t bytes) ∷ deeds_of first parts

  pub runs_on : (w : Acted g before (Follows t bytes p.reader came) came log a) → WentReporting g before old new (w.done ++ came) log q.server
      → Reports a.desk q.server.desk old new → q.server ≡ record a { desk = q.server.desk } → AllLive a → DeskLaw q.server.desk → OpensOnce t (deeds_of first parts)
      → ReadsBy t bytes ended p.reader q.reader → (ended ≡ true → IsStill q.server) → RunsOn g before first parts ended log q old new
  runs_on w v reports rest live law once reads still =
      let done = v.done ++ w.done in
      let stretch = stretch_then w.own [] w.done v.done came w.stretch v.stretch in
      let passes : Passes v.done (w.done ++ came) = record { stretch = v.stretch; aside = v.aside } in
      let wrote : Wrote old new (taken_report done) =
      subst (λ (text : List ℕ). Wrote old new text)
      (sym (gathered_then taken_in w.done v.done ∙ ap (λ (text : List ℕ). text ++ taken_report v.done) w.unread)) v.wrote in
      runs_on_so g before first parts old_log p h t bytes (w.own ++ []) done log q.server stretch
      (entered_then came t bytes p.reader w.own [] w.done v.done w.so.0 refl)
      (λ c. each_behind c came w.done v.done w.stretch.due_is passes (w.so.1 c))
      (subst (λ (x : Past). IsKept g before x log q.server) (sym (append_assoc v.done w.done came)) v.kept)
      (subst AllLive (sym rest) live) law once (lines_taken a.desk q.server.desk old new reports) laws.given laws.on laws.last laws.told laws.grow ended q old new refl
      reads still wrote

-- ---- where nothing was done

pub stays_on : (g : Given) (before : List Act) (first : Past) (parts : List Part) (old_log log : List Act) (p q : Pump) → GoesOn g before first parts old_log p
    → IsKept g before (deeds_of first parts) log q.server → q.server.desk ≡ p.server.desk → q.reader ≡ p.reader → GoesOn g before first parts log q
stays_on g before first parts old_log log p q h kept desk reader = record {
  running = record {
    kept = kept;
    parts_are = h.running.parts_are;
    cut = h.running.cut;
    opened = h.running.opened;
    told = ap (λ (d : DeskView). d.now.lines) desk ∙ h.running.told;
    live = live_still;
    settled = λ c unknown. h.running.settled c (unknown_still c unknown);
  };
  goes_on = h.goes_on;
  read = reader ∙ h.read;
}
  where
    live_still : AllLive q.server
    live_still at k there =
        let agrees = kept.agree at k there in
        not-false (is_live k.inbound.stage)
        (sym agrees.over ∙ not_over g before (deeds_of first parts) old_log p.server h.running.kept h.running.live (number_of k) agrees.closed)

    unknown_still : (c : ℕ) → IsUnknown c q.server.connections.items → IsUnknown c p.server.connections.items
    unknown_still c unknown known =
        let f : true ≡ false =
        sym (open_there g before (deeds_of first parts) old_log p.server h.running.kept h.running.live c known) ∙ (kept.forgotten c unknown).shut in
        absurd (cc)
