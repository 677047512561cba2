-- A run begins.
use Rattle.std.proofs.Common.{◌≡◌, ℕ, Bool, true, false, ◌||◌, List, [], ◌∷◌, ◌++◌, append-nil, refl, sym, ap, ◌∙◌, subst, inl, ⊎_elim}
use Rattle.std.specs.Prelude.{◌≢◌, Err, IfOk, None, Ok, OnErr, OnOk, Option, Result, Some, drop}
use Rattle.std.specs.List.{list_all, list_any, slice_get}
use Rattle.std.proofs.lemmas.Bool.{and_parts, not-true, or_parts}
use Rattle.std.proofs.lemmas.Option.{none-some}
use Rattle.maple_io.specs.declared.act.Act.{Act}
use Rattle.maple_io.specs.declared.act.Act.TheVariants as acts
use Rattle.maple_io.specs.Boards.{BoardView, NoBoardFailed, control_text, sent}
use Rattle.maple_io.specs.Fronts.{IsFront}
use Rattle.maple_io.specs.Views.{SinkView, Wrote}
use Rattle.maple_io.proofs.Pieces.{wrote_nothing}
use Rattle.report_text.specs.declared.line.ScriptRefusal.{ScriptRefusal}
use Rattle.board_lines.specs.Laws.{held_behind}
use Rattle.board_lines.specs.Readings.{beginning}
use Rattle.machine_desk.specs.Desks.{DeskLaw, calls_of, turn}
use Rattle.machine_desk.specs.Reports.{EndsReport, Reports, ReportsInPart}
use Rattle.machine_desk.specs.declared.report.ReportStop.{ReportStop}
use Rattle.machine_desk.specs.declared.report.ReportStop.TheVariants.{Failed, NoMemory, Worn}
use Rattle.machine_steps.specs.declared.entry.Entry.{Entry}
use Rattle.machine_steps.specs.declared.entry.Entry.TheVariants as entries
use Rattle.machine_steps.specs.declared.reply.Reply.TheVariants as replies
use Rattle.machine_steps.specs.Histories.{Leads, Turn}
use Rattle.machine_steps.specs.Machine.{State, opening}
use Rattle.machine_desk.proofs.Opened.{opened_with}
use Rattle.serve_steps.specs.Deeds.{Past, acts_of, taken_of, turns_of}
use Rattle.serve_steps.specs.Deeds.Deed.{Does, Enters}
use Rattle.serve_steps.specs.Laws.{ReportIsTold, entered}
use Rattle.serve_steps.specs.Parts.{Given, given, is_quiet, is_start, is_turn, own_of}
use Rattle.serve_steps.specs.Runs.{IsFirst, IsScripted, start_by, taken_in, taken_report}
use Rattle.serve_steps.specs.Texts.{Ask, AreEntriesOf, ahead_of_refused, first_refused, script_asks, script_quits}
use Rattle.serve_steps.proofs.Entered.{acts_entered}
use Rattle.serve_steps.proofs.States.{turns_go_on}
use Rattle.serve_channels.specs.declared.connection.Connection.{Connection}
use Rattle.serve_channels.specs.declared.scripting.ScriptEnd.{ScriptEnd}
use Rattle.serve_channels.specs.declared.scripting.ScriptEnd.TheVariants as scripts
use Rattle.serve_channels.specs.declared.server.Server.{Server}
use Rattle.serve_channels.specs.Controlling.{AnswersAhead, end_with, script_end}
use Rattle.serve_channels.specs.Delivering.{AllLive, IsStill, WentReporting}
use Rattle.serve_channels.specs.Keeping.{Are, Goes, IsKept, IsServing, Went}
use Rattle.serve_channels.specs.Servers.{IsKnown, IsUnknown}
use Rattle.serve_channels.specs.Starting.{FreshIsKept, IsFresh}
use Rattle.serve_channels.specs.Stretches.{IsAside, Stretch}
use Rattle.serve_channels.proofs.Stretching.{aside_then, gathered_then, goes_then, stretch_then}
use Rattle.serve_channels.proofs.Told.{taken_others}
use Rattle.serve_pump.specs.declared.pump.Pump.{Pump}
use Rattle.serve_pump.specs.declared.pump.TurnStop.{TurnStop}
use Rattle.serve_pump.specs.declared.pump.TurnStop.TheVariants as stops
use Rattle.serve_pump.specs.declared.startup.Begun.{Begun}
use Rattle.serve_pump.specs.declared.startup.Begun.TheVariants as begins
use Rattle.serve_pump.specs.declared.startup.Startup.{Startup}
use Rattle.serve_pump.specs.Beginning.{BeginLaws, BreaksAtFirst, FailsAtStart, HasBegun, HasQuit, IsCarriedOut, ListensBy, given_by}
use Rattle.serve_pump.specs.Running.{GoesOn, IsRunning, IsSettled}
use Rattle.serve_pump.proofs.Broken.{quiet_entered, taken_front}
use Rattle.serve_pump.proofs.Whole.{is_at_rest, is_worked, lines_taken}
use Rattle.serve_pump.proofs.Whole.{legal as legal_kept}

-- ---- small facts

nothing_more : {X : Type 0} (xs ys : List X) → xs ≡ xs ++ ys → ys ≡ []
nothing_more [] ys e = sym e
nothing_more (x ∷ xs) ys e = nothing_more xs ys (ap (drop 1) e)

-- what is quiet has no turn
pub none_turned : (done : Past) → list_all is_quiet done ≡ true → list_any is_turn done ≡ false
none_turned [] quiet = refl
none_turned (d ∷ done) quiet =
    let both = and_parts (is_quiet d) (list_all is_quiet done) quiet in
    ap (λ (b : Bool). b || list_any is_turn done) (or_parts (is_turn d) (is_start d) (not-true (is_turn d || is_start d) both.0)).0 ∙ none_turned done both.1

-- how a script ends, by what it asks for
pub is_whole : (refused : Option (ℕ × ScriptRefusal)) (quits : Bool) → end_with refused quits ≡ scripts.Whole → (refused ≡ None) × (quits ≡ false)
is_whole (Some r) quits e = absurd (cc)
is_whole None true e = absurd (cc)
is_whole None false e = (refl, refl)

pub is_quit : (refused : Option (ℕ × ScriptRefusal)) (quits : Bool) → end_with refused quits ≡ scripts.Quit → (refused ≡ None) × (quits ≡ true)
is_quit (Some r) quits e = absurd (cc)
is_quit None true e = (refl, refl)
is_quit None false e = absurd (cc)

pub is_refused : (refused : Option (ℕ × ScriptRefusal)) (quits : Bool) (line : ℕ) (kind : ScriptRefusal) → end_with refused quits ≡ scripts.Refused line kind
    → refused ≡ Some (line, kind)
is_refused (Some (n, k)) quits line kind e = cc
is_refused None true line kind e = absurd (cc)
is_refused None false line kind e = absurd (cc)

-- ---- no connection

nothing_there : (ks : List Connection) → ks ≡ [] → (at : ℕ) (k : Connection) → slice_get ks at ≡ Some k → ⊥
nothing_there ks none at k there = none-some k (subst (λ (xs : List Connection). slice_get xs at ≡ Some k) none there)

pub none_known : (ks : List Connection) → ks ≡ [] → (c : ℕ) → IsUnknown c ks
none_known ks none c known = nothing_there ks none known.0 known.1.connection known.1.there

pub still_alone : (s : Server) → s.connections.items ≡ [] → s.desk.now.jobs ≡ [] → IsStill s
still_alone s none idle = record { jobs = idle; taken = λ at k there live. absurd (nothing_there s.connections.items none at k there) }

-- ---- the script was carried out, and its report was written

module _ (laws : BeginLaws) (g : Given) (log : List Act) (b d : Server) (old new : SinkView)
    (w : Went g log (AnswersAhead (script_asks g.first_line g.script) []) [] log b) (v : WentReporting g log old new (w.done ++ []) log d)
    (reports : Reports b.desk d.desk old new) (law : DeskLaw d.desk) (none : b.connections.items ≡ []) (rest : d ≡ record b { desk = d.desk }) (still : IsStill d) where
  abbrev pub first : Past
  first = v.done ++ w.done

  none_now : d.connections.items ≡ []
  none_now = ap (λ (s : Server). s.connections.items) rest ∙ none

  stretch : Stretch (w.own ++ []) first []
  stretch = stretch_then w.own [] w.done v.done [] w.stretch v.stretch

  kept : IsKept g log first log d
  kept = subst (λ (p : Past). IsKept g log (v.done ++ p) log d) (append-nil w.done) v.kept

  no_acts : acts_of first ≡ []
  no_acts = nothing_more log (acts_of first) kept.acts

  scripted : IsScripted g first
  scripted = record {
    asked =
        subst (λ (es : List Entry). AreEntriesOf (ahead_of_refused (script_asks g.first_line g.script)) es) (sym (stretch.own_is ∙ append-nil w.own)) w.so;
    memory = stretch.memory;
  }

  aside : (c : ℕ) → IsAside c first
  aside c = aside_then c w.done v.done (w.aside c (none_known b.connections.items none c)) (v.aside c)

  pub wrote : Wrote old new (taken_report first)
  wrote =
      subst (λ (text : List ℕ). Wrote old new text)
      (sym (gathered_then taken_in w.done v.done ∙ ap (λ (text : List ℕ). text ++ taken_report v.done) w.unread)) v.wrote

  pub carried : IsCarriedOut g log first log d
  carried = record {
    kept = kept;
    only = record { scripted = scripted; free = stretch.free; not_started = no_acts; no_turn = refl };
    cut = none_turned first stretch.quiet;
    told = lines_taken b.desk d.desk old new reports;
    none = still.jobs;
  }

  live : AllLive d
  live at k there = absurd (nothing_there d.connections.items none_now at k there)

  -- ---- by a line `quit`

  module _ (none_refused : first_refused (script_asks g.first_line g.script) ≡ None) (quits : script_quits g.first_line g.script ≡ true) where
    quit_first : IsFirst g first
    quit_first = record {
      scripted = scripted;
      none_refused = none_refused;
      free = stretch.free;
      started = no_acts ∙ sym (ap (λ (b : Bool). start_by b g) quits);
      worked = is_worked g log first log d kept law laws.told laws.grow;
    }

    pub has_quit : HasQuit g log first log d
    has_quit = record {
      running = record {
        kept = kept;
        parts_are = quit_first;
        cut = none_turned first stretch.quiet;
        opened = tt;
        told = lines_taken b.desk d.desk old new reports;
        live = live;
        settled = λ c unknown. inl ((aside c).unsent ∙ sym (aside c).taken);
      };
      ended = quits;
      rest = is_at_rest g log first log d kept law laws.told still;
    }

  -- ---- the board listens

  module _ (none_refused : first_refused (script_asks g.first_line g.script) ≡ None) (quits : script_quits g.first_line g.script ≡ false) (new_log : List Act)
      (starts : IsKept g log (Does (acts.Starts g.listen g.control) ∷ first) new_log d) where
    abbrev start : Act
    start = acts.Starts g.listen g.control

    abbrev pub begun : Past
    begun = Does start ∷ first

    acts_now : acts_of begun ≡ start ∷ []
    acts_now = ap (λ (xs : List Act). xs ++ start ∷ []) no_acts

    listening_first : IsFirst g begun
    listening_first = record {
      scripted = record {
        asked = subst (λ (es : List Entry). AreEntriesOf (ahead_of_refused (script_asks g.first_line g.script)) es) (sym (append-nil (own_of first))) scripted.asked;
        memory = scripted.memory;
      };
      none_refused = none_refused;
      free = (tt, stretch.free);
      started = acts_now ∙ sym (ap (λ (b : Bool). start_by b g) quits);
      worked = is_worked g log begun new_log d starts law laws.told laws.grow;
    }

    settled : (c : ℕ) → IsSettled c begun []
    settled c = inl (ap (sent c) acts_now ∙ sym (append-nil (taken_of c first) ∙ (aside c).taken))

    pub goes_on : (p : Pump) → p.server ≡ d → p.reader ≡ beginning → GoesOn g log begun [] new_log p
    goes_on p is reader = record {
      running =
          subst (λ (s : Server). IsRunning g log begun [] new_log s) (sym is)
          (record {
            kept = starts;
            parts_are = listening_first;
            cut = none_turned first stretch.quiet;
            opened = tt;
            told = lines_taken b.desk d.desk old new reports;
            live = live;
            settled = λ c unknown. settled c;
          });
      goes_on = quits;
      read = reader ∙ sym (ap (λ (xs : List Act). held_behind beginning (control_text xs)) acts_now);
    }

    pub wrote_begun : Wrote old new (taken_report begun)
    wrote_begun = subst (λ (text : List ℕ). Wrote old new text) (sym (append-nil (taken_report first))) wrote

-- ---- it breaks off

module _ (report : ReportIsTold) (g : Given) (log : List Act) (p : Pump) (law : DeskLaw p.server.desk) (start : p.server.desk.footing.start ≡ opening g.policy g.settings) where
  legal : (first : Past) → p.server.desk.past ≡ turns_of first → Leads (opening g.policy g.settings) (turns_of first) p.server.desk.now
  legal first turns =
      subst (λ (m : State). Leads m (turns_of first) p.server.desk.now) start
      (subst (λ (ts : List Turn). Leads p.server.desk.footing.start ts p.server.desk.now) turns law.legal)

  -- a call stopped: of the history alone
  pub breaks_by_past : (to : SinkView) → BreaksAtFirst g log log p to to
  breaks_by_past to =
      let ts = p.server.desk.past in
      record {
        first = entered ts [];
        turns = sym (turns_go_on ts []);
        acts = sym (ap (λ (xs : List Act). log ++ xs) (acts_entered ts []) ∙ append-nil log);
        cut = none_turned (entered ts []) (quiet_entered ts [] refl);
        text = [];
        wrote = wrote_nothing to;
        front = (_, refl);
      }

  -- the report was written in part
  module _ (b : Server) (done : Past) (old new : SinkView) (kept : IsKept g log done log b) (quiet : list_all is_quiet done ≡ true) (unread : taken_report done ≡ []) where
    pub breaks_in_part : ReportsInPart b.desk p.server.desk old new → BreaksAtFirst g log log p old new
    breaks_in_part e =
        let this = turn e.enters.between entries.TakeReport (replies.Lines e.text) p.server.desk.now in
        let all = Enters this ∷ entered e.enters.others done in
        let turns : p.server.desk.past ≡ turns_of all =
        e.enters.past ∙ ap (λ (us : List Turn). (us ++ e.enters.others) ++ this ∷ []) kept.turns
        ∙ ap (λ (us : List Turn). us ++ this ∷ []) (sym (turns_go_on e.enters.others done)) in
        record {
          first = all;
          turns = turns;
          acts = kept.acts ∙ ap (λ (xs : List Act). log ++ xs) (sym (append-nil (acts_of (entered e.enters.others done)) ∙ acts_entered e.enters.others done));
          cut = none_turned all (quiet_entered e.enters.others done quiet);
          text = e.front;
          wrote = e.wrote;
          front =
              taken_front report g all p.server.desk.now (legal all turns) e.front
              (subst (λ (xs : List ℕ). IsFront e.front xs)
              (sym (ap (λ (xs : List ℕ). xs ++ e.text) (taken_others (calls_of b.desk.past) e.enters.others done e.enters.allowed ∙ unread))) e.is_front);
        }

    pub breaks_told : (stop : ReportStop) → EndsReport stop b.desk p.server.desk old new → BreaksAtFirst g log log p old new
    breaks_told Failed ends = breaks_in_part ends.0
    breaks_told NoMemory ends = ⊎_elim (λ lacks. silently lacks.1) (λ part. breaks_in_part part) ends
      where
        silently : new ≡ old → BreaksAtFirst g log log p old new
        silently e = subst (λ (x : SinkView). BreaksAtFirst g log log p old x) (sym e) (breaks_by_past old)
    breaks_told Worn ends = subst (λ (x : SinkView). BreaksAtFirst g log log p old x) (sym ends.1) (breaks_by_past old)

-- the board failed at its start: the report was written
pub breaks_failed : ReportIsTold → (g : Given) (old_board new_board : BoardView) (p : Pump) → DeskLaw p.server.desk → (old new : SinkView)
    → FailsAtStart g old_board new_board p old new → BreaksAtFirst g old_board.log new_board.log p old new
breaks_failed report g old_board new_board p law old new h =
    let c = h.carried in
    record {
      first = h.first;
      turns = c.kept.turns;
      acts = c.kept.acts;
      cut = c.cut;
      text = taken_report h.first;
      wrote = h.wrote;
      front =
          taken_front report g h.first p.server.desk.now (legal_kept g old_board.log h.first new_board.log p.server c.kept law) (taken_report h.first)
          ([], append-nil (taken_report h.first));
    }

-- ---- the script, and then each packet was awaited

same_items : (s t : Server) → t.connections ≡ s.connections → s.connections.items ≡ t.connections.items
same_items s t e = cc

pub carried_then : (asks : List Ask) (a b c : Server) (log : List Act) → c.connections ≡ b.connections → Goes (AnswersAhead asks) a log b log → Goes (Are []) b log c log
    → Goes (AnswersAhead asks) a log c log
carried_then asks a b c log same h k =
    goes_then (λ past. Unit {0}) (AnswersAhead asks) (Are []) (AnswersAhead asks) a b c log log log
    (λ past ours theirs first more x none.
    subst (λ (es : List Entry). AreEntriesOf (ahead_of_refused asks) es) (sym (ap (λ (es : List Entry). ours ++ es) none ∙ append-nil ours)) x)
    (λ n known. subst (λ (ks : List Connection). IsKnown n ks) (same_items b c same) known) h k

-- the reader and the room are those of before
pub reader_stays : (p q : Pump) → q ≡ record p { server = q.server } → p.reader ≡ beginning → q.reader ≡ beginning
reader_stays p q rest reader = ap (λ (x : Pump). x.reader) rest ∙ reader

pub room_stays : (p q : Pump) → q ≡ record p { server = q.server } → q.room ≡ p.room
room_stays p q rest = ap (λ (x : Pump). x.room) rest

-- a fresh server is served, and still is behind the script
pub serving_fresh : FreshIsKept → (log : List Act) (s : Server) → IsFresh s → IsServing log s
serving_fresh fresh log s h =
    let start = s.desk.footing.start in
    let g = given start.policy start.settings [] 0 0 0 in
    record { given = g; before = log; past = []; kept = fresh g log s h (opened_with s.desk h.opened) }

-- ---- the call

module _ (laws : BeginLaws) (state : State) (startup : Startup) (old_board : BoardView) (b d : Server) (old new : SinkView)
    (w : Went (given_by state startup) old_board.log (AnswersAhead (script_asks startup.first_line startup.script.now) []) [] old_board.log b)
    (v : WentReporting (given_by state startup) old_board.log old new (w.done ++ []) old_board.log d)
    (reports : Reports b.desk d.desk old new) (law : DeskLaw d.desk) (none : b.connections.items ≡ []) (rest : d ≡ record b { desk = d.desk }) (still : IsStill d)
    (end : ScriptEnd) (end_is : end ≡ script_end startup.first_line startup.script.now) (p : Pump) (is : p.server ≡ d) (reader : p.reader ≡ beginning)
    (new_board : BoardView) where
  abbrev g : Given
  g = given_by state startup

  abbrev log : List Act
  log = old_board.log

  abbrev asks : List Ask
  asks = script_asks startup.first_line startup.script.now

  abbrev quit : Bool
  quit = script_quits startup.first_line startup.script.now

  abbrev done : Past
  done = first laws g log b d old new w v reports law none rest still

  done_so : IsCarriedOut g log done log d
  done_so = carried laws g log b d old new w v reports law none rest still

  written : Wrote old new (taken_report done)
  written = wrote laws g log b d old new w v reports law none rest still

  -- it is so at the pump, and with the log as it is now
  there : (P : List Act → Server → Type 0) → new_board ≡ old_board → P log d → P new_board.log p.server
  there P same h = subst (λ (l : List Act). P l p.server) (sym (ap (λ (x : BoardView). x.log) same)) (subst (P log) (sym is) h)

  pub begun_ok : (r : Result Begun TurnStop) → ListensBy r end startup d old_board new_board → IfOk r (λ how. HasBegun how g log new_board.log p old new)
  begun_ok (Ok begins.Listening) h =
      let so = is_whole (first_refused asks) quit (sym end_is ∙ h.0) in
      let starts = h.1 g log done done_so.kept in
      record {
        first = Does (acts.Starts startup.listen startup.control) ∷ done;
        is = goes_on laws g log b d old new w v reports law none rest still so.0 so.1 new_board.log starts p is reader;
        wrote = wrote_begun laws g log b d old new w v reports law none rest still so.0 so.1 new_board.log starts;
      }
  begun_ok (Ok begins.Quit) h =
      let so = is_quit (first_refused asks) quit (sym end_is ∙ h.0) in
      record {
        first = done;
        is = there (λ (l : List Act) (s : Server). HasQuit g log done l s) h.1 (has_quit laws g log b d old new w v reports law none rest still so.0 so.1);
        wrote = written;
      }
  begun_ok (Ok (begins.Refused line kind)) h = record {
    first = done;
    is = record {
      carried = there (λ (l : List Act) (s : Server). IsCarriedOut g log done l s) h.1 done_so;
      refused = is_refused (first_refused asks) quit line kind (sym end_is ∙ h.0);
    };
    wrote = written;
  }
  begun_ok (Err stop) h = tt

  pub begun_failed : ListensBy (Err stops.Board) end startup d old_board new_board → FailsAtStart g old_board new_board p old new
  begun_failed h =
      let so = is_whole (first_refused asks) quit (sym end_is ∙ h.0) in
      record {
        failed = h.2;
        first = done;
        carried =
            subst (λ (s : Server). IsCarriedOut g log done new_board.log s) (sym is)
            (record { kept = h.1 g log done done_so.kept; only = done_so.only; cut = done_so.cut; told = done_so.told; none = done_so.none });
        none_refused = so.0;
        goes_on = so.1;
        wrote = written;
      }

  pub begun_breaks : DeskLaw p.server.desk → (r : Result Begun TurnStop) → ListensBy r end startup d old_board new_board
      → OnErr r (BreaksAtFirst g log new_board.log p old new)
  begun_breaks here (Ok how) h = tt
  begun_breaks here (Err stops.Board) h = breaks_failed laws.report g old_board new_board p here old new (begun_failed h)
  begun_breaks here (Err stops.Write) h = absurd h
  begun_breaks here (Err stops.Stopped) h = absurd h

  pub begun_serving : (r : Result Begun TurnStop) → ListensBy r end startup d old_board new_board → OnOk r (IsServing new_board.log p.server)
  begun_serving r h = serving_of r (begun_ok r h)
    where
      serving_of : (r : Result Begun TurnStop) → IfOk r (λ how. HasBegun how g log new_board.log p old new) → OnOk r (IsServing new_board.log p.server)
      serving_of (Ok begins.Listening) k = record { given = g; before = log; past = k.first; kept = k.is.running.kept }
      serving_of (Ok begins.Quit) k = record { given = g; before = log; past = k.first; kept = k.is.running.kept }
      serving_of (Ok (begins.Refused line kind)) k = record { given = g; before = log; past = k.first; kept = k.is.carried.kept }
      serving_of (Err stop) k = tt

-- what the board's start tells of its faults
pub listens_spared : (r : Result Begun TurnStop) (end : ScriptEnd) (startup : Startup) (s : Server) (old new : BoardView) → ListensBy r end startup s old new
    → r ≢ Err stops.Board → NoBoardFailed old new
listens_spared (Ok begins.Listening) end startup s old new h other = h.2
listens_spared (Ok begins.Quit) end startup s old new h other = ap (λ (x : BoardView). x.failed) h.1
listens_spared (Ok (begins.Refused line kind)) end startup s old new h other = ap (λ (x : BoardView). x.failed) h.1
listens_spared (Err stops.Board) end startup s old new h other = absurd (other refl)
listens_spared (Err stops.Write) end startup s old new h other = absurd h
listens_spared (Err stops.Stopped) end startup s old new h other = absurd h

pub listens_not_write : (r : Result Begun TurnStop) (end : ScriptEnd) (startup : Startup) (s : Server) (old new : BoardView) → ListensBy r end startup s old new
    → r ≢ Err stops.Write
listens_not_write (Ok how) end startup s old new h = λ e. absurd (cc)
listens_not_write (Err stops.Board) end startup s old new h = λ e. absurd (cc)
listens_not_write (Err stops.Write) end startup s old new h = absurd h
listens_not_write (Err stops.Stopped) end startup s old new h = absurd h

pub is_failed : (r : Result Begun TurnStop) (end : ScriptEnd) (startup : Startup) (s : Server) (old new : BoardView) → r ≡ Err stops.Board
    → ListensBy r end startup s old new → ListensBy (Err stops.Board) end startup s old new
is_failed r end startup s old new e h = subst (λ (x : Result Begun TurnStop). ListensBy x end startup s old new) e h
