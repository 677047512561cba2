-- A run over the devices of the program.
use Rattle.std.proofs.Common.{◌≡◌, ℕ, zero, suc, true, List, [], ◌∷◌, ◌++◌, length, map, refl, sym, ap, ◌∙◌, subst, inl, inr, append-nil, arith}
use Rattle.std.specs.List.{AllByRecursion}
use Rattle.std.proofs.lemmas.List.{append_cancel_left}
use Rattle.serve_steps.specs.Runs.{is_whole}
use Rattle.maple_io.specs.Answers.{ends as tells_end, fails, given}
use Rattle.maple_io.specs.declared.act.Act.{Act}
use Rattle.maple_io.specs.declared.answer.Answer.{Answer}
use Rattle.maple_io.specs.Boards.{BoardView}
use Rattle.maple_io.specs.Fronts.{IsFront}
use Rattle.maple_io.specs.Views.{Heard, SinkView, SourceView, Wrote}
use Rattle.maple_io.proofs.Pieces.{wrote_nothing}
use Rattle.policy_lang.specs.declared.Policy.{Policy}
use Rattle.device_port.specs.Devices.{Meaning}
use Rattle.machine_steps.specs.Histories.{Turn}
use Rattle.sim_steps.specs.Showing.{AllIdle, AllKeep}
use Rattle.sim_driver.specs.declared.drive.SimEnd.{SimEnd}
use Rattle.sim_driver.specs.declared.drive.SimEnd.TheVariants as sims
use Rattle.sim_driver.specs.Runs.{EndsBy, Given as SimGiven, given as sim_given}
use Rattle.serve_steps.specs.declared.end.ServeEnd.{ServeEnd}
use Rattle.serve_steps.specs.declared.end.ServeEnd.TheVariants as ends
use Rattle.command_words.specs.declared.words.Command.{Command}
use Rattle.command_words.specs.declared.words.Command.TheVariants.{Sim, Check, Gen, Serve}
use Rattle.maple_top.specs.declared.status.Status.{Status}
use Rattle.maple_top.specs.declared.status.Status.TheVariants as status
use Rattle.maple_top.specs.Due.{AreReading, IsDue, IsDueBy, IsExact, IsExactBy, IsFault, IsReading, IsUnread, OfInput}
use Rattle.maple_top.specs.Ends.{IsCutting, IsOrCut, StopsAtFailure, WroteFront, status_of}
use Rattle.maple_top.specs.Outcomes.{Comes, Did, Results, ResultsBy, RunsPolicy, Switches, end_of, kept_of, switches}
use Rattle.maple_top.specs.Program.{IsReporting, IsRight, IsRightReport, Reports, ResultsIn, RunsOver, Spares, device_at, devices_to, program_devices}
use Rattle.maple_top.specs.Statuses.{last_line}
use Rattle.maple_top.specs.Texts.{Texts, texts_of}
use Rattle.maple_top.proofs.Answered.{at_heard}
use Rattle.maple_top.proofs.Endings.{of_cutting}

-- ---- the devices

one_more : (P : Meaning → Type 0) (ds : List Meaning) (d : Meaning) → AllByRecursion P ds → P d → AllByRecursion P (ds ++ d ∷ [])
one_more P [] d h k = (k, tt)
one_more P (x ∷ ds) d (now, later) k = (now, one_more P ds d later k)

keep_to : (places : ℕ) → AllKeep (devices_to places)
keep_to zero = tt
keep_to (suc place) = one_more (λ (d : Meaning). d.keeps ≡ true) (devices_to place) (device_at (suc place)) (keep_to place) refl

pub idle_to : (places : ℕ) → AllIdle (devices_to places)
idle_to zero = tt
idle_to (suc place) = one_more (λ (d : Meaning). d.pending ≡ []) (devices_to place) (device_at (suc place)) (idle_to place) refl

pub devices_keep : AllKeep program_devices
unfolding program_devices
devices_keep = keep_to 64

pub devices_idle : AllIdle program_devices
unfolding program_devices
devices_idle = idle_to 64

pub devices_are : (ds : List Meaning) (place : ℕ) → ds ≡ devices_to place → place ≡ 64 → ds ≡ program_devices
unfolding program_devices
devices_are ds place e n = e ∙ ap devices_to n

map_both : {A : Type 0} (f : A → Meaning) (xs : List A) (x : A) → map f (xs ++ x ∷ []) ≡ map f xs ++ f x ∷ []
map_both f [] x = refl
map_both f (y ∷ xs) x = ap (λ (ds : List Meaning). f y ∷ ds) (map_both f xs x)

-- one device more
pub map_one : {A : Type 0} (f : A → Meaning) (xs : List A) (x : A) (place next : ℕ) → next ≡ suc place → map f xs ≡ devices_to place → f x ≡ device_at next
    → map f (xs ++ x ∷ []) ≡ devices_to next
map_one f xs x place next n e k =
    let last : f x ≡ device_at (suc place) = k ∙ ap device_at n in
    map_both f xs x ∙ ap (λ (ds : List Meaning). ds ++ f x ∷ []) e ∙ ap (λ (d : Meaning). devices_to place ++ d ∷ []) last ∙ ap devices_to (sym n)

-- ---- what was heard

at_input : {source left : SourceView} {Of : Type 0 → List ℕ → Type 0} → OfInput source left Of → (heard : List Answer) → left.answers ≡ source.answers ++ heard
    → Of (tells_end heard ≡ true) (given heard)
at_input {source} {left} h heard is = at_heard source left h.heard heard is

-- what a run over devices promises, as far as it is cited here
pub record Promises (source left : SourceView) (old new : SinkView) (before after : BoardView) (first last : List Meaning) (places : ℕ) (words : List (List ℕ)) (s : Status) : Type 0 where
  pub results : ResultsBy source left old new words (switches first before) (switches last after) s
  pub due : IsDueBy source left s places words
  pub exact : IsExactBy source left s places words
  pub reading : Heard source left IsReading
  pub failed : StopsAtFailure source left old new
  pub unread : ¬ (AreReading words) → left ≡ source
  pub read_fault : s ≡ status.ReadFault → IsUnread source left
  pub spares : Spares source left old new before after words s

-- ---- what is right

to_end : (end : ServeEnd) → IsReporting (status_of end) → is_whole end ≡ true
to_end ends.Done h = refl
to_end (ends.Script line kind) h = refl
to_end end h = absurd h

right_report : (end : SimEnd) (g : SimGiven) (after : List Meaning) (history : List Turn) (report : List ℕ) → AllKeep g.devices → is_whole (end_of end) ≡ true → EndsBy end g after history report
    → IsRightReport g report
right_report sims.Done g after history report keep to e =
    record { after = after; history = history; followed = e.ends; smooth = e.smooth; world = e.ends.run.world keep }
right_report (sims.Script line kind) g after history report keep to e =
    record { after = after; history = history; followed = e.ends; smooth = e.smooth; world = e.ends.run.world keep }
right_report end g after history report keep to e = absurd (cc)

right_of : (command : Command) (end : ServeEnd) (policy : Policy) (texts : Texts) (board : BoardView) (after : Switches) (report : List ℕ) → is_whole end ≡ true
    → Did command end policy texts (switches program_devices board) after report → IsRight command end policy texts board.log after.board.log report
right_of (Sim settings) end policy texts board after report to d =
    right_report d.sim_end (sim_given policy settings program_devices texts.script texts.first_line) after.devices d.ended.0 report devices_keep (subst (λ (e : ServeEnd). is_whole e ≡ true) d.end_is to) d.ended.1
right_of (Gen number settings) end policy texts board after report to d =
    right_report d.sim_end (sim_given policy settings program_devices texts.script texts.first_line) after.devices d.ended.0 report devices_keep (subst (λ (e : ServeEnd). is_whole e ≡ true) d.end_is to) d.ended.1
right_of Check end policy texts board after report to d = d.2
right_of (Serve listen control settings) end policy texts board after report to d = d.ended

-- ---- what comes of it

-- a read that failed is told by what was heard
comes_heard : (ended unread fails : Type 0) (words : List (List ℕ)) (input : List ℕ) (before after : Switches) (due : Status) (kept last : List ℕ) → (unread → fails)
    → Comes ended unread words input before after due kept last → Comes ended fails words input before after due kept last
comes_heard ended unread fails words input before after status.ReadFault kept last f h = (h.0, f h.1, h.2)
comes_heard ended unread fails words input before after due kept last f h = h

module _ (words : List (List ℕ)) (heard : List Answer) (board : BoardView) (after : Switches) (text : List ℕ) where
  ran_reports : (s : Status) (kept last : List ℕ) → IsReporting s → IsDue s (length program_devices) words (given heard)
      → RunsPolicy (tells_end heard ≡ true) words (given heard) (switches program_devices board) after s kept last → text ≡ kept ++ last → Reports s words heard board.log after.board.log text
  ran_reports s kept last reporting due h is = record {
    due = due;
    command = h.command;
    has_command = h.has_command;
    ended = λ reading. (h.read reading).0;
    policy = h.policy;
    has_policy = h.has_policy;
    end = h.end;
    result_is = h.status_is;
    refused_at = h.ran.refused_at;
    report = h.report;
    right = right_of h.command h.end h.policy (texts_of h.command (given heard)) board after h.report (to_end h.end (subst IsReporting h.status_is reporting)) h.ran.did;
    text_is = is ∙ ap (λ k. k ++ last) h.kept_is ∙ ap (λ l. kept_of h.command h.report ++ l) h.last_is;
  }

  -- a run that isn't cut short comes to its status
  uncut : (s due : Status) (kept last : List ℕ) → (IsCutting s → ⊥) → IsOrCut due s kept last text → (s ≡ due) × (text ≡ kept ++ last)
  uncut s due kept last whole (inl h) = h
  uncut s due kept last whole (inr (given, cut, front, is, e)) = absurd (whole cut)

  module _ (unread : Type 0) where
    abbrev Came : Status → List ℕ → List ℕ → Type 0
    Came s kept last = Comes (tells_end heard ≡ true) unread words (given heard) (switches program_devices board) after s kept last

    came_reports : (s : Status) (kept last : List ℕ) → IsReporting s → (¬ (IsFault s) → IsDue s (length program_devices) words (given heard)) → Came s kept last → text ≡ kept ++ last
        → Reports s words heard board.log after.board.log text
    came_reports status.Done kept last o d h is = ran_reports status.Done kept last tt (d (λ f. f)) h is
    came_reports status.Script kept last o d h is = ran_reports status.Script kept last tt (d (λ f. f)) h is
    came_reports s kept last o d h is = absurd o

    reports : (s : Status) → IsReporting s → (¬ (IsFault s) → IsDue s (length program_devices) words (given heard))
        → Results (tells_end heard ≡ true) unread words (given heard) (switches program_devices board) after s text → Reports s words heard board.log after.board.log text
    reports s reporting due r =
        let (is, text_is) = uncut s r.came_to r.kept r.last (λ cut. of_cutting (λ (t : Status). ¬ (IsReporting t)) (λ o. o) (λ o. o) s cut reporting) r.written in
        came_reports s r.kept r.last reporting due (subst (λ (d : Status). Came d r.kept r.last) (sym is) r.comes) text_is

-- ---- a run

module _ (source left : SourceView) (old new : SinkView) (before after : BoardView) (last : List Meaning) (words : List (List ℕ)) (heard : List Answer)
    (is : left.answers ≡ source.answers ++ heard) where
  front_of : (text : List ℕ) → Wrote old new text → WroteFront old new (last_line status.ReadFault) → IsFront text (last_line status.ReadFault)
  front_of text wrote (front, f, w) = subst (λ t. IsFront t (last_line status.ReadFault)) (append_cancel_left old.took front text (sym w.took ∙ wrote.took)) f

  none_heard : left ≡ source → heard ≡ []
  none_heard same = append_cancel_left source.answers heard [] (sym is ∙ ap (λ (s : SourceView). s.answers) same ∙ sym (append-nil source.answers))

  over_by : (s : Status) → Promises source left old new before after program_devices last (length program_devices) words s → RunsOver source left old new before after words s
  over_by s p =
      let (text, r, wrote) = at_input p.results heard is in
      record {
        heard = heard;
        were_heard = is;
        text = text;
        wrote = wrote;
        results = (
          last,
          record {
            came_to = r.came_to;
            kept = r.kept;
            last = r.last;
            comes = comes_heard (tells_end heard ≡ true) (IsUnread source left) (fails heard ≡ true) words (given heard) (switches program_devices before) (switches last after) r.came_to r.kept r.last
                (λ u. at_heard source left u.1 heard is) r.comes;
            written = r.written;
          },
        );
        exact = at_input p.exact heard is;
        reports = λ o. reports words heard before (switches last after) text (IsUnread source left) s o (at_input p.due heard is) r;
        reading = at_heard source left p.reading heard is;
        unread = λ n. none_heard (p.unread n);
        first = λ f. front_of text wrote (at_heard source left p.failed heard is f);
        read_fault = λ e. (p.read_fault e).0;
        spares = p.spares;
      }

pub runs_over : (source left : SourceView) (old new : SinkView) (before after : BoardView) (first last : List Meaning) (places : ℕ) (words : List (List ℕ)) (s : Status)
    → first ≡ program_devices → places ≡ length program_devices → Promises source left old new before after first last places words s
    → RunsOver source left old new before after words s
runs_over source left old new before after first last places words s e n p =
    let q : Promises source left old new before after program_devices last places words s =
    subst (λ (b : List Meaning). Promises source left old new before after b last places words s) e p in
    let r : Promises source left old new before after program_devices last (length program_devices) words s =
    subst (λ (k : ℕ). Promises source left old new before after program_devices last k words s) n q in
    let (heard, is, reading) = r.reading in over_by source left old new before after last words heard is s r

-- a run whose devices find no memory
never_run : (source : SourceView) (old : SinkView) (board : BoardView) (words : List (List ℕ)) → RunsOver source source old old board board words status.NoMemory
never_run source old board words = record {
  heard = [];
  were_heard = sym (append-nil source.answers);
  text = [];
  wrote = wrote_nothing old;
  results = (
    program_devices,
    record {
      came_to = status.NoMemory;
      kept = [];
      last = [];
      comes = inl (record { same = refl; nothing = refl; text_is = refl });
      written = inl (refl, refl);
    },
  );
  exact = λ due is_due. inr tt;
  reports = λ o. absurd o;
  reading = (omega arith, omega arith, inl refl);
  unread = λ n. refl;
  first = λ f. absurd (let no = f in cc);
  read_fault = λ e. absurd (let no = e in cc);
  spares = record {
    reads_spared = λ u. absurd u;
    reads_count = omega arith;
    write_fault = λ e. absurd (let no = e in cc);
    writes_spared = λ other. refl;
    board_fault = λ e. absurd (let no = e in cc);
    board_spared = λ b. absurd b;
    board_aside = λ a. absurd a;
    unserved = λ n. refl;
  };
}

-- the same, where nothing was done
pub never_ran : (source left : SourceView) (old new : SinkView) (before after : BoardView) (words : List (List ℕ)) → left ≡ source → new ≡ old → after ≡ before
    → RunsOver source left old new before after words status.NoMemory
never_ran source left old new before after words e f k =
    subst (λ (l : SourceView). RunsOver source l old new before after words status.NoMemory) (sym e)
    (subst (λ (n : SinkView). RunsOver source source old n before after words status.NoMemory) (sym f)
    (subst (λ (b : BoardView). RunsOver source source old old before b words status.NoMemory) (sym k) (never_run source old before words)))

-- ---- from a fresh source to a fresh sink

module _ {source left : SourceView} {old new : SinkView} {before after : BoardView} {words : List (List ℕ)} {s : Status} (r : RunsOver source left old new before after words s)
    (unread : source.answers ≡ []) (unwritten : old.took ≡ []) where
  heard_is : r.heard ≡ left.answers
  heard_is = sym (r.were_heard ∙ ap (λ (l : List Answer). l ++ r.heard) unread)

  text_is : r.text ≡ new.took
  text_is = sym (r.wrote.took ∙ ap (λ (l : List ℕ). l ++ r.text) unwritten)

  pub fresh_results : ResultsIn s words left.answers before after new.took
  fresh_results =
      subst (λ (t : List ℕ). ResultsIn s words left.answers before after t) text_is
      (subst (λ (h : List Answer). ResultsIn s words h before after r.text) heard_is r.results)

  pub fresh_reports : IsReporting s → Reports s words left.answers before.log after.log new.took
  fresh_reports o =
      subst (λ (t : List ℕ). Reports s words left.answers before.log after.log t) text_is
      (subst (λ (h : List Answer). Reports s words h before.log after.log r.text) heard_is (r.reports o))

  pub fresh_exact : IsExact s (length program_devices) words (given left.answers)
  fresh_exact = subst (λ (h : List Answer). IsExact s (length program_devices) words (given h)) heard_is r.exact

  pub fresh_reading : IsReading left.answers
  fresh_reading = subst IsReading heard_is r.reading

  pub fresh_unread : ¬ (AreReading words) → left.answers ≡ []
  fresh_unread n = sym heard_is ∙ r.unread n

  pub fresh_first : fails left.answers ≡ true → IsFront new.took (last_line status.ReadFault)
  fresh_first f = subst (λ (t : List ℕ). IsFront t (last_line status.ReadFault)) text_is (r.first (subst (λ (h : List Answer). fails h ≡ true) (sym heard_is) f))

pub reports_by : (s t : Status) (words : List (List ℕ)) (heard : List Answer) (before after : List Act) (text : List ℕ) → IsReporting t
    → (IsReporting s → Reports s words heard before after text) → s ≡ t → Reports t words heard before after text
reports_by s t words heard before after text o h e = subst (λ (x : Status). Reports x words heard before after text) e (h (subst IsReporting (sym e) o))
