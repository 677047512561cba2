-- A run ends the open job at a place: what can answer it, and what the machine is behind that.
use Rattle.std.proofs.Common.{◌≡◌, ◌≢◌, ℕ, ◌+◌, ◌≤◌, Bool, true, false, cond, List, [], ◌∷◌, ◌++◌, get_or, set, map, None, Some, refl, sym, ap, ap₂, ◌∙◌, subst, arith}
use Rattle.std.specs.Prelude.{◌==◌, filter, is_some, not, remove}
use Rattle.std.specs.Option.{MatchOption}
use Rattle.std.specs.List.{AllByRecursion, list_any, position, slice_get}
use Rattle.std.proofs.lemmas.List.{set-get_or}
use Rattle.std.proofs.lemmas.Option.{get_or_from_slice_get, none-some, same_Some, slice_get_within}
use Rattle.maple_base.specs.declared.cells.Cell.{Cell}
use Rattle.maple_base.specs.declared.cells.Value.{Value}
use Rattle.maple_base.specs.declared.items.Item.{Item}
use Rattle.maple_base.specs.declared.decision.Decision.{Decision}
use Rattle.maple_base.specs.declared.decision.Outcome.TheVariants.{Decided}
use Rattle.maple_base.specs.Decisions.{actions_at}
use Rattle.priority_plan.specs.Rules.{levels_of, rules_needed}
use Rattle.report_text.specs.declared.line.Line.{Line}
use Rattle.report_text.specs.declared.line.Line.TheVariants as lines
use Rattle.report_text.specs.declared.line.Learnt.{Learnt}
use Rattle.report_text.specs.declared.line.Learnt.TheVariants.{Learned, Known, Levels, Rows, Quiet}
use Rattle.switch_session.specs.Parts.{is_nil, packet_out}
use Rattle.switch_session.specs.Sessions.{put}
use Rattle.switch_traces.specs.Traces.{Learnings, with_those}
use Rattle.switch_traces.specs.Learning.{CanTake, judged}
use Rattle.switch_traces.specs.Lists.{AreFit}
use Rattle.trace_record.specs.Runs.{Recorded}
use Rattle.trace_tree.specs.declared.node.Trace.{Trace}
use Rattle.trace_tree.specs.Growth.{found, scratch}
use Rattle.machine_steps.specs.declared.job.Job.{Job}
use Rattle.machine_steps.specs.declared.reply.Reply.{Reply}
use Rattle.machine_steps.specs.declared.reply.Reply.TheVariants.{Answered}
use Rattle.machine_steps.specs.Machine.{Session, State, is_live, is_of, session_at, tells, traces_of, with_session}
use Rattle.machine_steps.specs.Places.{IsAt}
use Rattle.machine_steps.specs.Running.{CanLearn, RunsCanBeLearned}
use Rattle.machine_steps.specs.Sound.{HeadsRight, IsInOrder, IsServed, IsSound}
use Rattle.machine_steps.specs.Steps.{Answers, HeadsFor, Keeps, close_job, learnt, next_trace, sends}
use Rattle.machine_steps.proofs.Sound.Aims.{aimed_so}
use Rattle.machine_steps.proofs.Sound.Zipped.{find_all}
use Rattle.machine_parts.specs.declared.connection.Connection.{Connection}
use Rattle.machine_parts.specs.Answering.{AnswersOne, CanAnswer, KeepsOne}
use Rattle.machine_parts.specs.Sessions.{due, due_all, session_of}
use Rattle.machine_parts.proofs.Aiming.{aimed_due}
use Rattle.machine_parts.specs.declared.parts.Parts.TheInside.{Inside}
use Rattle.core_machine.specs.Concluding.{AnswersIn, CanAnswerIn, HasRun, HasTrace, StandAt, count_behind}
use Rattle.machine_parts.specs.Seen.{IsRoomy, seen}
use Rattle.machine_parts.proofs.There.{all_there}
use Rattle.machine_parts.proofs.Keyed.{each-set, each_at, remove_by_key}
use Rattle.machine_parts.proofs.Retiring.{has_place, put_there, told_there}
use Rattle.machine_parts.proofs.Sessions.{StandsAt, changed, due_changed, here, place_is, stands, within}

-- ---- a packet is sent, or not

module _ (j : Job) (d : Decision) (s : Session) where
  sends_connection : (sends j d s).connection ≡ s.connection
  sends_connection = by (is_nil (actions_at d j.switch))
    where
      by : (b : Bool) → (cond b s (put (packet_out j.buffer j.key.in_port (actions_at d j.switch) j.frame) s)).connection ≡ s.connection
      by true = refl
      by false = refl

  sends_due : due (sends j d s) ≡ due s
  sends_due = by (is_nil (actions_at d j.switch))
    where
      by : (b : Bool) → due (cond b s (put (packet_out j.buffer j.key.in_port (actions_at d j.switch) j.frame) s)) ≡ due s
      by true = refl
      by false = refl

-- what is kept of a session behind its answer
heads_connection : (traces : List Trace) (s t : Session) → HeadsFor traces s t → t.connection ≡ s.connection
heads_connection traces s t h = ap (λ (u : Session). u.connection) h.now_is ∙ (aimed_so h.plan s).connection

heads_due : (traces : List Trace) (s t : Session) → HeadsFor traces s t → due t ≡ due s
heads_due traces s t h = ap due h.now_is ∙ aimed_due h.plan s

keeps_connection : (learns : Learnt) (r : Trace) (l behind : Learnings) (s t : Session) → KeepsOne learns r l s behind t → t.connection ≡ s.connection
keeps_connection Learned r l behind s t k = heads_connection (l.traces ++ r ∷ []) s t k.1
keeps_connection other r l behind s t k = ap (λ (u : Session). u.connection) k.1

keeps_due : (learns : Learnt) (r : Trace) (l behind : Learnings) (s t : Session) → KeepsOne learns r l s behind t → due t ≡ due s
keeps_due Learned r l behind s t k = heads_due (l.traces ++ r ∷ []) s t k.1
keeps_due other r l behind s t k = ap due k.1

-- ---- the job at a place

module _ (a : Inside) (sound : IsSound (seen a)) (at : ℕ) (j : Job) (there : slice_get a.jobs.items at ≡ Some j) where
  -- closed by its place, it is closed by its number
  closed : remove a.jobs.items at ≡ filter (λ (i : Job). not (i.number == j.number)) a.jobs.items
  closed =
      sym (remove_by_key (λ (i : Job). i.number) j.number a.jobs.items at (slice_get_within a.jobs.items at j there) sound.numbers
      (λ d. ap (λ (i : Job). i.number) (get_or_from_slice_get a.jobs.items at j d there)))

  pub spent_is : (i : Job) (jobs : List Job) (told : List Line) → slice_get a.jobs.items at ≡ Some i → jobs ≡ remove a.jobs.items at
      → told ≡ a.lines.items ++ lines.Spent i.switch i.key.in_port ∷ []
      → record (seen a) { jobs = jobs; lines = told } ≡ tells (lines.Spent j.switch j.key.in_port) (close_job j (seen a))
  spent_is i jobs told same left line =
      let last = line ∙ ap (λ (k : Job). a.lines.items ++ lines.Spent k.switch k.key.in_port ∷ []) (same_Some i j (sym same ∙ there)) in
      let gone = left ∙ closed in
      λ n. record (seen a) { jobs = gone n; lines = last n }

  served : IsServed (seen a) j
  served = all_there (IsServed (seen a)) at a.jobs.items j there sound.jobs

  order : IsInOrder (seen a) served.session
  order = find_all (IsInOrder (seen a)) (is_of j.connection) (map session_of a.sessions.items) served.session sound.sessions served.there

  right : HeadsRight (seen a) served.session
  right = order.live served.live

  not_listed : position (λ (k : Learnings). k.switch == j.switch) a.learned.items ≢ None
  not_listed e =
      has_place (λ (k : Learnings). k.switch == j.switch) a.learned.items
      (subst (λ n. list_any (λ (k : Learnings). k.switch == n) a.learned.items ≡ true) (sym served.switch) right.listed) (sym e)

  not_served : position (λ (k : Connection). is_of j.connection (session_of k)) a.sessions.items ≢ None
  not_served e =
      none-some served.session
      (sym (subst (λ o. MatchOption o (session_at j.connection (seen a) ≡ None) (λ n. IsAt j.connection n (seen a))) e (place_is a.sessions.items (seen a) refl j.connection))
      ∙ served.there)

  module _ (of i : ℕ) (l : Learnings) (c : Connection) (stand : StandAt j a.learned.items a.sessions.items of i l c) where
    is_at : IsAt j.connection i (seen a)
    is_at =
        subst (λ o. MatchOption o (session_at j.connection (seen a) ≡ None) (λ n. IsAt j.connection n (seen a))) stand.there
        (place_is a.sessions.items (seen a) refl j.connection)

    stands_there : StandsAt (seen a) j.connection i served.session
    stands_there = subst (StandsAt (seen a) j.connection i) (same_Some is_at.session served.session (sym is_at.found ∙ served.there)) (stands (seen a) j.connection i is_at)

    session_is : c.session ≡ served.session
    session_is = ap session_of stand.connection ∙ here a.sessions.items (seen a) refl j.connection i served.session stands_there c

    traces_are : l.traces ≡ traces_of j.switch (seen a)
    traces_are = told_there j.switch a.learned.items of l stand.here stand.traces

    can_there : (r : Trace) → IsRoomy a → (found (traces_of j.switch (seen a)) j.key ≡ None → CanLearn (seen a) j.switch r) → CanAnswer a.settings j r l c
    can_there r roomy learn = record {
      aim = ap (λ (k : Connection). k.aim) stand.connection
          ∙ each_at (λ (k : Connection). k.aim ≡ None) a.sessions.items i c (within a.sessions.items (seen a) refl j.connection i served.session stands_there) roomy.aims;
      prepared = ap (λ (s : Session). s.prepared) session_is ∙ order.idle;
      live = ap is_live session_is ∙ served.live;
      capacity = ap (λ (s : Session). s.capacity) session_is ∙ right.capacity;
      takes = λ none. subst (λ ts. CanTake ts r) (sym traces_are) (learn (ap (λ ts. found ts j.key) (sym traces_are) ∙ none)).takes;
      fit = λ none.
          subst (λ ts. levels_of (scratch (ts ++ r ∷ [])) ≤ a.settings.levels → rules_needed (scratch (ts ++ r ∷ [])) ≤ a.settings.capacity → AreFit a.settings.capacity (ts ++ r ∷ []))
          (sym traces_are) (learn (ap (λ ts. found ts j.key) (sym traces_are) ∙ none)).fit;
      frame = served.frame;
    }

    -- ---- behind the answer

    module _ (r : Trace) (learns : Learnt) (behind : Learnings) (turned : Connection) (answers : AnswersOne a.settings j r l c learns behind turned) where
      keeps_there : KeepsOne learns r l (sends j r.decision served.session) behind turned.session
      keeps_there = subst (λ s. KeepsOne learns r l (sends j r.decision s) behind turned.session) session_is answers.keeps

      connection_is : turned.session.connection ≡ j.connection
      connection_is =
          keeps_connection learns r l behind (sends j r.decision served.session) turned.session keeps_there ∙ sends_connection j r.decision served.session ∙ stands_there.of

      due_is : due turned.session ≡ due served.session
      due_is = keeps_due learns r l behind (sends j r.decision served.session) turned.session keeps_there ∙ sends_due j r.decision served.session

      pub due_there : due_all (map session_of (set a.sessions.items i turned)) ≡ due_all (map session_of a.sessions.items)
      due_there = omega (arith, due_changed a.sessions.items (seen a) refl j.connection i served.session stands_there turned, due_is)

      abbrev kept : ℕ → State
      kept n = record (seen a) { learned = set a.learned.items of behind; sessions = map session_of (set a.sessions.items i turned); trace_count = n }

      sessions_are : map session_of (set a.sessions.items i turned) ≡ (with_session turned.session (seen a)).sessions
      sessions_are = changed a.sessions.items (seen a) refl j.connection i served.session stands_there sound.others turned connection_is

      unlearned : (behind ≡ l) × (turned.session ≡ sends j r.decision served.session) → kept a.trace_count ≡ with_session (sends j r.decision served.session) (seen a)
      unlearned k =
          let same = ap (set a.learned.items of) (k.0 ∙ stand.traces) ∙ set-get_or a.learned.items of l in
          let put_so = sessions_are ∙ ap (λ s. (with_session s (seen a)).sessions) k.1 in
          λ n. record (seen a) { learned = same n; sessions = put_so n }

      keeps_by : r.number ≡ a.trace_count + 1 → (learnt_is : Learnt) → KeepsOne learnt_is r l (sends j r.decision served.session) behind turned.session
          → Keeps learnt_is j r (sends j r.decision served.session) (seen a) (kept (count_behind learnt_is r.number a.trace_count))
      keeps_by number Learned k =
          let more = ap (set a.learned.items of) (k.0 ∙ ap (λ ts. with_those (ts ++ r ∷ []) l) traces_are)
          ∙ put_there j.switch a.learned.items of l stand.here stand.traces (traces_of j.switch (seen a) ++ r ∷ []) in (
            turned.session,
            subst (λ ts. HeadsFor (ts ++ r ∷ []) (sends j r.decision served.session) turned.session) traces_are k.1,
            λ n. record (seen a) { learned = more n; sessions = sessions_are n; trace_count = number n },
          )
      keeps_by number Known k = unlearned k
      keeps_by number (Levels need limit) k = unlearned k
      keeps_by number (Rows need capacity) k = unlearned k
      keeps_by number Quiet k = unlearned k

      next_is : r.number ≡ a.trace_count + 1 → next_trace r.items r.cells r.decision (seen a) ≡ r
      next_is number n = record { number = sym number n; items = r.items; cells = r.cells; decision = r.decision }

      exactly : learns ≡ learnt (seen a) served.session.quiet (traces_of j.switch (seen a)) j.key r
      exactly =
          answers.exactly
          ∙ ap₂ (λ ts q. cond (is_some (found ts j.key)) Known (judged a.settings.levels a.settings.capacity q (ts ++ r ∷ []))) traces_are (ap (λ (s : Session). s.quiet) session_is)

  -- ---- behind the answer, by the lists

  module _ (r : Trace) (learns : Learnt) (ls' : List Learnings) (cs' : List Connection) (w : AnswersIn a.settings j r a.learned.items a.sessions.items learns ls' cs') where
    pub aims_behind : IsRoomy a → AllByRecursion (λ (k : Connection). k.aim ≡ None) cs'
    aims_behind roomy =
        subst (AllByRecursion (λ (k : Connection). k.aim ≡ None)) (sym w.sessions)
        (each-set (λ (k : Connection). k.aim ≡ None) a.sessions.items w.at w.turned roomy.aims w.answers.aim)

    pub due_behind : due_all (map session_of cs') ≡ due_all (map session_of a.sessions.items)
    due_behind = ap (λ ks. due_all (map session_of ks)) w.sessions ∙ due_there w.of w.at w.traces w.connection w.stand r learns w.behind w.turned w.answers

    pub answered_is : r.number ≡ a.trace_count + 1 → (d e : Decision) (jobs : List Job) (count : ℕ) (told : List Line) → d ≡ r.decision → e ≡ r.decision → jobs ≡ remove a.jobs.items at
        → count ≡ count_behind learns r.number a.trace_count → told ≡ a.lines.items ++ lines.Answer j.switch j.key.in_port e learns ∷ []
        → Answers j r.items r.cells r.decision (seen a) (Answered d learns) (record (seen a) { learned = ls'; sessions = map session_of cs'; jobs = jobs; trace_count = count; lines = told })
    answered_is number d e jobs count told same again left counted line =
        let next = next_is w.of w.at w.traces w.connection w.stand r learns w.behind w.turned w.answers number in
        let state = kept w.of w.at w.traces w.connection w.stand r learns w.behind w.turned w.answers (count_behind learns r.number a.trace_count) in
        let last = line ∙ ap (λ x. a.lines.items ++ lines.Answer j.switch j.key.in_port x learns ∷ []) again in
        let gone = left ∙ closed in
        record {
          session = served.session;
          there = served.there;
          learns = learns;
          exactly = exactly w.of w.at w.traces w.connection w.stand r learns w.behind w.turned w.answers
              ∙ ap (learnt (seen a) served.session.quiet (traces_of j.switch (seen a)) j.key) (sym next);
          kept = state;
          keeps = subst (λ q. Keeps learns j q (sends j r.decision served.session) (seen a) state) (sym next)
              (keeps_by w.of w.at w.traces w.connection w.stand r learns w.behind w.turned w.answers number learns
              (keeps_there w.of w.at w.traces w.connection w.stand r learns w.behind w.turned w.answers));
          replies = ap (λ x. Answered x learns) same;
          now_is = λ n. record (seen a) { learned = w.learned n; sessions = map session_of (w.sessions n); jobs = gone n; trace_count = counted n; lines = last n };
        }

-- said of the state as it is seen
pub answered_in : {m n : State} {j : Job} {items : List Item} {cells : List (Cell × Value)} {d : Decision} {reply : Reply} {new : State}
    → m ≡ n → Answers j items cells d m reply new → Answers j items cells d n reply new
answered_in {j = j} {items = items} {cells = cells} {d = d} {reply = reply} {new = new} e h = subst (λ x. Answers j items cells d x reply new) e h

-- what can answer the job at a place
pub can_answer : (a : Inside) → IsSound (seen a) → IsRoomy a → (at : ℕ) (r : Trace) → HasTrace at r (seen a) → (i : Job) → i ≡ get_or a.jobs.items at i → CanAnswerIn a.settings i r a.learned.items a.sessions.items
can_answer a sound roomy at r has i read =
    subst (λ j. CanAnswerIn a.settings j r a.learned.items a.sessions.items) (sym (read ∙ get_or_from_slice_get a.jobs.items at has.job i has.there))
    (record {
      listed = not_listed a sound at has.job has.there;
      served = not_served a sound at has.job has.there;
      can = λ of k l c stand. can_there a sound at has.job has.there of k l c stand r roomy has.learn;
    })

-- the trace of a run in the state now
pub has_trace : RunsCanBeLearned → (m : State) (at : ℕ) (run : Recorded) (d : Decision) (r : Trace) → IsSound m → HasRun at run m → run.outcome ≡ Decided d → r ≡ next_trace run.items run.cells d m → HasTrace at r m
has_trace law m at run d r sound has decided same = record {
  job = has.job;
  there = has.there;
  number = ap (λ (x : Trace). x.number) same;
  learn = λ none. subst (CanLearn m has.job.switch) (sym same) (law m has.job.switch has.job.key run d sound has.now_is decided none);
}
