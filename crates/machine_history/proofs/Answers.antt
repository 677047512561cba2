-- What an answer does to the traces of each switch.
use Rattle.std.proofs.Common.{◌≡◌, ◌≢◌, ◌⊎◌, ℕ, ◌+◌, Bool, true, false, cond, List, [], ◌∷◌, ◌++◌, length, append-nil, refl, sym, ap, ap₂, ◌∙◌, subst, inl, inr, arith}
use Rattle.std.specs.Prelude.{◌==◌, ◌&&◌, not, find, filter, map, if◌then◌else◌, Some}
use Rattle.std.proofs.lemmas.Bool.{and_from, and_left, cases_eq, eq-eqb, ne_eqb}
use Rattle.maple_base.specs.declared.decision.Decision.{Decision}
use Rattle.maple_base.specs.declared.decision.Outcome.{Outcome}
use Rattle.maple_base.specs.declared.decision.Outcome.TheVariants.{Decided, Spent as SpentRun}
use Rattle.maple_base.specs.Decisions.{actions_at}
use Rattle.policy_meaning.specs.Cells.{Gives}
use Rattle.topo_paths.specs.Scenes.{cell_in}
use Rattle.report_text.specs.declared.line.Learnt.{Learnt}
use Rattle.report_text.specs.declared.line.Learnt.TheVariants.{Learned}
use Rattle.report_text.specs.declared.line.Line.{Line}
use Rattle.report_text.specs.declared.line.Line.TheVariants as lines
use Rattle.switch_session.specs.Parts.{is_nil, packet_out}
use Rattle.switch_session.specs.Sessions.{put}
use Rattle.tree_prune.specs.Current.{are_current}
use Rattle.update_plan.proofs.Members.{in_filter}
use Rattle.machine_steps.specs.declared.job.Job.{Job}
use Rattle.machine_steps.specs.declared.entry.Entry.{Entry}
use Rattle.machine_steps.specs.declared.reply.Reply.{Reply}
use Rattle.machine_steps.specs.declared.reply.Reply.TheVariants.{Answered}
use Rattle.machine_steps.specs.Machine.{Session, State, policy_number, is_of, with_session, with_traces, traces_of, tells}
use Rattle.machine_steps.specs.Steps.{Keeps, Concludes, close_job, next_trace, sends, asked_now}
use Rattle.machine_steps.specs.Histories.{Turn}
use Rattle.machine_steps.specs.Sound.{IsSound}
use Rattle.machine_steps.proofs.Sound.Aims.{aimed_so}
use Rattle.machine_steps.proofs.Sound.Kept.{traces_put, traces_beside}
use Rattle.machine_history.specs.Live.{Asked, Learning, asked_at, put_in, learned_at, trace_of}
use Rattle.machine_history.proofs.Answering.{Laws, IsAnswer, none_put, tells_learned}
use Rattle.machine_history.proofs.Lasting.{holds}
use Rattle.machine_history.proofs.Learning.{still, put_now, Goes, still_now, goes_rested, turn}
use Rattle.machine_history.proofs.Quiet.{turns_same, turns_with, turns_at, none_quiet}
use Rattle.machine_history.proofs.Resting.{Rests, rests_idle, all_now, gives_current}

-- a message more leaves a session's connection, and whether it is quiet
pub sends_alike : (j : Job) (d : Decision) (s : Session) → ((sends j d s).connection ≡ s.connection) × ((sends j d s).quiet ≡ s.quiet)
sends_alike j d s = go (is_nil (actions_at d j.switch))
  where
    go : (b : Bool) → let t : Session = if b then s else put (packet_out j.buffer j.key.in_port (actions_at d j.switch) j.frame) s in (t.connection ≡ s.connection) × (t.quiet ≡ s.quiet)
    go true = (refl, refl)
    go false = (refl, refl)

-- one trace is learned for a switch, or for another
one_put : (t : Turn) (switch : ℕ) (l : Learning) (b : Bool) → (l.switch == switch && holds l t) ≡ b → put_now switch t (l ∷ []) ≡ cond b (l.trace ∷ []) []
one_put t switch l b e = ap (λ k. map (λ (x : Learning). x.trace) (cond k (l ∷ []) [])) e ∙ both b
  where
    both : (k : Bool) → map (λ (x : Learning). x.trace) (cond k (l ∷ []) []) ≡ cond k (l.trace ∷ []) []
    both true = refl
    both false = refl

module _ (laws : Laws) (old : State) (h : IsSound old) (entry : Entry) (reply : Reply) where
  -- the trace is learned
  module _ (j : Job) (a : Asked) (d : Decision) (brought : asked_at old entry ≡ Some a) (switch : a.switch ≡ j.switch) (policy : a.policy ≡ policy_number old) (current : are_current (cell_in old.scene) a.cells ≡ true)
      (p : Session → Bool) (s t : Session) (found : find p old.sessions ≡ Some s) (at : t.connection ≡ s.connection) (quiet : t.quiet ≡ s.quiet) (told : List Line) (replies : reply ≡ Answered d Learned) where
    abbrev more : State
    more = record (with_traces j.switch (traces_of j.switch old ++ next_trace a.items a.cells d old ∷ []) (with_session t old)) { trace_count = old.trace_count + 1 }

    abbrev longer : State
    longer = record (close_job j more) { lines = told }

    abbrev now : Turn
    now = turn old entry reply longer

    abbrev one : Learning
    one = record { switch = a.switch; policy = a.policy; trace = trace_of (old.trace_count + 1) a d }

    one_learned : learned_at old.trace_count now ≡ one ∷ []
    one_learned = ap₂ (put_in old.trace_count) brought replies

    one_holds : holds one now ≡ true
    one_holds = and_from (policy_number old == a.policy) (are_current (cell_in old.scene) a.cells) (eq-eqb (policy_number old) a.policy (sym policy)) current

    old_stay : (q : ℕ) → filter (still q now) (traces_of q old) ≡ traces_of q old
    old_stay q =
        still_now now q (none_quiet q old.sessions longer.sessions h.others (turns_at q old.sessions longer.sessions (turns_with old.sessions p s t found at quiet))) refl (traces_of q old)
        ∙ all_now laws.same old h q

    both_parts : (q : ℕ) (b : Bool) → (a.switch == q && holds one now) ≡ b → traces_of q old ++ cond b (one.trace ∷ []) [] ≡ filter (still q now) (traces_of q old) ++ put_now q now (learned_at old.trace_count now)
    both_parts q b e = sym (ap₂ (λ xs ys. xs ++ ys) (old_stay q) (ap (put_now q now) one_learned ∙ one_put now q one b e))

    pub goes_learned : Goes now
    goes_learned = record {
      lists = λ q. by q (cases_eq q j.switch);
      count = let e = ap length one_learned in omega (arith, e);
      jobs = λ i c. inl (in_filter (λ (x : Job). not (x.number == j.number)) old.jobs i c).0;
    }
      where
        by : (q : ℕ) → (q ≡ j.switch) ⊎ (q ≢ j.switch) → traces_of q longer ≡ filter (still q now) (traces_of q old) ++ put_now q now (learned_at old.trace_count now)
        by q (inl e) =
            ap (λ x. traces_of x longer) e ∙ traces_put j.switch (traces_of j.switch old ++ one.trace ∷ []) old.learned ∙ ap (λ x. traces_of x old ++ one.trace ∷ []) (sym e)
            ∙ both_parts q true (and_from (a.switch == q) (holds one now) (eq-eqb a.switch q (switch ∙ sym e)) one_holds)
        by q (inr other) =
            traces_beside j.switch (traces_of j.switch old ++ one.trace ∷ []) q other old.learned ∙ sym (append-nil (traces_of q old))
            ∙ both_parts q false (and_left (a.switch == q) (holds one now) (ne_eqb a.switch q (λ e. other (sym e ∙ switch))))

  pub rests_goes : (new : State) → Rests old reply new → tells_learned reply ≡ false → Goes (turn old entry reply new)
  rests_goes new r none = goes_rested (turn old entry reply new) h r (λ n. none_put n (asked_at old entry) reply none)

  module _ (new : State) (number : ℕ) (a : IsAnswer (turn old entry reply new) number) where
    current : are_current (cell_in old.scene) a.asked.cells ≡ true
    current = gives_current laws.same (cell_in old.scene) a.asked.cells (subst (Gives (cell_in old.scene)) (sym a.cells) (laws.own (asked_now a.job old) a.job.key (cell_in old.scene)).cells)

    concluded : (o : Outcome) → Concludes a.job a.asked.items a.asked.cells o old reply new → Goes (turn old entry reply new)
    concluded SpentRun (r, e) = rests_goes new (subst (Rests old reply) (sym e)
        (rests_idle laws.same old h reply _ refl refl refl refl (turns_same old.sessions) (λ i c. inl (in_filter (λ (x : Job). not (x.number == a.job.number)) old.jobs i c).0))) (ap tells_learned r)
    concluded (Decided d) b = go b.learns b.keeps b.replies
      where
        other : (l : Learnt) → tells_learned (Answered d l) ≡ false → reply ≡ Answered d l → b.kept ≡ with_session (sends a.job d b.session) old → Goes (turn old entry reply new)
        other l none r e =
            let alike = sends_alike a.job d b.session in
            rests_goes new (subst (Rests old reply) (sym (b.now_is ∙ ap (λ m. tells (lines.Answer a.job.switch a.job.key.in_port d b.learns) (close_job a.job m)) e))
            (rests_idle laws.same old h reply _ refl refl refl refl (turns_with old.sessions (is_of a.job.connection) b.session (sends a.job d b.session) b.there alike.0 alike.1)
            (λ i c. inl (in_filter (λ (x : Job). not (x.number == a.job.number)) old.jobs i c).0))) (ap tells_learned r ∙ none)

        go : (l : Learnt) → Keeps l a.job (next_trace a.asked.items a.asked.cells d old) (sends a.job d b.session) old b.kept → reply ≡ Answered d l → Goes (turn old entry reply new)
        go Learned (t, heads, e) r =
            let alike = sends_alike a.job d b.session in
            let aims = aimed_so heads.plan (sends a.job d b.session) in
            subst (λ m. Goes (turn old entry reply m)) (sym (b.now_is ∙ ap (λ m. tells (lines.Answer a.job.switch a.job.key.in_port d b.learns) (close_job a.job m)) e))
            (goes_learned a.job a.asked d a.brought a.switch a.policy current (is_of a.job.connection) b.session t b.there
            (ap (λ (x : Session). x.connection) heads.now_is ∙ aims.connection ∙ alike.0) (ap (λ (x : Session). x.quiet) heads.now_is ∙ aims.quiet ∙ alike.1) _ r)
        go l e r = other l refl r e

    pub goes_answered : Goes (turn old entry reply new)
    goes_answered = concluded a.outcome a.concludes
