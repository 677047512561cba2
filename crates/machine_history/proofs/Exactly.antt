-- What an answer says of learning.
use Rattle.std.proofs.Common.{◌≡◌, ◌⊎◌, ℕ, ◌+◌, Bool, true, false, cond, List, [], ◌∷◌, ◌++◌, refl, sym, ap, ◌∙◌, subst, inl, inr, ⊎_elim}
use Rattle.std.specs.Prelude.{Option, Some, None, is_some, nat_lt, if◌then◌else◌}
use Rattle.std.specs.List.{AllByRecursion}
use Rattle.std.proofs.lemmas.Option.{same_Some, none-some}
use Rattle.maple_base.specs.declared.key.Key.{Key}
use Rattle.maple_base.specs.declared.decision.Decision.{Decision}
use Rattle.maple_base.specs.declared.decision.Outcome.{Outcome}
use Rattle.maple_base.specs.declared.decision.Outcome.TheVariants.{Decided, Spent as SpentRun}
use Rattle.maple_base.specs.Questions.{meets}
use Rattle.priority_plan.specs.Rules.{levels_of, rules_needed}
use Rattle.topo_paths.specs.Scenes.{cell_in}
use Rattle.report_text.specs.declared.line.Learnt.{Learnt}
use Rattle.report_text.specs.declared.line.Learnt.TheVariants.{Learned, Known, Levels, Rows, Quiet}
use Rattle.switch_traces.specs.Learning.{judged}
use Rattle.trace_tree.specs.declared.node.Trace.{Trace}
use Rattle.trace_tree.specs.Growth.{found, scratch}
use Rattle.machine_steps.specs.declared.reply.Reply.{Reply}
use Rattle.machine_steps.specs.declared.reply.Reply.TheVariants.{Answered}
use Rattle.machine_steps.specs.Histories.{Turn}
use Rattle.machine_steps.specs.Laws.{OpensSound, KeepsSound}
use Rattle.machine_steps.specs.Machine.{State, opening, traces_of}
use Rattle.machine_steps.specs.Sound.{IsCurrent, IsServed, IsSound}
use Rattle.machine_steps.specs.Steps.{Answers, Concludes, Keeps, asked_now, learnt, next_trace, sends}
use Rattle.machine_steps.proofs.Sound.Kept.{traces_put}
use Rattle.machine_steps.proofs.Sound.Zipped.{all_in}
use Rattle.machine_history.specs.Exact.{IsExact}
use Rattle.machine_history.specs.Jobs.{job_of, outcome_of, eval_now}
use Rattle.machine_history.specs.Laws.{IsLegal, LearningIsExact}
use Rattle.machine_history.specs.Live.{live, trace_of}
use Rattle.machine_history.proofs.Along.{counted_along, lists_live}
use Rattle.machine_history.proofs.Answering.{Laws, IsAnswer}
use Rattle.machine_history.proofs.Evaluated.{last_turn, concludes_so, sound_at, shorter, last_answer}
use Rattle.machine_history.proofs.Resting.{current_in}

-- ---- what is found

-- a trace that is found is one of them, and the key meets it
pub found_all : (P : Trace → Type 0) (rs : List Trace) (k : Key) (r : Trace) → AllByRecursion P rs → found rs k ≡ Some r → P r × (meets k r.items ≡ true)
found_all P [] k r h e = absurd (none-some r e)
found_all P (x ∷ xs) k r h e = step (meets k x.items) refl (found_all P xs k r h.1) e
  where
    step : (b : Bool) → meets k x.items ≡ b → (found xs k ≡ Some r → P r × (meets k r.items ≡ true)) → cond b (Some x) (found xs k) ≡ Some r → P r × (meets k r.items ≡ true)
    step true m later f = let same = same_Some x r f in (subst P same h.0, ap (λ (y : Trace). meets k y.items) (sym same) ∙ m)
    step false m later f = later f

-- where none is found, a further one that the key meets is
found_last : (rs : List Trace) (k : Key) (r : Trace) → found rs k ≡ None → meets k r.items ≡ true → found (rs ++ r ∷ []) k ≡ Some r
found_last [] k r e m = ap (λ b. cond b (Some r) None) m
found_last (x ∷ xs) k r e m = step (meets k x.items) e (λ f. found_last xs k r f m)
  where
    step : (b : Bool) → cond b (Some x) (found xs k) ≡ None → (found xs k ≡ None → found (xs ++ r ∷ []) k ≡ Some r) → cond b (Some x) (found (xs ++ r ∷ []) k) ≡ Some r
    step true f later = absurd (none-some x (sym f))
    step false f later = later f

-- ---- what is said

-- of a trace that can be learned it isn't said that it is known
not_known : (limit capacity : ℕ) (quiet : Bool) (rs : List Trace) → judged limit capacity quiet rs ≡ Known → ⊥
not_known limit capacity quiet rs e = go (nat_lt limit (levels_of (scratch rs))) (nat_lt capacity (rules_needed (scratch rs))) quiet e
  where
    go : (a b c : Bool) → (if a then Levels (levels_of (scratch rs)) limit else (if b then Rows (rules_needed (scratch rs)) capacity else (if c then Quiet else Learned))) ≡ Known → ⊥
    go true b c f = cc
    go false true c f = cc
    go false false true f = cc
    go false false false f = cc

module _ (m : State) (quiet : Bool) (rs : List Trace) (k : Key) (r : Trace) where
  known_found : learnt m quiet rs k r ≡ Known → (x : Trace) × (found rs k ≡ Some x)
  known_found e = go (found rs k) refl e
    where
      go : (o : Option Trace) → found rs k ≡ o → (if is_some o then Known else judged m.settings.levels m.settings.capacity quiet (rs ++ r ∷ [])) ≡ Known → (x : Trace) × (found rs k ≡ Some x)
      go (Some x) f g = (x, f)
      go None f g = absurd (not_known m.settings.levels m.settings.capacity quiet (rs ++ r ∷ []) g)

  learned_new : learnt m quiet rs k r ≡ Learned → found rs k ≡ None
  learned_new e = go (found rs k) refl e
    where
      go : (o : Option Trace) → found rs k ≡ o → (if is_some o then Known else judged m.settings.levels m.settings.capacity quiet (rs ++ r ∷ [])) ≡ Learned → found rs k ≡ None
      go (Some x) f g = absurd (cc)
      go None f g = f

abbrev decision_or : Decision → Outcome → Decision
decision_or d (Decided e) = e
decision_or d SpentRun = d

abbrev learnt_or : Learnt → Reply → Learnt
learnt_or l (Answered d k) = k
learnt_or l reply = l

-- ---- the turn of an answer

-- a trace with this decision is found for the key now
record FoundNow (switch : ℕ) (key : Key) (d : Decision) (m : State) : Type 0 where
  pub trace : Trace
  pub found_now : found (traces_of switch m) key ≡ Some trace
  pub decision : trace.decision ≡ d

module _ (laws : Laws) (t : Turn) (h : IsSound t.before) (number : ℕ) (a : IsAnswer t number) (d : Decision) (evaluated : eval_now t.before a.job.switch a.job.key ≡ Decided d)
    (b : Answers a.job a.asked.items a.asked.cells d t.before t.reply t.behind) where
  abbrev old : State
  old = t.before

  abbrev own : Trace
  own = next_trace a.asked.items a.asked.cells d old

  own_met : meets a.job.key a.asked.items ≡ true
  own_met = ap (meets a.job.key) a.items ∙ (laws.own (asked_now a.job old) a.job.key (cell_in old.scene)).items

  -- the state behind the answer has the traces that were kept
  traces_kept : traces_of a.job.switch t.behind ≡ traces_of a.job.switch b.kept
  traces_kept = ap (traces_of a.job.switch) b.now_is

  known_so : (x : Trace) → found (traces_of a.job.switch old) a.job.key ≡ Some x → x.decision ≡ d
  known_so x f =
      let c = found_all (IsCurrent old a.job.switch) (traces_of a.job.switch old) a.job.key x (current_in old old.learned h.learned a.job.switch) f in
      let valid = (all_in (IsServed old) old.jobs a.job h.jobs a.there).valid in
      ap (decision_or d) (sym (c.0.run.law a.job.key valid c.1 (cell_in old.scene) c.0.cells).outcome ∙ evaluated)

  found_behind : (b.learns ≡ Learned) ⊎ (b.learns ≡ Known) → FoundNow a.job.switch a.job.key d t.behind
  found_behind says = go b.learns refl b.keeps says
    where
      go : (l : Learnt) → b.learns ≡ l → Keeps l a.job own (sends a.job d b.session) old b.kept → (l ≡ Learned) ⊎ (l ≡ Known) → FoundNow a.job.switch a.job.key d t.behind
      go Learned e (s, heads, f) says = record {
        trace = own;
        found_now = ap (λ rs. found rs a.job.key) (traces_kept ∙ ap (traces_of a.job.switch) f ∙ traces_put a.job.switch (traces_of a.job.switch old ++ own ∷ []) old.learned)
            ∙ found_last (traces_of a.job.switch old) a.job.key own (learned_new old b.session.quiet (traces_of a.job.switch old) a.job.key own (sym b.exactly ∙ e)) own_met;
        decision = refl;
      }
      go Known e f says =
          let x = known_found old b.session.quiet (traces_of a.job.switch old) a.job.key own (sym b.exactly ∙ e) in
          record {
            trace = x.0;
            found_now = ap (λ rs. found rs a.job.key) (traces_kept ∙ ap (traces_of a.job.switch) f) ∙ x.1;
            decision = known_so x.0 x.1;
          }
      go other e f says = absurd (⊎_elim (λ g. cc) (λ g. cc) says)

module _ (opens : OpensSound) (keeps : KeepsSound) (laws : Laws) where
  pub learning_exact : LearningIsExact
  learning_exact ts t m legal d l replies = go (last_answer opens keeps laws ts t m legal (Decided d) (ap outcome_of replies))
    where
      before : IsLegal ts t.before
      before = shorter opens keeps laws ts t m legal

      go : (number : ℕ) × (job_of t.entry ≡ Some number) × IsAnswer t number → IsExact ts t d l
      go (number, of, a) =
          let is : a.outcome ≡ Decided d = same_Some a.outcome (Decided d) (sym (concludes_so a.job a.asked.items a.asked.cells t.before t.reply t.behind a.outcome a.concludes) ∙ ap outcome_of replies) in
          let b : Answers a.job a.asked.items a.asked.cells d t.before t.reply t.behind = subst (λ o. Concludes a.job a.asked.items a.asked.cells o t.before t.reply t.behind) is a.concludes in
          let same : b.learns ≡ l = ap (learnt_or l) (sym b.replies ∙ replies) in
          let counted = counted_along keeps laws (opening before.policy before.settings) ts t.before before.leads (opens before.policy before.settings before.ranges) in
          record {
            asked = a.asked;
            brought = a.brought;
            job = a.job;
            there = a.there;
            of_job = of ∙ ap Some (sym a.of_number);
            switch = a.switch;
            key = a.key;
            session = b.session;
            of_session = b.there;
            exactly = sym same ∙ b.exactly
                ∙ ap (λ rs. learnt t.before b.session.quiet rs a.job.key (next_trace a.asked.items a.asked.cells d t.before)) (lists_live keeps laws opens ts t.before before a.job.switch)
                ∙ ap (λ s. learnt t.before b.session.quiet (live ts s) a.job.key (next_trace a.asked.items a.asked.cells d t.before)) (sym a.switch)
                ∙ ap (λ k. learnt t.before b.session.quiet (live ts a.asked.switch) k (next_trace a.asked.items a.asked.cells d t.before)) (sym a.key)
                ∙ ap (λ n. learnt t.before b.session.quiet (live ts a.asked.switch) a.asked.key (trace_of (n + 1) a.asked d)) (sym counted);
            found_then = λ says.
                (let f = found_behind laws t (sound_at opens keeps laws ts t.before before) number a d (a.evaluated ∙ is) b (⊎_elim (λ e. inl (same ∙ e)) (λ e. inr (same ∙ e)) says) in
                record {
                  trace = f.trace;
                  found_now = ap (λ s. found (live (ts ++ t ∷ []) s) a.asked.key) a.switch ∙ ap (found (live (ts ++ t ∷ []) a.job.switch)) a.key
                      ∙ ap (λ rs. found rs a.job.key)
                      (sym (lists_live keeps laws opens (ts ++ t ∷ []) m legal a.job.switch) ∙ ap (traces_of a.job.switch) (last_turn (opening legal.policy legal.settings) ts t m legal.leads).2)
                      ∙ f.found_now;
                  decision = f.decision;
                });
          }
