-- Steps in which nothing is learned, and of each switch's traces those stay that have the values of now.
use Rattle.std.proofs.Common.{◌≡◌, ◌⊎◌, ℕ, Bool, true, false, cond, List, [], ◌∷◌, refl, sym, ap, ◌∙◌, subst, inl, inr, ⊎_elim}
use Rattle.std.specs.Prelude.{◌==◌, not, find, Contains, Some}
use Rattle.std.specs.List.{AllByRecursion}
use Rattle.std.proofs.lemmas.Bool.{and_from, eqb-true}
use Rattle.std.proofs.lemmas.List.Elements.{Contains-push_cases}
use Rattle.maple_base.specs.declared.cells.Cell.{Cell}
use Rattle.maple_base.specs.declared.cells.Value.{Value}
use Rattle.maple_base.specs.declared.cells.Port.{Port}
use Rattle.maple_base.specs.declared.key.Key.{Key}
use Rattle.update_plan.proofs.Members.{in_filter}
use Rattle.policy_meaning.specs.Cells.{Gives}
use Rattle.env_cells.specs.declared.updates.Update.{Update}
use Rattle.env_cells.specs.declared.updates.Update.TheVariants.{Switch, Host}
use Rattle.env_cells.specs.Changes.{applied}
use Rattle.topo_paths.specs.Scenes.{cell_in}
use Rattle.report_text.specs.declared.line.Line.{Line}
use Rattle.switch_session.specs.Calls.{TakesOut}
use Rattle.switch_traces.specs.Traces.{Learnings, those}
use Rattle.trace_tree.specs.Stands.{of_leaf}
use Rattle.tree_prune.specs.Current.{same_value, are_current, is_current}
use Rattle.tree_prune.specs.Laws.{SameIsEqual}
use Rattle.machine_steps.specs.declared.reply.Reply.{Reply}
use Rattle.machine_steps.specs.declared.reply.Reply.TheVariants.{Job as JobOpened}
use Rattle.machine_steps.specs.declared.job.Job.{Job}
use Rattle.machine_steps.specs.Machine.{Session, State, policy_number, is_open, with_session, traces_in, traces_of, put_traces}
use Rattle.machine_steps.specs.Effects.{shuts}
use Rattle.machine_steps.specs.Steps.{updated, Reaches, Joins, Teaches, TeachesBy, entry_of, teaches, item_of, opens_job, kept_at, emptied}
use Rattle.machine_steps.specs.Sound.{IsCurrent, AreLearned, IsSound}
use Rattle.machine_steps.proofs.Sound.Kept.{traces_kept, traces_own}
use Rattle.machine_steps.proofs.Sound.Zipped.{all_weaker}
use Rattle.machine_history.proofs.Filters.{filter_all}
use Rattle.machine_history.proofs.Quiet.{NoneTurns, turns_same, turns_then, turns_filter, turns_put, turns_with, turns_aims}

-- each open job was open before, or is the one that the reply tells of
abbrev pub JobsFrom : State → Reply → State → Type 0
JobsFrom old reply new = (j : Job) → Contains new.jobs j → Contains old.jobs j ⊎ (reply ≡ JobOpened (item_of j))

pub record Rests (old : State) (reply : Reply) (new : State) : Type 0 where
  pub policy : policy_number new ≡ policy_number old
  pub traces : (switch : ℕ) → traces_of switch new ≡ those (is_current (cell_in new.scene)) (traces_of switch old)
  pub quiet : NoneTurns old.sessions new.sessions
  pub count : new.trace_count ≡ old.trace_count
  pub jobs : JobsFrom old reply new

-- ---- the traces of a sound state have the values of now

pub gives_current : SameIsEqual → (env : Cell → Value) (cs : List (Cell × Value)) → Gives env cs → are_current env cs ≡ true
gives_current same env [] h = refl
gives_current same env (c ∷ cs) h = and_from (same_value (env c.0) c.1) (are_current env cs) ((same (env c.0) c.1).1 h.0) (gives_current same env cs h.1)

pub current_in : (m : State) (ls : List Learnings) → AllByRecursion (AreLearned m) ls → (switch : ℕ) → AllByRecursion (IsCurrent m switch) (traces_in ls switch)
current_in m [] h switch = tt
current_in m (l ∷ ls) h switch = step (l.switch == switch) refl (current_in m ls h.1 switch)
  where
    step : (b : Bool) → (l.switch == switch) ≡ b → AllByRecursion (IsCurrent m switch) (traces_in ls switch) → AllByRecursion (IsCurrent m switch) (cond b l.traces (traces_in ls switch))
    step true e later = subst (λ q. AllByRecursion (IsCurrent m q) l.traces) (eqb-true l.switch switch e) h.0.current
    step false e later = later

pub all_now : SameIsEqual → (m : State) → IsSound m → (switch : ℕ) → those (is_current (cell_in m.scene)) (traces_of switch m) ≡ traces_of switch m
all_now same m h switch =
    filter_all (of_leaf (is_current (cell_in m.scene))) (traces_of switch m)
    (all_weaker (IsCurrent m switch) (λ r. of_leaf (is_current (cell_in m.scene)) r ≡ true) (λ r c. gives_current same (cell_in m.scene) r.cells c.cells) (traces_of switch m) (current_in m m.learned h.learned switch))

module _ (same : SameIsEqual) (old : State) (h : IsSound old) (reply : Reply) where
  -- the policy, what is known, and the traces stay
  pub rests_idle : (new : State) → policy_number new ≡ policy_number old → new.scene ≡ old.scene → new.learned ≡ old.learned → new.trace_count ≡ old.trace_count
      → NoneTurns old.sessions new.sessions → JobsFrom old reply new → Rests old reply new
  rests_idle new policy scene learned count quiet jobs = record {
    policy = policy;
    traces = λ switch. ap (λ ls. traces_in ls switch) learned ∙ sym (all_now same old h switch) ∙ ap (λ e. those (is_current (cell_in e)) (traces_of switch old)) (sym scene);
    quiet = quiet;
    count = count;
    jobs = jobs;
  }

  pub rests_same : (new : State) → new ≡ old → Rests old reply new
  rests_same new e = subst (Rests old reply) (sym e) (rests_idle old refl refl refl refl (turns_same old.sessions) (λ j c. inl c))

  -- only the report is another
  pub rests_told : (told : List Line) → Rests old reply (record old { lines = told })
  rests_told told = rests_idle (record old { lines = told }) refl refl refl refl (turns_same old.sessions) (λ j c. inl c)

  -- a session is another
  pub rests_with : (p : Session → Bool) (s t : Session) (told : List Line) → find p old.sessions ≡ Some s → t.connection ≡ s.connection → t.quiet ≡ s.quiet
      → Rests old reply (record (with_session t old) { lines = told })
  rests_with p s t told found at quiet =
      rests_idle (record (with_session t old) { lines = told }) refl refl refl refl (turns_with old.sessions p s t found at quiet) (λ j c. inl c)

  -- and is closed with its jobs
  pub rests_closed : (p : Session → Bool) (s t : Session) (told : List Line) → find p old.sessions ≡ Some s → t.connection ≡ s.connection → t.quiet ≡ s.quiet
      → Rests old reply (record (shuts t old) { lines = told })
  rests_closed p s t told found at quiet =
      rests_idle (record (shuts t old) { lines = told }) refl refl refl refl (turns_with old.sessions p s t found at quiet) (λ j c. inl (in_filter (λ (i : Job). not (i.connection == t.connection)) old.jobs j c).0)

  -- ---- updates

  pub rests_reached : (u : Update) (new : State) → Reaches old (updated u old) new → Rests old reply new
  rests_reached u new r = subst (Rests old reply) (sym r.now_is)
      (record {
        policy = refl;
        traces = traces_kept (is_current (cell_in (applied old.scene u))) old.learned;
        quiet = turns_aims (updated u old).learned old.sessions r.sessions r.aims;
        count = refl;
        jobs = λ j c. inl c;
      })

  -- a session joins: it was not quiet
  module _ (p : Session → Bool) (s t : Session) (found : find p old.sessions ≡ Some s) (at : t.connection ≡ s.connection) (quiet : t.quiet ≡ s.quiet) (loud : s.quiet ≡ false) where
    pub rests_joins : (dpid : ℕ) (ports : List Port) (new : State) → Joins t dpid ports old new → Rests old reply new
    rests_joins dpid ports new j =
        let r = j.reaches in
        subst (Rests old reply) (sym (j.now_is ∙ ap (λ m. with_session j.accepted m) r.now_is))
        (record {
          policy = refl;
          traces = λ switch. traces_kept (is_current (cell_in (applied old.scene (Switch dpid ports)))) (put_traces dpid (traces_of dpid old) old.learned) switch
              ∙ ap (those (is_current (cell_in (applied old.scene (Switch dpid ports))))) (traces_own dpid old.learned switch);
          quiet = turns_then old.sessions (with_session t old).sessions _ (turns_with old.sessions p s t found at quiet)
              (turns_then (with_session t old).sessions r.sessions _ (turns_aims _ (with_session t old).sessions r.sessions r.aims)
              (turns_put r.sessions j.accepted (λ q. let f = sym q ∙ ap (λ (x : Session). x.quiet) j.accepts.now_is ∙ quiet ∙ loud in absurd (cc))));
          count = refl;
          jobs = λ i c. inl c;
        })

  -- ---- packets

  pub rests_taught : (switch : ℕ) (k : Key) (taught : State) → Teaches switch k old taught → Rests old reply taught
  rests_taught switch k taught h = go (teaches switch k old) h
    where
      go : (b : Bool) → TeachesBy b (Host k.dl_src (entry_of switch k)) old taught → Rests old reply taught
      go true (inl a) = rests_reached (Host k.dl_src (entry_of switch k)) taught a.1
      go true (inr a) = rests_same taught a.1
      go false e = rests_same taught e

  -- one more waits
  pub rests_waits : (m : State) (j : Job) → Rests old reply m → reply ≡ JobOpened (item_of j) → Rests old reply (opens_job j m)
  rests_waits m j a r = record {
    policy = a.policy;
    traces = a.traces;
    quiet = a.quiet;
    count = a.count;
    jobs = λ i c. ⊎_elim (a.jobs i) (λ f. inr (r ∙ ap (λ x. JobOpened (item_of x)) f)) (Contains-push_cases m.jobs j i c);
  }

  -- ---- connections

  pub rests_takes : (c : ℕ) (s t : Session) (bytes : List ℕ) (new : State) → kept_at c old ≡ Some s → TakesOut s bytes t → new ≡ emptied (is_open s) t old → Rests old reply new
  rests_takes c s t bytes new found out e = go (is_open s) (subst (λ x. new ≡ emptied (is_open s) x old) out.now_is e)
    where
      go : (b : Bool) → new ≡ emptied b (record s { outbox = []; taken = s.used }) old → Rests old reply new
      go true f = subst (Rests old reply) (sym f) (rests_with _ s (record s { outbox = []; taken = s.used }) old.lines found refl refl)
      go false f = subst (Rests old reply) (sym f) (rests_idle _ refl refl refl refl (turns_filter (λ (x : Session). not (x.connection == s.connection)) old.sessions) (λ j d. inl d))
