-- What an entry leaves of each part of the state, and what its reply tells of that.
use Rattle.std.proofs.Common.{◌≡◌, ◌⊎◌, ℕ, ◌+◌, ◌≤◌, Bool, true, false, List, [], ◌∷◌, ◌++◌, length, append-nil, refl, sym, ap, ◌∙◌, subst, inl, inr}
use Rattle.std.specs.Prelude.{◌==◌, not, filter, Some}
use Rattle.std.specs.FinSet as set
use Rattle.std.specs.Ordering.{nat_cmp}
use Rattle.std.proofs.lemmas.Bool.{and_parts}
use Rattle.std.proofs.lemmas.List.{append_assoc}
use Rattle.maple_base.specs.declared.decision.Settings.{Settings}
use Rattle.maple_base.specs.declared.key.Key.{Key}
use Rattle.env_cells.specs.declared.updates.Update.TheVariants.{Host, Switch}
use Rattle.env_cells.specs.Environment.{Environment}
use Rattle.policy_lang.specs.declared.Policy.{Policy}
use Rattle.report_text.specs.declared.line.Learnt.{Learnt}
use Rattle.report_text.specs.declared.line.Learnt.TheVariants.{Learned}
use Rattle.report_text.specs.declared.line.Line.{Line}
use Rattle.switch_session.specs.declared.told.Heard.{Heard}
use Rattle.trace_tree.specs.declared.node.Trace.{Trace}
use Rattle.machine_steps.specs.declared.entry.Entry.{Entry}
use Rattle.machine_steps.specs.declared.entry.Entry.TheVariants as entries
use Rattle.machine_steps.specs.declared.reply.Reply.{Reply}
use Rattle.machine_steps.specs.declared.reply.Reply.TheVariants.{Job as JobOpened, Overload}
use Rattle.machine_steps.specs.Effects.{tells_state, tells_packet, tells_run, tells_lack, telling, nothing_told, job_in, may_advance, Hearing, Effect}
use Rattle.machine_steps.specs.Effects.Effect.{RunsOut, Rests, Misses, Outdates, Tells, Reports, OpensSession, TurnsAway, Empties, Moves, Quiets, Ends, Advances, Renews, Accepts, Overflows, Waits, Spends, AnswersJob}
use Rattle.machine_steps.specs.Machine.{PolicyState, Session, Job, State, this_state, most_jobs, is_open}
use Rattle.machine_steps.specs.Steps.{switch_of, teaches, entry_of, updated, renewed, item_of, job_of, emptied, Teaches, TeachesBy, Keeps, Steps}
use Rattle.machine_steps.proofs.Effects.{effect_of}

-- ---- by the parts of a state

-- the policies, the states, and what is known of the network
abbrev pub Network : Type 0
Network = List Policy × Policy × List PolicyState × Environment

abbrev pub network : State → Network
network m = (m.earlier, m.policy, m.states, m.scene)

-- they stay, a next state is reached, or another policy is in force there
pub data Follows (old : State) (entry : Entry) (reply : Reply) (n : Network) : Type 0 where
  Stays : tells_state reply ≡ false → n ≡ network old → Follows old entry reply n
  Next : (scene : Environment) → may_advance entry ≡ true → (tells_state reply ≡ true) ⊎ (old.policy.learning ≡ true)
      → n ≡ (old.earlier, old.policy, old.states ++ this_state old ∷ [], scene) → Follows old entry reply n
  Renewed : (scene : Environment) (p : Policy) → entry ≡ entries.NewPolicy p → tells_state reply ≡ true
      → n ≡ (old.earlier ++ old.policy ∷ [], p, old.states ++ this_state old ∷ [], scene) → Follows old entry reply n

-- these packets wait still, or those of which p holds
abbrev pub AreLeft : List Job → List Job → Type 0
AreLeft js ks = (ks ≡ js) ⊎ ((p : Job → Bool) × (ks ≡ filter p js))

-- no other packet waits, or no more may, or one more does, with the next number
pub data JobsBy (old : State) (entry : Entry) (reply : Reply) (new : State) : Type 0 where
  Left : tells_packet reply ≡ false → new.job_count ≡ old.job_count → AreLeft old.jobs new.jobs → JobsBy old entry reply new
  AreMany : reply ≡ Overload → new.job_count ≡ old.job_count → most_jobs ≤ length old.jobs → new.jobs ≡ old.jobs → JobsBy old entry reply new
  Added : (h : Heard) (t : Session) (j : Job) → Hearing old entry h t → reply ≡ JobOpened (item_of j) → j.connection ≡ t.connection → j.number ≡ old.job_count + 1
      → new.job_count ≡ old.job_count + 1 → new.jobs ≡ old.jobs ++ j ∷ [] → JobsBy old entry reply new

-- lines are put behind those that were there
pub record Extends (old new : State) : Type 0 where
  pub more : List Line
  pub are : new.lines ≡ old.lines ++ more

-- settings, connections, jobs, lines, and what a reply tells
pub record Changes (old : State) (entry : Entry) (reply : Reply) (new : State) : Type 0 where
  pub settings : new.settings ≡ old.settings
  pub follows : Follows old entry reply (network new)
  pub jobs : JobsBy old entry reply new
  -- a connection is opened by an Open alone
  pub opened : (new.opened ≡ old.opened) ⊎ ((c : ℕ) × (entry ≡ entries.Open c))
  -- the report is taken, or gets more lines
  pub lines : (entry ≡ entries.TakeReport) ⊎ Extends old new
  -- only what is asked for a job tells of a run
  pub run : ((number : ℕ) × (job_in entry ≡ Some number)) ⊎ (tells_run reply ≡ false)
  -- where memory ran out nothing changes
  pub memory : (new ≡ old) ⊎ (tells_lack reply ≡ false)

-- ---- parts that stay

-- what is kept for an answer leaves all but sessions and traces
pub kept_rest : (l : Learnt) (j : Job) (r : Trace) (s : Session) (old k : State) → Keeps l j r s old k
    → k ≡ record old { sessions = k.sessions; learned = k.learned; trace_count = k.trace_count }
kept_rest Learned j r s old k (t, heads, e) = e ∙ sym (ap (λ (x : State). record old { sessions = x.sessions; learned = x.learned; trace_count = x.trace_count }) e)
kept_rest other j r s old k e = e ∙ sym (ap (λ (x : State). record old { sessions = x.sessions; learned = x.learned; trace_count = x.trace_count }) e)

abbrev jobs_of : State → List Job
jobs_of m = m.jobs

abbrev lines_of : State → List Line
lines_of m = m.lines

-- what stays at most entries
abbrev Basis : Type 0
Basis = Settings × Network × set.FinSet nat_cmp × ℕ

abbrev basis : State → Basis
basis m = (m.settings, network m, m.opened, m.job_count)

-- what stays where a connection is opened
abbrev Counted : Type 0
Counted = Settings × Network × ℕ

abbrev counted : State → Counted
counted m = (m.settings, network m, m.job_count)

-- what a reply tells, as in telling
abbrev Told : Type 0
Told = Bool × Bool × Bool × Bool

module _ (old : State) where
  none_more : (new : State) → new.lines ≡ old.lines → Extends old new
  none_more new e = record { more = []; are = e ∙ sym (append-nil old.lines) }

  told : (new : State) (more : List Line) → new.lines ≡ old.lines ++ more → Extends old new
  told new more e = record { more = more; are = e }

  further : (m new : State) (more : List Line) → Extends old m → new.lines ≡ m.lines ++ more → Extends old new
  further m new more x e = record { more = x.more ++ more; are = e ∙ ap (λ ls. ls ++ more) x.are ∙ append_assoc old.lines x.more more }

module _ (old : State) (entry : Entry) (reply : Reply) (new : State) where
  abbrev Changing : Type 0
  Changing = Changes old entry reply new

  stays : ((number : ℕ) × (job_in entry ≡ Some number)) ⊎ (tells_run reply ≡ false) → (new ≡ old) ⊎ (tells_lack reply ≡ false) → tells_state reply ≡ false → tells_packet reply ≡ false
      → basis new ≡ basis old → AreLeft old.jobs new.jobs → (entry ≡ entries.TakeReport) ⊎ Extends old new → Changing
  stays run memory s p e left lines = record {
    settings = ap (λ (b : Basis). b.0) e;
    follows = Stays s (ap (λ (b : Basis). b.1) e);
    jobs = Left p (ap (λ (b : Basis). b.3) e) left;
    opened = inl (ap (λ (b : Basis). b.2) e);
    lines = lines;
    run = run;
    memory = memory;
  }

  same : ((number : ℕ) × (job_in entry ≡ Some number)) ⊎ (tells_run reply ≡ false) → tells_state reply ≡ false → tells_packet reply ≡ false → new ≡ old → Changing
  same run s p e = stays run (inl e) s p (ap basis e) (inl (ap jobs_of e)) (inr (none_more old new (ap lines_of e)))

  -- the reply tells nothing, or of a run
  quiet : telling reply ≡ nothing_told → basis new ≡ basis old → AreLeft old.jobs new.jobs → (entry ≡ entries.TakeReport) ⊎ Extends old new → Changing
  quiet t e left lines = stays (inr (ap (λ (x : Told). x.2) t)) (inr (ap (λ (x : Told). x.3) t)) (ap (λ (x : Told). x.0) t) (ap (λ (x : Told). x.1) t) e left lines

  of_run : (number : ℕ) → job_in entry ≡ Some number → telling reply ≡ (false, false, true, false) → basis new ≡ basis old → AreLeft old.jobs new.jobs → Extends old new → Changing
  of_run number is t e left lines = stays (inl (number, is)) (inr (ap (λ (x : Told). x.3) t)) (ap (λ (x : Told). x.0) t) (ap (λ (x : Told). x.1) t) e left (inr lines)

  -- a connection is opened
  opens : (c : ℕ) → entry ≡ entries.Open c → telling reply ≡ nothing_told → counted new ≡ counted old → new.jobs ≡ old.jobs → Extends old new → Changing
  opens c is t e jobs lines = record {
    settings = ap (λ (b : Counted). b.0) e;
    follows = Stays (ap (λ (x : Told). x.0) t) (ap (λ (b : Counted). b.1) e);
    jobs = Left (ap (λ (x : Told). x.1) t) (ap (λ (b : Counted). b.2) e) (inl jobs);
    opened = inr (c, is);
    lines = inr lines;
    run = inr (ap (λ (x : Told). x.2) t);
    memory = inr (ap (λ (x : Told). x.3) t);
  }

  -- a state is reached
  reached : telling reply ≡ (true, false, false, false) → new.settings ≡ old.settings → Follows old entry reply (network new) → new.opened ≡ old.opened
      → new.job_count ≡ old.job_count → new.jobs ≡ old.jobs → Extends old new → Changing
  reached t settings follows opened count jobs lines = record {
    settings = settings;
    follows = follows;
    jobs = Left (ap (λ (x : Told). x.1) t) count (inl jobs);
    opened = inl opened;
    lines = inr lines;
    run = inr (ap (λ (x : Told). x.2) t);
    memory = inr (ap (λ (x : Told). x.3) t);
  }

-- ---- what a packet teaches

-- what is taught leaves connections and jobs
abbrev Rest : Type 0
Rest = Settings × set.FinSet nat_cmp × ℕ × List Job

abbrev rest : State → Rest
rest m = (m.settings, m.opened, m.job_count, m.jobs)

record IsTaught (old : State) (entry : Entry) (reply : Reply) (m : State) : Type 0 where
  follows : Follows old entry reply (network m)
  leaves : rest m ≡ rest old
  extends : Extends old m

module _ (old : State) (entry : Entry) (reply : Reply) (may : may_advance entry ≡ true) (untold : tells_state reply ≡ false) where
  taught : (switch : ℕ) (k : Key) (m : State) → Teaches switch k old m → IsTaught old entry reply m
  taught switch k m h = go (teaches switch k old) refl h
    where
      unchanged : m ≡ old → IsTaught old entry reply m
      unchanged e = record { follows = Stays untold (ap network e); leaves = ap rest e; extends = none_more old m (ap lines_of e) }

      go : (b : Bool) → teaches switch k old ≡ b → TeachesBy b (Host k.dl_src (entry_of switch k)) old m → IsTaught old entry reply m
      go true t (inl a) =
          let r = a.1 in
          record {
            follows = Next (updated (Host k.dl_src (entry_of switch k)) old).scene may (inr (and_parts old.policy.learning _ t).0) (ap network r.now_is);
            leaves = ap rest r.now_is;
            extends = told old m _ (ap lines_of r.now_is);
          }
      go true t (inr a) = unchanged a.1
      go false t e = unchanged e

  packet : (m new : State) → IsTaught old entry reply m → network new ≡ network m → new.settings ≡ m.settings → new.opened ≡ m.opened → JobsBy old entry reply new → Extends old new
      → tells_run reply ≡ false → tells_lack reply ≡ false → Changes old entry reply new
  packet m new t e settings opened jobs lines run lack = record {
    settings = settings ∙ ap (λ (x : Rest). x.0) t.leaves;
    follows = subst (Follows old entry reply) (sym e) t.follows;
    jobs = jobs;
    opened = inl (opened ∙ ap (λ (x : Rest). x.1) t.leaves);
    lines = inr lines;
    run = inr run;
    memory = inr lack;
  }

-- ---- by the effect

module _ (old : State) (entry : Entry) (reply : Reply) (new : State) where
  changes_by : Effect old entry reply new → Changes old entry reply new
  changes_by (RunsOut (r, e)) = same old entry reply new (inr (ap tells_run r)) (ap tells_state r) (ap tells_packet r) e
  changes_by (Rests p e) = same old entry reply new (inr (ap (λ (x : Told). x.2) p.0)) (ap (λ (x : Told). x.0) p.0) (ap (λ (x : Told). x.1) p.0) e
  changes_by (Misses number is r e) = same old entry reply new (inl (number, is)) (ap tells_state r) (ap tells_packet r) e
  changes_by (Outdates number is differs r more e) = of_run old entry reply new number is (ap telling r) (ap basis e) (inl (ap jobs_of e)) (told old new more (ap lines_of e))
  changes_by (Tells p more e) = quiet old entry reply new p.0 (ap basis e) (inl (ap jobs_of e)) (inr (told old new more (ap lines_of e)))
  changes_by (Reports is r e) = quiet old entry reply new (ap telling r) (ap basis e) (inl (ap jobs_of e)) (inl is)
  changes_by (OpensSession c is fresh few r e) =
      opens old entry reply new c is (ap telling r) (ap counted e) (ap jobs_of e) (told old new _ (ap lines_of e))
  changes_by (TurnsAway c is fresh full r e) =
      opens old entry reply new c is (ap telling r) (ap counted e) (ap jobs_of e) (told old new _ (ap lines_of e))
  changes_by (Empties c s t bytes is found out r e) = go (is_open s) e
    where
      go : (b : Bool) → new ≡ emptied b t old → Changes old entry reply new
      go true f = quiet old entry reply new (ap telling r) (ap basis f) (inl (ap jobs_of f)) (inr (none_more old new (ap lines_of f)))
      go false f = quiet old entry reply new (ap telling r) (ap basis f) (inl (ap jobs_of f)) (inr (none_more old new (ap lines_of f)))
  changes_by (Moves h t from still p more e) = quiet old entry reply new p.0 (ap basis e) (inl (ap jobs_of e)) (inr (told old new more (ap lines_of e)))
  changes_by (Quiets kind code t from p e) = quiet old entry reply new p.0 (ap basis e) (inl (ap jobs_of e)) (inr (told old new _ (ap lines_of e ∙ append_assoc old.lines _ _)))
  changes_by (Ends t end ending r more e) =
      quiet old entry reply new (ap telling r) (ap basis e) (inr ((λ (j : Job). not (j.connection == t.connection)), ap jobs_of e)) (inr (told old new more (ap lines_of e)))
  changes_by (Advances u may free r a) =
      let e = a.now_is in
      reached old entry reply new (ap telling r) (ap (λ (n : State). n.settings) e) (Next (updated u old).scene may (inl (ap tells_state r)) (ap network e)) (ap (λ (n : State). n.opened) e)
      (ap (λ (n : State). n.job_count) e) (ap jobs_of e) (told old new _ (ap lines_of e))
  changes_by (Renews p is r a) =
      let e = a.now_is in
      reached old entry reply new (ap telling r) (ap (λ (n : State). n.settings) e) (Renewed (renewed p old).scene p is (ap tells_state r) (ap network e)) (ap (λ (n : State). n.opened) e)
      (ap (λ (n : State). n.job_count) e) (ap jobs_of e) (told old new _ (ap lines_of e))
  changes_by (Accepts t dpid ports from r j) =
      let e = j.now_is in
      let f = j.reaches.now_is in
      reached old entry reply new (ap telling r) (ap (λ (n : State). n.settings) e ∙ ap (λ (n : State). n.settings) f)
      (Next (updated (Switch dpid ports) old).scene (ap may_advance from.is) (inl (ap tells_state r)) (ap network e ∙ ap network f)) (ap (λ (n : State). n.opened) e ∙ ap (λ (n : State). n.opened) f)
      (ap (λ (n : State). n.job_count) e ∙ ap (λ (n : State). n.job_count) f) (ap jobs_of e ∙ ap jobs_of f) (told old new _ (ap lines_of e ∙ ap lines_of f))
  changes_by (Overflows t buffer frame k m p many r e) =
      let may = ap may_advance p.hearing.is in
      let h = taught old entry reply may (ap tells_state r) (switch_of t) k m p.teaches in
      packet old entry reply may (ap tells_state r) m new h (ap network e) (ap (λ (n : State). n.settings) e) (ap (λ (n : State). n.opened) e)
      (AreMany r (ap (λ (n : State). n.job_count) e ∙ ap (λ (y : Rest). y.2) h.leaves) many (ap jobs_of e ∙ ap (λ (y : Rest). y.3) h.leaves))
      (further old m new _ h.extends (ap lines_of e)) (ap tells_run r) (ap tells_lack r)
  changes_by (Waits t buffer frame k m p few r e) =
      let may = ap may_advance p.hearing.is in
      let h = taught old entry reply may (ap tells_state r) (switch_of t) k m p.teaches in
      let j = job_of t buffer frame k m in
      let count = ap (λ (y : Rest). y.2 + 1) h.leaves in
      packet old entry reply may (ap tells_state r) m new h (ap network e) (ap (λ (n : State). n.settings) e) (ap (λ (n : State). n.opened) e)
      (Added _ t j p.hearing r refl count (ap (λ (n : State). n.job_count) e ∙ count) (ap jobs_of e ∙ ap (λ (y : Rest). y.3 ++ j ∷ []) h.leaves))
      (told old new h.extends.more (ap lines_of e ∙ h.extends.are)) (ap tells_run r) (ap tells_lack r)
  changes_by (Spends j run r e) = of_run old entry reply new run.number run.is (ap telling r) (ap basis e) (inr (_, ap jobs_of e)) (told old new _ (ap lines_of e))
  changes_by (AnswersJob j items cells d run a) =
      let p : Job → Bool = λ (i : Job). not (i.number == j.number) in
      let e = a.now_is in
      let f = kept_rest a.learns j _ _ old a.kept a.keeps in
      of_run old entry reply new run.number run.is (ap telling a.replies) (ap basis e ∙ ap basis f) (inr (p, ap jobs_of e ∙ ap (filter p) (ap jobs_of f)))
      (further old a.kept new _ (none_more old a.kept (ap lines_of f)) (ap lines_of e))

pub changes : (old : State) (entry : Entry) (reply : Reply) (new : State) → Steps old entry reply new → Changes old entry reply new
changes old entry reply new steps = changes_by old entry reply new (effect_of old reply new entry steps)
