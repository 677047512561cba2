-- The job that a run is for, what makes it stale, and what the machine does with it.
use Rattle.std.proofs.Common.{◌≡◌, ◌≢◌, ℕ, zero, suc, ◌<◌, Bool, true, false, cond, List, [], ◌∷◌, length, get_or, None, Some, Result, Ok, Err, IfOk, refl, sym, ap, ap₂, ◌∙◌, subst, inl, inr, arith, ⊎_elim}
use Rattle.std.specs.Prelude.{◌==◌, Contains, Option}
use Rattle.std.specs.Option.{MatchOption}
use Rattle.std.specs.List.{find, position, slice_get}
use Rattle.std.proofs.lemmas.Bool.{cases_eq, eq-eqb, eqb-true}
use Rattle.std.proofs.lemmas.Option.{get_or_from_slice_get, none-some, slice_get_within}
use Rattle.maple_base.specs.declared.cells.Cell.{Cell}
use Rattle.maple_base.specs.declared.cells.Value.{Value}
use Rattle.maple_base.specs.declared.key.Key.{Key}
use Rattle.maple_base.specs.declared.no_memory.NoMemory.{NoMemory as NoMemoryError}
use Rattle.policy_lang.specs.PolicyTree.{policy_tree}
use Rattle.policy_lang.specs.declared.Policy.{Policy}
use Rattle.env_cells.specs.Environment.{Environment}
use Rattle.topo_paths.specs.Scenes.{cell_in}
use Rattle.report_text.specs.declared.line.Line.TheVariants as lines
use Rattle.policy_meaning.specs.Cells.{AreGiven, Gives}
use Rattle.trace_record.specs.Runs.{IsOfCall, IsRun, Recorded}
use Rattle.machine_steps.specs.declared.job.Job.{Job}
use Rattle.machine_steps.specs.declared.reply.Differs.{Differs}
use Rattle.machine_steps.specs.declared.reply.Differs.TheVariants.{OfCell, OfPolicy}
use Rattle.machine_steps.specs.declared.reply.Reply.{Reply}
use Rattle.machine_steps.specs.declared.reply.Reply.TheVariants.{NotOpen, Stale}
use Rattle.machine_steps.specs.Admitting.{IsOfHistory}
use Rattle.machine_steps.specs.Machine.{State, tells}
use Rattle.machine_steps.specs.Running.{CurrentRunsAreNow, IsRunNow}
use Rattle.machine_steps.specs.Sound.{IsSound}
use Rattle.machine_steps.specs.Steps.{Commits}
use Rattle.core_machine.specs.Concluding.{HasJob, HasJobOf, HasNoJobOf, HasRun, IsFresh, IsStale}
use Rattle.machine_parts.proofs.Keyed.{elsewhere, find_passes, first_there}

-- cells that a view over an environment gave have their values there
pub all_gives : (gave : Cell → Value → Type 0) (env : Cell → Value) → ((c : Cell) (v : Value) → gave c v → env c ≡ v) → (cs : List (Cell × Value)) → AreGiven gave cs → Gives env cs
all_gives gave env h [] g = tt
all_gives gave env h (c ∷ cs) g = (h c.0 c.1 g.0, all_gives gave env h cs g.1)

-- ---- the job of a number

find_none : {X : Type 0} (p : X → Bool) (xs : List X) (k : ℕ) (d : X) → find p xs ≡ None → k < length xs → p (get_or xs k d) ≢ true
find_none p [] k d e within passes = absurd (omega arith)
find_none {X} p (x ∷ xs) zero d e within passes =
    none-some x (sym (sym (ap (λ b. cond b (Some x) (find p xs)) passes) ∙ e))
find_none {X} p (x ∷ xs) (suc k) d e within passes =
    elim (p x) as (λ b. cond b (Some x) (find p xs) ≡ None → ⊥) [
      | true ↦ λ here. none-some x (sym here)
      | false ↦ λ behind. find_none p xs k d behind (omega arith) passes
    ] e

abbrev numbered : ℕ → Job → Bool
numbered number j = j.number == number

job_by : (number : ℕ) (m : State) (o : Option ℕ) → MatchOption o (find (numbered number) m.jobs ≡ None) (λ i. (j : Job) × (slice_get m.jobs i ≡ Some j) × (find (numbered number) m.jobs ≡ Some j))
    → MatchOption o ((j : Job) → Contains m.jobs j → j.number ≢ number) (λ at. HasJob number at m)
job_by number m None none =
    λ j among is. find_none (numbered number) m.jobs among.0 j none among.1 (ap (numbered number) among.2 ∙ eq-eqb j.number number is)
job_by number m (Some at) some = record {
  job = some.0;
  there = some.1;
  number_is = eqb-true some.0.number number (find_passes (numbered number) m.jobs some.0 some.2);
}

pub job_is : (number : ℕ) (m : State) → MatchOption (position (numbered number) m.jobs) ((j : Job) → Contains m.jobs j → j.number ≢ number) (λ at. HasJob number at m)
job_is number m = job_by number m (position (numbered number) m.jobs) (first_there (numbered number) m.jobs)

pub among : (m : State) (at : ℕ) (j : Job) → slice_get m.jobs at ≡ Some j → Contains m.jobs j
among m at j there = (at, slice_get_within m.jobs at j there, get_or_from_slice_get m.jobs at j j there)

-- the job that is read at a place
pub job_here : (m : State) (at : ℕ) (i j : Job) (jobs : List Job) → jobs ≡ m.jobs → slice_get m.jobs at ≡ Some j → i ≡ get_or jobs at i → i ≡ j
job_here m at i j jobs are there read = read ∙ ap (λ xs. get_or xs at i) are ∙ get_or_from_slice_get m.jobs at j i there

-- another job has another number
same_job : (m : State) (sound : IsSound m) (at : ℕ) (i j : Job) → slice_get m.jobs at ≡ Some i → Contains m.jobs j → j.number ≡ i.number → i ≡ j
same_job m sound at i j there where_it_is same =
    let k = where_it_is.0 in
    let here = get_or_from_slice_get m.jobs at i j there in
    ⊎_elim
    (λ (e : k ≡ at). sym here ∙ sym (ap (λ n. get_or m.jobs n j) e) ∙ where_it_is.2)
    (λ (ne : k ≢ at). absurd (elsewhere (λ (x : Job). x.number) m.jobs at k j sound.numbers (slice_get_within m.jobs at i there) where_it_is.1 ne
    (ap (λ (x : Job). x.number) where_it_is.2 ∙ same ∙ sym (ap (λ (x : Job). x.number) here))))
    (cases_eq k at)

module _ (m : State) (number switch : ℕ) (key : Key) (at : ℕ) (has : HasJob number at m) where
  pub job_of : has.job.switch ≡ switch → has.job.key ≡ key → HasJobOf number switch key at m
  job_of s k = record { job = has.job; there = has.there; is_job = record { there = among m at has.job has.there; number = has.number_is; switch = s; key = k } }

  pub no_job_of : IsSound m → ((has.job.switch ≡ switch) × (has.job.key ≡ key) → ⊥) → HasNoJobOf number switch key m
  no_job_of sound other j is =
      let same = same_job m sound at has.job j has.there is.there (is.number ∙ sym has.number_is) in
      other (ap (λ (x : Job). x.switch) same ∙ is.switch, ap (λ (x : Job). x.key) same ∙ is.key)

-- where there is none of the number there is none
pub none_of : (m : State) (number switch : ℕ) (key : Key) → ((j : Job) → Contains m.jobs j → j.number ≢ number) → HasNoJobOf number switch key m
none_of m number switch key none j is = none j is.there is.number

-- ---- runs

-- a run of the history's that is fresh is one in the state now
pub fresh_run : CurrentRunsAreNow → (m : State) (run : Recorded) (number at : ℕ) → IsOfHistory run m → IsFresh run m → HasJobOf number run.switch run.key at m → HasRun at run m
fresh_run law m run number at history fresh has = record {
  job = has.job;
  there = has.there;
  now_is = subst (λ s. IsRunNow m s has.job.key run) (sym has.is_job.switch)
      (subst (λ k. IsRunNow m run.switch k run) (sym has.is_job.key) (law m run history fresh.0 fresh.1));
}

-- a run that was just made is one in the state now
pub run_is : {E : Type 0} (m : State) (at : ℕ) (j : Job) → slice_get m.jobs at ≡ Some j → (p : Policy) (n b : ℕ) (scene : Environment) → p ≡ m.policy → b ≡ m.settings.budget → scene ≡ m.scene
    → (o : Result Recorded E) → IfOk o IsRun → IfOk o (IsOfCall p n b j.switch j.key) → IfOk o (λ run. Gives (cell_in scene) run.cells) → IfOk o (λ run. HasRun at run m)
run_is m at j there p n b scene policy budget same (Ok run) law call cells = record {
  job = j;
  there = there;
  now_is = record {
    law = law;
    policy = ap policy_tree (call.policy ∙ policy);
    budget = call.budget ∙ budget;
    switch_is = call.switch;
    key_is = call.key;
    cells = subst (λ e. Gives (cell_in e) run.cells) same cells;
  };
}
run_is m at j there p n b scene policy budget same (Err e) law call cells = tt

-- ---- what is answered to a run

pub not_open : (m : State) (run : Recorded) (number switch : ℕ) (key : Key) → switch ≡ run.switch → key ≡ run.key → HasNoJobOf number switch key m → Commits number run m NotOpen m
not_open m run number switch key s k none =
    inl (subst (λ n. HasNoJobOf number n run.key m) s (subst (λ x. HasNoJobOf number switch x m) k none), refl, refl)

pub stale_told : (m : State) (run : Recorded) (number at : ℕ) → HasJobOf number run.switch run.key at m → (d : Differs) → IsStale run m d → (new : State) (o : Result Reply NoMemoryError)
    → IfOk o (λ reply. (reply ≡ Stale d) × (new ≡ tells (lines.Stale number) m)) → IfOk o (λ reply. Commits number run m reply new)
stale_told m run number at has (OfPolicy recorded current) stale new (Ok reply) told =
    inr (inl (has.job, has.is_job, stale.2, told.0 ∙ ap₂ (λ a b. Stale (OfPolicy a b)) stale.0 stale.1, told.1))
stale_told m run number at has (OfCell c recorded current) stale new (Ok reply) told =
    inr (inr (inl (has.job, c, recorded, current, has.is_job, stale.0, stale.1, told.0, told.1)))
stale_told m run number at has d stale new (Err e) told = tt
