-- What other threads enter may stand where it stands.
use Rattle.std.proofs.Common.{◌≡◌, ◌⊎◌, ℕ, ◌+◌, ◌≤◌, ◌==◌, Bool, true, false, ◌||◌, map, List, [], ◌∷◌, ◌++◌, append-nil, refl, sym, ap, ◌∙◌, subst, inl, inr, ⊎_elim, arith}
use Rattle.std.specs.Prelude.{Contains}
use Rattle.std.proofs.lemmas.Bool.{cases_Bool, eq-eqb, eqb-true}
use Rattle.std.proofs.lemmas.List.{map-append}
use Rattle.std.proofs.lemmas.List.Elements.{Contains-push_cases}
use Rattle.trace_record.specs.Runs.{Recorded}
use Rattle.update_plan.proofs.Members.{in_filter, none_in}
use Rattle.history_lock.specs.Histories.{AreAllowed}
use Rattle.machine_steps.specs.declared.entry.Entry.{Entry}
use Rattle.machine_steps.specs.declared.entry.Entry.TheVariants as entries
use Rattle.machine_steps.specs.declared.job.Job.{Job}
use Rattle.machine_steps.specs.declared.reply.Reply.{Reply}
use Rattle.machine_steps.specs.declared.reply.Reply.TheVariants as replies
use Rattle.machine_steps.specs.Histories.{IsTurn, Leads, Turn}
use Rattle.machine_steps.specs.Machine.{State, opening}
use Rattle.machine_steps.specs.Steps.{Commits, Steps, item_of}
use Rattle.machine_steps.proofs.Changes.{AreLeft, JobsBy, changes}
use Rattle.machine_steps.proofs.Changes.JobsBy.{Added, AreMany, Left}
use Rattle.machine_sharing.specs.Legal.{call_of}
use Rattle.machine_sharing.specs.Sharing.{Allows, Call, stale_by, stale_count}
use Rattle.serve_steps.specs.Deeds.{Past, calls_of, turns_of}
use Rattle.serve_steps.specs.Deeds.Deed.{Enters, Does}
use Rattle.serve_steps.specs.Parts.{Given, IsFree, MayStand, opens_job_by, was_job}
use Rattle.serve_steps.specs.Laws.{OthersAreFree}
use Rattle.serve_steps.proofs.States.{front_leads, goes_on_from, last_is, turn_is}

-- ---- tests

or_first : (a b : Bool) → a ≡ true → (a || b) ≡ true
or_first true b e = refl
or_first false b e = absurd (cc)

or_more : (a b : Bool) → b ≡ true → (a || b) ≡ true
or_more true b e = refl
or_more false b e = e

-- ---- each open job was told

abbrev Known : Past → State → Type 0
Known past m = (j : Job) → Contains m.jobs j → was_job j.number past ≡ true

left_in : (js ks : List Job) (j : Job) → AreLeft js ks → Contains ks j → Contains js j
left_in js ks j (inl e) c = subst (λ (xs : List Job). Contains xs j) e c
left_in js ks j (inr (p, e)) c = (in_filter p js j (subst (λ (xs : List Job). Contains xs j) e c)).0

opened_now : (i j : Job) (reply : Reply) → reply ≡ replies.Job (item_of i) → i ≡ j → opens_job_by j.number reply ≡ true
opened_now i j reply r e = subst (λ (x : Job). opens_job_by x.number reply ≡ true) e (rw r (eq-eqb i.number i.number refl))

known_by : (past : Past) (t : Turn) → JobsBy t.before t.entry t.reply t.behind → Known past t.before → Known (Enters t ∷ past) t.behind
known_by past t (Left quiet count left) known j c =
    or_more (opens_job_by j.number t.reply) (was_job j.number past) (known j (left_in t.before.jobs t.behind.jobs j left c))
known_by past t (AreMany r count many same) known j c =
    or_more (opens_job_by j.number t.reply) (was_job j.number past) (known j (subst (λ (xs : List Job). Contains xs j) same c))
known_by past t (Added h s i hears r of number count e) known j c =
    ⊎_elim
    (λ d. or_more (opens_job_by j.number t.reply) (was_job j.number past) (known j d))
    (λ d. or_first (opens_job_by j.number t.reply) (was_job j.number past) (opened_now i j t.reply r d))
    (Contains-push_cases t.before.jobs i j (subst (λ (xs : List Job). Contains xs j) e c))

known_all : (g : Given) (past : Past) (m : State) → Leads (opening g.policy g.settings) (turns_of past) m → Known past m
known_all g [] m leads j c = absurd (none_in j (subst (λ (x : State). Contains x.jobs j) leads c))
known_all g (Does act ∷ past) m leads j c =
    known_all g past m (subst (λ (ts : List Turn). Leads (opening g.policy g.settings) ts m) (append-nil (turns_of past)) leads) j c
known_all g (Enters t ∷ past) m leads j c =
    known_by past t (changes t.before t.entry t.reply t.behind (turn_is (opening g.policy g.settings) m (turns_of past) t leads).steps).jobs
    (known_all g past t.before (front_leads (opening g.policy g.settings) m (turns_of past) t leads)) j
    (subst (λ (x : State). Contains x.jobs j) (sym (last_is (opening g.policy g.settings) m (turns_of past) t leads)) c)

told_job : (past : Past) (number : ℕ) (old : State) (j : Job) → Known past old → Contains old.jobs j → j.number ≡ number → was_job number past ≡ true
told_job past number old j known c e = subst (λ n. was_job n past ≡ true) e (known j c)

-- ---- commits

may_commit : (past : Past) (number : ℕ) (run : Recorded) (old : State) (reply : Reply) (new : State) → Commits number run old reply new → Known past old
    → MayStand (entries.Commit number run) reply past
may_commit past number run old reply new steps known =
    ⊎_elim
    (λ y. inr (rw (y.1) refl))
    (λ two. ⊎_elim
    (λ y. inl (told_job past number old (y.0) known ((y.1).there) ((y.1).number)))
    (λ three. ⊎_elim
    (λ y. inl (told_job past number old (y.0) known ((y.4).there) ((y.4).number)))
    (λ four. ⊎_elim
    (λ y. inl (told_job past number old (y.0) known ((y.1).there) ((y.1).number)))
    (λ y. inr (rw (y.0) refl))
    four)
    three)
    two)
    steps

-- ---- a job with a stale run was told

stale_job : (past : Past) (n : ℕ) (old : State) (entry : Entry) (reply : Reply) (new : State) → Steps old entry reply new → Known past old
    → (stale_by n entry reply ≡ 0) ⊎ (was_job n past ≡ true)
stale_job past n old (entries.Commit number run) (replies.Stale differs) new steps known =
    ⊎_elim
    (λ e. inr (subst (λ x. was_job x past ≡ true) (eqb-true number n e) (⊎_elim (λ told. told) (λ fails. absurd (cc)) (may_commit past number run old (replies.Stale differs) new steps known))))
    (λ e. inl (rw e refl))
    (cases_Bool (number == n))
stale_job past n old entry reply new steps known = inl refl

stale_on : (n : ℕ) (cs : List Call) (c : Call) → stale_count n (cs ++ c ∷ []) ≡ stale_count n cs + stale_by n c.entry c.reply
stale_on n [] c = omega arith
stale_on n (d ∷ cs) c = omega (arith, stale_on n cs c)

fewer : (m k s : ℕ) → 1 ≤ m → m ≡ k + s → s ≡ 0 → 1 ≤ k
fewer m k s h e f = omega (arith, h, e, f)

stale_known : (g : Given) (past : Past) (m : State) → Leads (opening g.policy g.settings) (turns_of past) m → (n : ℕ) → 1 ≤ stale_count n (calls_of past)
    → was_job n past ≡ true
stale_known g [] m leads n h = absurd (omega (arith, h))
stale_known g (Does act ∷ past) m leads n h =
    stale_known g past m (subst (λ (ts : List Turn). Leads (opening g.policy g.settings) ts m) (append-nil (turns_of past)) leads) n
    (subst (λ (ts : List Turn). 1 ≤ stale_count n (map call_of ts)) (append-nil (turns_of past)) h)
stale_known g (Enters t ∷ past) m leads n h =
    or_more (opens_job_by n t.reply) (was_job n past)
    (⊎_elim
    (λ e. stale_known g past t.before (front_leads (opening g.policy g.settings) m (turns_of past) t leads) n
    (fewer (stale_count n (calls_of (Enters t ∷ past))) (stale_count n (calls_of past)) (stale_by n t.entry t.reply) h
    (ap (λ (cs : List Call). stale_count n cs) (map-append call_of (turns_of past) (t ∷ [])) ∙ stale_on n (calls_of past) (call_of t)) e))
    (λ e. e)
    (stale_job past n t.before t.entry t.reply t.behind (turn_is (opening g.policy g.settings) m (turns_of past) t leads).steps
    (known_all g past t.before (front_leads (opening g.policy g.settings) m (turns_of past) t leads))))

-- ---- one entry, and all

at_least : (k : ℕ) → 3 ≤ k → 1 ≤ k
at_least k h = omega (arith, h)

free_by : (past : Past) (old : State) (entry : Entry) (reply : Reply) (new : State) → Steps old entry reply new → Known past old
    → ((n : ℕ) → 1 ≤ stale_count n (calls_of past) → was_job n past ≡ true) → Allows (calls_of past) entry
    → MayStand entry reply past
free_by past old (entries.ReadCell cell) reply new steps known stale allowed = tt
free_by past old entries.ReadPolicy reply new steps known stale allowed = tt
free_by past old entries.OpenJobs reply new steps known stale allowed = tt
free_by past old (entries.Commit job run) reply new steps known stale allowed =
    may_commit past job run old reply new steps known
free_by past old (entries.Decide job) reply new steps known stale allowed =
    (stale job (at_least (stale_count job (calls_of past)) allowed), allowed)
free_by past old entry reply new steps known stale allowed = absurd allowed

free_turn : (g : Given) (past : Past) (m : State) (t : Turn) → Leads (opening g.policy g.settings) (turns_of past) m → t.before ≡ m → IsTurn t
    → Allows (calls_of past) t.entry → IsFree (Enters t) past
free_turn g past m t leads e is allowed =
    free_by past t.before t.entry t.reply t.behind is.steps
    (subst (λ (x : State). Known past x) (sym e) (known_all g past m leads))
    (stale_known g past m leads) allowed

pub others_are_free : OthersAreFree
others_are_free g done ahead now last [] leads more allowed each = each
others_are_free g done ahead now last (t ∷ ts) leads more allowed each =
    others_are_free g (Enters t ∷ done) ahead t.behind last ts
    (goes_on_from (opening g.policy g.settings) now (done ++ ahead) t leads more.0 more.1)
    more.2
    (subst (λ (cs : List Call). AreAllowed Allows cs (map call_of ts)) (sym (map-append call_of (turns_of (done ++ ahead)) (t ∷ []))) allowed.1)
    (free_turn g (done ++ ahead) now t leads more.0 more.1 allowed.0, each)
