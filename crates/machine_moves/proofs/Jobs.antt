-- Which packets wait behind a message, and behind a run that was recorded for the one that waits.
use Rattle.std.proofs.Common.{◌≡◌, ◌⊎◌, ℕ, ◌≤◌, Bool, true, false, cond, List, [], ◌∷◌, ◌++◌, length, refl, sym, ap, ◌∙◌, subst, inl, inr, arith}
use Rattle.std.specs.Prelude.{◌==◌, not, filter, Contains}
use Rattle.std.proofs.lemmas.Bool.{and_parts, eq-eqb, eqb-true}
use Rattle.std.proofs.lemmas.Option.{none-some}
use Rattle.maple_base.specs.declared.cells.Cell.{Cell}
use Rattle.maple_base.specs.declared.cells.Value.{Value}
use Rattle.maple_base.specs.declared.decision.Outcome.{Outcome}
use Rattle.maple_base.specs.declared.decision.Outcome.TheVariants.{Decided, Spent as SpentRun}
use Rattle.maple_base.specs.declared.items.Item.{Item}
use Rattle.trace_record.specs.Runs.{Recorded}
use Rattle.update_plan.proofs.Members.{here}
use Rattle.switch_session.specs.declared.told.Heard.{Heard}
use Rattle.machine_steps.specs.declared.entry.Entry.TheVariants as entries
use Rattle.machine_steps.specs.declared.entry.Input.{Input}
use Rattle.machine_steps.specs.declared.job.Job.{Job}
use Rattle.machine_steps.specs.declared.reply.Reply.{Reply}
use Rattle.machine_steps.specs.declared.reply.Reply.TheVariants.{NoMemory, Job as JobOpened, Overload}
use Rattle.machine_steps.specs.Machine.{Session, State, most_jobs, is_open, is_of}
use Rattle.machine_steps.specs.Effects.{tells_packet, Hearing}
use Rattle.machine_steps.specs.Steps.{IsJob, Concludes, Commits}
use Rattle.machine_steps.proofs.Changes.{JobsBy, kept_rest, changes}
use Rattle.machine_steps.proofs.Changes.JobsBy.{Left, AreMany, Added}
use Rattle.machine_steps.proofs.Sound.Zipped.{find_passes}
use Rattle.machine_moves.specs.Told.{WaitsAs, JobsAreTold, IsFresh, is_answer, FreshRunsAnswer}
use Rattle.machine_moves.proofs.ReplyEntries.{left_none}
use Rattle.machine_moves.proofs.Heard.{becomes}

-- ---- a message

waits_none : (c : ℕ) (reply : Reply) (jobs : List Job) → tells_packet reply ≡ false → jobs ≡ [] → WaitsAs c reply jobs
waits_none c (JobOpened item) jobs t e = absurd (cc)
waits_none c Overload jobs t e = absurd (cc)
waits_none c other jobs t e = e

-- what is heard is of the session's connection
heard_by : (old : State) (c : ℕ) (i : Input) (h : Heard) (t : Session) → Hearing old (entries.Heard c i) h t → t.connection ≡ c
heard_by old c i h t from =
    let s = from.session in
    let m = from.message in
    let parts = and_parts (s.connection == from.connection) (is_open s) (find_passes (is_of from.connection) old.sessions s from.there) in
    let same : from.connection ≡ c = (let is = from.is in cc) in
    (becomes s parts.1 m.xid m.body h t from.hears).connection ∙ eqb-true s.connection from.connection parts.0 ∙ same

pub jobs_are_told : JobsAreTold
jobs_are_told old c i reply new none steps = go (changes old (entries.Heard c i) reply new steps).jobs
  where
    go : JobsBy old (entries.Heard c i) reply new → WaitsAs c reply new.jobs
    go (Left untold count left) = waits_none c reply new.jobs untold (left_none old.jobs new.jobs left none)
    go (AreMany r count many e) = (let some = subst (λ (js : List Job). most_jobs ≤ length js) none many in absurd (omega (arith, some)))
    go (Added h t j from r its number count e) = subst (λ a. WaitsAs c a new.jobs) (sym r) (j, e ∙ ap (λ js. js ++ j ∷ []) none, refl, its ∙ heard_by old c i h t from)

-- ---- a run that was recorded just now

module _ (job : ℕ) (run : Recorded) (old : State) (fresh : IsFresh job run old) (reply : Reply) (new : State) where
  abbrev Answers : Type 0
  Answers = ((is_answer reply ≡ true) × (new.jobs ≡ [])) ⊎ ((reply ≡ NoMemory) × (new ≡ old))

  waits : IsJob job run.switch run.key old fresh.one
  waits = record { there = subst (λ js. Contains js fresh.one) (sym fresh.waits) (here fresh.one []); number = fresh.number; switch = fresh.switch; key = fresh.key }

  -- the one that waits is closed
  module _ (j : Job) (number : j.number ≡ job) where
    abbrev others : Job → Bool
    others i = not (i.number == j.number)

    none_left : (jobs : List Job) → jobs ≡ old.jobs → filter others jobs ≡ []
    none_left jobs same =
        ap (filter others) (same ∙ fresh.waits) ∙ ap (λ b. cond b (fresh.one ∷ []) []) (ap not (eq-eqb fresh.one.number j.number (fresh.number ∙ sym number)))

    concludes : (items : List Item) (cells : List (Cell × Value)) (o : Outcome) → Concludes j items cells o old reply new → Answers
    concludes items cells SpentRun (r, e) = inl (ap is_answer r, ap (λ (n : State). n.jobs) e ∙ none_left old.jobs refl)
    concludes items cells (Decided d) a = inl (ap is_answer a.replies, ap (λ (n : State). n.jobs) a.now_is ∙ none_left a.kept.jobs (ap (λ (n : State). n.jobs) (kept_rest a.learns j _ _ old a.kept a.keeps)))

  commits : Commits job run old reply new → Answers
  commits (inl (none_such, r, e)) = absurd (none_such fresh.one waits)
  commits (inr (inl (j, is, other, r, e))) = absurd (other fresh.policy)
  commits (inr (inr (inl (j, c, recorded, current, is, n, stale, r, e)))) = absurd (none-some (c, recorded, current) (sym fresh.cells ∙ stale))
  commits (inr (inr (inr (inl (j, is, n, current, a))))) = concludes j is.number run.items run.cells run.outcome a
  commits (inr (inr (inr (inr l)))) = inr l

pub fresh_runs_answer : FreshRunsAnswer
fresh_runs_answer old job run reply new fresh steps = commits job run old fresh reply new steps
