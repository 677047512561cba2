-- Behind the reply that ends the work on a packet no open job has its number, switch and key.
use Rattle.std.proofs.Common.{◌≡◌, ℕ, ◌==◌, Bool, List, sym, refl, ap, ◌∙◌, subst, arith, true, Some, None, inl, inr}
use Rattle.std.specs.Prelude.{not, filter, Contains}
use Rattle.std.proofs.lemmas.Bool.Decides.{nat_tests}
use Rattle.std.proofs.lemmas.List.Elements.{All-contains, filter_passes}
use Rattle.maple_base.specs.declared.cells.Cell.{Cell}
use Rattle.maple_base.specs.declared.cells.Value.{Value}
use Rattle.maple_base.specs.declared.decision.Outcome.{Outcome}
use Rattle.maple_base.specs.declared.decision.Outcome.TheVariants.{Decided, Spent as SpentRun}
use Rattle.maple_base.specs.declared.items.Item.{Item}
use Rattle.maple_base.specs.declared.key.Key.{Key}
use Rattle.report_text.specs.declared.line.Line.{Line}
use Rattle.trace_record.specs.Runs.{Recorded}
use Rattle.machine_steps.specs.declared.job.Job.{Job}
use Rattle.machine_steps.specs.declared.reply.Reply.{Reply}
use Rattle.machine_steps.specs.declared.reply.Reply.TheVariants as replies
use Rattle.machine_steps.specs.declared.reply.Differs.{Differs}
use Rattle.machine_steps.specs.Machine.{State, tells}
use Rattle.machine_steps.specs.Steps.{Commits as CommitsTo, Concludes, Decides, IsJob, close_job}
use Rattle.machine_steps.specs.Waiting.{Waiting}
use Rattle.packet_workers.specs.declared.worked.Worked.{Worked}
use Rattle.packet_workers.specs.declared.worked.Worked.TheVariants as how
use Rattle.packet_workers.specs.Rounds.{HasNoJob, IsClosedBy, worked_by}

-- ---- replies that end nothing

not_concluded : (j : Job) (items : List Item) (cells : List (Cell × Value)) (o : Outcome) (old : State) (reply : Reply) (new : State) → Concludes j items cells o old reply new → worked_by reply ≡ None → ⊥
not_concluded j items cells SpentRun old reply new (r, e) none = let a = ap worked_by r in cc
not_concluded j items cells (Decided d) old reply new a none = let b = ap worked_by a.replies in cc

pub decides_ends : (job : ℕ) (old : State) (reply : Reply) (new : State) → Decides job old reply new → worked_by reply ≡ None → ⊥
decides_ends job old reply new (inl (none_such, r, e)) none = let a = ap worked_by r in cc
decides_ends job old reply new (inr (inl (j, is, a))) none = not_concluded j _ _ _ old reply new a none
decides_ends job old reply new (inr (inr (r, e))) none = let a = ap worked_by r in cc

pub commits_stale : (job : ℕ) (run : Recorded) (old : State) (reply : Reply) (new : State) → CommitsTo job run old reply new → worked_by reply ≡ None → (d : Differs) × (reply ≡ replies.Stale d)
commits_stale job run old reply new (inl (none_such, r, e)) none = absurd (let a = ap worked_by r in cc)
commits_stale job run old reply new (inr (inl (j, is, other, r, e))) none = (_, r)
commits_stale job run old reply new (inr (inr (inl (j, c, recorded, current, is, n, stale, r, e)))) none = (_, r)
commits_stale job run old reply new (inr (inr (inr (inl (j, is, n, fresh, a))))) none = absurd (not_concluded j run.items run.cells run.outcome old reply new a none)
commits_stale job run old reply new (inr (inr (inr (inr (r, e))))) none = absurd (let a = ap worked_by r in cc)

-- ---- the open jobs behind a last reply

closed_by : (item : Waiting) (worked : Worked) (m : State) → HasNoJob item m → IsClosedBy worked item m
closed_by item how.Answered m h = h
closed_by item how.Spent m h = h
closed_by item how.NotOpen m h = h
closed_by item how.Worn m h = tt
closed_by item how.NoMemory m h = tt

-- memory ran out
lacks : (item : Waiting) (worked : Worked) (reply : Reply) (m : State) → reply ≡ replies.NoMemory → worked_by reply ≡ Some worked → IsClosedBy worked item m
lacks item worked reply m r is =
    let same : how.NoMemory ≡ worked = (let a = ap worked_by r in cc) in
    let P : Worked → Type 0 = λ w. IsClosedBy w item m in
    subst P same tt

-- the job was closed
none_left : (item : Waiting) (j : Job) (kept new : State) (line : Line) → new ≡ tells line (close_job j kept) → j.number ≡ item.job → HasNoJob item new
none_left item j kept new line is same = λ i h.
    let other : Job → Bool = λ (k : Job). not (k.number == j.number) in
    let P : State → Type 0 = λ m. Contains m.jobs i in
    let left : not (i.number == j.number) ≡ true = All-contains (λ (k : Job). other k ≡ true) (filter other kept.jobs) i (filter_passes other kept.jobs) (subst P is h.there) in
    let number = h.number in
    grind (arith, nat_tests)

concluded : (item : Waiting) (j : Job) (items : List Item) (cells : List (Cell × Value)) (o : Outcome) (old : State) (reply : Reply) (new : State) → Concludes j items cells o old reply new
    → j.number ≡ item.job → HasNoJob item new
concluded item j items cells SpentRun old reply new (r, e) same = none_left item j old new _ e same
concluded item j items cells (Decided d) old reply new a same = none_left item j a.kept new _ a.now_is same

-- no open job was the run's
none_such_now : (item : Waiting) (run : Recorded) (old new : State) → ((j : Job) → ¬ (IsJob item.job run.switch run.key old j)) → run.switch ≡ item.switch → run.key ≡ item.key → new ≡ old → HasNoJob item new
none_such_now item run old new none switch key same = λ j h.
    none j (record {
      there = (let P : State → Type 0 = λ m. Contains m.jobs j in subst P same h.there);
      number = h.number;
      switch = h.switch ∙ sym switch;
      key = h.key ∙ sym key;
    })

pub commits_close : (item : Waiting) (run : Recorded) (worked : Worked) (old : State) (reply : Reply) (new : State) → CommitsTo item.job run old reply new → run.switch ≡ item.switch → run.key ≡ item.key
    → worked_by reply ≡ Some worked → IsClosedBy worked item new
commits_close item run worked old reply new (inl (none, r, e)) switch key is = closed_by item worked new (none_such_now item run old new none switch key e)
commits_close item run worked old reply new (inr (inl (j, job, other, r, e))) switch key is = absurd (let a = ap worked_by r in cc)
commits_close item run worked old reply new (inr (inr (inl (j, c, recorded, current, job, n, stale, r, e)))) switch key is = absurd (let a = ap worked_by r in cc)
commits_close item run worked old reply new (inr (inr (inr (inl (j, job, n, fresh, a))))) switch key is =
    closed_by item worked new (concluded item j run.items run.cells run.outcome old reply new a job.number)
commits_close item run worked old reply new (inr (inr (inr (inr (r, e))))) switch key is = lacks item worked reply new r is

pub decides_close : (item : Waiting) (worked : Worked) (old : State) (reply : Reply) (new : State) → Decides item.job old reply new → worked_by reply ≡ Some worked → IsClosedBy worked item new
decides_close item worked old reply new (inl (none, r, e)) is =
    closed_by item worked new (λ j h. none j (let P : State → Type 0 = λ m. Contains m.jobs j in subst P e h.there) h.number)
decides_close item worked old reply new (inr (inl (j, job, a))) is = closed_by item worked new (concluded item j _ _ _ old reply new a job.number)
decides_close item worked old reply new (inr (inr (r, e))) is = lacks item worked reply new r is
