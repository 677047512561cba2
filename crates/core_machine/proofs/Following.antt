-- What follows behind the line of a state, field by field.
use Rattle.std.proofs.Common.{◌≡◌, ℕ, List, Result, Ok, Err, IfOk, refl, sym, ◌∙◌, subst}
use Rattle.env_cells.specs.Environment.{Environment}
use Rattle.env_cells.specs.declared.updates.Update.{Update}
use Rattle.env_cells.specs.declared.updates.UpdateError.{UpdateError}
use Rattle.report_text.specs.declared.line.Line.{Line}
use Rattle.switch_traces.specs.Traces.{Learnings}
use Rattle.machine_steps.specs.declared.job.Job.{Job}
use Rattle.machine_steps.specs.declared.reply.Reply.{Reply}
use Rattle.machine_steps.specs.Machine.{Session, State, PolicyState}
use Rattle.core_machine.specs.declared.next.Next.{Next}
use Rattle.core_machine.specs.declared.next.Next.TheVariants as nexts
use Rattle.core_machine.specs.Following.{ReachesThen, count_behind, follows, jobs_behind, lines_behind}
use Rattle.core_machine.specs.Reaching.{ReachesBy}

by_field : (next : Next) (m : State) → record m { lines = lines_behind next m.lines; jobs = jobs_behind next m.jobs; job_count = count_behind next m.job_count } ≡ follows next m
by_field nexts.Nothing m = refl
by_field (nexts.Overload c) m = refl
by_field (nexts.Job j) m = refl

-- behind a state that was reached
pub followed : (m : State) (next : Next) (states : List PolicyState) (scene : Environment) (learned : List Learnings) (sessions : List Session) (lines : List Line) (jobs : List Job) (count : ℕ)
    → states ≡ m.states → scene ≡ m.scene → learned ≡ m.learned → sessions ≡ m.sessions
    → lines ≡ lines_behind next m.lines → jobs ≡ jobs_behind next m.jobs → count ≡ count_behind next m.job_count
    → record m { states = states; scene = scene; learned = learned; sessions = sessions; lines = lines; jobs = jobs; job_count = count } ≡ follows next m
followed m next states scene learned sessions lines jobs count a b c d e f g =
    (λ i. record m { states = a i; scene = b i; learned = c i; sessions = d i; lines = e i; jobs = f i; job_count = g i }) ∙ by_field next m

-- nothing does
nothing_more : (u : Update) (m : State) (reply : Reply) (new : State) → ReachesThen u nexts.Nothing m reply new → ReachesBy u m reply new
nothing_more u m reply new r = subst (ReachesBy u m reply) (sym r.now_is) r.reaches

pub nothing_follows : (r : Result Reply UpdateError) (u : Update) (m new : State) → IfOk r (λ reply. ReachesThen u nexts.Nothing m reply new) → IfOk r (λ reply. ReachesBy u m reply new)
nothing_follows (Ok reply) u m new h = nothing_more u m reply new h
nothing_follows (Err e) u m new h = tt
