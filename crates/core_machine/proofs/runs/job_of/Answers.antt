use Rattle.std.proofs.Common.{ap, sym, ◌∙◌, length, arith}
use Rattle.std.proofs.lemmas.Bool.{false≢true}
use Rattle.std.proofs.lemmas.Option.{slice_get_within}
use Rattle.machine_steps.specs.declared.job.Job.{Job}
use Rattle.machine_steps.specs.Machine.{State}
use Rattle.core_machine.proofs.Committing.{job_here, job_of, no_job_of}
use Rattle.core_machine.proofs.runs.job_of.Goals as goal

pub index-requires : goal.index-requires
index-requires c =
    let has = c.in-Some.ensures in
    omega (arith, slice_get_within c.args.parts.now.jobs c.in-Some.at has.job has.there, ap (λ (x : State). length x.jobs) c.parts.view_is, c.parts.inside.jobs.ok.0)

pub returns-then-is_of : goal.returns-then-is_of
returns-then-is_of c =
    let m = c.args.parts.now in
    let has = c.in-Some.ensures in
    let same = job_here m c.in-Some.at c.index.result.now has.job c.parts.inside.jobs.items (ap (λ (x : State). x.jobs) c.parts.view_is) has.there c.index.ensures in
    let both = c.is_of.ensures.0 c.if-is_of.true in
    job_of m c.args.number c.args.switch c.args.key.now c.in-Some.at has (ap (λ (x : Job). x.switch) (sym same) ∙ both.0) (ap (λ (x : Job). x.key) (sym same) ∙ both.1)

pub returns-else-is_of : goal.returns-else-is_of
returns-else-is_of c =
    let m = c.args.parts.now in
    let has = c.in-Some.ensures in
    let same = job_here m c.in-Some.at c.index.result.now has.job c.parts.inside.jobs.items (ap (λ (x : State). x.jobs) c.parts.view_is) has.there c.index.ensures in
    no_job_of m c.args.number c.args.switch c.args.key.now c.in-Some.at has c.requires.sound
    (λ both. false≢true (sym c.if-is_of.false ∙ c.is_of.ensures.1 (ap (λ (x : Job). x.switch) same ∙ both.0, ap (λ (x : Job). x.key) same ∙ both.1)))
