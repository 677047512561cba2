use Rattle.std.proofs.Common.{◌+◌, ◌<◌, ◌≤◌, length, inl, refl, ap, ◌∙◌, arith}
use Rattle.machine_steps.specs.Machine.{State, most_jobs}
use Rattle.core_machine.proofs.Packets.{job_opened}
use Rattle.core_machine.proofs.packet_ins.take_in.Goals as goal

pub returns-then-len-ge-MOST_JOBS-clause-taken : goal.returns-then-len-ge-MOST_JOBS-clause-taken
returns-then-len-ge-MOST_JOBS-clause-taken c =
    let then = c.in_ok-teach.ensures.taught in
    let many : most_jobs ≤ length c.args.parts.now.jobs = omega (arith, c.len.ensures, c.parts.inside.jobs.ok.0, ap (λ (m : State). length m.jobs) c.parts.view_is, c.if-len-ge-MOST_JOBS.true) in
    (then.taught, then.teaches, inl (many, refl, then.now_is))

pub returns-clause-taken : goal.returns-clause-taken
returns-clause-taken c =
    let few : length c.args.parts.now.jobs < most_jobs = omega (arith, c.len.ensures, c.parts.inside.jobs.ok.0, ap (λ (m : State). length m.jobs) c.parts.view_is, c.if-len-ge-MOST_JOBS.false) in
    job_opened c.args.connection c.args.switch c.args.key c.args.buffer c.args.frame c.kept_frame.result c.in_ok-number.number c.new.result c.args.parts.now c.teach-2.new.parts
    (c.in_ok-number.ensures ∙ ap (λ (m : State). m.job_count + 1) c.parts.view_is) c.kept_frame.ensures c.new.ensures few c.in_ok-teach-2.ensures.taught
