use Rattle.std.proofs.Common.{◌==◌, not, rules, tests}
use Rattle.std.proofs.lemmas.Fn.{filter_same}
use Rattle.machine_steps.specs.declared.job.Job.{Job}
use Rattle.machine_parts.proofs.end_lines.close.Goals as goal

pub returns-clause-jobs : goal.returns-clause-jobs
returns-clause-jobs c =
    filter_same _ (λ (j : Job). not (j.connection == c.args.connection)) _ (λ x b q k. search (rules, tests)) _ _ c.retain.ensures.filtered
