-- What is left was there before.
use Rattle.std.proofs.Common.{rules, ℕ, ◌<◌, length, subst}
use Rattle.std.specs.Prelude.{Contains}
use Rattle.trace_record.specs.Runs.{Recorded}
use Rattle.machine_cases.proofs.Kept.{left_within}
use Rattle.machine_cases.proofs.driver.taken.Goals as goal

pub returns-clause-rest : goal.returns-clause-rest
returns-clause-rest c n run d =
    let within : c.in_ok-at.at < length c.args.runs.now.items = search rules in
    left_within c.args.runs.now.items c.in_ok-at.at c.swap_remove-run.result (n, run) within c.swap_remove-run.ensures.value
    (subst (λ xs. Contains {X = ℕ × Recorded} xs (n, run)) c.swap_remove-run.ensures.items d)
