-- What was recorded is a run.
use Rattle.std.proofs.Common.{◌≡◌, true}
use Rattle.std.specs.List.{list_all}
use Rattle.policy_lang.specs.TreeOf.{tree_of}
use Rattle.policy_meaning.specs.Cells.{is_of_kind}
use Rattle.policy_meaning.specs.QuestionLaws.{IsTrace, AsksFew, TracesEndSo}
use Rattle.policy_meaning.specs.PolicyLaws.{begins_at, decides_ports, BeginsHere, DecidesPorts, AsksWithinBudget}
use Rattle.policy_eval.specs.Answers.{IsBudget}
use Rattle.trace_record.specs.Runs.{Recorded, meaning_of, IsRun}

-- its trace is that of its own key in some environment
pub is_run : AsksFew → TracesEndSo → BeginsHere → DecidesPorts → AsksWithinBudget → (run : Recorded) → IsBudget run.budget
    → IsTrace (meaning_of run) run.key run.items run.cells run.outcome → list_all is_of_kind run.cells ≡ true → IsRun run
is_run few ends begins ports asks run budget t kinds =
    let c = meaning_of run in
    let body = tree_of run.policy.body in
    let env = t.some.0 in
    let own = t.law run.key t.valid t.own env t.some.1 in record {
      trace = t;
      budget = budget;
      kinds = kinds;
      begins = rw (← own.outcome) (ends (begins_at run.switch) c run.key env (begins body run.budget run.switch) t.valid (rw own.cells kinds));
      ports = rw (← own.outcome) (ends decides_ports c run.key env (ports body run.budget run.switch) t.valid (rw own.cells kinds));
      few = rw (← own.items) (few c run.budget run.key env (asks body run.budget run.switch) t.valid);
    }
