use Rattle.maple_top.proofs.Faults.{refusal_is}
use Rattle.maple_top.proofs.policies.policy_of.Goals as goal

pub returns-in-Some-clause-refused : goal.returns-in-Some-clause-refused
returns-in-Some-clause-refused c =
    refusal_is c.args.text.now c.in-Err-Refused.line c.in-Err-Refused.column c.in-Err-Refused.kind c.in-Some.fault (rw c.in-Err-Refused.field-0-is at c.in-Err-Refused.ensures.refused) (rw c.in-Err-Refused.kind-is at c.in-Some.ensures)
