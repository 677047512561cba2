use Rattle.policy_text.specs.Printed.{policy_text}
use Rattle.maple_top.proofs.Endings.{nothing_front}
use Rattle.maple_top.proofs.policies.put_policy.Goals as goal

pub returns-in_default-clause-ends : goal.returns-in_default-clause-ends
returns-in_default-clause-ends g c = nothing_front (g.O.Sink.tells c.args.output.now) (policy_text c.args.policy.now)
