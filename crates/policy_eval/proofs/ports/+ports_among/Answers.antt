use Rattle.std.proofs.Common.{◌≡◌, ◌==◌, not, filter, get_or, rules, tests, arith}
use Rattle.std.proofs.lemmas.Fn.{filter_same}
use Rattle.std.proofs.lemmas.Grind.{common_steps}
use Rattle.policy_eval.proofs.ports.+ports_among.Goals as goal
use Rattle.policy_eval.proofs.ports.+ports_among.Goals.{then-is_port+in_ok-insert, else-is_port}

pub returns-clause-ports : goal.returns-clause-ports
returns-clause-ports t c =
    elim c.if-is_port.branch [
      | then-is_port+in_ok-insert w ↦
          let number = get_or c.args.numbers.now 0 0 in
          let kept : w.retain.new.self.items ≡ filter (λ p. not (p == number)) c.in_ok-ports.ports.items = filter_same _ (λ p. not (p == number)) _ (λ x b q k. search (rules, tests)) _ _ w.retain.ensures.filtered in
          grind (arith, common_steps)
      | else-is_port w ↦ grind (arith, common_steps)
    ]
