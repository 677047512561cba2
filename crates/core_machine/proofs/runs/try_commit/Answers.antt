use Rattle.std.proofs.Common.{subst}
use Rattle.core_machine.specs.Concluding.{HasJobOf}
use Rattle.core_machine.proofs.Committing.{not_open, stale_told}
use Rattle.core_machine.proofs.runs.try_commit.Goals as goal

pub returns-in_default-clause-commits : goal.returns-in_default-clause-commits
returns-in_default-clause-commits c =
    not_open c.args.parts.now c.args.run c.args.number c.switch.result c.key.result.now c.switch.ensures c.key.ensures c.in_default.ensures

pub returns-in-Some-difference-clause-commits : goal.returns-in-Some-difference-clause-commits
returns-in-Some-difference-clause-commits c =
    let m = c.args.parts.now in
    let at = c.in-Some.at in
    let has = subst (λ n. HasJobOf c.args.number n c.args.run.key at m) c.switch.ensures (subst (λ k. HasJobOf c.args.number c.switch.result k at m) c.key.ensures c.in-Some.ensures) in
    stale_told m c.args.run c.args.number at has c.in-Some-difference.differs c.in-Some-difference.ensures c.tell_stale.new.parts c.tell_stale.result c.tell_stale.ensures.reply
