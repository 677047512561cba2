use Rattle.std.proofs.Common.{arith}
use Rattle.model_switch.proofs.Lists.{free_within}
use Rattle.std.proofs.lemmas.Bool.{ltb-true}
use Rattle.world_places.proofs.pending.is_free_at.Goals as goal

pub returns-clause-within : goal.returns-clause-within
returns-clause-within c = λ e.
    let most = free_within c.args.pending.now in
    let before = ltb-true c.args.at c.count_free.result e in
    omega arith
