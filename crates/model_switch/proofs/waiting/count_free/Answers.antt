use Rattle.std.proofs.Common.{◌<◌, length, ap, arith}
use Rattle.model_switch.proofs.Lists.{free_here}
use Rattle.model_switch.proofs.waiting.count_free.Goals as goal

pub returns-then-is_barrier : goal.returns-then-is_barrier
returns-then-is_barrier c =
    let items = c.args.list.now.items in
    let within : c.loop-i.i < length items = omega arith in
    let here = free_here (λ b. b.value) items c.loop-i.i c.index.result.now within c.index.ensures in
    let stops = ap (λ m. m.body) c.deref.ensures in
    grind (arith, c.loop-i.invariant)

pub loop-i-preserved : goal.loop-i-preserved
loop-i-preserved c =
    let items = c.args.list.now.items in
    let within : c.loop-i.i < length items = omega arith in
    let here = free_here (λ b. b.value) items c.loop-i.i c.index.result.now within c.index.ensures in
    let stops = ap (λ m. m.body) c.deref.ensures in
    grind (arith, c.loop-i.invariant)
