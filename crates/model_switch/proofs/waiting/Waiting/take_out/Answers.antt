use Rattle.std.proofs.Common.{◌≡◌, ◌<◌, ◌-◌, arith}
use Rattle.std.specs.List.{remove}
use Rattle.model_switch.specs.States.{free_count}
use Rattle.model_switch.specs.Kept.{waiting}
use Rattle.model_switch.proofs.Lists.{all_without, free_without}
use Rattle.model_switch.proofs.waiting.Waiting.take_out.Goals as goal

pub invariant_of-self : goal.invariant_of-self
invariant_of-self c =
    let ms = waiting c.self.inside in
    let free = c.self.invariant.free in
    let before : c.args.place < free_count ms = omega arith in
    let count : c.self.inside.free - 1 ≡ free_count (remove ms c.args.place) = omega (arith, free_without ms c.args.place before) in
    record { free = rw c.remove_boxed.ensures count; sent = rw c.remove_boxed.ensures (all_without ms c.args.place c.self.invariant.sent) }
