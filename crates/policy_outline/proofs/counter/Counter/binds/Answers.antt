use Rattle.std.proofs.Common.{◌≡◌, true, ap, arith}
use Rattle.policy_outline.specs.Bounds.{ended_in}
use Rattle.policy_outline.specs.Counting.{Counter}
use Rattle.policy_outline.proofs.Growing.{name_moves}
use Rattle.policy_outline.proofs.counter.Counter.binds.Goals as goal

pub end_last-requires : goal.end_last-requires
end_last-requires c =
    let cs = c.self.inside.counts.items in
    let adds = name_moves true c.self.inside.head c.saturating_sub-name.result cs in
    let viewed : ended_in cs ≡ ended_in c.args.self.now.counts = ap (λ (x : Counter). ended_in x.counts) c.self.view_is in
    omega (arith, ap ended_in c.name_at.ensures, adds.ended, viewed, c.requires.within.ended)
