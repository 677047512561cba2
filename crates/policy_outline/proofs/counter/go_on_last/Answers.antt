use Rattle.std.proofs.Common.{◌≡◌, ◌+◌, ◌-◌, length, refl, arith}
use Rattle.std.specs.Vec.{vec_len}
use Rattle.policy_outline.specs.Counting.{one_less}
use Rattle.policy_outline.proofs.Growing.{set_last}
use Rattle.policy_outline.proofs.counter.go_on_last.Goals as goal

pub returns-in-Some : goal.returns-in-Some
returns-in-Some c =
    let cs = c.args.counts.now.items in
    let n = vec_len c.args.counts.now - 1 in
    let last : n + 1 ≡ length cs = omega (arith, c.args.counts.now.ok.0, c.in-Some.ensures.variant.0 refl) in
    set_last (λ d. one_less d) cs n c.in-Some.last.now c.go_on.new.self last c.in-Some.ensures.value c.go_on.ensures
