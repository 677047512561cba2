use Rattle.std.proofs.Common.{◌≡◌, ◌+◌, ◌-◌, ◌<◌, length, refl, arith}
use Rattle.std.specs.Vec.{vec_len}
use Rattle.policy_outline.specs.Counts.{one_ended}
use Rattle.policy_outline.proofs.Growing.{set_last, one_of}
use Rattle.policy_outline.proofs.counter.end_last.Goals as goal

pub end-requires : goal.end-requires
end-requires c =
    let cs = c.args.counts.now.items in
    let n = vec_len c.args.counts.now - 1 in
    let within : n < length cs = omega (arith, c.args.counts.now.ok.0, c.in-Some.ensures.variant.0 refl) in
    omega (arith, one_of (λ d. d.ended) cs n c.in-Some.last.now within c.in-Some.ensures.value)

pub returns-in-Some : goal.returns-in-Some
returns-in-Some c =
    let cs = c.args.counts.now.items in
    let n = vec_len c.args.counts.now - 1 in
    let last : n + 1 ≡ length cs = omega (arith, c.args.counts.now.ok.0, c.in-Some.ensures.variant.0 refl) in
    set_last (λ d. one_ended d) cs n c.in-Some.last.now c.end.new.self last c.in-Some.ensures.value c.end.ensures
