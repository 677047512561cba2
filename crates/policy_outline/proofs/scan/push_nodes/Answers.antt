use Rattle.std.proofs.Common.{◌≡◌, ◌+◌, ◌-◌, ◌<◌, [], ◌∷◌, ◌++◌, ap, ◌∙◌, arith}
use Rattle.policy_lang.specs.Nodes.{node}
use Rattle.policy_outline.specs.Scanning.{nodes_at}
use Rattle.policy_outline.proofs.CountedLimits.{one_node}
use Rattle.policy_outline.proofs.scan.push_nodes.Goals as goal

pub loop-number-preserved : goal.loop-number-preserved
loop-number-preserved c =
    let xs = c.loop-number.nodes.items in
    let i = c.args.token in
    let named = i + c.name.result in
    let b = c.loop-number.number in
    let e = c.args.ended in
    let last = c.args.begun + c.begun.result in
    let w = c.loop-number.outer in
    let fewer : last - (b + 1) ≡ last - b - 1 = omega arith in
    let some : 0 < last - b = omega (arith, c.loop-number-test.true) in
    ap (λ us. us ++ nodes_at i i named (b + 1) e (last - (b + 1))) (c.in_ok-push.ensures.items ∙ ap (λ d. xs ++ node w i named d ∷ []) c.saturating_sub.ensures)
    ∙ ap (λ n. (xs ++ node w i named (b + 1 - e) ∷ []) ++ nodes_at i i named (b + 1) e n) fewer
    ∙ one_node xs w i named b e (last - b) some
    ∙ c.loop-number.invariant
