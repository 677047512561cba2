use Rattle.std.proofs.Common.{◌≡◌, ◌+◌, ap, slice_set, length, rules}
use Rattle.policy_lang.specs.TreeOf.{term_of}
use Rattle.policy_lang.specs.Nodes.{node}
use Rattle.policy_lang.proofs.NodeHeads.{binding_walked}
use Rattle.policy_lang.proofs.nodes.walk_binding.Goals as goal

pub returns-clause-walked : goal.returns-clause-walked
returns-clause-walked c =
    let x = node c.args.first c.args.first (c.in_ok-next.next + 1) c.args.depth in
    let at : c.len-head.result ≡ length c.args.out.now.items = search rules in
    binding_walked c.args.out.now.items c.begin.new.out.items (term_of c.args.expr.now) c.args.first c.args.depth c.in_ok-next.next c.walk_ended.new.out.items (slice_set c.walk_ended.new.out.items c.len-head.result x)
    c.requires.free c.in_ok-begin.ensures.begun.0 c.in_ok-next.ensures.walked (ap (λ k. slice_set c.walk_ended.new.out.items k x) at)
