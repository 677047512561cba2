use Rattle.std.proofs.Common.{◌∙◌}
use Rattle.policy_grammar.proofs.Below.{top_below}
use Rattle.policy_grammar.proofs.stack.Stack.below.Goals as goal

pub returns-then-depth-count-clause-thing : goal.returns-then-depth-count-clause-thing
returns-then-depth-count-clause-thing g c =
    let items = c.self.inside.list.items in
    top_below items c.args.self.now c.len-count.result c.args.depth c.index.result.now c.self.view_is (c.len-count.ensures ∙ c.self.inside.list.ok.0) c.if-depth-count.true c.index.ensures
