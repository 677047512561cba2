use Rattle.std.proofs.Common.{sym}
use Rattle.policy_lang.specs.TreeOf.{term_of}
use Rattle.policy_lang.proofs.NodeChains.{deep_now}
use Rattle.policy_lang.proofs.nodes.+deep_in.Goals as goal

pub returns-then-depth-gt-DEEPEST : goal.returns-then-depth-gt-DEEPEST
returns-then-depth-gt-DEEPEST t c = sym (deep_now (term_of c.args.expr.now) c.args.node c.args.depth c.if-depth-gt-DEEPEST.true)
