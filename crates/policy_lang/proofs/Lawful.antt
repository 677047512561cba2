-- The laws of nodes.
use Rattle.std.proofs.Common.{ℕ, ◌≤◌, subst}
use Rattle.policy_lang.specs.Laws.{FewNodes, CountsNodes}
use Rattle.policy_lang.proofs.NodeCounts.{body_size}

pub few_nodes : FewNodes
few_nodes tables body formed = subst (λ n. n ≤ 4096) (body_size body) formed.free.few

pub counts_nodes : CountsNodes
counts_nodes = body_size
