-- How many nodes a body has.
use Rattle.std.specs.Prelude.{◌≡◌, ℕ, ◌≤◌, List, length}
use Rattle.maple_base.specs.PolicyLimits.{most_nodes}
use Rattle.policy_lang.specs.Tree.{Acts}
use Rattle.policy_lang.specs.Nodes.{nodes_of}
use Rattle.policy_lang.specs.Sizes.{acts_size}
use Rattle.policy_lang.specs.Faults.{IsWellFormed}

-- a well formed body has at most 4,096 nodes
abbrev pub FewNodes : Type 0
FewNodes = (tables : List (List ℕ)) (body : Acts) → IsWellFormed tables body → acts_size body ≤ most_nodes

-- the nodes of a body are as many as its statements, heads and expressions count, by which faults are numbered
abbrev pub CountsNodes : Type 0
CountsNodes = (body : Acts) → length (nodes_of body) ≡ acts_size body
