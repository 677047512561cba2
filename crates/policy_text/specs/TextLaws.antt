-- What follows of a policy's text.
use Rattle.std.specs.Prelude.{◌≡◌, ℕ, ◌≤◌, List, length, map}
use Rattle.maple_base.specs.PolicyLimits.{most_bytes}
use Rattle.policy_lang.specs.declared.Policy.{Policy}
use Rattle.policy_lang.specs.Nodes.{nodes_of}
use Rattle.policy_lang.specs.PolicyTree.{policy_tree}
use Rattle.policy_grammar.specs.Grammar.{File}
use Rattle.policy_outline.specs.FileNodes.{file_nodes}
use Rattle.policy_text.specs.Printed.{policy_text}
use Rattle.policy_text.specs.Texts.{IsTextOf}
use Rattle.policy_tree.specs.Trees.{statements_acts}

-- a text is that of one policy: two policies that have it name the same tables, both learn hosts or neither does, and their bodies are one tree. So they end the same on each packet, read and ask the same, and are printed the same
abbrev pub OnePolicy : Type 0
OnePolicy = (text : List ℕ) (p q : Policy) → IsTextOf p text → IsTextOf q text → policy_tree p ≡ policy_tree q

-- where the printed form of a policy has at most 65,536 bytes, it is a text of that policy
abbrev pub IsReadBack : Policy → Type 0
IsReadBack p = length (policy_text p) ≤ most_bytes → IsTextOf p (policy_text p)

-- the nodes of a text are as many as those of its tree, and one by one as deep
abbrev pub NodesAgree : Type 0
NodesAgree = (f : File) → map (λ x. x.depth) (file_nodes f) ≡ map (λ x. x.depth) (nodes_of (statements_acts f.body))
