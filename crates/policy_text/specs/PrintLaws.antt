-- What holds of the printed form of each policy.
use Rattle.std.specs.Prelude.{◌≡◌, ℕ, ◌≤◌, ◌↔◌, map, [], length, All}
use Rattle.maple_base.specs.PolicyLimits.{most_bytes, most_tables}
use Rattle.policy_lang.specs.Sound.{IsSound}
use Rattle.policy_lang.specs.Tree.{Term}
use Rattle.policy_lang.specs.Nodes.{level_of, acts_nodes, nodes_of, AreFree}
use Rattle.policy_lang.specs.PolicyTree.{PolicyTree}
use Rattle.policy_tokens.specs.Faults.{faults}
use Rattle.policy_tokens.specs.Tokens.{tokens_of}
use Rattle.policy_grammar.specs.Grammar.{IsPhrase, AreStatements, file_tokens}
use Rattle.policy_outline.specs.FileNodes.{body_first, file_nodes}
use Rattle.policy_outline.specs.Limits.{IsFree}
use Rattle.policy_tree.specs.Trees.{file_tree}
use Rattle.policy_text.specs.Printed.{text_of}
use Rattle.policy_text.specs.Parentheses.{dropped}
use Rattle.policy_text.specs.Written.{in_group, phrase_of, file_of}

-- the grammar has an expression at a place of this least level without parentheses exactly where its level is high enough: so no pair of parentheses is missing
abbrev pub ParenthesesMustStand : Type 0
ParenthesesMustStand = (e : Term) (least : ℕ) → least ≤ 5 → IsPhrase least (phrase_of e) ↔ (least ≤ level_of e)

-- with any pair of its parentheses dropped the grammar does not have what is written of an expression at a place of this least level
abbrev pub NoneCanBeDropped : Type 0
NoneCanBeDropped = (e : Term) (least : ℕ) → least ≤ 5 → All (λ a. ¬ (IsPhrase least a)) (dropped (in_group least (level_of e) (phrase_of e)))

-- the grammar has what is written of a policy, where its numbers and names are right
abbrev pub IsOfGrammar : Type 0
IsOfGrammar = (p : PolicyTree) → IsSound p.tables p.body → AreStatements (file_of p).body

-- and its tree is the one that was printed
abbrev pub IsTree : Type 0
IsTree = (p : PolicyTree) → IsSound p.tables p.body → file_tree (file_of p) ≡ p

-- the nodes of what is written are those of the tree, from the first token of its statements on; `nodes_of` has them from token 1 on
abbrev pub HasNodes : Type 0
HasNodes = (p : PolicyTree) → IsSound p.tables p.body → file_nodes (file_of p) ≡ acts_nodes p.body (body_first (file_of p)) 1

-- what is written passes no limit where the tree passes none and the tables are few
abbrev pub PassesNone : Type 0
PassesNone = (p : PolicyTree) → IsSound p.tables p.body → AreFree (nodes_of p.body) → length p.tables ≤ most_tables → IsFree (file_of p)

-- where the printed form has at most 65,536 bytes nothing is wrong with its bytes, words and signs, and its tokens are those of what is written
pub record IsSpelled (p : PolicyTree) : Type 0 where
  pub faultless : faults (text_of p) ≡ []
  pub tokens : map (λ t. t.token) (tokens_of (text_of p)).tokens ≡ file_tokens (file_of p)

abbrev pub SpelledAsWritten : Type 0
SpelledAsWritten = (p : PolicyTree) → IsSound p.tables p.body → length (text_of p) ≤ most_bytes → IsSpelled p
