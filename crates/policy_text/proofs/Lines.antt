-- The lines of statements.
use Rattle.std.proofs.Common.{◌≡◌, ℕ, suc, add-one, ◌+◌, ◌<◌, List, ◌∷◌, ◌++◌, drop, length, get_or, sym, ap, ◌∙◌, append_assoc}
use Rattle.std.specs.Prelude.{Option, Some, None}
use Rattle.std.specs.Option.{option_map}
use Rattle.std.proofs.Math.Seq.{drop-cons}
use Rattle.policy_lang.specs.declared.Statement.{Statement}
use Rattle.policy_lang.specs.declared.Block.{Block}
use Rattle.policy_lang.specs.Tree.{Ask, Act, Acts}
use Rattle.policy_lang.specs.TreeOf.{act_of, acts_of, tree_of, if_or_else}
use Rattle.policy_text.specs.Printed.{if_text, act_text, acts_text}
use Rattle.policy_text.specs.Blocks.{else_lines}

-- an `if` with or without a second block
pub if_lines : (s : Act) (q : Ask) (b : Acts) (o : Option Block) (blocks : ℕ) → if_or_else q b (option_map tree_of o) ≡ s → if_text q (acts_text b) (else_lines o) blocks ≡ act_text s blocks
if_lines s q b None blocks h = ap (λ s. act_text s blocks) h
if_lines s q b (Some c) blocks h = ap (λ s. act_text s blocks) h

rest_of : (ss : List Statement) (k : ℕ) (s : Statement) → k < length ss → s ≡ get_or ss k s → drop k ss ≡ s ∷ drop (k + 1) ss
rest_of ss k s h q = drop-cons ss k s h ∙ ap (λ d. d ∷ drop (suc k) ss) (sym q) ∙ ap (λ j. s ∷ drop j ss) (sym (add-one k))

-- one more statement
pub rest_lines : (text : List ℕ) (ss : List Statement) (k : ℕ) (s : Statement) (blocks : ℕ) → k < length ss → s ≡ get_or ss k s
    → text ++ acts_text (acts_of (drop k ss)) blocks ≡ (text ++ act_text (act_of s) blocks) ++ acts_text (acts_of (drop (k + 1) ss)) blocks
rest_lines text ss k s blocks h q =
    ap (λ ss. text ++ acts_text (acts_of ss) blocks) (rest_of ss k s h q) ∙ sym (append_assoc text (act_text (act_of s) blocks) (acts_text (acts_of (drop (k + 1) ss)) blocks))
