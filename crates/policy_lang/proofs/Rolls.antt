-- The tree of a statement with blocks.
use Rattle.std.proofs.Common.{◌≡◌, rules, ap, ◌∙◌, sym, List, [], ◌∷◌, ℕ, ◌<◌, ◌≤◌, zero, suc, length, get_or, arith}
use Rattle.std.specs.Prelude.{Option}
use Rattle.std.specs.Option.{option_map}
use Rattle.policy_lang.specs.declared.Expr.{Expr}
use Rattle.policy_lang.specs.declared.Head.{Head}
use Rattle.policy_lang.specs.declared.Block.{Block}
use Rattle.policy_lang.specs.declared.Statement.{Statement}
use Rattle.policy_lang.specs.declared.Statement.TheVariants as stmt
use Rattle.policy_lang.specs.declared.Statement.TheFolds.{the_lemmas}
use Rattle.policy_lang.specs.Tree.{Out, While}
use Rattle.policy_lang.specs.TreeOf.{term_of, terms_of, ask_of, if_or_else, act_of, acts_of, tree_of}
use Rattle.policy_lang.specs.Sizes.{act_size, acts_size}

act_of-If : (h : Head) (b : Block) (o : Option Block) → act_of (stmt.If h b o) ≡ if_or_else (ask_of h) (tree_of b) (option_map tree_of o)
act_of-If h b o = search (rules, the_lemmas)

act_of-While : (e : Expr) (b : Block) → act_of (stmt.While e b) ≡ While (term_of e) (tree_of b)
act_of-While e b = search (rules, the_lemmas)

act_of-Out : (es : List Expr) → act_of (stmt.Out es) ≡ Out (terms_of es)
act_of-Out es = search (rules, the_lemmas)

pub out_tree : (s : Statement) (es : List Expr) → s ≡ stmt.Out es → Out (terms_of es) ≡ act_of s
out_tree s es q = sym (ap act_of q ∙ act_of-Out es)

pub if_tree : (s : Statement) (h : Head) (b : Block) (o : Option Block) → s ≡ stmt.If h b o → if_or_else (ask_of h) (tree_of b) (option_map tree_of o) ≡ act_of s
if_tree s h b o q = sym (ap act_of q ∙ act_of-If h b o)

pub while_tree : (s : Statement) (e : Expr) (b : Block) → s ≡ stmt.While e b → While (term_of e) (tree_of b) ≡ act_of s
while_tree s e b q = sym (ap act_of q ∙ act_of-While e b)

-- a statement has no more nodes than all of them
pub act_within : (ss : List Statement) (k : ℕ) (s : Statement) → k < length ss → s ≡ get_or ss k s → act_size (act_of s) ≤ acts_size (acts_of ss)
act_within [] k s h q = absurd (omega (arith, h))
act_within (t ∷ ss) zero s h q = let e = ap (λ s. act_size (act_of s)) q in omega (arith, e)
act_within (t ∷ ss) (suc k) s h q = let e = act_within ss k s (omega (arith, h)) q in omega (arith, e)
