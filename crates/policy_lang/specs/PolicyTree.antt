-- The plain tree of a whole policy.
use Rattle.std.specs.Prelude.{ℕ, Bool, List}
use Rattle.policy_lang.specs.declared.Policy.{Policy}
use Rattle.policy_lang.specs.Tree.{Acts}
use Rattle.policy_lang.specs.TreeOf.{tree_of}

-- the tables that it names, whether the controller learns hosts, and its statements
pub record PolicyTree : Type 0 where
  pub tables : List (List ℕ)
  pub learning : Bool
  pub body : Acts

abbrev pub policy_tree : Policy → PolicyTree
policy_tree p = record { tables = p.tables; learning = p.learning; body = tree_of p.body }
