-- The lines of the second block of an `if`, if there is one.
use Rattle.std.specs.Prelude.{Option}
use Rattle.std.specs.Option.{option_map}
use Rattle.policy_lang.specs.declared.Block.{Block}
use Rattle.policy_lang.specs.TreeOf.{tree_of}
use Rattle.policy_text.specs.Printed.{Lines, acts_text}

abbrev pub else_lines : Option Block → Option Lines
else_lines o = option_map (λ b. acts_text (tree_of b)) o
