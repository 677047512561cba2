-- What the parts of a policy are that are made of what was read.
use Rattle.std.specs.Prelude.{◌≡◌, List}
use Rattle.policy_lang.specs.TreeOf.{tree_of}
use Rattle.policy_grammar.specs.declared.event.Event.{Event}
use Rattle.policy_grammar.specs.Grammar.{File, AreStatements}
use Rattle.policy_grammar.specs.Events.{file_events}
use Rattle.policy_tree.specs.declared.building.PolicyParts.{PolicyParts}
use Rattle.policy_tree.specs.Trees.{statements_acts}

-- this was read of a file that the grammar has
pub record AreOfFile (es : List Event) : Type 0 where
  pub file : File
  pub body : AreStatements file.body
  pub same : es ≡ file_events file

-- the parts of a file
pub record ArePartsOf (f : File) (p : PolicyParts) : Type 0 where
  pub tables : p.tables.items ≡ f.tables
  pub learning : p.learning ≡ f.learning
  pub body : tree_of p.body ≡ statements_acts f.body

-- the parts of each file of which this was read
abbrev pub IsMade : List Event → PolicyParts → Type 0
IsMade es parts = (f : File) → AreStatements f.body → es ≡ file_events f → ArePartsOf f parts
