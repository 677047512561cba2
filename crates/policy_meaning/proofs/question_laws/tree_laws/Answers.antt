use Rattle.policy_meaning.proofs.Traces.{owns, alike, only_its_cells, on_one_path, no_clash}
use Rattle.policy_meaning.proofs.question_laws.tree_laws.Goals as goal

pub returns : goal.returns
returns c = record {
  own = owns;
  same = alike;
  cells = only_its_cells;
  one_path = on_one_path;
  no_clash = no_clash;
}
