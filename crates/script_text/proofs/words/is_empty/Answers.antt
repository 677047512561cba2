use Rattle.script_text.proofs.Ends.{past_none}
use Rattle.script_text.proofs.words.is_empty.Goals as goal

pub returns : goal.returns
returns c = past_none c.args.rest c.is_none.result c.is_none.ensures
