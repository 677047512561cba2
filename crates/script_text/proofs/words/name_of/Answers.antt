use Rattle.maple_base.specs.Names.{is_name}
use Rattle.script_text.proofs.Ends.{by_test}
use Rattle.script_text.proofs.words.name_of.Goals as goal

pub returns : goal.returns
returns c = by_test c.new.result (is_name c.args.word.now) c.args.word.now c.new.ensures.accepted c.new.ensures.text
