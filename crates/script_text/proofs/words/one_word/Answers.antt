use Rattle.script_text.proofs.Ends.{past_one}
use Rattle.script_text.proofs.words.one_word.Goals as goal

pub returns-in-Some : goal.returns-in-Some
returns-in-Some c = rw (c.cut.ensures.parts, c.in-Some.is) (past_one 32 c.cut.result.0.now c.in-Some.field-0.now)
