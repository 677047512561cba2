use Rattle.script_text.proofs.Ends.{past_four}
use Rattle.script_text.proofs.words.four_words.Goals as goal

pub returns-in-Some : goal.returns-in-Some
returns-in-Some c =
    rw (c.cut.ensures.parts, c.in_ok-rest.was, c.cut-2.ensures.parts, c.in_ok-rest-2.was, c.cut-3.ensures.parts, c.in_ok-rest-3.was, c.cut-4.ensures.parts, c.in-Some.is)
    (past_four 32 c.cut.result.0.now c.cut-2.result.0.now c.cut-3.result.0.now c.cut-4.result.0.now c.in-Some.field-0.now)
