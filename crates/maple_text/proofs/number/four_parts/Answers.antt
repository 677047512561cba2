use Rattle.maple_text.proofs.Addresses.{five_parts}
use Rattle.maple_text.proofs.number.four_parts.Goals as goal

pub returns-in-Some : goal.returns-in-Some
returns-in-Some c =
    rw (c.cut.ensures.parts, c.in_ok-rest.was, c.cut-2.ensures.parts, c.in_ok-rest-2.was, c.cut-3.ensures.parts, c.in_ok-rest-3.was, c.cut-4.ensures.parts, c.in-Some.is)
    (five_parts c.cut.result.0.now c.cut-2.result.0.now c.cut-3.result.0.now c.cut-4.result.0.now c.in-Some.field-0.now)
