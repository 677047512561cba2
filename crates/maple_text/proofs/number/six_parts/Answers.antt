use Rattle.maple_text.proofs.Addresses.{seven_parts}
use Rattle.maple_text.proofs.number.six_parts.Goals as goal

pub returns-in-Some : goal.returns-in-Some
returns-in-Some c =
    rw (c.cut.ensures.parts, c.in_ok-rest.was, c.cut-2.ensures.parts, c.in_ok-rest-2.was, c.cut-3.ensures.parts, c.in_ok-rest-3.was, c.cut-4.ensures.parts, c.in_ok-rest-4.was, c.cut-5.ensures.parts, c.in_ok-rest-5.was, c.cut-6.ensures.parts, c.in-Some.is)
    (seven_parts c.cut.result.0.now c.cut-2.result.0.now c.cut-3.result.0.now c.cut-4.result.0.now c.cut-5.result.0.now c.cut-6.result.0.now c.in-Some.field-0.now)
