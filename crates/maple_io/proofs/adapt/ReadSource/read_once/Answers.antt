use Rattle.std.proofs.Common.{arith}
use Rattle.maple_io.proofs.Ends.{ends_before}
use Rattle.maple_io.proofs.adapt.ReadSource.read_once.Goals as goal

pub returns-in-Ok-eq0-clause-bytes : goal.returns-in-Ok-eq0-clause-bytes
returns-in-Ok-eq0-clause-bytes g c =
    let none = rw c.in-Ok-eq0.field-0-test at c.in-Ok-eq0.ensures.bytes.0 in
    ends_before _ _ none (c.in-Ok-eq0.ensures.bytes.1 c.in-Ok-eq0.field-0-test (omega arith))
