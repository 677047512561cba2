use Rattle.std.proofs.Common.{drop, length, ◌≤◌, ap, arith}
use Rattle.maple_io.proofs.Copies.{all_from, copied}
use Rattle.maple_io.proofs.memory.copy_from.Goals as goal

pub returns-clause-bytes : goal.returns-clause-bytes
returns-clause-bytes c =
    let fits : c.min-count.result ≤ length (drop c.args.at c.args.content.now) =
    omega (arith, ap length (all_from c.args.content.now c.args.at)) in
    rw (c.copy_from_slice.ensures.after, all_from c.args.content.now c.args.at)
    (copied c.args.content.now (drop c.min-count.result c.args.into.now) c.args.at c.min-count.result fits)
