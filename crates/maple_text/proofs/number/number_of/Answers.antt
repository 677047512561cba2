use Rattle.std.proofs.Common.{arith, rules}
use Rattle.maple_text.proofs.Digits.{too_great, ended}
use Rattle.maple_text.proofs.number.number_of.Goals as goal

pub returns-in_default : goal.returns-in_default
returns-in_default c = too_great c.loop-byte.number c.loop-byte.byte-index c.args.word.now c.loop-byte-test.true c.loop-byte.invariant.number (omega arith)

pub returns : goal.returns
returns c =
    ended c.loop-byte.number c.loop-byte.byte-index c.args.word.now (omega arith) (search rules) c.loop-byte.invariant.digits c.loop-byte.invariant.number c.loop-byte.invariant.fits
