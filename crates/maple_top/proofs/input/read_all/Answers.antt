use Rattle.std.proofs.Common.{arith, inl, inr}
use Rattle.maple_io.proofs.Reading.{end_told, read_failed}
use Rattle.maple_top.proofs.Answered.{few_ahead, heard_so, reading_of}
use Rattle.maple_top.proofs.Known.{some_more}
use Rattle.maple_top.proofs.input.read_all.Goals as goal

pub returns-in-End-clause-heard : goal.returns-in-End-clause-heard
returns-in-End-clause-heard g c =
    end_told (g.I.Source.tells c.args.input.now) (g.I.Source.tells c.reading.input) (g.I.Source.tells c.read.new.self) c.reading.all.items c.reading.invariant.heard
    c.in-End.ensures.answers

pub returns-in-End-clause-reading : goal.returns-in-End-clause-reading
returns-in-End-clause-reading g c =
    reading_of (g.I.Source.tells c.args.input.now) (g.I.Source.tells c.read.new.self) c.reading.all.items c.reading.invariant.most
    (few_ahead (g.I.Source.tells c.args.input.now) (g.I.Source.tells c.reading.input) (g.I.Source.tells c.read.new.self) c.reading.all.items _ c.reading.invariant.heard
    (omega (arith, c.reading-test.true)) c.in-End.ensures.answers) (returns-in-End-clause-heard g c) (λ heard e. inr (inl e))

pub returns-in-Failed-clause-heard : goal.returns-in-Failed-clause-heard
returns-in-Failed-clause-heard g c =
    heard_so (g.I.Source.tells c.args.input.now) (g.I.Source.tells c.read.new.self) _ (λ heard h. h.0)
    (read_failed (g.I.Source.tells c.args.input.now) (g.I.Source.tells c.reading.input) (g.I.Source.tells c.read.new.self) c.reading.all.items c.reading.invariant.heard
    c.in-Failed.ensures.answers)

pub returns-in-Failed-clause-reading : goal.returns-in-Failed-clause-reading
returns-in-Failed-clause-reading g c =
    reading_of (g.I.Source.tells c.args.input.now) (g.I.Source.tells c.read.new.self) c.reading.all.items c.reading.invariant.most
    (few_ahead (g.I.Source.tells c.args.input.now) (g.I.Source.tells c.reading.input) (g.I.Source.tells c.read.new.self) c.reading.all.items _ c.reading.invariant.heard
    (omega (arith, c.reading-test.true)) c.in-Failed.ensures.answers)
    (read_failed (g.I.Source.tells c.args.input.now) (g.I.Source.tells c.reading.input) (g.I.Source.tells c.read.new.self) c.reading.all.items c.reading.invariant.heard
    c.in-Failed.ensures.answers) (λ heard f. inr (inr f))

pub returns-then-is_err-clause-some : goal.returns-then-is_err-clause-some
returns-then-is_err-clause-some g c =
    some_more (g.I.Source.tells c.args.input.now) (g.I.Source.tells c.reading.input) (g.I.Source.tells c.read.new.self) _ _ c.reading.invariant.consumed
    c.reading.invariant.heard c.in-Bytes.ensures.bytes c.in-Bytes.ensures.answers

-- more than an input may have was read
pub returns-clause-reading : goal.returns-clause-reading
returns-clause-reading g c =
    reading_of (g.I.Source.tells c.args.input.now) (g.I.Source.tells c.reading.input) c.reading.all.items c.reading.invariant.most c.reading.invariant.ahead
    c.reading.invariant.heard (λ heard h. inl h)
