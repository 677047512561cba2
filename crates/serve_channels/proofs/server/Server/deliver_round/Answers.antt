use Rattle.std.proofs.Common.{◌<◌, ℕ, refl, subst, ◌∙◌, arith}
use Rattle.machine_desk.proofs.Tended.{same_self, same_then}
use Rattle.serve_channels.proofs.Acts.{quietly_none, quietly_then}
use Rattle.serve_channels.specs.Delivering.{ServesAt}
use Rattle.serve_channels.proofs.Numbered.{numbers_then, numbers_same}
use Rattle.serve_channels.proofs.Rounds.{below_all, below_none, below_then, empties_all, empties_none, empties_then, fewer_then, long_on, serving_on, within_on}
use Rattle.serve_channels.proofs.server.Server.deliver_round.Goals as goal
use Rattle.serve_channels.specs.Servers.{home}

pub loop-at-init : goal.loop-at-init
loop-at-init g c = record {
  goes = below_none c.args.self.now (g.B.Board.tells c.args.board.now).log;
  serving = c.requires.serving;
  empties = λ h. empties_none c.args.self.now h;
  fewer = omega arith;
  numbers = numbers_same c.args.self.now;
  quietly = quietly_none (g.B.Board.tells c.args.board.now).log;
  faults = refl;
  same = same_self home c.args.self.now;
}

pub deliver_to-requires-clause-within : goal.deliver_to-requires-clause-within
deliver_to-requires-clause-within g c =
    within_on c.args.self.now c.loop-at.self c.loop-at.at c.loop-at.invariant.numbers
    (subst (λ (n : ℕ). c.loop-at.at < n) (c.len-at-end.ensures ∙ c.args.self.now.connections.ok.0) c.loop-at-test.true)

pub returns-in_err-failed-clause-numbers : goal.returns-in_err-failed-clause-numbers
returns-in_err-failed-clause-numbers g c = numbers_then c.args.self.now c.loop-at.self c.deliver_to.new.self c.loop-at.invariant.numbers c.in_err-failed.ensures.numbers

pub loop-at-preserved : goal.loop-at-preserved
loop-at-preserved g c =
    let first = (g.B.Board.tells c.args.board.now).log in
    let old = (g.B.Board.tells c.loop-at.board).log in
    let new = (g.B.Board.tells c.deliver_to.new.board).log in
    let i = c.loop-at.invariant in
    let e = c.in_ok-failed.ensures in
    record {
      goes = below_then c.loop-at.at c.args.self.now c.loop-at.self c.deliver_to.new.self first old new i.goes e.goes e.others e.numbers;
      serving = serving_on (ServesAt c.loop-at.at c.deliver_to.new.self) c.loop-at.self c.deliver_to.new.self old new e.goes i.serving;
      empties = λ h. empties_then c.loop-at.at c.loop-at.failed c.in_ok-failed.field-0 c.loop-at.self c.deliver_to.new.self (i.empties h) (e.empties (i.empties h).none);
      fewer = fewer_then c.loop-at.failed c.in_ok-failed.field-0 c.args.self.now c.loop-at.self c.deliver_to.new.self i.fewer e.fewer;
      numbers = numbers_then c.args.self.now c.loop-at.self c.deliver_to.new.self i.numbers e.numbers;
      quietly = quietly_then first old new i.quietly e.quietly;
      faults = e.faults ∙ i.faults;
      same = same_then home i.same e.same;
    }

pub returns-clause-goes : goal.returns-clause-goes
returns-clause-goes g c =
    let long = long_on c.args.self.now c.loop-at.self c.loop-at.invariant.numbers in
    let read = c.len-at-end.ensures ∙ c.args.self.now.connections.ok.0 in
    let end = c.loop-at-test.false in
    below_all c.loop-at.at c.args.self.now c.loop-at.self (g.B.Board.tells c.args.board.now).log (g.B.Board.tells c.loop-at.board).log (omega (arith, long, read, end)) c.loop-at.invariant.goes

pub returns-clause-empties : goal.returns-clause-empties
returns-clause-empties g c =
    let long = long_on c.args.self.now c.loop-at.self c.loop-at.invariant.numbers in
    let read = c.len-at-end.ensures ∙ c.args.self.now.connections.ok.0 in
    let end = c.loop-at-test.false in
    λ h. empties_all c.loop-at.at c.loop-at.failed c.loop-at.self (omega (arith, long, read, end)) (c.loop-at.invariant.empties h)
