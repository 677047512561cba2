use Rattle.std.proofs.Common.{◌∙◌}
use Rattle.machine_desk.proofs.Tended.{same_then}
use Rattle.serve_channels.proofs.Acts.{quietly_then}
use Rattle.serve_channels.specs.Delivering.{ServesAll}
use Rattle.serve_channels.proofs.Numbered.{numbers_then}
use Rattle.serve_channels.proofs.Rounds.{round_done, round_then, serving_on, still_now}
use Rattle.serve_channels.proofs.server.Server.deliver.Goals as goal
use Rattle.serve_channels.specs.Servers.{home}

pub rounds-preserved : goal.rounds-preserved
rounds-preserved g c =
    let first = (g.B.Board.tells c.args.board.now).log in
    let old = (g.B.Board.tells c.rounds.board).log in
    let new = (g.B.Board.tells c.deliver_round.new.board).log in
    let i = c.rounds.invariant in
    let e = c.in_ok-deliver_round.ensures in
    record {
      goes = round_done c.args.self.now c.deliver_round.new.self first new
          (round_then c.args.self.now c.rounds.self c.deliver_round.new.self first old new i.goes e.goes e.numbers);
      serving = serving_on (ServesAll c.deliver_round.new.self) c.rounds.self c.deliver_round.new.self old new e.goes i.serving;
      none = λ h. (e.empties (i.none h)).none;
      numbers = numbers_then c.args.self.now c.rounds.self c.deliver_round.new.self i.numbers e.numbers;
      quietly = quietly_then first old new i.quietly e.quietly;
      faults = e.faults ∙ i.faults;
      same = same_then home i.same e.same;
    }

pub returns-clause-goes : goal.returns-clause-goes
returns-clause-goes g c =
    round_then c.args.self.now c.rounds.self c.deliver_round.new.self (g.B.Board.tells c.args.board.now).log (g.B.Board.tells c.rounds.board).log
    (g.B.Board.tells c.deliver_round.new.board).log c.rounds.invariant.goes c.in_ok-deliver_round.ensures.goes c.in_ok-deliver_round.ensures.numbers

pub returns-clause-still : goal.returns-clause-still
returns-clause-still g c =
    λ h. still_now c.in_ok-deliver_round.field-0 c.deliver_round.new.self c.if-branch.false (c.in_ok-deliver_round.ensures.empties (c.rounds.invariant.none h))
