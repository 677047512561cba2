use Rattle.std.proofs.Common.{ap, ◌∙◌}
use Rattle.std.proofs.lemmas.List.{length-map}
use Rattle.maple_top.specs.Outcomes.{end_of}
use Rattle.maple_top.specs.Running.{read_texts}
use Rattle.maple_top.proofs.Commands.{no_board_end, simulated, write_end}
use Rattle.maple_top.proofs.Endings.{closes_board, closes_failed, closes_write}
use Rattle.maple_top.proofs.simulating.simulate.Goals as goal

pub returns-clause-run : goal.returns-clause-run
returns-clause-run g c =
    simulated c.args.policy c.args.settings (read_texts c.args.texts.now) _ _ (g.O.Sink.tells c.args.to.now) (g.O.Sink.tells c.conclude.new.output) _ (length-map _ _) c.drive-end.result
    c.drive-end.ensures.done c.drive-end.ensures.script (g.O.Sink.tells c.drive-end.new.to) c.conclude.result c.drive-end.ensures.ends (rw c.end_of.ensures at c.conclude.ensures.closes)

pub returns-clause-no_board : goal.returns-clause-no_board
returns-clause-no_board g c =
    λ is. no_board_end c.drive-end.result
    (closes_board (g.O.Sink.tells c.drive-end.new.to) (g.O.Sink.tells c.conclude.new.output) (end_of c.drive-end.result) c.conclude.result (rw c.end_of.ensures at c.conclude.ensures.closes) is)

pub returns-clause-spared : goal.returns-clause-spared
returns-clause-spared g c =
    λ other. c.conclude.ensures.spared other
    ∙ c.drive-end.ensures.spared
    (λ e. closes_write (g.O.Sink.tells c.drive-end.new.to) (g.O.Sink.tells c.conclude.new.output) (end_of c.drive-end.result) c.conclude.result
    (rw c.end_of.ensures at c.conclude.ensures.closes) other (ap end_of e))

pub returns-clause-fault : goal.returns-clause-fault
returns-clause-fault g c =
    closes_failed (g.O.Sink.tells c.args.to.now) (g.O.Sink.tells c.drive-end.new.to) (g.O.Sink.tells c.conclude.new.output) (end_of c.drive-end.result) c.conclude.result
    (λ e. c.drive-end.ensures.fault (write_end c.drive-end.result e)) (λ other. c.drive-end.ensures.spared (λ e. other (ap end_of e))) (rw c.end_of.ensures at c.conclude.ensures.closes)
