use Rattle.std.proofs.Common.{refl, arith}
use Rattle.std.proofs.lemmas.List.{length-map}
use Rattle.maple_top.specs.Ends.{ClosesBy}
use Rattle.maple_top.specs.Outcomes.{end_of}
use Rattle.maple_top.specs.Running.{read_texts}
use Rattle.maple_top.proofs.Commands.{no_board_end, summed, took_report, unsummed, write_end}
use Rattle.maple_top.proofs.Endings.{closes_board, closes_failed}
use Rattle.maple_top.proofs.simulating.sum_up.Goals as goal

pub returns-in-Done-clause-run : goal.returns-in-Done-clause-run
returns-in-Done-clause-run g c =
    λ number. summed c.args.policy c.args.settings (read_texts c.args.texts.now) _ _ (g.O.Sink.tells c.args.to.now) (g.O.Sink.tells c.put_summary.new.output) _ (length-map _ _)
    c.drive.result c.drive.ensures.done c.drive.ensures.script number c.put_summary.result _ (took_report c.drive.result _ _ _ _ c.new-report.ensures c.drive.ensures.ends)
    c.in-Done.is (rw c.deref.ensures.value at c.put_summary.ensures.ends)

pub returns : goal.returns
returns g c =
    let closes : ClosesBy (end_of c.drive.result) (g.O.Sink.tells c.args.to.now) (g.O.Sink.tells c.conclude.new.output) c.conclude.result =
    rw c.end_of.ensures at c.conclude.ensures.closes in
    record {
      run = λ number. unsummed c.args.policy c.args.settings (read_texts c.args.texts.now) _ _ (g.O.Sink.tells c.args.to.now) (g.O.Sink.tells c.conclude.new.output) _ (length-map _ _)
          c.drive.result c.drive.ensures.done c.drive.ensures.script number c.conclude.result _ (took_report c.drive.result _ _ _ _ c.new-report.ensures c.drive.ensures.ends)
          c.in_default.not-Done closes;
      no_board = λ is. no_board_end c.drive.result
          (closes_board (g.O.Sink.tells c.args.to.now) (g.O.Sink.tells c.conclude.new.output) (end_of c.drive.result) c.conclude.result closes is);
      spared = c.conclude.ensures.spared;
      fault = closes_failed (g.O.Sink.tells c.args.to.now) (g.O.Sink.tells c.args.to.now) (g.O.Sink.tells c.conclude.new.output) (end_of c.drive.result) c.conclude.result
          (λ e. absurd (let risen = c.drive.ensures.fault (write_end c.drive.result e) in omega (arith, risen))) (λ other. refl) closes;
    }
