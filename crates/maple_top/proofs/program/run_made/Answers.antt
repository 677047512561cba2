use Rattle.std.proofs.Common.{length, sym, ap, subst, ◌∙◌, arith}
use Rattle.std.proofs.lemmas.List.{length-map}
use Rattle.sim_steps.specs.Showing.{AllIdle}
use Rattle.maple_top.proofs.Programs.{devices_are, devices_idle, runs_over}
use Rattle.maple_top.proofs.program.run_made.Goals as goal

pub maple-requires-clause-idle : goal.maple-requires-clause-idle
maple-requires-clause-idle g c = λ κs lives. subst AllIdle (sym (devices_are _ c.loop-place.place c.loop-place.invariant.made (omega arith))) devices_idle

pub returns-clause-ran : goal.returns-clause-ran
returns-clause-ran g c =
    let made = devices_are _ c.loop-place.place c.loop-place.invariant.made (omega arith) in
    runs_over (g.I.Source.tells c.args.from.now) (g.I.Source.tells c.maple.new.input) (g.O.Sink.tells c.args.to.now) (g.O.Sink.tells c.maple.new.output)
    (g.B.Board.tells c.args.board.now) (g.B.Board.tells c.maple.new.board) _ _ _ c.args.words.now c.maple.result made (sym (length-map _ _) ∙ ap length made) (record {
      results = c.maple.ensures.results;
      due = c.maple.ensures.due;
      exact = c.maple.ensures.exact;
      reading = c.maple.ensures.read_last;
      failed = c.maple.ensures.read_failed;
      unread = c.maple.ensures.unread;
      read_fault = c.maple.ensures.read_fault;
      spares = record {
        reads_spared = c.maple.ensures.reads_spared;
        reads_count = c.maple.ensures.reads_count;
        write_fault = c.maple.ensures.write_fault;
        writes_spared = c.maple.ensures.writes_spared;
        board_fault = c.maple.ensures.board_fault;
        board_spared = c.maple.ensures.board_spared;
        board_aside = c.maple.ensures.board_aside;
        unserved = c.maple.ensures.unserved;
      };
    })
