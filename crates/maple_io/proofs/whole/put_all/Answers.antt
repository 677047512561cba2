use Rattle.std.proofs.Common.{rules, ◌∙◌}
use Rattle.std.proofs.lemmas.List.{take_rest}
use Rattle.maple_io.proofs.Pieces.{piece_more, front_kept, not_all}
use Rattle.maple_io.proofs.whole.put_all.Goals as goal

pub loop-at-preserved : goal.loop-at-preserved
loop-at-preserved g c = record {
  within = search rules;
  written =
      piece_more (g.O.Sink.tells c.args.output.now) (g.O.Sink.tells c.loop-at.output) (g.O.Sink.tells c.write.new.self) _ _ _ c.loop-at.invariant.written
      (rw (take_rest c.args.bytes.now c.loop-at.at) at c.in-Took.ensures.bytes) (rw (take_rest c.args.bytes.now c.loop-at.at) at c.in-Took.ensures.took);
  spared = c.in-Took.ensures.spared (λ e. cc) ∙ c.loop-at.invariant.spared;
}

pub returns-in-Failed-clause-front : goal.returns-in-Failed-clause-front
returns-in-Failed-clause-front g c =
    front_kept (g.O.Sink.tells c.args.output.now) (g.O.Sink.tells c.loop-at.output) (g.O.Sink.tells c.write.new.self) _ _ c.loop-at.invariant.written c.in-Failed.ensures.bytes
    c.in-Failed.ensures.took

pub returns-in-NoMemory-clause-front : goal.returns-in-NoMemory-clause-front
returns-in-NoMemory-clause-front g c =
    front_kept (g.O.Sink.tells c.args.output.now) (g.O.Sink.tells c.loop-at.output) (g.O.Sink.tells c.write.new.self) _ _ c.loop-at.invariant.written c.in-NoMemory.ensures.bytes
    c.in-NoMemory.ensures.took

pub returns-in-Failed-clause-short : goal.returns-in-Failed-clause-short
returns-in-Failed-clause-short g c =
    not_all (g.O.Sink.tells c.args.output.now) (g.O.Sink.tells c.loop-at.output) (g.O.Sink.tells c.write.new.self) _ _ c.loop-at.invariant.written
    (search rules) c.in-Failed.ensures.took

pub returns-in-NoMemory-clause-short : goal.returns-in-NoMemory-clause-short
returns-in-NoMemory-clause-short g c =
    not_all (g.O.Sink.tells c.args.output.now) (g.O.Sink.tells c.loop-at.output) (g.O.Sink.tells c.write.new.self) _ _ c.loop-at.invariant.written
    (search rules) c.in-NoMemory.ensures.took
