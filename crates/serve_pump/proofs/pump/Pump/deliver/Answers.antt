use Rattle.serve_channels.specs.Delivering.{ServesAll}
use Rattle.serve_channels.proofs.Acts.{quietly_then}
use Rattle.serve_pump.proofs.Followed.{serving_then}
use Rattle.serve_pump.proofs.Reached.{delivered, live_then, still_then}
use Rattle.serve_pump.proofs.pump.Pump.deliver.Goals as goal

pub close_over-requires : goal.close_over-requires
close_over-requires g c =
    record { serving = serving_then (ServesAll c.deliver.new.self) _ _ _ _ c.requires.serving c.in_ok-deliver.ensures.goes }

pub returns-clause-delivers : goal.returns-clause-delivers
returns-clause-delivers g c =
    delivered c.args.self.now.server c.deliver.new.self c.close_over.new.self _ _ _ c.in_ok-deliver.ensures.numbers c.in_ok-deliver.ensures.goes
    c.close_over.ensures.goes

pub returns-clause-live : goal.returns-clause-live
returns-clause-live g c =
    live_then c.args.self.now.server c.deliver.new.self c.close_over.new.self _ _ _ c.requires.serving c.in_ok-deliver.ensures.goes c.close_over.ensures.goes

pub returns-clause-still : goal.returns-clause-still
returns-clause-still g c = λ none.
    still_then c.args.self.now.server c.deliver.new.self c.close_over.new.self _ _ _ c.requires.serving c.in_ok-deliver.ensures.goes c.close_over.ensures.goes
    c.close_over.ensures.desk (c.in_ok-deliver.ensures.still none)

pub returns-clause-quietly : goal.returns-clause-quietly
returns-clause-quietly g c = quietly_then _ _ _ c.in_ok-deliver.ensures.quietly c.close_over.ensures.quietly
