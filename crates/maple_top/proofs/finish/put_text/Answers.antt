use Rattle.maple_top.proofs.Endings.{given_ends}
use Rattle.maple_top.proofs.finish.put_text.Goals as goal

pub returns-in-Ok-clause-ends : goal.returns-in-Ok-clause-ends
returns-in-Ok-clause-ends g c = given_ends (g.O.Sink.tells c.args.output.now) (g.O.Sink.tells c.put_all.new.output) c.args.text.now c.args.status c.requires c.in-Ok.ensures.ok
