use Rattle.std.proofs.Common.{Some, None}
use Rattle.topo_paths.proofs.Hopping.{shown}
use Rattle.topo_paths.proofs.hop_table.HopTable.shown.Goals as goal

pub returns-in-Some : goal.returns-in-Some
returns-in-Some c = λ links t. shown links t.graph c.args.from c.args.to (Some c.in-Some.place) (c.in-Some.ensures links t.hops)

pub returns-in-None : goal.returns-in-None
returns-in-None c = λ links t. shown links t.graph c.args.from c.args.to None (c.in-None.ensures links t.hops)
