use Rattle.std.proofs.Common.{[]}
use Rattle.maple_base.proofs.witness.Witness+Listed+T.none.Given as goal

abbrev pub ghost-picked : goal.ghost-picked
ghost-picked g a = []
