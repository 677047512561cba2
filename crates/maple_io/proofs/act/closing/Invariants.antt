use Rattle.std.proofs.Common.{[], ◌∷◌, ◌++◌}
use Rattle.maple_io.specs.declared.act.Act.TheVariants as acts
use Rattle.maple_io.proofs.act.closing.Given as goal

abbrev pub ghost-picked : goal.ghost-picked
ghost-picked a = a.shown.now.0.now.value ++ acts.Closes a.shown.now.1 ∷ []
