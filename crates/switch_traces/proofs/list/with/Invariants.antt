use Rattle.std.proofs.Common.{[], ◌∷◌, ◌++◌}
use Rattle.switch_traces.proofs.list.with.Given as goal

abbrev pub ghost-picked : goal.ghost-picked
ghost-picked a = a.shown.now.0.now.value ++ a.shown.now.1.now ∷ []
