use Rattle.maple_base.proofs.witness.Witness.of.Given as goal

abbrev pub ghost-picked : goal.ghost-picked
ghost-picked g a = a.shown.now
