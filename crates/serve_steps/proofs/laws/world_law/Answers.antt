use Rattle.serve_steps.proofs.laws.world_law.Goals as goal

pub returns : goal.returns
returns c g past es w run same = c.run_laws.ensures.right g.policy g.settings es w run
