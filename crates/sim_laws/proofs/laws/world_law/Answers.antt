use Rattle.sim_laws.proofs.Shown.{world_law}
use Rattle.sim_laws.proofs.laws.world_law.Goals as goal

pub returns : goal.returns
returns c = world_law (record {
  one = c.codec_laws.ensures.one;
  connections = c.growth_laws.ensures.connections;
  opens = c.machine_laws.ensures.opens;
  keeps = c.machine_laws.ensures.keeps;
  sends = c.sends_law.ensures;
  history = c.world_laws.ensures.history;
  right = c.run_laws.ensures.right;
})
