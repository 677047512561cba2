use Rattle.world_steps.specs.Worlds.{messages_for}
use Rattle.sim_channels.specs.Delivering.{ahead_of_last}
use Rattle.sim_channels.proofs.outbox.messages_ahead.Given as goal

abbrev pub ghost-picked : goal.ghost-picked
ghost-picked a = messages_for a.shown.now.1.now (ahead_of_last a.shown.now.0.now.past a.shown.now.0.now.now)
