use Rattle.world_steps.specs.Worlds.{messages_for}
use Rattle.sim_channels.proofs.outbox.messages_for.Given as goal

abbrev pub ghost-picked : goal.ghost-picked
ghost-picked a = messages_for a.shown.now.1.now a.shown.now.0.now.now
