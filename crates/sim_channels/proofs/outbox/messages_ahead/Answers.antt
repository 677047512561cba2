use Rattle.std.proofs.Common.{rules, lives}
use Rattle.sim_channels.proofs.outbox.messages_ahead.Goals as goal

pub picked-requires : goal.picked-requires
picked-requires c κs within = search (rules, lives, within) depth 80 fits 100000
