use Rattle.std.proofs.Common.{rules, lives}
use Rattle.switch_session.proofs.outbox.with.Goals as goal

pub picked-requires : goal.picked-requires
picked-requires c κs within = search (rules, lives, within) depth 80 fits 100000
