use Rattle.std.proofs.Common.{Err, sym, ap, ◌∙◌}
use Rattle.machine_steps.proofs.Sound.Stepping.{can_reach}
use Rattle.core_machine.proofs.Packets.{follows_it, follows_nothing, lesson_fits, lesson_taken}
use Rattle.core_machine.proofs.packet_ins.teach.Goals as goal

pub returns-in_default-clause-taught : goal.returns-in_default-clause-taught
returns-in_default-clause-taught c =
    follows_nothing c.args.switch c.args.key.now c.args.next c.args.parts.now c.follow_now.new.parts (sym c.in_ok-update.ensures ∙ c.in_default.is) c.follow_now.result c.follow_now.ensures.follows

pub reach_then-requires-clause-can : goal.reach_then-requires-clause-can
reach_then-requires-clause-can c = can_reach c.args.parts.now c.requires.sound

pub reach_then-requires-clause-tables : goal.reach_then-requires-clause-tables
reach_then-requires-clause-tables c = lesson_fits c.args.switch c.args.key.now c.args.parts.now c.in-Some.update (sym c.in_ok-update.ensures ∙ c.in-Some.is)

pub returns-in-Ok-clause-taught : goal.returns-in-Ok-clause-taught
returns-in-Ok-clause-taught c =
    follows_it c.args.switch c.args.key.now c.args.next c.args.parts.now c.reach_then.new.parts c.in-Some.update c.in-Ok.field-0 (sym c.in_ok-update.ensures ∙ c.in-Some.is) c.in-Ok.ensures.reached

pub unreachable-requires : goal.unreachable-requires
unreachable-requires c =
    let refused = c.in-Err-Refused.ensures.refused c.in-Err-Refused.field-0-0 (ap Err c.in-Err-Refused.field-0-is) in
    lesson_taken c.args.switch c.args.key.now c.args.parts.now c.in-Some.update (sym c.in_ok-update.ensures ∙ c.in-Some.is) c.in-Err-Refused.field-0-0 refused
