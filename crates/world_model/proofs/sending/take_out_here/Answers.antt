use Rattle.std.proofs.Common.{refl, ◌∙◌}
use Rattle.world_model.proofs.Carried.{kept_link}
use Rattle.world_model.proofs.Entered.{takes_bytes, takes_other}
use Rattle.world_model.proofs.sending.take_out_here.Goals as goal

pub returns-then-is_err : goal.returns-then-is_err
returns-then-is_err c = (refl, kept_link c.args.place.now c.make_room.new.place c.make_room.ensures.same)

pub returns-in-Out : goal.returns-in-Out
returns-in-Out c =
    takes_bytes c.args.core.now c.step.new.self c.args.place.now c.make_room.new.place c.make_room.ensures.same c.in-Out.bytes c.put.new.place c.new.result c.in-Out.ensures.step
    (c.new.ensures ∙ c.messages_for-messages.ensures) c.put.ensures.connection c.put.ensures.to c.put.ensures.switch

pub returns-in_default : goal.returns-in_default
returns-in_default c =
    takes_other c.args.core.now c.step.new.self c.args.place.now c.make_room.new.place c.make_room.ensures.same c.step.result c.step.ensures.step c.in_default.not-Out
