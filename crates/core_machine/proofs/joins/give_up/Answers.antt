use Rattle.std.proofs.Common.{refl, ap}
use Rattle.machine_parts.specs.Sessions.{due}
use Rattle.switch_session.specs.Sessions.{forgotten}
use Rattle.core_machine.proofs.OneSession.{put_roomy, put_seen}
use Rattle.core_machine.proofs.joins.give_up.Goals as goal

pub invariant_of-parts : goal.invariant_of-parts
invariant_of-parts c =
    put_roomy c.parts.inside c.args.parts.now c.parts.view_is c.args.at c.index_mut.result.now c.forget.new.self c.index_mut.ensures.value c.requires.place (ap due c.forget.ensures) c.parts.invariant

pub returns : goal.returns
returns c =
    (refl, put_seen c.parts.inside c.args.parts.now c.parts.view_is c.args.at c.index_mut.result.now c.forget.new.self c.index_mut.ensures.value c.requires.place forgotten c.forget.ensures)
