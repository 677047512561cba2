use Rattle.std.proofs.Common.{ap, ◌∙◌}
use Rattle.std.proofs.lemmas.Option.{slice_get_within}
use Rattle.switch_session.specs.Sessions.{accepted}
use Rattle.machine_parts.specs.Sessions.{due}
use Rattle.core_machine.proofs.OneSession.{is_session, put_roomy, put_seen, due_accepted}
use Rattle.core_machine.proofs.joins.start_at.Goals as goal

pub invariant_of-parts : goal.invariant_of-parts
invariant_of-parts c =
    let can = c.requires.can in
    let d = c.index_mut.result.now in
    let lt = slice_get_within c.args.parts.now.sessions c.args.at can.session can.there in
    let same = is_session c.parts.inside c.args.parts.now c.parts.view_is c.args.at d c.start.new.self c.index_mut.ensures.value lt can.session can.there in
    put_roomy c.parts.inside c.args.parts.now c.parts.view_is c.args.at d c.start.new.self c.index_mut.ensures.value lt
    (ap due c.start.ensures ∙ due_accepted c.args.start d.session (ap (λ s. s.phase) same ∙ can.can.second)) c.parts.invariant

pub returns : goal.returns
returns c =
    let lt = slice_get_within c.args.parts.now.sessions c.args.at c.requires.can.session c.requires.can.there in
    put_seen c.parts.inside c.args.parts.now c.parts.view_is c.args.at c.index_mut.result.now c.start.new.self c.index_mut.ensures.value lt (accepted c.args.start) c.start.ensures
