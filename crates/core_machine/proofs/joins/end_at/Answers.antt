use Rattle.std.proofs.Common.{ap, ◌∙◌, refl}
use Rattle.std.proofs.lemmas.Option.{slice_get_within}
use Rattle.machine_steps.specs.Machine.{is_open}
use Rattle.machine_parts.specs.Sessions.{due}
use Rattle.core_machine.proofs.OneSession.{is_session, room_for_line, room_behind, put_aims, closes_seen}
use Rattle.core_machine.proofs.joins.end_at.Goals as goal

pub close-requires : goal.close-requires
close-requires c =
    let here = c.requires.open in
    let d = c.index_mut.result.now in
    let lt = slice_get_within c.args.parts.now.sessions c.args.at here.session here.there in
    let same = is_session c.parts.inside c.args.parts.now c.parts.view_is c.args.at d c.end.new.self c.index_mut.ensures.value lt here.session here.there in
    record { room = room_for_line c.parts.inside c.args.parts.now c.parts.view_is c.args.at d c.end.new.self c.index_mut.ensures.value lt (ap is_open same ∙ here.open_now) c.parts.invariant }

pub invariant_of-parts : goal.invariant_of-parts
invariant_of-parts c =
    let here = c.requires.open in
    let d = c.index_mut.result.now in
    let lt = slice_get_within c.args.parts.now.sessions c.args.at here.session here.there in
    let same = is_session c.parts.inside c.args.parts.now c.parts.view_is c.args.at d c.end.new.self c.index_mut.ensures.value lt here.session here.there in
    record {
      aims = put_aims c.parts.inside c.args.parts.now c.parts.view_is c.args.at d c.end.new.self c.index_mut.ensures.value lt c.parts.invariant;
      room = room_behind c.parts.inside c.args.parts.now c.parts.view_is c.args.at d c.end.new.self c.index_mut.ensures.value lt _ _ (ap is_open same ∙ here.open_now) (ap due c.end.ensures) c.close.ensures.len c.close.ensures.capacity c.parts.invariant;
    }

pub returns : goal.returns
returns c =
    λ t there.
    let d = c.index_mut.result.now in
    let lt = slice_get_within c.args.parts.now.sessions c.args.at t there in
    let same = is_session c.parts.inside c.args.parts.now c.parts.view_is c.args.at d c.end.new.self c.index_mut.ensures.value lt t there in
    let tied = c.connection-connection.ensures ∙ ap (λ s. s.connection) c.end.ensures ∙ ap (λ s. s.connection) same in (
      refl,
      closes_seen c.parts.inside c.args.parts.now c.parts.view_is c.args.at d c.end.new.self c.index_mut.ensures.value lt t c.args.end c.connection-connection.result c.close.new.jobs.items c.close.new.lines.items c.end.ensures tied c.close.ensures.jobs c.close.ensures.lines,
    )
