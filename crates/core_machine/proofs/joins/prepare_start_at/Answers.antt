use Rattle.std.proofs.lemmas.Option.{slice_get_within}
use Rattle.core_machine.proofs.OneSession.{put_roomy, prepares, due_prepared}
use Rattle.core_machine.proofs.joins.prepare_start_at.Goals as goal

pub invariant_of-parts : goal.invariant_of-parts
invariant_of-parts c =
    let lt = slice_get_within c.args.parts.now.sessions c.args.at c.requires.can.session c.requires.can.there in
    put_roomy c.parts.inside c.args.parts.now c.parts.view_is c.args.at c.index_mut.result.now c.prepare_start.new.self c.index_mut.ensures.value lt
    (due_prepared c.prepare_start.result c.index_mut.result.now.session c.prepare_start.new.self c.prepare_start.ensures.prepared c.prepare_start.ensures.kept) c.parts.invariant

pub returns-clause-ok : goal.returns-clause-ok
returns-clause-ok c =
    let lt = slice_get_within c.args.parts.now.sessions c.args.at c.requires.can.session c.requires.can.there in
    prepares c.parts.inside c.args.parts.now c.parts.view_is c.args.at c.index_mut.result.now c.prepare_start.new.self c.index_mut.ensures.value lt c.prepare_start.result c.args.rules.now c.prepare_start.ensures.update c.prepare_start.ensures.prepared
