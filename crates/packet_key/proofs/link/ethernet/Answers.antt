-- The type stands behind twelve bytes, and the rest behind fourteen.
use Rattle.packet_key.proofs.Places.{number_behind, rest_behind}
use Rattle.packet_key.proofs.link.ethernet.Goals as goal

pub returns-clause-type_or_length : goal.returns-clause-type_or_length
returns-clause-type_or_length c =
    let behind = rest_behind 6 6 c.args.frame.now _ _ _ c.in_ok-dst.ensures.value.behind c.in_ok-src.ensures.value in
    number_behind 12 2 c.args.frame.now _ _ _ behind c.in_ok-type_or_length.ensures

pub returns-clause-rest : goal.returns-clause-rest
returns-clause-rest c =
    let behind = rest_behind 6 6 c.args.frame.now _ _ _ c.in_ok-dst.ensures.value.behind c.in_ok-src.ensures.value in
    rest_behind 12 2 c.args.frame.now _ _ _ behind c.in_ok-type_or_length.ensures
