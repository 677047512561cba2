use Rattle.std.proofs.Common.{Err, sym, ap}
use Rattle.std.proofs.lemmas.Option.{slice_get_within}
use Rattle.core_machine.proofs.Joining.{levels_fit, twice, full_up, entered}
use Rattle.core_machine.proofs.joins.join.Goals as goal

pub returns-then-serves : goal.returns-then-serves
returns-then-serves c =
    twice c.args.at c.args.dpid c.args.parts.now c.requires.joins c.args.ports c.end_at.result c.end_at.new.parts (sym c.if-serves.ensures) c.end_at.ensures

pub rules_behind-requires-clause-levels : goal.rules_behind-requires-clause-levels
rules_behind-requires-clause-levels c = levels_fit c.args.at c.args.dpid c.args.parts.now c.requires.joins

pub returns-in-Ok : goal.returns-in-Ok
returns-in-Ok c =
    entered c.args.at c.args.dpid c.args.parts.now c.requires.joins c.args.ports c.enter.result c.enter.new.parts c.requires.few (sym c.if-serves.ensures) c.in-Ok.ensures.accepted c.enter.ensures

pub returns-in-Err-Refused : goal.returns-in-Err-Refused
returns-in-Err-Refused c =
    let refused = c.in-Err-Refused.ensures.refused c.in-Err-Refused.field-0-0 (ap Err c.in-Err-Refused.field-0-is) in
    full_up c.args.at c.args.dpid c.args.parts.now c.requires.joins c.args.ports c.end_at-in-Err-Refused.result c.end_at-in-Err-Refused.new.parts c.requires.few (sym c.if-serves.ensures) c.in-Err-Refused.ensures.limits c.in-Err-Refused.field-0-0 refused
    c.end_at-in-Err-Refused.ensures

pub give_up-requires : goal.give_up-requires
give_up-requires c = record { place = slice_get_within c.args.parts.now.sessions c.args.at c.requires.joins.session c.requires.joins.there }
