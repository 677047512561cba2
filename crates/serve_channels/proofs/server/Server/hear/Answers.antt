use Rattle.std.proofs.Common.{◌∙◌, sym}
use Rattle.std.proofs.lemmas.Option.{slice_get_within}
use Rattle.serve_channels.proofs.InOrder.{heard_missing, numbers_now, on_last, on_more, on_none, same_now}
use Rattle.serve_channels.proofs.server.Server.hear.Goals as goal

pub returns-in_default-clause-goes : goal.returns-in_default-clause-goes
returns-in_default-clause-goes g c = heard_missing c.args.number c.args.self.now c.in_default.ensures

pub loop-came-init : goal.loop-came-init
loop-came-init g c = on_none c.args.number c.in-Some.at c.args.self.now c.in-Some.ensures c.requires.serving

pub hear_next-requires-clause-within : goal.hear_next-requires-clause-within
hear_next-requires-clause-within g c =
    let is = c.loop-came.invariant.there in slice_get_within c.loop-came.self.connections.items c.in-Some.at is.connection is.there

pub loop-came-preserved : goal.loop-came-preserved
loop-came-preserved g c =
    on_more c.args.number c.in-Some.at c.in_ok-came.came c.args.self.now c.loop-came.self c.hear_next.new.self c.loop-came.invariant c.in_ok-came.ensures.hears
    c.hear_next.ensures.numbers c.hear_next.ensures.same

pub returns-then-not-goes_on : goal.returns-then-not-goes_on
returns-then-not-goes_on g c =
    let at = c.in-Some.at in
    let old = c.args.self.now in
    let now = c.loop-came.self in
    let new = c.hear_next.new.self in
    let k = c.in_ok-came.came in
    let hears = c.in_ok-came.ensures.hears in
    record {
      goes = on_last c.args.number at k old now new c.loop-came.invariant hears c.hear_next.ensures.numbers c.hear_next.ensures.same (sym c.goes_on.ensures ∙ c.if-not-goes_on.true);
      numbers = numbers_now c.args.number at k old now new c.loop-came.invariant hears c.hear_next.ensures.numbers c.hear_next.ensures.same;
      same = same_now c.args.number at k old now new c.loop-came.invariant hears c.hear_next.ensures.numbers c.hear_next.ensures.same;
    }
