use Rattle.std.proofs.Common.{sym, ◌∙◌, subst}
use Rattle.std.proofs.lemmas.Option.{none-some}
use Rattle.std.proofs.lemmas.Bool.{false≢true}
use Rattle.world_model.specs.Places.{link_of, links_of}
use Rattle.world_model.proofs.Carried.{found_at, found_none}
use Rattle.world_model.proofs.Entered.{not_first}
use Rattle.world_model.proofs.entering.first_from.Goals as goal

pub returns-in_default : goal.returns-in_default
returns-in_default c = λ first. none-some first.link (sym (found_none c.args.connection c.args.places.now (sym c.place_of.ensures ∙ c.in_default.is)) ∙ first.there)

pub returns-then-not-is_first : goal.returns-then-not-is_first
returns-then-not-is_first c =
    let p = c.index-places-at.result in
    let is = found_at c.args.connection c.args.places.now c.in-Some.at p (sym c.place_of.ensures ∙ c.in-Some.is) c.index-places-at.is in
    not_first c.args.connection c.in-Some.at (links_of c.args.places.now) (link_of p) c.args.message.now is
    (λ begins. false≢true (sym c.if-not-is_first.true ∙ c.is_first.ensures.1 begins))

pub returns : goal.returns
returns c =
    let p = c.index-places-at.result in
    record {
      link = link_of p;
      is = found_at c.args.connection c.args.places.now c.in-Some.at p (sym c.place_of.ensures ∙ c.in-Some.is) c.index-places-at.is;
      first = c.is_first.ensures.0 c.if-not-is_first.false;
    }
