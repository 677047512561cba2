use Rattle.std.proofs.Common.{List, sym, ap, ◌∙◌}
use Rattle.std.specs.List.{position}
use Rattle.world_places.specs.declared.place.Place.{Place}
use Rattle.world_model.specs.Places.{is_of, link_of, links_of}
use Rattle.world_model.proofs.Carried.{found_none, found_some}
use Rattle.world_model.proofs.Entered.{opens_again}
use Rattle.world_model.proofs.entering.open.Goals as goal

pub open_new-requires-clause-new : goal.open_new-requires-clause-new
open_new-requires-clause-new c =
    found_none c.args.connection c.args.places.now.items
    (ap (λ (qs : List Place). position (λ (p : Place). is_of c.args.connection (link_of p)) qs) (sym c.deref.ensures.value) ∙ sym c.place_of.ensures ∙ c.in-None.is)

pub returns-in-Some : goal.returns-in-Some
returns-in-Some c =
    let (l, there) = found_some c.args.connection c.args.places.now.items c.in-Some.field-0
    (ap (λ (qs : List Place). position (λ (p : Place). is_of c.args.connection (link_of p)) qs) (sym c.deref.ensures.value) ∙ sym c.place_of.ensures ∙ c.in-Some.is) in
    opens_again c.args.core.now c.step.new.self c.args.connection (links_of c.args.places.now.items) c.step.result (c.requires.opened c.args.connection l there) c.step.ensures.step
