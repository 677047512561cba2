use Rattle.std.proofs.Common.{List, set, refl, sym, ap, ◌∙◌, subst}
use Rattle.std.specs.List.{position}
use Rattle.world_places.specs.declared.place.Place.{Place}
use Rattle.world_model.specs.Acts.{TakesHere}
use Rattle.world_model.specs.Places.{is_of, link_of, links_of, world_of}
use Rattle.world_model.proofs.Carried.{found_at, found_none, of_connection}
use Rattle.world_model.proofs.Entered.{takes_gone, takes_here}
use Rattle.world_model.proofs.Spelled.{spelled}
use Rattle.world_model.proofs.sending.take_out.Goals as goal

pub take_out_here-requires : goal.take_out_here-requires
take_out_here-requires c = spelled c.sends_law.ensures c.world_laws.ensures.history (world_of c.args.core.now c.args.places.now.items) c.requires.reached c.index_mut.result.now.connection

pub returns-in-Some : goal.returns-in-Some
returns-in-Some c =
    let ps = c.args.places.now.items in
    let at = c.in-Some.at in
    let p = c.index_mut.result.now in
    let q = c.take_out_here.new.place in
    let found = ap (λ (qs : List Place). position (λ (r : Place). is_of c.args.connection (link_of r)) qs) (sym c.deref.ensures.value) ∙ sym c.place_of.ensures ∙ c.in-Some.is in
    let is = found_at c.args.connection ps at p found c.index_mut.ensures.value in
    takes_here c.args.core.now c.take_out_here.new.core c.args.connection at ps (set ps at q) p q c.take_out_here.result c.requires.others is refl
    (subst (λ n. TakesHere n c.take_out_here.result c.args.core.now c.take_out_here.new.core (link_of p) (link_of q)) (of_connection c.args.connection at (links_of ps) (link_of p) is) c.take_out_here.ensures)

pub returns-in-Out : goal.returns-in-Out
returns-in-Out c =
    let none = ap (λ (qs : List Place). position (λ (r : Place). is_of c.args.connection (link_of r)) qs) (sym c.deref.ensures.value) ∙ sym c.place_of.ensures ∙ c.in-None.is in
    takes_gone c.args.core.now c.step.new.self c.args.connection (links_of c.args.places.now.items) c.in-Out.field-0 (found_none c.args.connection c.args.places.now.items none) c.in-Out.ensures.step
