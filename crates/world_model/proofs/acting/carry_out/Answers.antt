use Rattle.std.proofs.Common.{List, set, sym, ap, ◌∙◌, subst}
use Rattle.std.specs.List.{position}
use Rattle.std.proofs.lemmas.List.{map-set}
use Rattle.world_places.specs.declared.place.Place.{Place}
use Rattle.world_model.specs.declared.moves.Moved.{Moved}
use Rattle.world_model.specs.Acts.{move_of}
use Rattle.world_model.specs.Moves.{Makes}
use Rattle.world_model.specs.Places.{is_of, link_of, links_of, world_of}
use Rattle.world_model.proofs.Carried.{absent, found_at, found_none, makes, of_connection, set_same, set_there}
use Rattle.world_model.proofs.acting.carry_out.Goals as goal

pub returns-in_default : goal.returns-in_default
returns-in_default c = λ machine.
    let ps = c.args.places.now.items in
    let none = ap (λ (qs : List Place). position (λ (p : Place). is_of c.args.connection (link_of p)) qs) (sym c.deref.ensures.value) ∙ sym c.place_of.ensures ∙ c.in_default.is in
    absent machine c.args.connection (links_of ps) c.args.act.now (found_none c.args.connection ps none)

pub returns : goal.returns
returns c = λ machine.
    let ps = c.args.places.now.items in
    let at = c.in-Some.at in
    let p = c.index_mut.result.now in
    let q = c.carry_out_at.new.place in
    let found = ap (λ (qs : List Place). position (λ (p : Place). is_of c.args.connection (link_of p)) qs) (sym c.deref.ensures.value) ∙ sym c.place_of.ensures ∙ c.in-Some.is in
    let is = found_at c.args.connection ps at p found c.index_mut.ensures.value in
    let stays = c.carry_out_at.ensures.connection in
    let set_is = map-set link_of ps at q in
    subst (λ (r : Moved). Makes (move_of c.args.connection c.args.act.now) r (world_of machine ps) (world_of machine (set ps at q))) (sym c.moved.ensures)
    (makes machine c.args.connection (links_of ps) p q stays is.found (links_of (set ps at q)) (set_is ∙ set_there c.args.connection at (links_of ps) (link_of p) is c.requires (link_of q) stays)
    (stays ∙ of_connection c.args.connection at (links_of ps) (link_of p) is) (λ e. set_is ∙ set_same c.args.connection at (links_of ps) (link_of p) is (link_of q) e)
    c.args.act.now c.carry_out_at.result c.carry_out_at.ensures.acts)
