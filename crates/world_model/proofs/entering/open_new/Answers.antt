use Rattle.std.proofs.Common.{◌≡◌, List, [], ◌∷◌, ◌++◌, ap, ◌∙◌}
use Rattle.std.proofs.lemmas.List.{map-append}
use Rattle.world_steps.specs.Worlds.{Link}
use Rattle.world_places.specs.declared.place.Place.{Place}
use Rattle.world_model.specs.Places.{link_of, links_of, opened_link, world_of}
use Rattle.world_model.proofs.Entered.{opens_new}
use Rattle.world_model.proofs.Keeping.{not_yet}
use Rattle.world_model.proofs.entering.open_new.Goals as goal

pub returns-in_default : goal.returns-in_default
returns-in_default c =
    let ps = c.args.places.now.items in
    let p = c.opened-place.result in
    let link : link_of p ≡ opened_link c.args.connection =
    λ i. record { connection = c.opened-place.ensures.connection i; to = c.opened-place.ensures.to i; switch = c.opened-place.ensures.switch i } in
    let fresh = not_yet (world_of c.args.core.now ps) c.requires.kept c.args.connection c.requires.new in
    let links = ap links_of c.push_reserved.ensures.items ∙ map-append link_of c.reserve.new.self.items (p ∷ []) ∙ ap (λ (qs : List Place). links_of qs ++ link_of p ∷ []) c.reserve.ensures.items
    ∙ ap (λ (l : Link). links_of ps ++ l ∷ []) link in
    opens_new c.args.core.now c.step.new.self c.args.connection (links_of ps) (links_of c.push_reserved.new.self.items) c.step.result fresh links c.in_default.not-NoMemory c.step.ensures.step
