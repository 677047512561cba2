use Rattle.std.proofs.Common.{◌≡◌, sym, ap, ◌∙◌, set, subst, List}
use Rattle.std.proofs.lemmas.List.{map-set}
use Rattle.of10_codec.specs.declared.message.Message.{Message}
use Rattle.world_steps.specs.Worlds.{Link, unqueued}
use Rattle.world_places.specs.Places.{BeginsWith, switch_of}
use Rattle.world_model.specs.Places.{link_of, links_of}
use Rattle.world_model.proofs.Carried.{at_within, is_there}
use Rattle.world_model.proofs.Entered.{hears_first, some_sent}
use Rattle.world_model.proofs.entering.hear_first.Goals as goal

pub forget_first-requires : goal.forget_first-requires
forget_first-requires c =
    let f = c.requires.first in
    let p = c.index_mut.result.now in
    let same = is_there c.args.connection c.args.at c.args.places.now.items p f.link f.is c.index_mut.ensures.value in
    some_sent (switch_of p).sent c.args.message (subst (λ (l : Link). BeginsWith c.args.message l.switch.sent) (sym same) f.first)

pub returns-in_default : goal.returns-in_default
returns-in_default c =
    let f = c.requires.first in
    let ps = c.args.places.now.items in
    let p = c.index_mut.result.now in
    let q = c.forget_first.new.place in
    let same = is_there c.args.connection c.args.at ps p f.link f.is c.index_mut.ensures.value in
    let heard : link_of q ≡ record (link_of p) { switch = unqueued (switch_of p) } =
    λ i. record { connection = c.forget_first.ensures.connection i; to = c.forget_first.ensures.to i; switch = c.forget_first.ensures.switch i } in
    let links = map-set link_of ps c.args.at q ∙ ap (set (links_of ps) c.args.at) (heard ∙ ap (λ (l : Link). record l { switch = unqueued l.switch }) same) in
    hears_first c.args.core.now c.step.new.self c.args.connection c.args.at c.args.message (links_of ps) c.requires.admits f (links_of (set ps c.args.at q)) c.step.result c.requires.kept.others links c.in_default.not-NoMemory c.step.ensures.step
