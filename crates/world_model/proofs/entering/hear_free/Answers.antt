use Rattle.std.proofs.Common.{sym, ◌∙◌}
use Rattle.std.proofs.lemmas.Bool.{false≢true}
use Rattle.world_model.specs.Places.{links_of}
use Rattle.world_model.proofs.Entered.{hears_free, hears_not}
use Rattle.world_model.proofs.entering.hear_free.Goals as goal

pub returns-then-not-is_free : goal.returns-then-not-is_free
returns-then-not-is_free c =
    hears_not c.args.core.now c.args.connection c.args.message (links_of c.args.places.now.items) c.requires.first (λ free. false≢true (sym c.if-not-is_free.true ∙ c.is_free.ensures.1 free))

pub returns : goal.returns
returns c =
    hears_free c.args.core.now c.step.new.self c.args.connection c.args.message (links_of c.args.places.now.items) c.step.result c.requires.admits c.step.ensures.step (c.is_free.ensures.0 c.if-not-is_free.false)
