use Rattle.std.proofs.Common.{refl, sym, ap, ◌∙◌}
use Rattle.std.specs.List.{position}
use Rattle.world_places.specs.Places.{has_more}
use Rattle.world_places.proofs.Blocks.{none_left}
use Rattle.world_places.proofs.taking.take.Goals as goal

pub returns-in_default-clause-acts : goal.returns-in_default-clause-acts
returns-in_default-clause-acts c =
    (record { connection = refl; to = refl; switch = refl }, none_left c.args.place.now.blocks.items (ap (position has_more) (sym c.deref.ensures.value) ∙ sym c.next_block.ensures ∙ c.in_default.is))
