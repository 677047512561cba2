use Rattle.std.proofs.Common.{sym, ap, ◌∙◌}
use Rattle.world_places.specs.Places.{joined}
use Rattle.world_places.proofs.Blocks.{goes, goes_whole, has_some}
use Rattle.world_places.proofs.taking.drop_first.Goals as goal

pub drop_first-requires : goal.drop_first-requires
drop_first-requires c = has_some c.args.blocks.now.items c.args.at c.index_mut-block.result.now c.requires c.index_mut-block.ensures.value

pub returns-then-is_empty : goal.returns-then-is_empty
returns-then-is_empty c =
    ap joined c.remove-gone.ensures.items
    ∙ goes_whole c.args.blocks.now.items c.args.at c.index_mut-block.result.now c.requires c.index_mut-block.ensures.value c.drop_first.new.self c.drop_first.ensures (sym c.is_empty.ensures ∙ c.if-is_empty.true)

pub returns-else-is_empty : goal.returns-else-is_empty
returns-else-is_empty c = goes c.args.blocks.now.items c.args.at c.index_mut-block.result.now c.requires c.index_mut-block.ensures.value c.drop_first.new.self c.drop_first.ensures
