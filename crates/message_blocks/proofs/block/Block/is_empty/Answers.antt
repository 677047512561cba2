use Rattle.message_blocks.proofs.Fronts.{all_taken}
use Rattle.message_blocks.proofs.block.Block.is_empty.Goals as goal

pub returns : goal.returns
returns c = all_taken _ _ _ _ _ c.items.ensures c.self.invariant c.self.view_is
