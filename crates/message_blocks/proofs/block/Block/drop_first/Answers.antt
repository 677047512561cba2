use Rattle.message_blocks.proofs.Fronts.{next, passed}
use Rattle.message_blocks.proofs.block.Block.drop_first.Goals as goal

pub end_of_message-self-inside-requires-clause-header : goal.end_of_message-self-inside-requires-clause-header
end_of_message-self-inside-requires-clause-header c =
    let n = next _ _ _ _ _ c.items.ensures c.self.invariant c.self.view_is c.requires in n.header

pub end_of_message-self-inside-requires-clause-whole : goal.end_of_message-self-inside-requires-clause-whole
end_of_message-self-inside-requires-clause-whole c =
    let n = next _ _ _ _ _ c.items.ensures c.self.invariant c.self.view_is c.requires in n.whole

pub invariant_of-self : goal.invariant_of-self
invariant_of-self c =
    let p = passed _ _ _ _ _ _ c.items.ensures c.self.invariant c.self.view_is c.requires c.end_of_message-self-inside.ensures in p.kept

pub returns : goal.returns
returns c =
    let p = passed _ _ _ _ _ _ c.items.ensures c.self.invariant c.self.view_is c.requires c.end_of_message-self-inside.ensures in p.later
