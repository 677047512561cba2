use Rattle.std.proofs.Common.{rules}
use Rattle.message_blocks.proofs.Fronts.{next, next_written}
use Rattle.message_blocks.proofs.block.Block.next.Goals as goal

pub end_of_message-end-requires-clause-header : goal.end_of_message-end-requires-clause-header
end_of_message-end-requires-clause-header c =
    let n = next _ _ _ _ _ c.items-bytes.ensures c.self.invariant c.self.view_is c.requires in n.header

pub end_of_message-end-requires-clause-whole : goal.end_of_message-end-requires-clause-whole
end_of_message-end-requires-clause-whole c =
    let n = next _ _ _ _ _ c.items-bytes.ensures c.self.invariant c.self.view_is c.requires in n.whole

pub slice_bounds-result-end : goal.slice_bounds-result-end
slice_bounds-result-end c =
    let n = next _ _ _ _ _ c.items-bytes.ensures c.self.invariant c.self.view_is c.requires in search (rules, n.whole, c.end_of_message-end.ensures)

pub returns : goal.returns
returns c =
    let n = next _ _ _ _ _ c.items-bytes.ensures c.self.invariant c.self.view_is c.requires in
    (n.message, n.later, n.parts, next_written _ _ _ _ n c.end_of_message-end.ensures)
