use Rattle.std.proofs.Common.{rules, Err, ap, subst, ◌∙◌}
use Rattle.of10_codec.specs.Lent.{Gives}
use Rattle.message_blocks.proofs.Fronts.{next, next_spelled}
use Rattle.message_blocks.proofs.block.Block.first.Goals as goal

pub end_of_message-end-requires-clause-header : goal.end_of_message-end-requires-clause-header
end_of_message-end-requires-clause-header c =
    let n = next _ _ _ _ _ c.items-bytes.ensures c.self.invariant c.self.view_is c.requires in n.header

pub end_of_message-end-requires-clause-whole : goal.end_of_message-end-requires-clause-whole
end_of_message-end-requires-clause-whole c =
    let n = next _ _ _ _ _ c.items-bytes.ensures c.self.invariant c.self.view_is c.requires in n.whole

pub slice_bounds-decode-end : goal.slice_bounds-decode-end
slice_bounds-decode-end c =
    let n = next _ _ _ _ _ c.items-bytes.ensures c.self.invariant c.self.view_is c.requires in search (rules, n.whole, c.end_of_message-end.ensures)

pub unreachable-requires : goal.unreachable-requires
unreachable-requires c =
    let n = next _ _ _ _ _ c.items-bytes.ensures c.self.invariant c.self.view_is c.requires in
    let spelled = next_spelled _ _ _ _ n c.end_of_message-end.ensures in
    let gives = c.decode.ensures.only n.message spelled in
    let none = subst (λ r. Gives r n.message) (c.in-Err-Bad.is ∙ ap Err c.in-Err-Bad.field-0-is) gives in cc

pub returns-in-Ok : goal.returns-in-Ok
returns-in-Ok c =
    let n = next _ _ _ _ _ c.items-bytes.ensures c.self.invariant c.self.view_is c.requires in
    let spelled = next_spelled _ _ _ _ n c.end_of_message-end.ensures in
    let same = subst (λ r. Gives r n.message) c.in-Ok.is (c.decode.ensures.only n.message spelled) in
    let parts = n.parts in (n.later, cc)
