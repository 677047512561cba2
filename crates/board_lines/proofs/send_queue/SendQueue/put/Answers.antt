use Rattle.std.proofs.Common.{◌≡◌, ◌<◌, ◌∷◌, [], ◌++◌, List, ℕ, length, ap, sym, ◌∙◌, subst}
use Rattle.board_lines.specs.Queues.{IsQueued, QueueView, unsent}
use Rattle.board_lines.proofs.Pieces.{queued_more, some_bytes, unsent_more}
use Rattle.board_lines.proofs.send_queue.SendQueue.put.Goals as goal

pub invariant_of-self-then-not-is_empty : goal.invariant_of-self-then-not-is_empty
invariant_of-self-then-not-is_empty c =
    let items = c.self.inside.pieces.items in
    let more : c.push_back_reserved.new.self.items ≡ items ++ c.args.piece ∷ [] = c.push_back_reserved.ensures.items ∙ ap (λ (x : List (List ℕ)). x ++ c.args.piece ∷ []) c.in_ok-reserve.ensures.items in
    let some : 0 < length c.args.piece = some_bytes c.is_empty.result c.items.result.now c.args.piece c.if-not-is_empty.true c.is_empty.ensures c.items.ensures in
    subst (λ (x : List (List ℕ)). IsQueued x c.self.inside.at) (sym more) (queued_more items c.args.piece c.self.inside.at c.self.invariant some)

pub returns-then-not-is_empty-clause-ok : goal.returns-then-not-is_empty-clause-ok
returns-then-not-is_empty-clause-ok c =
    let items = c.self.inside.pieces.items in
    let more : c.push_back_reserved.new.self.items ≡ items ++ c.args.piece ∷ [] = c.push_back_reserved.ensures.items ∙ ap (λ (x : List (List ℕ)). x ++ c.args.piece ∷ []) c.in_ok-reserve.ensures.items in
    let rest : unsent c.push_back_reserved.new.self.items c.self.inside.at ≡ unsent items c.self.inside.at ++ c.args.piece =
    ap (λ (x : List (List ℕ)). unsent x c.self.inside.at) more ∙ unsent_more items c.args.piece c.self.inside.at c.self.invariant in
    rw (← c.self.view_is)
    (ap (λ (x : List ℕ). let q : QueueView = record { number = c.self.inside.number; rest = x; failed = c.self.inside.failed } in q) rest)
