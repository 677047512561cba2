use Rattle.std.proofs.Common.{◌≡◌, ◌<◌, ◌∷◌, [], ◌++◌, List, ℕ, length, ap, sym, ◌∙◌, subst}
use Rattle.board_lines.specs.Queues.{IsQueued, QueueView, unsent}
use Rattle.board_lines.proofs.Pieces.{queued_more, some_bytes, unsent_more}
use Rattle.board_lines.proofs.send_queue.SendQueue.take_from.Goals as goal

pub invariant_of-self-then-not-is_empty : goal.invariant_of-self-then-not-is_empty
invariant_of-self-then-not-is_empty g c =
    let items = c.self.inside.pieces.items in
    let piece = c.in_ok-piece.piece in
    let more : c.push_back_reserved.new.self.items ≡ items ++ piece ∷ [] = c.push_back_reserved.ensures.items ∙ ap (λ (x : List (List ℕ)). x ++ piece ∷ []) c.in_ok-reserve.ensures.items in
    let some : 0 < length piece = some_bytes c.is_empty.result c.items.result.now piece c.if-not-is_empty.true c.is_empty.ensures c.items.ensures in
    subst (λ (x : List (List ℕ)). IsQueued x c.self.inside.at) (sym more) (queued_more items piece c.self.inside.at c.self.invariant some)

pub returns-then-not-is_empty-clause-taken : goal.returns-then-not-is_empty-clause-taken
returns-then-not-is_empty-clause-taken g c =
    let items = c.self.inside.pieces.items in
    let piece = c.in_ok-piece.piece in
    let more : c.push_back_reserved.new.self.items ≡ items ++ piece ∷ [] = c.push_back_reserved.ensures.items ∙ ap (λ (x : List (List ℕ)). x ++ piece ∷ []) c.in_ok-reserve.ensures.items in
    let rest : unsent c.push_back_reserved.new.self.items c.self.inside.at ≡ unsent items c.self.inside.at ++ piece =
    ap (λ (x : List (List ℕ)). unsent x c.self.inside.at) more ∙ unsent_more items piece c.self.inside.at c.self.invariant in
    rw (← c.self.view_is) (record {
      bytes = piece;
      queue = ap (λ (x : List ℕ). let q : QueueView = record { number = c.self.inside.number; rest = x; failed = c.self.inside.failed } in q) rest;
      own = c.in_ok-piece.ensures.given.own;
      others = c.in_ok-piece.ensures.given.others;
    })
