use Rattle.std.proofs.Common.{◌≡◌, true, not, ap, sym, ◌∙◌}
use Rattle.maple_io.specs.Boards.{was_opened}
use Rattle.maple_io.specs.Schedules.{Schedule, opens_in}
use Rattle.maple_io.specs.Kept.{has_link, left_at}
use Rattle.maple_io.proofs.Sounds.{linked_opened}
use Rattle.maple_io.proofs.mem_board.MemBoard.opened.Goals as goal

pub returns-then-has_link : goal.returns-then-has_link
returns-then-has_link c =
    let linked : has_link c.args.connection c.self.inside.links.items ≡ true = ap (has_link c.args.connection) (sym c.deref.ensures.value) ∙ sym c.has_link-has_link.ensures ∙ c.if-has_link.true in
    let coming : c.is_to_come-is_to_come.result ≡ opens_in c.args.connection (left_at c.self.inside.cursor c.self.inside.turns.items) =
    c.is_to_come-is_to_come.ensures ∙ sym (ap (λ (s : Schedule). opens_in c.args.connection s.left) c.self.view_is) in
    ap not coming
    ∙ linked_opened (left_at c.self.inside.cursor c.self.inside.turns.items) c.self.inside.taken.items c.self.inside.links.items c.self.inside.log.value c.args.connection c.self.invariant linked
    ∙ ap (λ (s : Schedule). was_opened c.args.connection s.log) c.self.view_is
