use Rattle.std.proofs.Common.{◌≡◌, ◌++◌, length, take, drop, map, ap, sym, ◌∙◌, refl, true}
use Rattle.maple_io.specs.Boards.{was_opened}
use Rattle.maple_io.specs.Kept.{left_at, marked}
use Rattle.maple_io.specs.Schedules.{Schedule}
use Rattle.maple_io.proofs.Links.{put_back}
use Rattle.maple_io.proofs.Sounds.{closes}
use Rattle.maple_io.proofs.mem_board.MemBoardBoard.close.Goals as goal

pub invariant_of-self : goal.invariant_of-self
invariant_of-self c =
    let n : c.self.inside.links.len ≡ length c.close_links.new.links = sym c.deref_mut.ensures.len ∙ sym c.close_links.auto.links in
    let closed : take c.self.inside.links.len (c.close_links.new.links ++ drop (length c.close_links.new.links) c.self.inside.links.items) ≡ map (marked c.args.connection) c.self.inside.links.items =
    put_back c.self.inside.links.len c.close_links.new.links (drop (length c.close_links.new.links) c.self.inside.links.items) c.close_links.new.links n refl ∙ c.close_links.ensures ∙ ap (map (marked c.args.connection)) c.deref_mut.ensures.value in
    let opened : was_opened c.args.connection c.self.inside.log.value ≡ true = ap (λ (s : Schedule). was_opened c.args.connection s.log) c.self.view_is ∙ c.requires in
    closes (left_at c.self.inside.cursor c.self.inside.turns.items) c.self.inside.taken.items c.self.inside.links.items _ c.self.inside.log.value c.closing-self-inside.result.value c.args.connection opened closed c.closing-self-inside.ensures c.self.invariant
