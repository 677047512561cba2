use Rattle.std.proofs.Common.{◌≤◌, List, [], length, drop, ap, sym, ◌∙◌, arith}
use Rattle.std.proofs.lemmas.List.{drop_all, take_rest}
use Rattle.maple_io.specs.declared.mem_board.MemTurn.{MemTurn}
use Rattle.maple_io.specs.Schedules.{Schedule, opens_in}
use Rattle.maple_io.proofs.Cuts.{opens_from}
use Rattle.maple_io.proofs.mem_board.MemBoard.is_to_come.Goals as goal

pub returns-in-Some : goal.returns-in-Some
returns-in-Some c =
    c.opens_in.ensures
    ∙ opens_from c.args.connection c.self.inside.turns.items c.in-Some.left.now c.self.inside.cursor
    (c.in-Some.ensures.lookup.0.2 ∙ take_rest c.deref.result.now c.self.inside.cursor.turn ∙ ap (λ (ts : List MemTurn). drop c.self.inside.cursor.turn ts) c.deref.ensures.value)
    ∙ ap (λ (s : Schedule). opens_in c.args.connection s.left) c.self.view_is

pub returns-in-None : goal.returns-in-None
returns-in-None c =
    let past : length c.deref.result.now ≤ c.self.inside.cursor.turn = omega (arith, c.in-None.ensures.lookup) in
    opens_from c.args.connection c.self.inside.turns.items [] c.self.inside.cursor
    (sym (drop_all c.self.inside.cursor.turn c.deref.result.now past) ∙ ap (λ (ts : List MemTurn). drop c.self.inside.cursor.turn ts) c.deref.ensures.value)
    ∙ ap (λ (s : Schedule). opens_in c.args.connection s.left) c.self.view_is
