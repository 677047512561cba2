use Rattle.std.proofs.Common.{[], ◌∷◌, ap, sym, ◌∙◌}
use Rattle.maple_io.specs.declared.act.Act.TheVariants as acts
use Rattle.maple_io.specs.Boards.{was_opened}
use Rattle.serve_cases.specs.Slow.{SlowView}
use Rattle.serve_cases.proofs.Opened.{both_on}
use Rattle.serve_cases.proofs.slow_board.SlowBoardBoard.close.Goals as goal

pub close-requires : goal.close-requires
close-requires c = sym (c.self.invariant.same c.args.connection) ∙ ap (λ (s : SlowView). was_opened c.args.connection s.log) c.self.view_is ∙ c.requires

pub invariant_of-self : goal.invariant_of-self
invariant_of-self c =
    both_on c.self.inside.acts.value c.self.inside.board.log (acts.Closes c.args.connection ∷ []) c.closing-self-inside.result.value c.close.new.self.log
    c.closing-self-inside.ensures c.close.ensures.log c.self.invariant
