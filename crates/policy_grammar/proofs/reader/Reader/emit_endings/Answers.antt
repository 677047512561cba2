use Rattle.std.proofs.Common.{◌≡◌, ◌<◌, ◌+◌, ◌∙◌, [], ◌∷◌, ◌++◌, arith, sym, subst, ap}
use Rattle.policy_grammar.specs.Automaton.{least}
use Rattle.policy_grammar.specs.Events.{ended}
use Rattle.policy_grammar.proofs.Below.{Ending, ending_more}
use Rattle.policy_grammar.proofs.reader.Reader.emit_endings.Goals as goal

pub loop-around-preserved : goal.loop-around-preserved
loop-around-preserved c =
    let xs = c.self.inside.around in
    let top = c.in-Some.around in
    let es = c.loop-around.out.items in
    let start = c.args.out.now.items in
    let grown : c.add.new.out.items ≡ es ++ ended top ∷ [] = c.in_ok-add.ensures.added ∙ ap (λ e. es ++ e ∷ []) c.ended.ensures in
    let ends : c.args.pull < least top = omega (arith, c.least.ensures, c.if-pull-least.false) in
    subst (Ending c.args.pull xs (c.loop-around.depth + 1) start) (sym grown) (ending_more c.args.pull xs c.loop-around.depth start es top (sym c.in-Some.ensures.thing) ends c.loop-around.invariant)
