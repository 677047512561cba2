use Rattle.std.proofs.Common.{codes, decimal, ◌++◌, subst}
use Rattle.report_text.specs.Report.{spelled_decision, spelled_learnt}
use Rattle.report_text.proofs.Flat.{flat_two}
use Rattle.report_text.proofs.spelling.answer.Goals as goal

pub returns : goal.returns
returns g c =
    let rest = g.met.S.Sheet.joined _ _ _ _ _ c.two.ensures (g.met.S.Sheet.joined _ _ _ _ _ c.decision_text.ensures c.learnt_text.ensures) in
    subst (λ t. g.S.Sheet.takes c.args.sheet.now t c.learnt_text.new.sheet)
    (flat_two (codes "answer s") (decimal c.args.switch) (codes " ") (decimal c.args.port) (codes " ") (spelled_decision c.args.switch c.args.decision.now ++ (codes " " ++ (spelled_learnt c.args.learnt ++ codes "\n")))) rest
