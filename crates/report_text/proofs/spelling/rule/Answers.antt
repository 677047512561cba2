use Rattle.std.proofs.Common.{codes, decimal, ◌++◌, subst}
use Rattle.report_text.specs.Report.{spelled_actions, spelled_match}
use Rattle.report_text.proofs.Flat.{flat_two}
use Rattle.report_text.proofs.spelling.rule.Goals as goal

pub returns : goal.returns
returns g c =
    let joined = g.met.S.Sheet.joined in
    let rest = joined _ _ _ _ _ c.two.ensures (joined _ _ _ _ _ (rw c.items.ensures at c.actions_text.ensures) (joined _ _ _ _ _ c.text.ensures (joined _ _ _ _ _ c.match_text.ensures c.text-2.ensures))) in
    subst (λ t. g.S.Sheet.takes c.args.sheet.now t c.text-2.new.self)
    (flat_two (codes "rule s") (decimal c.args.switch) (codes " ") (decimal c.args.priority) (codes " ") (spelled_actions c.args.actions ++ (codes " " ++ (spelled_match c.args.of.now ++ codes "\n")))) rest
