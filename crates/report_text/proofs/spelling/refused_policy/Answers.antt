use Rattle.std.proofs.Common.{codes, decimal, ◌++◌, subst}
use Rattle.maple_base.specs.PolicyFaults.{fault_name}
use Rattle.report_text.proofs.Flat.{flat_two}
use Rattle.report_text.proofs.spelling.refused_policy.Goals as goal

pub returns : goal.returns
returns g c =
    let joined = g.met.S.Sheet.joined in
    let rest = joined _ _ _ _ _ c.two.ensures (joined _ _ _ _ _ (rw c.fault_word.ensures at c.text.ensures) c.text-2.ensures) in
    subst (λ t. g.S.Sheet.takes c.args.sheet.now t c.text-2.new.self)
    (flat_two (codes "refused policy ") (decimal c.args.line) (codes ":") (decimal c.args.column) (codes " ") (fault_name c.args.kind ++ codes "\n")) rest
