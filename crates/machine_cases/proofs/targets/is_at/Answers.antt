use Rattle.std.proofs.Common.{◌≡◌, true, false, ap, ◌∙◌}
use Rattle.std.specs.Prelude.{◌&&◌, ◌==◌}
use Rattle.flow_table.specs.Effects.{same_match}
use Rattle.flow_table.proofs.Matches.{equal_is}
use Rattle.machine_cases.proofs.targets.is_at.Goals as goal

pub returns-then-eq : goal.returns-then-eq
returns-then-eq c =
    let same : true ≡ same_match c.args.rule.now.of c.args.of.now = c.if-eq.ensures ∙ equal_is c.args.rule.now.of c.args.of.now in
    ap (λ b. b && c.args.rule.now.priority == c.args.priority) same

pub returns-else-eq : goal.returns-else-eq
returns-else-eq c =
    let same : false ≡ same_match c.args.rule.now.of c.args.of.now = c.if-eq.ensures ∙ equal_is c.args.rule.now.of c.args.of.now in
    c.if-eq.false ∙ ap (λ b. b && c.args.rule.now.priority == c.args.priority) same
