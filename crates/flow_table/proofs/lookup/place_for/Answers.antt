use Rattle.std.proofs.Common.{◌≡◌, true, false, rules}
use Rattle.std.proofs.lemmas.Iterator.{YieldsList-from_slice, IsFirst-from_position}
use Rattle.maple_base.specs.Choice.{stands_above}
use Rattle.flow_table.proofs.Standing.{place_or_end}
use Rattle.flow_table.proofs.lookup.place_for.Goals as goal

pub returns : goal.returns
returns c =
    rw c.unwrap_or.ensures
    (place_or_end c.args.rule.now c.args.rules.now c.position.result c.requires
    (IsFirst-from_position _ _ c.position.result (λ q. stands_above c.args.rule.now q ≡ true) (λ q. stands_above c.args.rule.now q ≡ false) c.position.ensures.ran (YieldsList-from_slice c.args.rules.now cc) (λ x q k. search rules) (λ x q k. search rules)))
