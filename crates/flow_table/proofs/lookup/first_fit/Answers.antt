use Rattle.std.proofs.Common.{◌≡◌, true, false, rules}
use Rattle.std.proofs.lemmas.Iterator.{YieldsList-from_slice, first_from_find}
use Rattle.maple_base.specs.Choice.{fits}
use Rattle.flow_table.proofs.Standing.{found_is}
use Rattle.flow_table.proofs.lookup.first_fit.Goals as goal

pub returns-clause-found : goal.returns-clause-found
returns-clause-found c =
    found_is c.args.rules.now c.args.key.now c.find.result c.requires
    (first_from_find _ _ c.find.result (λ r. fits r c.args.key.now ≡ true) (λ r. fits r c.args.key.now ≡ false) c.find.ensures.ran (YieldsList-from_slice c.args.rules.now cc) (λ x q k. search rules) (λ x q k. search rules))
