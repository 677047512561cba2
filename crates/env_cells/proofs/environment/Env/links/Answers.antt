use Rattle.std.proofs.Common.{◌≡◌, ◌≤◌, List, length, ap, sym, subst, ◌∙◌}
use Rattle.std.specs.Prelude.{All}
use Rattle.std.specs.FinMap as map
use Rattle.maple_base.specs.declared.cells.Place.{Place}
use Rattle.env_cells.specs.Environment.{Environment}
use Rattle.env_cells.specs.Limits.{IsWithinLimits}
use Rattle.env_cells.specs.Lists.{StartApart, RiseByPlace, IsBetweenPorts, IsKnown, NamesFewSwitches}
use Rattle.env_cells.proofs.LinkFacts.{links_apart, links_rise, links_few, links_ports, links_known, links_named}
use Rattle.env_cells.proofs.environment.Env.links.Goals as goal

within : (c : goal.After-entries) → IsWithinLimits c.args.self.now
within c = subst IsWithinLimits c.self.view_is c.self.invariant

lent : (c : goal.After-entries) → map.entries c.args.self.now.links ≡ c.entries.result.now
lent c = sym (c.entries.ensures ∙ ap (λ (e : Environment). map.entries e.links) c.self.view_is)

pub returns-clause-apart : goal.returns-clause-apart
returns-clause-apart c = subst StartApart (lent c) (links_apart c.args.self.now (within c))

pub returns-clause-order : goal.returns-clause-order
returns-clause-order c = subst RiseByPlace (lent c) (links_rise c.args.self.now (within c))

pub returns-clause-limits : goal.returns-clause-limits
returns-clause-limits c = within c

pub returns-clause-few : goal.returns-clause-few
returns-clause-few c = subst (λ (l : List (Place × Place)). length l ≤ 4096) (lent c) (links_few c.args.self.now (within c))

pub returns-clause-ports : goal.returns-clause-ports
returns-clause-ports c = subst (All IsBetweenPorts) (lent c) (links_ports c.args.self.now (within c))

pub returns-clause-known : goal.returns-clause-known
returns-clause-known c = subst (All (IsKnown c.args.self.now)) (lent c) (links_known c.args.self.now (within c))

pub returns-clause-named : goal.returns-clause-named
returns-clause-named c = subst NamesFewSwitches (lent c) (links_named c.args.self.now (within c))
