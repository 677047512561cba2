use Rattle.std.proofs.Common.{◌≡◌, List, ap, ◌∙◌, subst}
use Rattle.std.specs.List.{All}
use Rattle.env_cells.specs.Lists.{IsBetweenPorts}
use Rattle.topo_paths.specs.NextHops.{next_hop}
use Rattle.topo_paths.specs.Walks.{Link}
use Rattle.topo_paths.proofs.Hopping.{hop_facts}
use Rattle.topo_paths.proofs.hops.Hops.hop.Goals as goal

pub returns : goal.returns
returns c =
    let links : List Link = c.args.self.now in
    let is : c.self.inside.links.items ≡ links = c.self.view_is in
    let ports : All IsBetweenPorts links = subst (λ (x : List Link). All IsBetweenPorts x) is c.self.invariant.graph.ports in
    let value : c.hop.result ≡ next_hop links c.args.from c.args.to = c.hop.ensures c.self.inside.links.items c.self.invariant.hops ∙ ap (λ (x : List Link). next_hop x c.args.from c.args.to) is in
    let (some, none, port) = hop_facts links c.args.from c.args.to c.hop.result ports value in
    record { value = value; some = some; none = none; port = port }
