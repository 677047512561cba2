use Rattle.std.proofs.Common.{refl, inl, ◌≡◌, ℕ, ◌<◌, Some, List, unwrap_or, sym, ap, subst, arith}
use Rattle.maple_base.specs.declared.cells.Place.{Place}
use Rattle.topo_paths.specs.Walks.{Link}
use Rattle.topo_paths.specs.Graphs.{IsGraph}
use Rattle.topo_paths.specs.NextHops.{next_hop, distance}
use Rattle.topo_paths.proofs.Hopping.{hop_nearer}
use Rattle.topo_paths.proofs.Ways.{IsUnderWay, way_turn, way_whole}
use Rattle.topo_paths.proofs.hops.Hops.way.Goals as goal

pub loop-next-init : goal.loop-next-init
loop-next-init c = subst (λ (x : List Place). IsUnderWay c.args.self.now c.args.from c.args.to c.args.from x) (sym c.new-hops.ensures.items) (record { way = refl; on = inl refl; ports = refl })

smaller : (links : List Link) (to at : ℕ) (hop : Place) → next_hop links at to ≡ Some hop → unwrap_or (distance links hop.switch to) 0 < unwrap_or (distance links at to) 0
smaller links to at hop h =
    let (m, here, there) = hop_nearer links at to hop h in
    omega (arith, ap (λ o. unwrap_or o 0) here, ap (λ o. unwrap_or o 0) there)

pub loop-next-smaller : goal.loop-next-smaller
loop-next-smaller c = smaller c.args.self.now c.args.to c.loop-next.at c.in-Some.next (sym c.in-Some.ensures.value)

pub loop-next-preserved : goal.loop-next-preserved
loop-next-preserved c = subst (λ (x : List Place). IsUnderWay c.args.self.now c.args.from c.args.to c.in-Some.next.switch x) (sym c.in_ok-push.ensures.items) (way_turn c.args.self.now c.args.from c.args.to c.loop-next.at c.loop-next.hops.items c.in-Some.next (subst (λ (x : List Link). IsGraph x) c.self.view_is c.self.invariant.graph) (sym c.in-Some.ensures.value) c.in-Some.ensures.port c.loop-next.invariant)

pub returns : goal.returns
returns c = way_whole c.args.self.now c.args.from c.args.to c.loop-next.at c.loop-next.hops.items c.in_default.ensures.none c.loop-next.invariant
