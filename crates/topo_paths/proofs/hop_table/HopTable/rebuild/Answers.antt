use Rattle.std.proofs.Common.{ℕ, List, Option, length, All, Contains, sym, ap, ◌∙◌, subst, arith}
use Rattle.std.proofs.lemmas.List.{with_items_is}
use Rattle.std.proofs.lemmas.List.Elements.{All-contains}
use Rattle.env_cells.specs.Lists.{IsAmong}
use Rattle.maple_base.specs.declared.cells.Place.{Place}
use Rattle.topo_paths.specs.declared.rows.Ends.{Ends}
use Rattle.topo_paths.specs.Beside.{AreAmong, AreLeast, HasBeside}
use Rattle.topo_paths.specs.Rows.{AreEnds, AreWithin, HaveHops}
use Rattle.topo_paths.specs.Walks.{Link}
use Rattle.topo_paths.proofs.Beside.{table_kept}
use Rattle.topo_paths.proofs.Hopping.{hop_unnamed}
use Rattle.topo_paths.proofs.Moved.{fewer_once, next_hop_same}
use Rattle.topo_paths.proofs.Naming.{all_named, all_within}
use Rattle.topo_paths.proofs.hop_table.HopTable.rebuild.Goals as goal

pub find_ends-requires-clause-few : goal.find_ends-requires-clause-few
find_ends-requires-clause-few c =
    let (names, few, all) = c.requires.few in
    let k : AreLeast c.args.links.now c.as_slice-least.result.now = subst (λ (x : List Link). AreLeast c.args.links.now x) (sym c.as_slice-least.ensures.value) c.keep_least.ensures.least in
    (names, few, λ i d lt. All-contains (IsAmong names) c.args.links.now _ all (k.all i d lt))

pub find_hops-requires-clause-within : goal.find_hops-requires-clause-within
find_hops-requires-clause-within c = subst (λ (x : List Ends). All AreWithin x) (sym c.deref.ensures.value) (all_within c.as_slice-least.result.now c.find_ends.new.switches.items _ c.find_ends.ensures.ends c.find_ends.ensures.long)

pub returns-clause-table : goal.returns-clause-table
returns-clause-table c =
    let links = c.as_slice-least.result.now in
    let k : AreLeast c.args.links.now links = subst (λ (x : List Link). AreLeast c.args.links.now x) (sym c.as_slice-least.ensures.value) c.keep_least.ensures.least in
    let switches : List ℕ = c.find_ends.new.switches.items in
    let are : AreEnds links switches c.deref.result.now = subst (λ (x : List Ends). AreEnds links switches x) (sym c.deref.ensures.value) c.find_ends.ensures.ends in
    let rows_is = with_items_is c.args.self.now.rows c.find_hops.new.rows (omega (arith, c.find_hops.ensures.square, c.requires.room.rows, c.args.self.now.rows.ok.0)) in
    let among : AreAmong links c.args.links.now = record { all = λ x i. All-contains (Contains c.args.links.now) links x k.all i; beside = λ x i. All-contains (HasBeside links) c.args.links.now x k.beside i } in
    table_kept links c.args.links.now _ (record { hops = λ from to. sym (next_hop_same links c.args.links.now (fewer_once _ _ among.all c.requires.once) among from to) }) (record {
      square = record { few = are.few; rows = ap length rows_is ∙ c.find_hops.ensures.square };
      hops = subst (λ (x : List (List (Option Place))). HaveHops links switches x) (sym rows_is) (c.find_hops.ensures.hops switches are k.rise);
      others = hop_unnamed links switches (all_named links switches _ are);
    })
