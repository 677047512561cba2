use Rattle.std.proofs.Common.{List, sym, subst}
use Rattle.std.specs.List.Sorted.{IsPermutation}
use Rattle.std.proofs.lemmas.List.Sorted.{IsPermutation-sym, All-permutation}
use Rattle.env_cells.specs.Lists.{IsAmong, NamesFewSwitches}
use Rattle.topo_paths.specs.Walks.{Link}
use Rattle.topo_paths.specs.Beside.{StartOnce}
use Rattle.topo_paths.specs.Graphs.{RisePorts}
use Rattle.topo_paths.specs.Tables.{HasTable}
use Rattle.topo_paths.proofs.Beside.{table_kept}
use Rattle.topo_paths.proofs.Moved.{moved_among, moved_once, next_hop_same}
use Rattle.topo_paths.proofs.hops.Hops.build.Goals as goal

pub rebuild-requires-clause-few : goal.rebuild-requires-clause-few
rebuild-requires-clause-few c =
    let (names, few, all) = c.requires.few in
    subst (λ (x : List Link). NamesFewSwitches x) (sym c.deref.ensures.value) (names, few, All-permutation (IsAmong names) c.args.links.now c.in_ok-rising.rising.items c.in_ok-rising.ensures.moved all)

pub rebuild-requires-clause-rise : goal.rebuild-requires-clause-rise
rebuild-requires-clause-rise c = subst (λ (x : List Link). RisePorts x) (sym c.deref.ensures.value) c.in_ok-rising.ensures.rise

pub rebuild-requires-clause-once : goal.rebuild-requires-clause-once
rebuild-requires-clause-once c = subst (λ (x : List Link). StartOnce x) (sym c.deref.ensures.value) (moved_once _ c.args.links.now (IsPermutation-sym _ _ c.in_ok-rising.ensures.moved) c.requires.apart)

pub invariant_of-result : goal.invariant_of-result
invariant_of-result c =
    let links = c.args.links.now in
    let lent = c.deref.result.now in
    let moved = subst (λ (x : List Link). IsPermutation links x) (sym c.deref.ensures.value) c.in_ok-rising.ensures.moved in
    let back = IsPermutation-sym links lent moved in
    let same = next_hop_same lent links (moved_once lent links back c.requires.apart) (moved_among lent links back) in
    subst (λ (x : List Link). HasTable x c.rebuild.new.self) (sym c.in_ok-links.ensures.items)
    (record { graph = c.requires; hops = table_kept lent links _ (record { hops = λ from to. sym (same from to) }) c.rebuild.ensures.table })
