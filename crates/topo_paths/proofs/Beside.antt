-- The links of an environment, in their order, and where an update changes no next hop.
use Rattle.std.proofs.Common.{◌≡◌, ◌≤◌, Bool, true, false, not, cond, eqb, ltb, ◌&&◌, List, [], ◌∷◌, ◌++◌, All, get_or, Option, Some, None, MatchOption, Contains, sym, ap, ◌∙◌, subst, ⊎_elim, arith}
use Rattle.std.specs.Prelude.{unwrap_or}
use Rattle.std.specs.declared.cmp.Ordering.{Ordering}
use Rattle.std.specs.declared.cmp.Ordering.TheVariants.{Less, Equal, Greater}
use Rattle.std.specs.Ordering.{is_eq}
use Rattle.std.specs.List.Sorted.{IsPermutation}
use Rattle.std.specs.FinMap.Entries.{find, put, by_order}
use Rattle.std.proofs.lemmas.List.Sorted.{IsPermutation-refl, IsPermutation-sym, IsPermutation-trans, IsPermutation-cons, IsPermutation-middle, Contains-permutation}
use Rattle.std.proofs.lemmas.Option.{none-some}
use Rattle.std.specs.List.{list_any}
use Rattle.std.specs.FinMap as map
use Rattle.std.proofs.lemmas.Bool.{not-false, and_parts, eqb-true, ltb-true}
use Rattle.std.proofs.lemmas.Bool.Decides.{nat_tests}
use Rattle.std.proofs.lemmas.List.{length_push}
use Rattle.std.proofs.lemmas.List.Elements.{All-nil, All-push, All-weaker, Contains-append_left, Contains-push}
use Rattle.std.proofs.lemmas.List.Folds.{Any-from_list_any}
use Rattle.std.proofs.lemmas.List.Quantifiers.{all_pairs_push}
use Rattle.maple_base.specs.declared.cells.Place.{Place}
use Rattle.env_cells.specs.declared.updates.Update.TheVariants.{Link as LinkUpdate, NoLink}
use Rattle.env_cells.specs.Environment.{Environment, place_cmp}
use Rattle.env_cells.specs.Changes.{applied}
use Rattle.env_cells.specs.Limits.{IsWithinLimits}
use Rattle.env_cells.specs.Lists.{RiseByPlace}
use Rattle.env_cells.specs.KeyOrders.{place_order_total, place_order_apart}
use Rattle.env_cells.proofs.LinkFacts.{links_apart, links_named, links_ports}
use Rattle.env_cells.proofs.Maps.{insert_same}
use Rattle.env_cells.proofs.SortedLists.{remove_absent}
use Rattle.topo_paths.specs.declared.hop_table.HopTable.{HopTable}
use Rattle.topo_paths.specs.Walks.{Link}
use Rattle.topo_paths.specs.Beside.{is_beside, IsBeside, HasBeside, AreAmong, AreLeast, IsKept, StartOnce, KeepsHops}
use Rattle.topo_paths.specs.Graphs.{IsGraph, RisePorts}
use Rattle.topo_paths.specs.NextHops.{next_hop}
use Rattle.topo_paths.specs.Scenes.{links_in}
use Rattle.topo_paths.specs.Tables.{HasTable, IsTableOf}
use Rattle.topo_paths.proofs.Moved.{itself, next_hop_same, place_same}
use Rattle.topo_paths.proofs.LeastHops.{contains_there, contains_cases}

by_port : (p q : Place) → place_cmp p q ≡ Less → p.switch ≡ q.switch → p.port ≤ q.port
by_port p q less same = grind (arith, nat_tests)

pub rise_by_port : (links : List Link) → RiseByPlace links → RisePorts links
rise_by_port links rise = λ i j d less short same. by_port _ _ (rise i j d less short) same

beside_of : (other link : Link) → is_beside link.0 link.1 other ≡ true → IsBeside other link
beside_of other link passes =
    let (front, begins) = and_parts (eqb other.1.switch link.1.switch && ltb other.0.port link.0.port) (eqb other.0.switch link.0.switch) passes in
    let (end, less) = and_parts (eqb other.1.switch link.1.switch) (ltb other.0.port link.0.port) front in
    record { begins = eqb-true _ _ begins; ends = eqb-true _ _ end; port = omega (arith, ltb-true _ _ less) }

put_moved : (from to : Place) (es : List Link) → find place_cmp from es ≡ None → IsPermutation (put place_cmp from to es) ((from, to) ∷ es)
put_moved from to [] none = IsPermutation-refl _
put_moved from to (e ∷ es) none = go (place_cmp from e.0) none (put_moved from to es)
  where
    go : (r : Ordering) → cond (is_eq r) (Some e.1) (find place_cmp from es) ≡ None → (find place_cmp from es ≡ None → IsPermutation (put place_cmp from to es) ((from, to) ∷ es)) → IsPermutation (by_order r ((from, to) ∷ e ∷ es) ((e.0, to) ∷ es) (e ∷ put place_cmp from to es)) ((from, to) ∷ e ∷ es)
    go Less none rest = IsPermutation-refl _
    go Equal none rest = absurd (none-some e.1 (sym none))
    go Greater none rest = IsPermutation-trans _ _ _ (IsPermutation-cons e _ _ (rest none)) (IsPermutation-middle (e ∷ []) (from, to) es)

pub keeps_same : (links others : List Link) → others ≡ links → KeepsHops links others
keeps_same links others same = record { hops = λ from to. ap (λ x. next_hop x from to) same }

module _ (e : Environment) (from to : Place) where
  pub link_there : (place : Place) → map.get e.links from ≡ Some place → not (eqb place.switch to.switch && eqb place.port to.port) ≡ false → KeepsHops (links_in e) (links_in (applied e (LinkUpdate from to)))
  link_there place there same =
      let (s, p) = and_parts (eqb place.switch to.switch) (eqb place.port to.port) (not-false _ same) in
      keeps_same _ _ (ap map.entries (insert_same place_order_total place_order_apart e.links from to (there ∙ ap Some (place_same place to (eqb-true _ _ s) (eqb-true _ _ p)))))

  pub link_beside : map.get e.links from ≡ None → StartOnce (links_in e) → list_any (is_beside from to) (links_in e) ≡ true → KeepsHops (links_in e) (links_in (applied e (LinkUpdate from to)))
  link_beside none once h =
      let (k, other, lt, at, passes) = Any-from_list_any (is_beside from to) (links_in e) h in
      let moved = subst (λ l. IsPermutation l ((from, to) ∷ links_in e)) (sym (map.entries-insert place_order_total e.links from to)) (put_moved from to (links_in e) (sym (map.get-entries e.links from) ∙ none)) in
      let among : AreAmong (links_in e) (links_in (applied e (LinkUpdate from to))) = record {
        all = λ x c. Contains-permutation _ _ x (IsPermutation-sym _ _ moved) (contains_there (from, to) (links_in e) x c);
        beside = λ x c. ⊎_elim (λ is. (other, (k, lt, at), subst (IsBeside other) is (beside_of other (from, to) passes))) (λ c. (x, c, itself x)) (contains_cases (from, to) (links_in e) x (Contains-permutation _ _ x moved c));
      } in
      record { hops = λ from to. sym (next_hop_same _ _ once among from to) }

  pub link_gone : map.get e.links from ≡ None → KeepsHops (links_in e) (links_in (applied e (NoLink from)))
  link_gone none = keeps_same _ _ (ap map.entries (sym (remove_absent place_order_total place_order_apart e.links from none)))

-- a table of links is one of others with the same next hops
pub table_kept : (links others : List Link) (table : HopTable) → KeepsHops links others → IsTableOf links table → IsTableOf others table
table_kept links others table keeps t =
    record { square = t.square; hops = λ from to lf lt. t.hops from to lf lt ∙ sym (keeps.hops _ _); others = λ from to out. keeps.hops from to ∙ t.others from to out }

-- the links of an environment have next hops
pub graph_within : (e : Environment) → IsWithinLimits e → IsGraph (links_in e)
graph_within e w = record { apart = links_apart e w; few = links_named e w; ports = links_ports e w }

-- a table of its own, or one that serves
pub own_or : (e : Environment) → IsWithinLimits e → (table : HopTable) (own : Option HopTable) (changed : Bool) → (changed ≡ false → IsTableOf (links_in e) table) → MatchOption own (changed ≡ false) (HasTable (links_in e)) → HasTable (links_in e) (unwrap_or own table)
own_or e w table None changed kept same = record { graph = graph_within e w; hops = kept same }
own_or e w table (Some own) changed kept is = is

pub least_none : AreLeast [] []
least_none = record { all = All-nil (Contains []); beside = All-nil (HasBeside []); rise = λ i j d less short. absurd (omega (arith, short)); few = omega arith }

-- one link more, of which the least are kept
pub least_more : (links least least' : List Link) (link : Link) → ((other : Link) → Contains links other → other.0.switch ≡ link.0.switch → other.0.port ≤ link.0.port) → IsKept least link least' → AreLeast links least → AreLeast (links ++ link ∷ []) least'
least_more links least least' link rise kept l = ⊎_elim more same kept
  where
    wider : All (Contains (links ++ link ∷ [])) least
    wider = All-weaker (Contains links) (Contains (links ++ link ∷ [])) (Contains-append_left links (link ∷ [])) least l.all

    more : least' ≡ least ++ link ∷ [] → AreLeast (links ++ link ∷ []) least'
    more e = subst (λ x. AreLeast (links ++ link ∷ []) x) (sym e) (record {
      all = All-push (Contains (links ++ link ∷ [])) least link wider (Contains-push links link);
      beside = All-push (HasBeside (least ++ link ∷ [])) links link (All-weaker (HasBeside least) (HasBeside (least ++ link ∷ [])) (λ x (other, there, b). (other, Contains-append_left least (link ∷ []) other there, b)) links l.beside) (link, Contains-push least link, itself link);
      rise = all_pairs_push (λ a b. a.0.switch ≡ b.0.switch → a.0.port ≤ b.0.port) least link l.rise (λ k d lt. rise (get_or least k d) (l.all k d lt));
      few = omega (arith, l.few, length_push least link, length_push links link);
    })

    same : (least' ≡ least) × (list_any (is_beside link.0 link.1) least ≡ true) → AreLeast (links ++ link ∷ []) least'
    same (e, h) =
        let (k, other, lt, at, passes) = Any-from_list_any (is_beside link.0 link.1) least h in
        let beside = All-push (HasBeside least) links link l.beside (other, (k, lt, at), beside_of other link passes) in
        subst (λ x. AreLeast (links ++ link ∷ []) x) (sym e) (record { all = wider; beside = beside; rise = l.rise; few = omega (arith, l.few, length_push links link) })
