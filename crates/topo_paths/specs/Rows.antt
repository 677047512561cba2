-- Named switches by their places, and rows of next hops between them.
use Rattle.std.specs.Prelude.{◌≡◌, ◌≢◌, ℕ, ◌<◌, ◌≤◌, List, [], length, Option, None, AllPairs}
use Rattle.std.specs.List.{slice_index_or}
use Rattle.maple_base.specs.declared.cells.Place.{Place}
use Rattle.env_cells.specs.Most.{most_switches}
use Rattle.topo_paths.specs.Walks.{Link}
use Rattle.topo_paths.specs.declared.rows.Ends.{Ends}
use Rattle.topo_paths.specs.Graphs.{RisePorts}
use Rattle.topo_paths.specs.NextHops.{next_hop}

-- both places are among those of 64 switches
abbrev pub AreWithin : Ends → Type 0
AreWithin e = (e.from < most_switches) × (e.to < most_switches)

-- the link leads between the switches at these two places
pub record IsEnds (switches : List ℕ) (link : Link) (e : Ends) : Type 0 where
  pub within : (e.from < length switches) × (e.to < length switches)
  pub from : slice_index_or switches e.from 0 ≡ link.0.switch
  pub to : slice_index_or switches e.to 0 ≡ link.1.switch

-- the ends of the links, by the places of their switches among the named ones
pub record AreEnds (links : List Link) (switches : List ℕ) (ends : List Ends) : Type 0 where
  pub few : length switches ≤ most_switches
  pub apart : AllPairs ◌≢◌ switches
  pub each : (k : ℕ) (b : Link) (d : Ends) → k < length links → IsEnds switches (slice_index_or links k b) (slice_index_or ends k d)

-- those that are named keep their places, and more may be
pub record KeepPlaces (switches others : List ℕ) : Type 0 where
  pub more : length switches ≤ length others
  pub kept : (k : ℕ) → k < length switches → slice_index_or others k 0 ≡ slice_index_or switches k 0

-- the hop to one place from another
abbrev pub cell_at : List (List (Option Place)) → ℕ → ℕ → Option Place
cell_at rows to from = slice_index_or (slice_index_or rows to []) from None

-- the rows have the next hops between the named switches
abbrev pub HaveHops : List Link → List ℕ → List (List (Option Place)) → Type 0
HaveHops links switches rows =
    (from to : ℕ) → from < length switches → to < length switches → cell_at rows to from ≡ next_hop links (slice_index_or switches from 0) (slice_index_or switches to 0)

-- the rows have the next hops, whatever switches the ends stand for
abbrev pub AreRows : List Link → List Ends → List (List (Option Place)) → Type 0
AreRows links ends rows = (switches : List ℕ) → AreEnds links switches ends → RisePorts links → HaveHops links switches rows
