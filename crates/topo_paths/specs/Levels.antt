-- How next hops are found, level by level: each named switch has a mask of the places that it reaches.
use Rattle.std.specs.Prelude.{◌≡◌, ℕ, ◌+◌, ◌<◌, Bool, false, not, ◌&&◌, ◌||◌, ◌==◌, nat_le, if◌then◌else◌, List, length, take, Option, Some, None}
use Rattle.std.specs.Int.{bit_at}
use Rattle.std.specs.List.{slice_index_or, list_any, find}
use Rattle.maple_base.specs.declared.cells.Place.{Place}
use Rattle.env_cells.specs.Most.{most_switches}
use Rattle.topo_paths.specs.Walks.{Link}
use Rattle.topo_paths.specs.declared.rows.Ends.{Ends}
use Rattle.topo_paths.specs.NextHops.{distance, hop_over, next_hop}
use Rattle.topo_paths.specs.Graphs.{RisePorts}
use Rattle.topo_paths.specs.Rows.{AreEnds, cell_at}

-- a mask has a place
abbrev pub has : ℕ → ℕ → Bool
has mask place = bit_at mask place == 1

-- the mask of the one place has the other
abbrev pub reaches : List ℕ → ℕ → ℕ → Bool
reaches masks from to = has (slice_index_or masks from 0) to

abbrev pub is_within : Option ℕ → ℕ → Bool
is_within None level = false
is_within (Some n) level = nat_le n level

-- a walk of at most so many links leads from the one switch to the other
abbrev pub near : List Link → ℕ → ℕ → ℕ → Bool
near links level from to = is_within (distance links from to) level

-- the link begins at the one switch, and at most so many further ones lead on to the other
abbrev pub leads_near : List Link → ℕ → ℕ → ℕ → Link → Bool
leads_near links level from to link = link.0.switch == from && near links level link.1.switch to

abbrev pub hop_by : Option Link → Option Place
hop_by None = None
hop_by (Some link) = Some (hop_over link)

-- the next hops over walks of at most so many links
pub record IsLevel (links : List Link) (switches : List ℕ) (level : ℕ) (masks : List ℕ) (rows : List (List (Option Place))) : Type 0 where
  pub reached : (from to : ℕ) → from < length switches → to < length switches → reaches masks from to ≡ near links level (slice_index_or switches from 0) (slice_index_or switches to 0)
  pub hops : (from to : ℕ) → from < length switches → to < length switches → cell_at rows to from ≡ (if near links level (slice_index_or switches from 0) (slice_index_or switches to 0) then next_hop links (slice_index_or switches from 0) (slice_index_or switches to 0) else None)

-- masks and rows of one level, and those of the next, whatever switches the ends stand for
abbrev pub IsNextLevel : List Link → List Ends → List ℕ → List (List (Option Place)) → List ℕ → List (List (Option Place)) → Type 0
IsNextLevel links ends masks rows masks' rows' =
    (switches : List ℕ) (level : ℕ) → AreEnds links switches ends → RisePorts links → level < length links → IsLevel links switches level masks rows → IsLevel links switches (level + 1) masks' rows'

-- one link more in front, of the first so many: what it newly leads to has the hop over the first such link
pub record IsGrown (links : List Link) (switches : List ℕ) (level count : ℕ) (masks : List ℕ) (rows : List (List (Option Place))) : Type 0 where
  pub reached : (from to : ℕ) → from < length switches → to < length switches → reaches masks from to ≡ (near links level (slice_index_or switches from 0) (slice_index_or switches to 0) || list_any (leads_near links level (slice_index_or switches from 0) (slice_index_or switches to 0)) (take count links))
  pub hops : (from to : ℕ) → from < length switches → to < length switches → cell_at rows to from ≡ (if near links level (slice_index_or switches from 0) (slice_index_or switches to 0) then next_hop links (slice_index_or switches from 0) (slice_index_or switches to 0) else hop_by (find (leads_near links level (slice_index_or switches from 0) (slice_index_or switches to 0)) (take count links)))

-- the hop was written from one place to each place of the mask
abbrev pub IsWritten : ℕ → ℕ → Place → List (List (Option Place)) → List (List (Option Place)) → Type 0
IsWritten from mask hop rows rows' =
    (to at : ℕ) → to < most_switches → at < most_switches → cell_at rows' to at ≡ (if from == at && has mask to then Some hop else cell_at rows to at)

-- a link was joined: the place at which it begins reaches what the place reached before at which it ends, by the hop where that is new
pub record IsJoined (e : Ends) (hop : Place) (before masks : List ℕ) (rows : List (List (Option Place))) (masks' : List ℕ) (rows' : List (List (Option Place))) : Type 0 where
  pub reached : (from to : ℕ) → from < most_switches → to < most_switches → reaches masks' from to ≡ (reaches masks from to || (e.from == from && reaches before e.to to))
  pub hops : (from to : ℕ) → from < most_switches → to < most_switches → cell_at rows' to from ≡ (if e.from == from && (reaches before e.to to && not (reaches masks from to)) then Some hop else cell_at rows to from)
