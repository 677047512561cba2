-- Entries whose keys rise, and the place of a key among them.
use Rattle.std.specs.Prelude.{◌≡◌, ℕ, ◌<◌, ◌≤◌, true, if◌then◌else◌, Some, None, List, length, slice_set, insert, remove}
use Rattle.std.specs.declared.cmp.Ordering.{Ordering}
use Rattle.std.specs.List.{slice_index_or}
use Rattle.std.specs.FinMap as map
use Rattle.std.specs.FinMap.{is_sorted}

-- what these tie is equal, as a clone and what it is made of
abbrev pub AreEqual : {A : Type 0} → (A → A → Type 0) → Type 0
AreEqual {A} ties = (x y : A) → ties x y → y ≡ x

module _ {K X : Type 0} (R : K → K → Ordering) where
  -- the finite map of entries
  abbrev pub map_of : List (K × X) → map.FinMap R X
  map_of entries = map.from_entries entries

  -- a key that has a value gets this one
  abbrev pub replaced : map.FinMap R X → K → X → map.FinMap R X
  replaced m key value = if map.contains_key m key then map.insert m key value else m

  -- the entries of a map, whose keys rise
  pub record AreEntries (entries : List (K × X)) (m : map.FinMap R X) : Type 0 where
    pub rise : is_sorted R entries ≡ true
    pub made : map_of entries ≡ m

  -- the key's entry stands at this place: what it has, and what it is to write or remove it
  pub record IsHit (entries : List (K × X)) (key : K) (place : ℕ) : Type 0 where
    pub within : place < length entries
    pub own : (d : K × X) → (slice_index_or entries place d).0 ≡ key
    pub value : (d : K × X) → Some (slice_index_or entries place d).1 ≡ map.get (map_of entries) key
    pub written : (v : X) → AreEntries (slice_set entries place (key, v)) (map.insert (map_of entries) key v)
    pub removed : AreEntries (remove entries place) (map.remove (map_of entries) key)

  -- the key has no entry, and one would go to this place
  pub record IsGap (entries : List (K × X)) (key : K) (place : ℕ) : Type 0 where
    pub within : place ≤ length entries
    pub value : None ≡ map.get (map_of entries) key
    pub written : (v : X) → AreEntries (insert entries place (key, v)) (map.insert (map_of entries) key v)
    pub removed : map_of entries ≡ map.remove (map_of entries) key
