-- A list of at most 16 names declares at most 16 tables.
use Rattle.std.specs.Prelude.{◌≡◌, ℕ, ◌+◌, ◌≤◌, Bool, true, false, cond, List, [], ◌∷◌, length}
use Rattle.std.proofs.Common.{arith}
use Rattle.std.specs.Cmp.Lexicographic.{nat_list_cmp_total}
use Rattle.std.specs.FinSet as set
use Rattle.env_cells.specs.Most.{most_tables}
use Rattle.env_cells.specs.Environment.{name_cmp}

pub len-names : (names : List (List ℕ)) → set.len (set.from_list {R = name_cmp} names) ≤ length names
len-names [] = omega (arith, set.len-empty name_cmp)
len-names (n ∷ names) = go (set.contains (set.from_list {R = name_cmp} names) n) (set.len-insert nat_list_cmp_total (set.from_list names) n) (len-names names)
  where
    go : (b : Bool) → set.len (set.from_list {R = name_cmp} (n ∷ names)) ≡ cond b (set.len (set.from_list {R = name_cmp} names)) (set.len (set.from_list {R = name_cmp} names) + 1) → set.len (set.from_list {R = name_cmp} names) ≤ length names → set.len (set.from_list {R = name_cmp} (n ∷ names)) ≤ length (n ∷ names)
    go true is few = omega (arith, is, few)
    go false is few = omega (arith, is, few)

pub few_names : (names : List (List ℕ)) → length names ≤ most_tables → set.len (set.from_list {R = name_cmp} names) ≤ most_tables
few_names names few = omega (arith, len-names names, few)
