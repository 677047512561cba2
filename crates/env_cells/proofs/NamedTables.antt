-- The tables of names, made of empty ones that take the numbers of those that were.
use Rattle.std.proofs.Common.{◌≡◌, ℕ, ◌+◌, ◌<◌, length, drop, get_or, Bool, true, false, cond, Option, Some, None, List, [], ◌∷◌, ◌++◌, sym, ap, ◌∙◌, refl}
use Rattle.std.specs.Prelude.{is_some, unwrap_or, ◌||◌}
use Rattle.std.specs.declared.cmp.Ordering.{Ordering}
use Rattle.std.specs.declared.cmp.Ordering.TheVariants.{Less, Equal, Greater}
use Rattle.std.specs.List.{list_any}
use Rattle.std.specs.Ordering.{eq_by_cmp, is_eq}
use Rattle.std.specs.FinMap as map
use Rattle.std.specs.FinMap.{find}
use Rattle.std.proofs.lemmas.List.{drop_more}
use Rattle.env_cells.specs.Environment.{NumberTable, name_cmp}
use Rattle.env_cells.specs.KeyOrders.{name_order_total, name_order_apart}
use Rattle.env_cells.specs.Named.{numbers_in, tables_named, with_tables}
use Rattle.env_cells.specs.Sorted.{map_of, replaced}

-- empty tables of the names from a place on
pub named_more : (names : List (List ℕ)) (at : ℕ) (d : List ℕ) → at < length names → map.insert (tables_named map.empty (drop (at + 1) names)) (get_or names at d) map.empty ≡ tables_named map.empty (drop at names)
named_more names at d lt =
    sym (ap (tables_named map.empty) (drop_more names at d lt)
    ∙ ap (λ x. map.insert (tables_named map.empty (drop (at + 1) names)) (get_or names at d) (unwrap_or x map.empty)) (map.get-empty name_cmp (get_or names at d)))

pub with_tables_last : (m : map.FinMap name_cmp NumberTable) (es : List (List ℕ × NumberTable)) (e : List ℕ × NumberTable) → with_tables m (es ++ e ∷ []) ≡ with_tables (replaced name_cmp m e.0 e.1) es
with_tables_last m [] e = refl
with_tables_last m (f ∷ es) e = ap (λ n. replaced name_cmp n f.0 f.1) (with_tables_last m es e)

pub tied_of : (r : Ordering) → is_eq r ≡ true → r ≡ Equal
tied_of Less h = cc
tied_of Equal h = refl
tied_of Greater h = cc

pub get-tables_named : (m : map.FinMap name_cmp NumberTable) (names : List (List ℕ)) (q : List ℕ) → map.get (tables_named m names) q ≡ cond (list_any (eq_by_cmp name_cmp q) names) (Some (unwrap_or (map.get m q) map.empty)) None
get-tables_named m [] q = map.get-empty name_cmp q
get-tables_named m (n ∷ names) q =
    map.get-insert name_order_total (tables_named m names) n (numbers_in m n) q
    ∙ go (eq_by_cmp name_cmp q n) refl (get-tables_named m names q)
  where
    go : (t : Bool) → eq_by_cmp name_cmp q n ≡ t → map.get (tables_named m names) q ≡ cond (list_any (eq_by_cmp name_cmp q) names) (Some (unwrap_or (map.get m q) map.empty)) None → cond t (Some (numbers_in m n)) (map.get (tables_named m names) q) ≡ cond (t || list_any (eq_by_cmp name_cmp q) names) (Some (unwrap_or (map.get m q) map.empty)) None
    go true is rest = ap (λ x. Some (unwrap_or x map.empty)) (map.get_tied name_order_total m q n (tied_of _ is))
    go false is rest = rest

-- what there is at a name after one entry more was taken over
took : (m : map.FinMap name_cmp NumberTable) (e : List ℕ × NumberTable) (q : List ℕ) (there : Bool) (x : Option NumberTable) → map.get m q ≡ cond there (Some (unwrap_or x map.empty)) None → map.get (replaced name_cmp m e.0 e.1) q ≡ cond there (Some (unwrap_or (cond (eq_by_cmp name_cmp q e.0) (Some e.1) x) map.empty)) None
took m e q there x = go (eq_by_cmp name_cmp q e.0) refl (map.contains_key m e.0) refl there
  where
    go : (t : Bool) → eq_by_cmp name_cmp q e.0 ≡ t → (c : Bool) → map.contains_key m e.0 ≡ c → (b : Bool) → map.get m q ≡ cond b (Some (unwrap_or x map.empty)) None → map.get (cond c (map.insert m e.0 e.1) m) q ≡ cond b (Some (unwrap_or (cond t (Some e.1) x) map.empty)) None
    go false apart true known b is = map.get-insert name_order_total m e.0 e.1 q ∙ ap (λ t. cond t (Some e.1) (map.get m q)) apart ∙ is
    go false apart false known b is = is
    go true tied true known true is = map.get-insert name_order_total m e.0 e.1 q ∙ ap (λ t. cond t (Some e.1) (map.get m q)) tied
    go true tied true known false is = let h : true ≡ false = sym known ∙ ap is_some (map.get_tied name_order_total m q e.0 (tied_of _ tied) ∙ is) in cc
    go true tied false known true is = let h : false ≡ true = sym known ∙ ap is_some (map.get_tied name_order_total m q e.0 (tied_of _ tied) ∙ is) in cc
    go true tied false known false is = is

get-with_tables : (m : map.FinMap name_cmp NumberTable) (es : List (List ℕ × NumberTable)) (q : List ℕ) (there : Bool) → map.get m q ≡ cond there (Some map.empty) None → map.get (with_tables m es) q ≡ cond there (Some (unwrap_or (find name_cmp q es) map.empty)) None
get-with_tables m [] q there is = is
get-with_tables m (e ∷ es) q there is = took (with_tables m es) e q there (find name_cmp q es) (get-with_tables m es q there is)

pub declared : (es : List (List ℕ × NumberTable)) (names : List (List ℕ)) (m : map.FinMap name_cmp NumberTable) → m ≡ tables_named map.empty names → with_tables m es ≡ tables_named (map_of name_cmp es) names
declared es names m is =
    map.same_map name_order_total name_order_apart _ _ (λ q.
    let found : Option NumberTable → Option NumberTable = λ x. cond (list_any (eq_by_cmp name_cmp q) names) (Some (unwrap_or x map.empty)) None in
    get-with_tables m es q _ (ap (λ n. map.get n q) is ∙ get-tables_named map.empty names q ∙ ap found (map.get-empty name_cmp q))
    ∙ sym (get-tables_named (map_of name_cmp es) names q ∙ ap found (map.get-from_entries name_order_total es q)))
