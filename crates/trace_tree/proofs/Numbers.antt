-- What is left of a list of traces when some go, and what comes of it with one more.
use Rattle.std.proofs.Common.{Bool, true, false, cond, List, [], ◌∷◌, ◌++◌}
use Rattle.std.specs.Prelude.{◌≢◌, filter}
use Rattle.std.proofs.lemmas.List.Kept.{AllPairs-filter}
use Rattle.std.proofs.lemmas.List.Quantifiers.{all_pairs_push}
use Rattle.trace_tree.specs.declared.node.Trace.{Trace}
use Rattle.trace_tree.specs.Growth.{AllAskOnce}
use Rattle.trace_tree.specs.Numbers.{HaveOwnNumbers, IsNewNumber}

pub once_filter : (rs : List Trace) (q : Trace → Bool) → AllAskOnce rs → AllAskOnce (filter q rs)
once_filter [] q h = tt
once_filter (r ∷ rs) q h =
    elim (q r) as (λ b. AllAskOnce (cond b (r ∷ filter q rs) (filter q rs))) [ true ↦ (h.0, once_filter rs q h.1) | false ↦ once_filter rs q h.1 ]

abbrev Differ : Trace → Trace → Type 0
Differ x y = x.number ≢ y.number

pub numbers_push : (rs : List Trace) (r : Trace) → HaveOwnNumbers rs → IsNewNumber r.number rs → HaveOwnNumbers (rs ++ r ∷ [])
numbers_push rs r h new = all_pairs_push Differ rs r h new

pub numbers_filter : (rs : List Trace) (q : Trace → Bool) → HaveOwnNumbers rs → HaveOwnNumbers (filter q rs)
numbers_filter rs q h = AllPairs-filter Differ q rs h
