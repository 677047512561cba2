-- The trace that was put in last goes by its number.
use Rattle.std.proofs.Common.{◌≡◌, ℕ, ◌<◌, true, cond, List, [], ◌∷◌, ◌++◌, refl, ap, ◌∙◌, ⊎_elim, arith}
use Rattle.std.specs.Prelude.{◌==◌, not}
use Rattle.std.proofs.lemmas.Bool.{cases_Bool, eqb-true, eq-eqb}
use Rattle.trace_tree.specs.declared.node.Trace.{Trace}
use Rattle.trace_tree.specs.Stands.{of_leaf, has_other_number}
use Rattle.switch_traces.specs.Traces.{those}
use Rattle.switch_traces.specs.Laws.{LastGoes}

-- a smaller number is another
smaller_is_other : (n : ℕ) (x : Trace) → x.number < n → of_leaf (has_other_number n) x ≡ true
smaller_is_other n x h = ⊎_elim (λ e. let q = eqb-true x.number n e in absurd (omega (arith, h, q))) (λ e. ap not e) (cases_Bool (x.number == n))

pub last_goes : LastGoes
last_goes [] r h = ap (λ b. cond (not b) (r ∷ []) []) (eq-eqb r.number r.number refl)
last_goes (x ∷ xs) r h =
    let rest : List Trace = those (has_other_number r.number) (xs ++ r ∷ []) in
    ap (λ b. cond b (x ∷ rest) rest) (smaller_is_other r.number x h.0) ∙ ap (λ l. x ∷ l) (last_goes xs r h.1)
