-- At a test: what was added to a list, and what is left.
use Rattle.std.proofs.Common.{◌≡◌, ℕ, zero, suc, ◌+◌, ◌-◌, List, ◌++◌, ap, ◌∙◌, arith, append_assoc}
use Rattle.maple_base.specs.declared.key.Match.{Match}
use Rattle.priority_plan.specs.Rules.{with_barrier}

-- the levels of a false side, from those of the test and of its true side
pub below_is : (n above : ℕ) → (with_barrier n + above - above) - 1 ≡ n
below_is zero above = omega arith
below_is (suc n) above = omega arith

-- the true side's and the barrier were added, and the false side's are left
pub side_left : {X : Type 0} (high : Match → ℕ → List X) (own : ℕ → Match → List X) (low all done mid new : List X) (n below behind b : ℕ) (w within : Match) → within ≡ w → below ≡ n → behind ≡ with_barrier n → done ++ (high w (b + with_barrier n) ++ (own n w ++ low)) ≡ all → mid ≡ done ++ high within (b + behind) → new ≡ mid ++ own below within → new ++ low ≡ all
side_left high own low all done mid new n below behind b w within e l g whole i j =
    let top = high w (b + with_barrier n) in
    let first : mid ≡ done ++ top = i ∙ ap (λ x. done ++ high within (b + x)) g ∙ ap (λ x. done ++ high x (b + with_barrier n)) e in
    let next : new ≡ (done ++ top) ++ own n w = j ∙ ap (λ x. x ++ own below within) first ∙ ap (λ x. (done ++ top) ++ own x within) l ∙ ap (λ x. (done ++ top) ++ own n x) e in
    ap (λ x. x ++ low) next ∙ append_assoc (done ++ top) (own n w) low ∙ append_assoc done top (own n w ++ low) ∙ whole
