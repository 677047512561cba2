-- The ports of a switch here, by their places.
use Rattle.std.proofs.Common.{◌≡◌, ℕ, zero, suc, ◌<◌, ◌≤◌, true, false, [], ◌∷◌, ◌&&◌, eqb, length, get_or, refl, ap, ◌∙◌, arith, ⊎_elim}
use Rattle.std.proofs.lemmas.Bool.{cases_lt, eq-eqb, false≢true}
use Rattle.std.proofs.lemmas.List.{length_push, get_or_append_left, get_or_push}
use mathlib.Core.Bool.{beq}
use Rattle.maple_base.specs.declared.cells.Port.{Port}
use Rattle.model_switch.specs.Answers.{ports_up}

abbrev pub port_up : ℕ → Port
port_up n = record { number = n; up = true }

pub count_up : (n : ℕ) → length (ports_up n) ≡ n
count_up zero = refl
count_up (suc n) = let e = count_up n in omega (arith, length_push (ports_up n) (port_up (suc n)))

-- at place i stands port i + 1
pub port_at : (n i : ℕ) (d : Port) → i < n → get_or (ports_up n) i d ≡ port_up (suc i)
port_at zero i d h = absurd (omega arith)
port_at (suc n) i d h =
    let e = count_up n in
    ⊎_elim (λ (lt : i < n). get_or_append_left (ports_up n) (port_up (suc n) ∷ []) d i (omega arith) ∙ port_at n i d lt)
    (λ (ge : n ≤ i). let same : i ≡ n = omega arith in get_or_push (ports_up n) (port_up (suc n)) d i (omega arith) ∙ ap (λ k. port_up (suc k)) (omega arith))
    (cases_lt i n)

-- what doesn't hold is answered false
pub answers_no : {P : Type 0} → (P → ⊥) → (false ≡ true → P) × (P → false ≡ true)
answers_no h = (λ e. absurd (false≢true e), λ p. absurd (h p))

-- a port that is this one passes the test for it
pub is_port : (p : Port) (n : ℕ) → p ≡ port_up n → (eqb p.number n && beq p.up true) ≡ true
is_port p n e = ap (λ (q : Port). eqb q.number n && beq q.up true) e ∙ ap (λ b. b && true) (eq-eqb n n refl)
