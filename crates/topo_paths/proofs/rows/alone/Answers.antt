use Rattle.std.proofs.Common.{◌≡◌, ℕ, ◌^◌, eqb, ap, sym, ◌∙◌, ⊎_elim, arith}
use Rattle.std.proofs.lemmas.Bool.{cases_eq, eq-eqb, ne_eqb}
use Rattle.std.proofs.lemmas.Nat.Bits.{bit_at-pow_same, bit_at-pow_other}
use Rattle.topo_paths.specs.Levels.{has}
use Rattle.topo_paths.proofs.rows.alone.Goals as goal

has_pow : (from to : ℕ) → has (2 ^ from) to ≡ eqb from to
has_pow from to =
    ⊎_elim
    (λ e. ap (has (2 ^ from)) e ∙ ap (λ x. eqb x 1) (bit_at-pow_same from) ∙ sym (eq-eqb from to (sym e)))
    (λ ne. ap (λ x. eqb x 1) (bit_at-pow_other from to ne) ∙ sym (ne_eqb from to (λ e. ne (sym e))))
    (cases_eq to from)

pub returns-clause-own : goal.returns-clause-own
returns-clause-own c = λ from to lf lt. ap (λ x. has x to) (c.loop-place.invariant.own from (omega (arith, lf, c.loop-place-test.false))) ∙ has_pow from to
