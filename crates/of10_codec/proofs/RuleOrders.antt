-- The order of rules is total, and goes by priority first.
use Rattle.std.proofs.Common.{◌≡◌, ℕ, Bool, true, false, List, refl, sym, ap, ◌∙◌}
use Rattle.std.specs.Cmp.{IsTotalOrder}
use Rattle.std.specs.declared.cmp.Ordering.{Ordering}
use Rattle.std.specs.declared.cmp.Ordering.TheVariants.{Less, Equal, Greater}
use Rattle.std.specs.Ordering.{nat_cmp, is_ne, ordering_then}
use Rattle.std.specs.Cmp.Lexicographic.{slice_cmp}
use Rattle.std.proofs.lemmas.Cmp.{nat_cmp_total, nat_list_cmp_total, on_total, then_total}
use Rattle.maple_base.specs.declared.decision.Rule.{Rule}
use Rattle.of10_codec.specs.Written.{written_match}
use Rattle.of10_codec.specs.RuleOrder.{rule_cmp}

pub rule_cmp_total : IsTotalOrder rule_cmp
unfolding rule_cmp
rule_cmp_total = then_total (on_total (λ (r : Rule). r.priority) nat_cmp_total) (on_total (λ (r : Rule). written_match r.of) nat_list_cmp_total)

told : (o rest : Ordering) → is_ne o ≡ true → o ≡ ordering_then o rest
told Less rest h = refl
told Equal rest h = absurd (cc)
told Greater rest h = refl

untold : (o rest : Ordering) → is_ne o ≡ false → rest ≡ ordering_then o rest
untold Less rest h = absurd (cc)
untold Equal rest h = refl
untold Greater rest h = absurd (cc)

pub by_priority : (r q : Rule) (o : Ordering) → o ≡ nat_cmp r.priority q.priority → is_ne o ≡ true → o ≡ rule_cmp r q
unfolding rule_cmp
by_priority r q o e h = told o (slice_cmp nat_cmp (written_match r.of) (written_match q.of)) h ∙ ap (λ k. ordering_then k (slice_cmp nat_cmp (written_match r.of) (written_match q.of))) e

pub by_bytes : (r q : Rule) (o rest : Ordering) (own others : List ℕ) → o ≡ nat_cmp r.priority q.priority → is_ne o ≡ false → own ≡ written_match r.of → others ≡ written_match q.of → rest ≡ slice_cmp nat_cmp own others → rest ≡ rule_cmp r q
unfolding rule_cmp
by_bytes r q o rest own others e h a b d =
    let f : rest ≡ slice_cmp nat_cmp (written_match r.of) (written_match q.of) = d ∙ ap (λ l. slice_cmp nat_cmp l others) a ∙ ap (λ l. slice_cmp nat_cmp (written_match r.of) l) b in
    untold o rest h ∙ ap (λ k. ordering_then k rest) e ∙ ap (λ k. ordering_then (nat_cmp r.priority q.priority) k) f
