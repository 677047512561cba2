-- What a look-up tells of the list.
use Rattle.std.proofs.Common.{◌≡◌, true, false, List, sym, ap, ◌∙◌, ⊎_elim}
use Rattle.std.specs.Prelude.{Contains, ◌&&◌, ◌==◌, nat_eq}
use lib.Pointwise.{pointwise}
use Rattle.std.proofs.lemmas.Bool.{cases_Bool, and_parts, and_from}
use Rattle.maple_base.specs.declared.decision.Rule.{Rule}
use Rattle.flow_table.specs.Effects.{is_at, has_at}
use Rattle.update_plan.specs.Batches.{same_rule}
use Rattle.update_plan.specs.Lookups.{IsIndex, is_in, is_barrier, barrier_at}
use Rattle.update_plan.proofs.Members.{in_any, none_any, any_none}
use Rattle.update_plan.proofs.Distinct.{at_agree, turned, chained, one_of}

-- that two equal rules are at one match and priority
same_at : (r q : Rule) → same_rule r q ≡ true → is_at r.of r.priority q ≡ true
same_at r q h =
    let d = and_parts (is_at r.of r.priority q && pointwise nat_eq q.actions r.actions && q.cookie == r.cookie) (q.idle == r.idle) h in
    let c = and_parts (is_at r.of r.priority q && pointwise nat_eq q.actions r.actions) (q.cookie == r.cookie) d.0 in
    (and_parts (is_at r.of r.priority q) (pointwise nat_eq q.actions r.actions) c.0).0

module _ (rules : List Rule) (r : Rule) where
  pub nothing_in : has_at r.of r.priority rules ≡ false → is_in rules r ≡ false
  nothing_in h = none_any (same_rule r) rules (λ x c e. any_none (is_at r.of r.priority) rules x h c (same_at r x e))

  pub no_barrier_at : has_at r.of r.priority rules ≡ false → barrier_at rules r ≡ false
  no_barrier_at h = none_any (λ q. is_at r.of r.priority q && is_barrier q) rules (λ x c e. any_none (is_at r.of r.priority) rules x h c (and_parts (is_at r.of r.priority x) (is_barrier x) e).0)

  module _ (q : Rule) (index : IsIndex rules) (there : Contains rules q) (at : is_at r.of r.priority q ≡ true) where
    -- another rule at that match and priority is this one
    one : (x : Rule) → Contains rules x → is_at r.of r.priority x ≡ true → x ≡ q
    one x c e = one_of rules x q index.distinct c there (chained x r q (at_agree r x e) (turned q r (at_agree r q at)))

    pub found_in : same_rule r q ≡ is_in rules r
    found_in = ⊎_elim
        (λ e. e ∙ sym (in_any (same_rule r) rules q there e))
        (λ e. e ∙ sym (none_any (same_rule r) rules (λ x c f. let g = ap (same_rule r) (one x c (same_at r x f)) in absurd (cc))))
        (cases_Bool (same_rule r q))

    pub found_barrier : is_barrier q ≡ barrier_at rules r
    found_barrier = ⊎_elim
        (λ e. e ∙ sym (in_any (λ x. is_at r.of r.priority x && is_barrier x) rules q there (and_from _ _ at e)))
        (λ e. e ∙ sym (none_any (λ x. is_at r.of r.priority x && is_barrier x) rules (λ x c f. let p = and_parts (is_at r.of r.priority x) (is_barrier x) f in let g = ap is_barrier (one x c p.0) in let h = p.1 in absurd (cc))))
        (cases_Bool (is_barrier q))
