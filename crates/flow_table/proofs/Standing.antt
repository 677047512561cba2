-- The first rule that fits, and the place of a rule.
use Rattle.std.proofs.Common.{◌≡◌, ℕ, ◌<◌, true, false, List, length, get_or, Option, Some, None, Bor, sym, ap, ◌∙◌, ⊎_elim, arith}
use Rattle.std.specs.List.{HoldsAt, AllWithin}
use Rattle.std.specs.Prelude.{IfSome, MatchOption, unwrap_or}
use Rattle.std.proofs.lemmas.Bool.{cases_order}
use Rattle.maple_base.specs.declared.key.Key.{Key}
use Rattle.maple_base.specs.declared.decision.Rule.{Rule}
use Rattle.maple_base.specs.Choice.{fits, stands_above, MayChoose}
use Rattle.maple_base.proofs.Standing.{never_itself, not_above, not_both}
use Rattle.flow_table.specs.Orders.{AreOrdered, IsPlaceFor}

first_is : (rules : List Rule) (k : Key) (i : ℕ) (r : Rule) → AreOrdered rules → i < length rules → HoldsAt (λ x. x ≡ r) rules i → fits r k ≡ true → AllWithin (λ x. fits x k ≡ false) rules 0 i → MayChoose rules k r
first_is rules k i r ordered within here f before =
    record {
      there = (i, within, here r);
      fitting = f;
      top = λ q c g. ⊎_elim
          (λ e. let same : q ≡ r = sym c.2 ∙ ap (λ j. get_or rules j q) e ∙ here q in ap (λ x. stands_above x r) same ∙ never_itself r)
          (λ h. ⊎_elim
          (λ lt. let n : fits q k ≡ false = ap (λ x. fits x k) (sym c.2) ∙ before c.0 q (omega arith) lt in let t = sym g ∙ n in absurd (cc))
          (λ gt. ap (λ x. stands_above q x) (sym (here q)) ∙ ap (λ x. stands_above x (get_or rules i q)) (sym c.2) ∙ ordered i c.0 q gt c.1)
          h)
          (cases_order c.0 i);
    }

-- the first that fits is one that no other that fits stands above
pub found_is : (rules : List Rule) (k : Key) (o : Option (Bor Rule)) → AreOrdered rules → MatchOption o (AllWithin (λ x. fits x k ≡ false) rules 0 (length rules)) (λ x. (fits x.now k ≡ true) × (i : ℕ) × (i < length rules) × HoldsAt (λ y. y ≡ x.now) rules i × AllWithin (λ y. fits y k ≡ false) rules 0 i) → IfSome o (λ r. MayChoose rules k r.now)
found_is rules k None ordered h = tt
found_is rules k (Some x) ordered h = first_is rules k h.1 x.now ordered h.2 h.3 h.0 h.4

-- the place of a rule is that of the first which it stands above
place_at : (r : Rule) (rules : List Rule) (i : ℕ) → AreOrdered rules → (i < length rules) × HoldsAt (λ x. stands_above r x ≡ true) rules i × AllWithin (λ x. stands_above r x ≡ false) rules 0 i → IsPlaceFor r rules i
place_at r rules i ordered first =
    record {
      within = omega (arith, first.0);
      before = λ k d lt. first.2 k d (omega arith) lt;
      behind = λ k d le lt.
          let low : stands_above (get_or rules i d) r ≡ false = not_both r (get_or rules i d) (first.1 d) in
          ⊎_elim
          (λ e. ap (λ j. stands_above (get_or rules j d) r) e ∙ low)
          (λ h. ⊎_elim
          (λ less. absurd (omega arith))
          (λ more. not_above (get_or rules k d) (get_or rules i d) r (ordered i k d more lt) low)
          h)
          (cases_order k i);
    }

pub place_or_end : (r : Rule) (rules : List Rule) (o : Option ℕ) → AreOrdered rules → MatchOption o (AllWithin (λ x. stands_above r x ≡ false) rules 0 (length rules)) (λ i. (i < length rules) × HoldsAt (λ x. stands_above r x ≡ true) rules i × AllWithin (λ x. stands_above r x ≡ false) rules 0 i) → IsPlaceFor r rules (unwrap_or o (length rules))
place_or_end r rules None ordered none = record { within = omega arith; before = λ k d lt. none k d (omega arith) lt; behind = λ k d le lt. absurd (omega arith) }
place_or_end r rules (Some i) ordered first = place_at r rules i ordered first
