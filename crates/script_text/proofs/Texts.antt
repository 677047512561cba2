-- The text of a new policy: what comes of it, and which of the lines behind it are refused.
use Rattle.std.proofs.Common.{◌≡◌, ℕ, ◌+◌, true, false, cond, List, [], ◌∷◌, ◌++◌, refl, sym, ap, ◌∙◌, append_assoc, arith}
use Rattle.std.specs.List.{concat}
use Rattle.std.proofs.lemmas.List.{append-nil}
use Rattle.script_text.specs.declared.step.Step.TheVariants as steps
use Rattle.script_text.specs.Behind.{LeavesBehind}
use Rattle.script_text.specs.Lines.{is_mark}
use Rattle.script_text.specs.Marks.{ahead_of_mark, behind_mark, lines_to_mark}
use Rattle.script_text.specs.Orders.{Script, Text, orders_in, refused_in}
use Rattle.script_text.specs.Orders.Order.{NewPolicy}

text_orders : (places : ℕ) (t : List ℕ) (ls : List (List ℕ)) → orders_in places (Text t) ls ≡ NewPolicy (t ++ concat (ahead_of_mark ls)) ∷ orders_in places Script (behind_mark ls)
text_orders places t [] = ap (λ x. NewPolicy x ∷ []) (sym (append-nil t))
text_orders places t (l ∷ ls) =
    elim (is_mark l) as (λ b. cond b (NewPolicy t ∷ orders_in places Script ls) (orders_in places (Text (t ++ l)) ls)
    ≡ NewPolicy (t ++ concat (cond b [] (l ∷ ahead_of_mark ls))) ∷ orders_in places Script (cond b ls (behind_mark ls))) [
      | true ↦ ap (λ x. NewPolicy x ∷ orders_in places Script ls) (sym (append-nil t))
      | false ↦ text_orders places (t ++ l) ls ∙ ap (λ x. NewPolicy x ∷ orders_in places Script (behind_mark ls)) (append_assoc t l (concat (ahead_of_mark ls)))
    ]

text_refused : (places : ℕ) (t : List ℕ) (n : ℕ) (ls : List (List ℕ)) → refused_in places (Text t) n ls ≡ refused_in places Script (n + lines_to_mark ls) (behind_mark ls)
text_refused places t n [] = refl
text_refused places t n (l ∷ ls) =
    elim (is_mark l) as (λ b. cond b (refused_in places Script (n + 1) ls) (refused_in places (Text (t ++ l)) (n + 1) ls)
    ≡ refused_in places Script (n + cond b 1 (1 + lines_to_mark ls)) (cond b ls (behind_mark ls))) [
      | true ↦ refl
      | false ↦ text_refused places (t ++ l) (n + 1) ls ∙ ap (λ m. refused_in places Script m (behind_mark ls)) (omega arith)
    ]

-- behind the line of a new policy comes its text
pub policy_behind : (behind : List (List ℕ)) → LeavesBehind steps.NewPolicy behind (concat (ahead_of_mark behind)) (lines_to_mark behind) (behind_mark behind)
policy_behind behind = record {
  orders = λ places. text_orders places [] behind;
  refused = λ places n. text_refused places [] (n + 1) behind ∙ ap (λ m. refused_in places Script m (behind_mark behind)) (omega arith);
}
