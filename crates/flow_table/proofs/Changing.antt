-- What a change leaves and answers, by where a rule of its match and priority stands.
use Rattle.std.proofs.Common.{◌≡◌, ℕ, ◌<◌, ◌≤◌, cond, List, ◌∷◌, length, set, sym, ap, ◌∙◌, subst}
use Rattle.std.specs.Prelude.{nat_lt}
use Rattle.std.specs.List.{AllPairs, insert, remove}
use Rattle.std.specs.List.Sorted.{IsPermutation}
use Rattle.std.proofs.lemmas.Bool.{lt-ltb, le-ltb}
use Rattle.std.proofs.lemmas.List.Sorted.{IsPermutation-refl, IsPermutation-insert}
use Rattle.maple_base.specs.declared.key.Match.{Match}
use Rattle.maple_base.specs.declared.decision.Rule.{Rule}
use Rattle.maple_base.specs.declared.decision.TableMod.TheVariants.{Add, DeleteStrict}
use Rattle.flow_table.specs.declared.applied.Applied.TheVariants.{Added, Replaced, Deleted, Full}
use Rattle.flow_table.specs.Effects.{is_at, others, answer_of}
use Rattle.maple_base.specs.Choice.{Differ}
use Rattle.flow_table.specs.Orders.{NoneAt, StandsAt}
use Rattle.flow_table.proofs.Places.{none_kept, rest_kept, any_none, put_at}
use Rattle.flow_table.proofs.Keeping.{others_differ}

module _ (of : Match) (priority : ℕ) (rules : List Rule) where
  pub others_there : (i : ℕ) → AllPairs Differ rules → StandsAt of priority rules i → others of priority rules ≡ remove rules i
  others_there i distinct at = rest_kept (is_at of priority) rules i at.within at.at (others_differ of priority rules i distinct at)

  pub others_none : NoneAt of priority rules → others of priority rules ≡ rules
  others_none none = none_kept (is_at of priority) rules none

  pub removed_effect : (i : ℕ) → AllPairs Differ rules → StandsAt of priority rules i → IsPermutation (others of priority rules) (remove rules i)
  removed_effect i distinct at = subst (λ l. IsPermutation l (remove rules i)) (sym (others_there i distinct at)) (IsPermutation-refl (remove rules i))

  pub kept_effect : NoneAt of priority rules → IsPermutation (others of priority rules) rules
  kept_effect none = subst (λ l. IsPermutation l rules) (sym (others_none none)) (IsPermutation-refl rules)

  pub kept_answer : NoneAt of priority rules → (capacity : ℕ) → Deleted 0 ≡ answer_of (DeleteStrict of priority) rules capacity
  kept_answer none capacity = ap (λ b. Deleted (cond b 1 0)) (sym (any_none (is_at of priority) rules none))

module _ (r : Rule) (rules : List Rule) where
  pub replaced_effect : (i : ℕ) → AllPairs Differ rules → StandsAt r.of r.priority rules i → IsPermutation (r ∷ others r.of r.priority rules) (set rules i r)
  replaced_effect i distinct at = subst (λ l. IsPermutation (r ∷ l) (set rules i r)) (sym (others_there r.of r.priority rules i distinct at)) (put_at rules i r at.within)

  pub added_effect : (i : ℕ) → NoneAt r.of r.priority rules → IsPermutation (r ∷ others r.of r.priority rules) (insert rules i r)
  added_effect i none = subst (λ l. IsPermutation (r ∷ l) (insert rules i r)) (sym (others_none r.of r.priority rules none)) (IsPermutation-insert rules i r)

  absent_answer : NoneAt r.of r.priority rules → (capacity : ℕ) → answer_of (Add r) rules capacity ≡ cond (nat_lt (length rules) capacity) Added Full
  absent_answer none capacity = ap (λ b. cond b Replaced (cond (nat_lt (length rules) capacity) Added Full)) (any_none (is_at r.of r.priority) rules none)

  pub full_answer : NoneAt r.of r.priority rules → (capacity : ℕ) → capacity ≤ length rules → answer_of (Add r) rules capacity ≡ Full
  full_answer none capacity le = absent_answer none capacity ∙ ap (λ b. cond b Added Full) (le-ltb (length rules) capacity le)

  pub added_answer : NoneAt r.of r.priority rules → (capacity : ℕ) → length rules < capacity → answer_of (Add r) rules capacity ≡ Added
  added_answer none capacity lt = absent_answer none capacity ∙ ap (λ b. cond b Added Full) (lt-ltb (length rules) capacity lt)
