use Rattle.std.proofs.Common.{◌≡◌, length, refl, ap, ◌∙◌, arith, rules}
use Rattle.std.specs.Prelude.{nat_lt, filter}
use Rattle.std.proofs.lemmas.List.Filters.{length-filter_both}
use Rattle.trace_tree.specs.Stands.{of_leaf, has_number, has_other_number}
use Rattle.trace_tree.proofs.Stands.{stands_leaves, any_some}
use Rattle.trace_tree.proofs.tree.Tree.retire.Goals as goal

pub returns-clause-kept : goal.returns-clause-kept
returns-clause-kept c = c.retain.ensures.kept (has_other_number c.args.number) (λ l b k. search rules)

pub returns-clause-stands : goal.returns-clause-stands
returns-clause-stands c = c.retain.ensures.stands (has_other_number c.args.number) (λ l b k. search rules)

pub returns-clause-among : goal.returns-clause-among
returns-clause-among c = λ rs s.
    let this = of_leaf (has_number c.args.number) in
    let rest = of_leaf (has_other_number c.args.number) in
    let left = stands_leaves c.retain.new.self (filter rest rs) (c.retain.ensures.stands (has_other_number c.args.number) (λ l b k. search rules) rs s) in
    let all = stands_leaves c.args.self.now rs s in
    let parts = length-filter_both this rest (λ r. refl) rs in
    let count : c.retain.result ≡ length (filter this rs) = omega (arith, c.retain.ensures.counted, left, all, parts) in
    ap (nat_lt 0) count ∙ any_some this rs
