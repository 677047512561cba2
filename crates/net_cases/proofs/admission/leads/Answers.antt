use Rattle.std.proofs.Common.{◌+◌, ◌∷◌, drop, refl, sym, ap, ◌∙◌, subst}
use Rattle.maple_base.specs.declared.items.Item.TheVariants.{Read, Test}
use Rattle.trace_tree.specs.TreeOf.{tree_of, branches, child_trees, values_of}
use Rattle.trace_tree.specs.Growth.{admits, place_of, side, IsOrdered}
use Rattle.trace_tree.proofs.Rolls.{tree_of-Values, tree_of-Test, tree_of-Empty}
use Rattle.trace_tree.proofs.Growths.{admits_Empty, child_ordered}
use Rattle.trace_tree.proofs.Children.{child_found}
use Rattle.trace_tree.proofs.Branching.{has_missing}
use Rattle.trace_tree.proofs.Admits.{item_here, child_missing, admits_read, admits_test}
use Rattle.net_cases.proofs.admission.leads.Goals as goal
use Rattle.net_cases.proofs.admission.leads.Goals.{in-Values+in-Read+else-not-same+in-Ok, in-Test+in-Test-item+else-not-same-2+else-tested-value+then-outcome, in-Test+in-Test-item+else-not-same-2+else-tested-value+else-outcome}

pub returns-in-Empty : goal.returns-in-Empty
returns-in-Empty c h =
    let none_here = ap tree_of c.in-Empty.is ∙ tree_of-Empty in
    c.loop-item.invariant.leads (ap (admits (drop c.loop-item.item-index c.args.items.now)) none_here ∙ admits_Empty _)

pub returns-in-Empty-matches : goal.returns-in-Empty-matches
returns-in-Empty-matches c h =
    let none_here = ap tree_of c.in-Empty-matches.is ∙ tree_of-Empty in
    c.loop-item.invariant.leads (ap (admits (drop c.loop-item.item-index c.args.items.now)) none_here ∙ admits_Empty _)

pub returns-in-Err : goal.returns-in-Err
returns-in-Err c h =
    let items = c.args.items.now in
    let rest = drop (c.loop-item.item-index + 1) items in
    let cs = c.in-Values.children.items in
    let here = ap tree_of c.in-Values.is ∙ tree_of-Values c.in-Values.field c.in-Values.children in
    let first = item_here items c.loop-item.item-index _ _ c.loop-item-test.true c.in-Read.is in
    let placed = ap (λ x. place_of c.in-Read.value (values_of x)) (sym c.deref.ensures.value) ∙ sym c.in-Err.ensures.place in
    let gap = child_missing (branches (child_trees cs)) c.in-Read.value (has_missing tree_of cs c.in-Read.value c.in-Err.field-0 (subst IsOrdered here c.loop-item.invariant.ordered) placed) in
    let free = ap (admits rest) gap ∙ admits_Empty rest in
    c.loop-item.invariant.leads (ap (λ js. admits js (tree_of c.loop-item.node.now)) first ∙ ap (admits (Read c.in-Read.asked c.in-Read.value ∷ rest)) here
    ∙ admits_read c.in-Read.asked c.in-Values.field c.in-Read.value rest (branches (child_trees cs)) (c.if-not-same.ensures refl) free)

pub loop-item-preserved : goal.loop-item-preserved
loop-item-preserved c =
    let items = c.args.items.now in
    let rest = drop (c.loop-item.item-index + 1) items in
    let node = tree_of c.loop-item.node.now in
    elim c.match-node.branch [
      | in-Values+in-Read+else-not-same+in-Ok w ↦
          let cs = w.in-Values.children.items in
          let here = ap tree_of w.in-Values.is ∙ tree_of-Values w.in-Values.field w.in-Values.children in
          let first = item_here items c.loop-item.item-index _ _ c.loop-item-test.true w.in-Read.is in
          let placed = ap (λ x. place_of w.in-Read.value (values_of x)) (sym w.deref.ensures.value) ∙ sym w.in-Ok.ensures.place in
          let found = child_found tree_of cs w.in-Read.value w.in-Ok.at w.index.result.now placed w.index.ensures in
          let next = found ∙ sym (ap (λ r. tree_of r.now) w.node-is) in
          record {
            ordered = subst IsOrdered next (child_ordered (branches (child_trees cs)) w.in-Read.value (subst IsOrdered here c.loop-item.invariant.ordered));
            leads = λ a. c.loop-item.invariant.leads (ap (λ js. admits js node) first ∙ ap (admits (Read w.in-Read.asked w.in-Read.value ∷ rest)) here
                ∙ admits_read w.in-Read.asked w.in-Values.field w.in-Read.value rest (branches (child_trees cs)) (w.if-not-same.ensures refl) (ap (admits rest) next ∙ a));
          }
      | in-Test+in-Test-item+else-not-same-2+else-tested-value+then-outcome w ↦
          let n = tree_of w.in-Test.no.value in
          let y = tree_of w.in-Test.yes.value in
          let here = ap tree_of w.in-Test.is ∙ tree_of-Test w.in-Test.field w.in-Test.value w.in-Test.no w.in-Test.yes in
          let first = item_here items c.loop-item.item-index _ _ c.loop-item-test.true w.in-Test-item.is in
          let at = ap tree_of (sym w.deref-node.ensures) ∙ sym (ap (λ r. tree_of r.now) w.node-is) in
          let next = ap (λ b. side b n y) w.if-outcome.true ∙ at in
          record {
            ordered = subst IsOrdered at (subst IsOrdered here c.loop-item.invariant.ordered).1;
            leads = λ a. c.loop-item.invariant.leads (ap (λ js. admits js node) first ∙ ap (admits (Test w.in-Test-item.asked w.in-Test-item.tested w.in-Test-item.outcome ∷ rest)) here
                ∙ admits_test w.in-Test-item.asked w.in-Test.field w.in-Test-item.tested w.in-Test.value w.in-Test-item.outcome rest n y (w.if-not-same-2.ensures refl) w.if-tested-value.false (ap (admits rest) next ∙ a));
          }
      | in-Test+in-Test-item+else-not-same-2+else-tested-value+else-outcome w ↦
          let n = tree_of w.in-Test.no.value in
          let y = tree_of w.in-Test.yes.value in
          let here = ap tree_of w.in-Test.is ∙ tree_of-Test w.in-Test.field w.in-Test.value w.in-Test.no w.in-Test.yes in
          let first = item_here items c.loop-item.item-index _ _ c.loop-item-test.true w.in-Test-item.is in
          let at = ap tree_of (sym w.deref-node-else-outcome.ensures) ∙ sym (ap (λ r. tree_of r.now) w.node-is) in
          let next = ap (λ b. side b n y) w.if-outcome.false ∙ at in
          record {
            ordered = subst IsOrdered at (subst IsOrdered here c.loop-item.invariant.ordered).0;
            leads = λ a. c.loop-item.invariant.leads (ap (λ js. admits js node) first ∙ ap (admits (Test w.in-Test-item.asked w.in-Test-item.tested w.in-Test-item.outcome ∷ rest)) here
                ∙ admits_test w.in-Test-item.asked w.in-Test.field w.in-Test-item.tested w.in-Test.value w.in-Test-item.outcome rest n y (w.if-not-same-2.ensures refl) w.if-tested-value.false (ap (admits rest) next ∙ a));
          }
    ]
