use Rattle.std.proofs.Common.{◌≡◌, ◌≤◌, ◌<◌, ◌+◌, ◌*◌, ℕ, length, refl, sym, ap, ◌∙◌, subst, arith, rules, add-one}
use Rattle.std.proofs.Math.ListN.{length-set}
use Rattle.std.proofs.lemmas.Fn.{filter_same}
use Rattle.std.specs.Box.{with_value}
use Rattle.std.specs.Fn.{FnReturnsAt}
use Rattle.trace_tree.specs.declared.node.Node.{Node}
use Rattle.trace_tree.specs.Shape.{Tests}
use Rattle.trace_tree.specs.TreeOf.{tree_of, branches_of}
use Rattle.trace_tree.specs.Growth.{leaves_of, leaves_in, nodes_of, nodes_in}
use Rattle.trace_tree.specs.Kept.{IsKept, AreKept}
use Rattle.trace_tree.proofs.Rolls.{tree_of-Values, tree_of-Test, tree_of-Leaf}
use Rattle.trace_tree.proofs.Retains.{IsDescent, is_full, leaves_reads, leaves_set, leaves_filter, far_step, far_part, far_end, descent_step}
use Rattle.trace_tree.proofs.retain.+retain.Goals as goal

pub retain-returns-in-Leaf-clause-kept : goal.retain-returns-in-Leaf-clause-kept
retain-returns-in-Leaf-clause-kept g t c =
    let A = FnReturnsAt g.F.Fn c.args.keep.now in
    let rolled = sym (tree_of-Leaf c.in-Leaf.leaf) ∙ ap tree_of c.in-Leaf.ensures.value in
    let here = tree_of c.retain_leaf-gone.new.place in
    subst (IsKept A (tree_of c.args.node.now)) (sym c.rise-in-Leaf.ensures) (c.loop-node.invariant.kept here (subst (λ x. IsKept A x here) rolled c.retain_leaf-gone.ensures.kept))

pub retain-retain_values-gone-requires : goal.retain-retain_values-gone-requires
retain-retain_values-gone-requires g t c =
    let rolled = sym (tree_of-Values c.in-Values.field c.in-Values.children) ∙ ap tree_of c.in-Values.ensures.value in
    let nodes = ap nodes_of rolled in
    let leaves = ap leaves_of rolled in
    let less : 2 * nodes_in (branches_of c.in-Values.children.items) + 1 < 2 * nodes_of (tree_of c.args.node.now) = omega (arith, nodes, c.loop-node.invariant.nodes) in
    let few : leaves_in (branches_of c.in-Values.children.items) < 4294967296 = omega (arith, leaves, c.loop-node.invariant.few, c.requires.few) in
    search (rules, less, few)

pub retain-overflow_add-gone-in-Values : goal.retain-overflow_add-gone-in-Values
retain-overflow_add-gone-in-Values g t c =
    let rolled = sym (tree_of-Values c.in-Values.field c.in-Values.children) ∙ ap tree_of c.in-Values.ensures.value in
    let leaves = ap leaves_of rolled in
    omega (arith, leaves, c.loop-node.invariant.few, c.requires.few, c.retain_values-gone.ensures.counted)

pub retain-returns-in-Values-clause-kept : goal.retain-returns-in-Values-clause-kept
retain-returns-in-Values-clause-kept g t c =
    let A = FnReturnsAt g.F.Fn c.args.keep.now in
    let rolled = sym (tree_of-Values c.in-Values.field c.in-Values.children) ∙ ap tree_of c.in-Values.ensures.value in
    let here = tree_of c.retain_values-gone.new.place in
    subst (IsKept A (tree_of c.args.node.now)) (sym c.rise-in-Values.ensures) (c.loop-node.invariant.kept here (subst (λ x. IsKept A x here) rolled c.retain_values-gone.ensures.kept))

pub retain-loop-node-preserved : goal.retain-loop-node-preserved
retain-loop-node-preserved g t c =
    let A = FnReturnsAt g.F.Fn c.args.keep.now in
    let f = c.in-Test.field in
    let v = c.in-Test.value in
    let whole = tree_of c.args.node.now in
    let up = tree_of c.loop-node.waiting in
    let z = tree_of c.retain-gone.new.node in
    let rolled = sym (tree_of-Test f v c.in-Test.no c.in-Test.yes) ∙ ap tree_of c.in-Test.ensures.value in
    let side = ap tree_of c.deref_mut.ensures.value in
    let down : tree_of c.replace-in-Test.result ≡ tree_of c.in-Test.no.value = ap tree_of (c.replace-in-Test.ensures.value ∙ c.deref_mut-in-Test.ensures.value) in
    let turned = tree_of-Test f v (with_value c.in-Test.no c.replace-in-Test.new.dest) (with_value c.in-Test.yes c.retain-gone.new.node) ∙ ap (λ x. Tests f v (tree_of x) z) c.replace-in-Test.ensures.after in
    let was = subst (λ x. IsDescent A whole up x c.loop-node.gone) (sym rolled) c.loop-node.invariant in
    let count = c.retain-gone.ensures.counted ∙ ap leaves_of side in
    rw (turned, down) (descent_step A f v whole up (tree_of c.in-Test.no.value) (tree_of c.in-Test.yes.value) z c.loop-node.gone c.retain-gone.result was (subst (λ x. IsKept A x z) side c.retain-gone.ensures.kept) count)

pub retain_values-retain-gone-requires : goal.retain_values-retain-gone-requires
retain_values-retain-gone-requires g t c =
    let A = FnReturnsAt g.F.Fn c.args.keep.now in
    let os = c.args.children.items in
    let ns = c.loop-at.children.items in
    let within : c.loop-at.at < length ns = omega (arith, c.loop-at-test.true, c.len.ensures, c.loop-at.children.ok.0) in
    let nodes = far_part A nodes_of nodes_in (λ v x bs. refl) c.loop-at.at os ns c.index_mut.result.now c.loop-at.invariant.done within c.index_mut.ensures.value in
    let leaves = far_part A leaves_of leaves_in (λ v x bs. refl) c.loop-at.at os ns c.index_mut.result.now c.loop-at.invariant.done within c.index_mut.ensures.value in
    let less : 2 * nodes_of (tree_of c.index_mut.result.now.1) < 2 * nodes_in (branches_of os) + 1 = omega (arith, nodes) in
    let few : leaves_of (tree_of c.index_mut.result.now.1) < 4294967296 = omega (arith, leaves, c.requires.few) in
    search (rules, less, few)

pub retain_values-overflow_add-gone : goal.retain_values-overflow_add-gone
retain_values-overflow_add-gone g t c =
    let ns = c.loop-at.children.items in
    let within : c.loop-at.at < length ns = omega (arith, c.loop-at-test.true, c.len.ensures, c.loop-at.children.ok.0) in
    let moved = leaves_set ns c.loop-at.at c.index_mut.result.now (c.index_mut.result.now.0, c.retain-gone.new.node) within c.index_mut.ensures.value in
    omega (arith, moved, c.retain-gone.ensures.counted, c.loop-at.invariant.counted, c.requires.few)

pub retain_values-loop-at-preserved : goal.retain_values-loop-at-preserved
retain_values-loop-at-preserved g t c =
    let A = FnReturnsAt g.F.Fn c.args.keep.now in
    let ns = c.loop-at.children.items in
    let new : ℕ × Node = (c.index_mut.result.now.0, c.retain-gone.new.node) in
    let within : c.loop-at.at < length ns = omega (arith, c.loop-at-test.true, c.len.ensures, c.loop-at.children.ok.0) in
    let moved = leaves_set ns c.loop-at.at c.index_mut.result.now new within c.index_mut.ensures.value in
    record {
      within = omega (arith, within, length-set ns c.loop-at.at new);
      done = rw add-one (far_step A c.loop-at.at c.args.children.items ns c.index_mut.result.now new c.loop-at.invariant.done within c.index_mut.ensures.value refl c.retain-gone.ensures.kept);
      counted = omega (arith, moved, c.retain-gone.ensures.counted, c.loop-at.invariant.counted);
    }

pub retain_values-returns-clause-kept : goal.retain_values-returns-clause-kept
retain_values-returns-clause-kept g t c =
    let A = FnReturnsAt g.F.Fn c.args.keep.now in
    let os = c.args.children.items in
    let ns = c.loop-at.children.items in
    let over : length ns ≤ c.loop-at.at = omega (arith, c.loop-at-test.false, c.len.ensures, c.loop-at.children.ok.0) in
    let left = filter_same _ is_full _ (λ x b h k. search rules) _ _ c.retain.ensures.filtered in
    let all = subst (λ xs. AreKept A (branches_of os) (branches_of xs)) (sym left) (far_end A c.loop-at.at os ns c.loop-at.invariant.done over) in
    (branches_of c.retain.new.self.items, all, c.values.ensures)

pub retain_values-returns-clause-counted : goal.retain_values-returns-clause-counted
retain_values-returns-clause-counted g t c =
    let left = filter_same _ is_full _ (λ x b h k. search rules) _ _ c.retain.ensures.filtered in
    let bs = branches_of c.retain.new.self.items in
    let count = ap leaves_of c.values.ensures ∙ leaves_reads c.args.field bs ∙ ap (λ xs. leaves_in (branches_of xs)) left ∙ leaves_filter c.loop-at.children.items in
    omega (arith, count, c.loop-at.invariant.counted)
