use Rattle.std.proofs.Common.{[], sym, ap, ◌∙◌, subst, arith}
use Rattle.std.specs.Prelude.{filter}
use Rattle.std.specs.Fn.{FnReturnsAt}
use Rattle.trace_tree.specs.TreeOf.{tree_of}
use Rattle.trace_tree.specs.Stands.{StandsFor, of_leaf}
use Rattle.trace_tree.specs.Kept.{kept}
use Rattle.trace_tree.proofs.Kept.{kept_by, ordered_kept, within_kept, fresh_kept, longest_kept}
use Rattle.trace_tree.proofs.Stands.{stands_kept}
use Rattle.trace_tree.proofs.tree.Tree.retain.Goals as goal

pub invariant_of-self : goal.invariant_of-self
invariant_of-self g c =
    let A = FnReturnsAt g.F.Fn c.args.keep in
    let was = tree_of c.self.inside.root in
    let is = tree_of c.retain-gone.new.node in
    let k = c.retain-gone.ensures.kept in
    let longest = longest_kept A was is k in
    record {
      ordered = ordered_kept A was is k c.self.invariant.ordered;
      counted = omega (arith, c.self.invariant.counted, c.retain-gone.ensures.counted);
      few = omega (arith, c.self.invariant.few, c.retain-gone.ensures.counted);
      within = within_kept A was is k c.self.invariant.within;
      fresh = fresh_kept A was is [] k c.self.invariant.fresh;
      short = omega (arith, longest, c.self.invariant.short);
    }

pub returns-clause-kept : goal.returns-clause-kept
returns-clause-kept g c = λ p says. kept_by (FnReturnsAt g.F.Fn c.args.keep) p says _ _ c.retain-gone.ensures.kept ∙ ap (kept p) c.self.view_is

pub returns-clause-stands : goal.returns-clause-stands
returns-clause-stands g c = λ p says rs s.
    let left = kept_by (FnReturnsAt g.F.Fn c.args.keep) p says _ _ c.retain-gone.ensures.kept ∙ ap (kept p) c.self.view_is in
    subst (λ t. StandsFor t (filter (of_leaf p) rs)) (sym left) (stands_kept p c.args.self.now rs s)
