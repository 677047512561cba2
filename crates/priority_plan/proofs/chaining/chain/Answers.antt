use Rattle.std.proofs.Common.{◌≡◌, ◌++◌, reverse, length, Contains, sym, ◌∙◌, ap, subst}
use Rattle.std.proofs.lemmas.List.{length-reverse}
use Rattle.std.proofs.lemmas.List.Sorted.{IsPermutation-reverse, IsPermutation-sym, Contains-permutation}
use Rattle.maple_base.specs.Keys.{anything}
use Rattle.trace_tree.specs.TreeOf.{tree_of}
use Rattle.priority_plan.specs.Rules.{MustStandBelow}
use Rattle.priority_plan.specs.Chains.{EachBelowNext}
use Rattle.priority_plan.specs.Highest.{chain_of}
use Rattle.priority_plan.proofs.Chains.{chain_long, chain_within, chain_below}
use Rattle.priority_plan.proofs.chaining.chain.Goals as goal

made : (c : goal.After-new) → c.new.result ≡ reverse (chain_of c.args.tree.now anything 0)
made c =
    c.new.ensures ∙ c.reverse.ensures.items
    ∙ ap reverse (c.in_ok-push_chain.ensures
    ∙ ap (λ l. l ++ chain_of (tree_of c.root-root.result.now) c.any-any.result 0) c.new-list.ensures.items
    ∙ ap (λ t. chain_of t c.any-any.result 0) c.root-root.ensures.tree
    ∙ ap (λ m. chain_of c.args.tree.now m 0) c.any-any.ensures)

pub returns-clause-long : goal.returns-clause-long
returns-clause-long c = ap length (made c) ∙ length-reverse (chain_of c.args.tree.now anything 0) ∙ chain_long c.args.tree.now anything 0

pub returns-clause-rules : goal.returns-clause-rules
returns-clause-rules c = λ r h.
    let chain = chain_of c.args.tree.now anything 0 in
    chain_within c.args.tree.now anything 0 r (Contains-permutation (reverse chain) chain r (IsPermutation-sym chain (reverse chain) (IsPermutation-reverse chain)) (subst (λ l. Contains l r) (made c) h))

pub returns-clause-below : goal.returns-clause-below
returns-clause-below c = subst (EachBelowNext (MustStandBelow c.args.tree.now)) (sym (made c)) (chain_below c.args.tree.now anything 0)
