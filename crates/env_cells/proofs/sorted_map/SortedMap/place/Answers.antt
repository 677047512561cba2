use Rattle.std.proofs.Common.{IfOk, IfErr, ap, ◌∙◌, subst, rules}
use Rattle.std.proofs.lemmas.Fn.{always_returns_same}
use Rattle.std.specs.FinMap.{is_sorted}
use Rattle.env_cells.specs.Sorted.{IsHit, IsGap}
use Rattle.env_cells.proofs.SortedLists.{searched}
use Rattle.env_cells.proofs.sorted_map.SortedMap.place.Goals as goal

pub returns-clause-found : goal.returns-clause-found
returns-clause-found g c =
    let k = g.met.K.Key in
    let facts = c.binary_search_by.ensures in
    let by_key = facts.position (λ e. g.K.Key.order e.0 c.args.key.now) (always_returns_same _ _ _ (λ a r g called. search rules)) in
    subst (λ l. IfOk c.binary_search_by.result (IsHit g.K.Key.order l c.args.key.now)) (c.deref.ensures.value ∙ c.self.view_is)
    (searched k.total k.apart _ c.args.key.now (ap (is_sorted g.K.Key.order) c.deref.ensures.value ∙ c.self.invariant) _ facts.bound by_key).found

pub returns-clause-absent : goal.returns-clause-absent
returns-clause-absent g c =
    let k = g.met.K.Key in
    let facts = c.binary_search_by.ensures in
    let by_key = facts.position (λ e. g.K.Key.order e.0 c.args.key.now) (always_returns_same _ _ _ (λ a r g called. search rules)) in
    subst (λ l. IfErr c.binary_search_by.result (IsGap g.K.Key.order l c.args.key.now)) (c.deref.ensures.value ∙ c.self.view_is)
    (searched k.total k.apart _ c.args.key.now (ap (is_sorted g.K.Key.order) c.deref.ensures.value ∙ c.self.invariant) _ facts.bound by_key).absent
