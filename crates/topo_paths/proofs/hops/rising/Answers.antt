use Rattle.std.proofs.Common.{List, subst, arith, rules}
use Rattle.std.specs.List.Sorted.{IsPermutation}
use Rattle.std.proofs.lemmas.List.Sorted.{IsNonDecreasingBy-from_sort_by_key}
use Rattle.topo_paths.specs.Walks.{Link}
use Rattle.topo_paths.proofs.hops.rising.Goals as goal

pub returns-clause-moved : goal.returns-clause-moved
returns-clause-moved c = subst (λ (x : List Link). IsPermutation x c.sort_unstable_by_key.new.self.items) c.in_ok-list.ensures.items c.sort_unstable_by_key.ensures.permutation

pub returns-clause-rise : goal.returns-clause-rise
returns-clause-rise c = λ i j d less short same. IsNonDecreasingBy-from_sort_by_key (λ (x : Link). x.0.port) _ c.sort_unstable_by_key.ensures.sorted (λ a r q k. search rules) i j d (omega arith) short
