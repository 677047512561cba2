use Rattle.std.proofs.Common.{◌≡◌, drop}
use Rattle.std.specs.List.{list_all}
use Rattle.policy_lang.specs.TreeOf.{terms_of}
use Rattle.policy_lang.specs.Sound.{sound_term}
use Rattle.policy_lang.specs.Faults.{place_in}
use Rattle.policy_lang.specs.Walks.{told}
use Rattle.policy_lang.specs.Scopes.{in_force}
use Rattle.policy_lang.proofs.Found.{NumbersFound}
use Rattle.policy_lang.proofs.types.check_numbers.Given as goal

abbrev pub invariant-loop-expr : goal.invariant-loop-expr
invariant-loop-expr l =
    NumbersFound (place_in l.nodes) l.exprs (in_force l.scope.names.entries) l.node (drop l.expr-index l.exprs) (told l.found.fault) l.found.next
    × (list_all sound_term (terms_of (drop l.expr-index l.exprs)) ≡ list_all sound_term (terms_of l.exprs))
