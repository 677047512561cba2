use Rattle.policy_lang.specs.TreeOf.{term_of}
use Rattle.policy_lang.specs.Faults.{place_in}
use Rattle.policy_lang.specs.Scopes.{type_of_value, names_of}
use Rattle.policy_lang.proofs.Found.{two_found}
use Rattle.policy_lang.proofs.types.+types.Goals as goal

pub check_two-returns-clause-found : goal.check_two-returns-clause-found
check_two-returns-clause-found t c =
    two_found (place_in c.args.nodes.now) (type_of_value c.args.wanted) (term_of c.args.left.now) (term_of c.args.right.now) (names_of c.args.scope.now) c.args.node c.check_operand-found.result c.check_operand.result c.then.result
    c.check_operand-found.ensures.found c.check_operand.ensures.found c.then.ensures.fault c.then.ensures.next
