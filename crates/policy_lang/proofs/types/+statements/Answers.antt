use Rattle.std.proofs.Common.{ap, ◌∙◌, arith}
use Rattle.std.proofs.lemmas.Result.{on_ok_weaker}
use Rattle.std.specs.Option.{option_map}
use Rattle.policy_lang.specs.TreeOf.{ask_of, act_of, acts_of, tree_of}
use Rattle.policy_lang.specs.Faults.{place_in}
use Rattle.policy_lang.specs.Walks.{told, merged_by}
use Rattle.policy_lang.specs.Scopes.{in_force}
use Rattle.policy_lang.proofs.Found.{all_more_found, if_found}
use Rattle.policy_lang.proofs.SoundParts.{acts_sound, if_sound}
use Rattle.policy_lang.proofs.Rolls.{if_tree}
use Rattle.policy_lang.proofs.types.+statements.Goals as goal

pub check_block-loop-statement-preserved : goal.check_block-loop-statement-preserved
check_block-loop-statement-preserved t c =
    let place = place_in c.args.nodes.now in
    let found = c.in_ok-check_statement.ensures.found in (
      all_more_found place c.args.statements.now (in_force c.args.scope.now.names.entries) (in_force c.loop-statement.scope.names.entries) (in_force c.check_statement.new.scope.names.entries) c.args.node
          c.loop-statement.statement-index c.statement-item.result (told c.loop-statement.found.fault) (told c.then-found.result.fault) c.loop-statement.found.next c.then-found.result.next (omega arith)
          c.statement-item.is c.loop-statement.invariant.0 (c.then-found.ensures.fault ∙ ap (merged_by place (told c.loop-statement.found.fault)) found.fault) (c.then-found.ensures.next ∙ found.next)
          c.in_ok-check_statement.ensures.names c.in_ok-check_statement.ensures.inner,
      acts_sound c.args.statements.now c.loop-statement.statement-index c.statement-item.result (omega arith) c.statement-item.is c.in_ok-check_statement.ensures.sound c.loop-statement.invariant.1,
    )

pub check_if-returns-clause-found : goal.check_if-returns-clause-found
check_if-returns-clause-found t c =
    let place = place_in c.args.nodes.now in
    if_found place (ask_of c.args.head.now) (tree_of c.args.block.now) (acts_of c.items.result.now) (option_map tree_of c.args.other.now) (in_force c.args.scope.now.names.entries) c.args.node c.check_head-asked.result c.in_ok-first.first
    c.in_ok-second.second c.then-2.result (in_force c.bind.new.scope.names.entries) (in_force c.check_block.new.scope.names.entries) (in_force c.leave.new.self.names.entries) c.len-outer.result
    c.check_head-asked.ensures.found c.items.ensures c.in_ok-bind.ensures c.in_ok-first.ensures.found c.in_ok-first.ensures.names c.len-outer.ensures c.leave.ensures c.in_ok-second.ensures.found
    (c.then-2.ensures.fault ∙ ap (λ o. merged_by place o (told c.in_ok-second.second.fault)) c.then.ensures.fault) c.then-2.ensures.next

pub check_statement-returns-in-If-clause-sound : goal.check_statement-returns-in-If-clause-sound
check_statement-returns-in-If-clause-sound t c =
    on_ok_weaker c.check_if.result
    (if_sound (act_of c.args.statement.now) (ask_of c.in-If.head) (tree_of c.in-If.block) (option_map tree_of c.in-If.other) (if_tree c.args.statement.now c.in-If.head c.in-If.block c.in-If.other c.in-If.is))
    c.check_if.ensures.sound
