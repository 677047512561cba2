use Rattle.std.proofs.Common.{◌≡◌, [], take, drop}
use Rattle.policy_lang.specs.Faults.{tables_faults, first_by, place_in}
use Rattle.policy_lang.specs.Walks.{told, merged_by}
use Rattle.policy_lang.proofs.types.tables_fault.Given as goal

abbrev pub invariant-loop-i : goal.invariant-loop-i
invariant-loop-i l =
    let place = place_in l.nodes in
    merged_by place (told l.fault) (first_by place (tables_faults (take l.i l.tables) (drop l.i l.tables))) ≡ first_by place (tables_faults [] l.tables)
