use Rattle.std.proofs.Common.{ap, ◌∙◌, sym}
use Rattle.policy_lang.specs.TreeOf.{tree_of}
use Rattle.policy_lang.specs.Walks.{told}
use Rattle.policy_lang.proofs.Told.{fault_told, well_formed}
use Rattle.policy_lang.proofs.build.check_names.Goals as goal

pub returns-in-None-clause-formed : goal.returns-in-None-clause-formed
returns-in-None-clause-formed c =
    well_formed c.args.tables.now (tree_of c.args.body.now) c.args.nodes.now c.requires.nodes c.requires.free (sym (ap told c.in-None.is) ∙ c.in_ok-first_name_fault.ensures.fault)

pub returns-in-Some-clause-fault : goal.returns-in-Some-clause-fault
returns-in-Some-clause-fault c =
    fault_told c.args.tables.now (tree_of c.args.body.now) c.args.nodes.now c.in-Some.fault c.node.result c.number.result c.requires.nodes c.requires.free
    (sym (ap told c.in-Some.is) ∙ c.in_ok-first_name_fault.ensures.fault) c.node.ensures c.number.ensures
