use Rattle.std.proofs.Common.{subst}
use Rattle.std.specs.Prelude.{IfErr}
use Rattle.policy_lang.specs.Built.{IsErrorOf}
use Rattle.policy_lang.specs.TreeOf.{tree_of}
use Rattle.policy_text.proofs.Outlined.{none_told}
use Rattle.policy_text.proofs.reading.built_policy.Goals as goal

pub unreachable-requires : goal.unreachable-requires
unreachable-requires c =
    let tables = c.args.parts.tables.items in
    let body = tree_of c.args.parts.body in
    let error = subst (λ r. IfErr r (λ e. IsErrorOf e tables body)) c.in-Err-Fault.is c.build.ensures.fault in
    none_told tables body c.in-Err-Fault.field-0-0 c.in-Err-Fault.field-0-1 c.requires.formed (subst (λ e. IsErrorOf e tables body) c.in-Err-Fault.field-0-is error)
