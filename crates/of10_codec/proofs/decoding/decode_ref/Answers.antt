use Rattle.std.proofs.Common.{rules, Ok, Err}
use Rattle.of10_codec.specs.declared.fault.Bad.TheVariants.{Body}
use Rattle.of10_codec.proofs.Given.{given_alone, message_spelled}
use Rattle.of10_codec.proofs.decoding.decode_ref.Goals as goal

pub returns-in_err-kind-clause-only : goal.returns-in_err-kind-clause-only
returns-in_err-kind-clause-only c = given_alone c.from_residual.result c.args.bytes.now (search rules) (search rules)

pub returns-in-Ok-clause-only : goal.returns-in-Ok-clause-only
returns-in-Ok-clause-only c =
    given_alone (Ok (record { xid = c.in_ok-kind.field-0.xid; body = c.in-Ok.body })) c.args.bytes.now
    (message_spelled c.in_ok-kind.field-0.kind c.in_ok-kind.field-0.xid c.in-Ok.body c.args.bytes.now c.in_ok-kind.ensures.found c.in-Ok.ensures.found) tt

pub returns-in-Err-clause-only : goal.returns-in-Err-clause-only
returns-in-Err-clause-only c = given_alone (Err (Body c.in_ok-kind.field-0.kind c.in-Err.offset)) c.args.bytes.now tt (search rules)
