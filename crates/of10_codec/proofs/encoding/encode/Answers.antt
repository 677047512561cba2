use Rattle.std.proofs.Common.{arith}
use Rattle.std.proofs.lemmas.Bool.{and_from}
use Rattle.of10_codec.specs.Laws.{has_bits, body_has_bits}
use Rattle.of10_codec.proofs.Spelling.{spells}
use Rattle.of10_codec.proofs.encoding.encode.Goals as goal

pub returns-clause-spelled : goal.returns-clause-spelled
returns-clause-spelled c =
    let m = c.args.message.now in
    spells m (and_from (has_bits 32 m.xid) (body_has_bits m.body) c.append_header.ensures.bits c.append_body.ensures.bits) c.requires (omega arith)
