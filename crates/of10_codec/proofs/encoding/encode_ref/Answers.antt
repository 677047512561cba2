use Rattle.std.proofs.Common.{arith}
use Rattle.std.proofs.lemmas.Bool.{and_from}
use Rattle.of10_codec.specs.Laws.{has_bits, body_has_bits}
use Rattle.of10_codec.specs.Lent.{message_of}
use Rattle.of10_codec.proofs.Spelling.{spells}
use Rattle.of10_codec.proofs.encoding.encode_ref.Goals as goal

pub returns-clause-spelled : goal.returns-clause-spelled
returns-clause-spelled c =
    let m = message_of c.args.message.now in
    spells m (and_from (has_bits 32 m.xid) (body_has_bits m.body) c.append_header.ensures.bits c.append_lent_body.ensures.bits) c.requires (omega arith)
