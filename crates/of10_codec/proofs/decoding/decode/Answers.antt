use Rattle.of10_codec.specs.Lent.{message_of}
use Rattle.of10_codec.proofs.Fine.{no_fault}
use Rattle.of10_codec.proofs.decoding.decode.Goals as goal

pub returns-in-Err-to_message-clause-fault : goal.returns-in-Err-to_message-clause-fault
returns-in-Err-to_message-clause-fault c = no_fault (message_of c.in-Ok.lent) c.args.bytes.now c.in-Ok.ensures.found
