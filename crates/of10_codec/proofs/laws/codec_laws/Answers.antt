use Rattle.of10_codec.proofs.Shown.{one_message}
use Rattle.of10_codec.proofs.Fine.{no_fault}
use Rattle.of10_codec.proofs.laws.codec_laws.Goals as goal

pub returns-clause-one : goal.returns-clause-one
returns-clause-one c = one_message

pub returns-clause-fault : goal.returns-clause-fault
returns-clause-fault c = no_fault
