use Rattle.of10_codec.proofs.Spelling.{spells}
use Rattle.of10_codec.proofs.laws.writing_laws.Goals as goal

pub returns : goal.returns
returns c = record { written = spells }
