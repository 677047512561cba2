use Rattle.of10_stream.proofs.Once.{one_cut}
use Rattle.of10_stream.proofs.Runs.{any_pieces}
use Rattle.of10_stream.proofs.laws.stream_laws.Goals as goal

pub returns-clause-pieces : goal.returns-clause-pieces
returns-clause-pieces c = any_pieces

pub returns-clause-one : goal.returns-clause-one
returns-clause-one c = one_cut
