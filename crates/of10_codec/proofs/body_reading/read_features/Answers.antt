use Rattle.std.proofs.Common.{arith, refl}
use Rattle.std.proofs.lemmas.List.{take_rest}
use Rattle.of10_codec.proofs.PortLists.{features_spelled}
use Rattle.of10_codec.proofs.body_reading.read_features.Goals as goal

pub returns-clause-found : goal.returns-clause-found
returns-clause-found c = record {
  is_kind = refl;
  is_version = refl;
  spelled = features_spelled c.u64_at.result c.args.bytes.now _ (take_rest c.args.bytes.now 32) (omega arith) (omega arith) c.u64_at.ensures;
}
