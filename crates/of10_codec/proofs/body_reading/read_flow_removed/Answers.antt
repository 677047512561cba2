use Rattle.std.proofs.Common.{refl, sym}
use Rattle.std.proofs.lemmas.List.{take_rest}
use Rattle.of10_codec.proofs.body_reading.read_flow_removed.Goals as goal

pub returns-clause-found : goal.returns-clause-found
returns-clause-found c = record {
  is_kind = refl;
  is_version = refl;
  spelled = record {
    len = c.if-bytes-ne88.false;
    is_match = rw take_rest at c.in-Some.ensures.found;
    is_cookie = sym c.u64_at.ensures;
    is_priority = sym c.u16_at.ensures;
    is_reason = sym c.u8_at.ensures;
    is_idle = sym c.u16_at-2.ensures;
  };
}
