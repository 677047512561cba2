use Rattle.std.proofs.Common.{arith, refl, sym}
use Rattle.std.proofs.lemmas.List.{take_rest}
use Rattle.of10_codec.proofs.body_reading.read_flow_mod.Goals as goal

pub returns-clause-found : goal.returns-clause-found
returns-clause-found c = record {
  is_kind = refl;
  is_version = refl;
  spelled = record {
    few = omega (arith, c.in_ok-actions.ensures.found.few, c.in_ok-actions.ensures.found.number);
    len = omega (arith, c.in_ok-actions.ensures.found.number);
    is_match = rw take_rest at c.in-Some.ensures.found;
    is_cookie = sym c.u64_at.ensures;
    is_command = sym c.u16_at.ensures;
    is_idle = sym c.u16_at-2.ensures;
    is_hard = sym c.u16_at-3.ensures;
    is_priority = sym c.u16_at-4.ensures;
    is_buffer = sym c.u32_at.ensures;
    is_out_port = sym c.u16_at-5.ensures;
    are_flags = sym c.u16_at-6.ensures;
    are_actions = c.in_ok-actions.ensures.found.spelled;
  };
}
