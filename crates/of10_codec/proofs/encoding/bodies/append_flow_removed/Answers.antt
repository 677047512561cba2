use Rattle.std.proofs.Common.{append_assoc}
use Rattle.of10_codec.proofs.encoding.bodies.append_flow_removed.Goals as goal

pub returns-clause-items : goal.returns-clause-items
returns-clause-items c =
    rw (
      c.append-3.ensures.items,
      c.append_u16-2.ensures.items,
      c.append-2.ensures.items,
      c.append_u8.ensures.items,
      c.append_u16.ensures.items,
      c.append_u64.ensures.items,
      c.append.ensures.items,
      c.bytes_of.ensures.value,
    ) (simp append_assoc)
