use Rattle.std.proofs.Common.{sym, ap, ◌∙◌}
use Rattle.packet_key.specs.Frames.{key_of}
use Rattle.machine_steps.specs.Steps.{is_too_big}
use Rattle.core_machine.proofs.Packets.{packet_taken}
use Rattle.core_machine.proofs.packet_ins.hear_packet.Goals as goal

pub returns-clause-heard : goal.returns-clause-heard
returns-clause-heard c =
    let key = sym (ap (key_of c.args.in_port) c.items.ensures) ∙ sym c.key_of.ensures.key ∙ c.in-Ok.is in
    let fits = sym (ap (is_too_big c.args.buffer) c.items-2.ensures) ∙ sym c.is_too_big.ensures ∙ c.if-is_too_big.false in
    packet_taken c.args.connection c.args.switch c.in-Ok.key c.args.buffer c.args.in_port c.args.frame c.args.parts.now c.take_in.new.parts key fits c.take_in.result c.take_in.ensures.taken
