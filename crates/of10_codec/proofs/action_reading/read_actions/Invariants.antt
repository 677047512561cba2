use Rattle.std.proofs.Common.{◌≡◌, ◌+◌, ◌*◌, ◌-◌, ◌≤◌, length, take, drop}
use Rattle.of10_codec.specs.Messages.{SpellsOutputs}
use Rattle.of10_codec.specs.Faults.{action_faults}
use Rattle.of10_codec.proofs.action_reading.read_actions.Given as goal

abbrev pub invariant-loop-i : goal.invariant-loop-i
invariant-loop-i l = record {
  size : length l.ports ≡ 16;
  few : l.i ≤ 16;
  spelled : SpellsOutputs (take l.i l.ports) (drop l.start l.bytes);
  left : action_faults l.count 16 l.start l.bytes ≡ action_faults (l.count - l.i) (16 - l.i) (l.start + 8 * l.i) l.bytes;
}
