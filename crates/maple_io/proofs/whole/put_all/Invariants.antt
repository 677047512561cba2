use Rattle.std.proofs.Common.{◌≡◌, ◌-◌, ◌≤◌, take, length}
use Rattle.maple_io.specs.Views.{Wrote}
use Rattle.maple_io.proofs.whole.put_all.Given as goal

-- a front was written
abbrev pub invariant-loop-at : goal.invariant-loop-at
invariant-loop-at g l = record {
  within : l.at ≤ length l.bytes;
  written : Wrote (g.O.Sink.tells l.fn.output) (g.O.Sink.tells l.output) (take l.at l.bytes);
  spared : (g.O.Sink.tells l.output).failed ≡ (g.O.Sink.tells l.fn.output).failed;
}

abbrev pub decreases-loop-at : goal.decreases-loop-at
decreases-loop-at g l = length l.bytes - l.at
