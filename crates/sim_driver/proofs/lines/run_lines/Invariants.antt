use Rattle.std.proofs.Common.{◌≡◌, ◌+◌, ◌≤◌, length, map}
use Rattle.script_text.specs.Lines.{ended_lines}
use Rattle.sim_channels.specs.Channels.{IsSame}
use Rattle.sim_driver.specs.Passes.{IsReady, given_by}
use Rattle.sim_driver.proofs.Going.{Went}
use Rattle.sim_driver.proofs.lines.run_lines.Given as goal

-- the orders ahead of the lines that are left were followed, and their report was written; the lines that are left have numbers
abbrev pub invariant-loop-rest : goal.invariant-loop-rest
invariant-loop-rest g l = record {
  ready : IsReady l.driver (map g.D.Device.meaning l.devices);
  same : IsSame l.fn.driver l.driver;
  went : Went (given_by l.fn.driver.desk.now (map g.D.Device.meaning l.fn.devices) l.script l.first) (length l.fn.devices) (g.O.Sink.tells l.fn.to)
      (g.O.Sink.tells l.to) l.driver (map g.D.Device.meaning l.devices) l.line (ended_lines l.rest);
  spared : (g.O.Sink.tells l.to).failed ≡ (g.O.Sink.tells l.fn.to).failed;
  numbers : l.line + length l.rest ≤ l.first + length l.script;
}

abbrev pub decreases-loop-rest : goal.decreases-loop-rest
decreases-loop-rest g l = length l.rest
