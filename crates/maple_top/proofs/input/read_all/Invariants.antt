use Rattle.std.proofs.Common.{◌≡◌, ◌-◌, ◌≤◌, length}
use Rattle.std.specs.Prelude.{vec_len}
use Rattle.std.specs.Io.KnownBytes.{Consumes}
use Rattle.maple_io.specs.Views.{Heard}
use Rattle.maple_io.proofs.Reading.{Given}
use Rattle.maple_top.proofs.Answered.{IsFewAhead}
use Rattle.maple_top.proofs.input.read_all.Given as goal

-- the bytes so far came off the front, and were given
abbrev pub invariant-reading : goal.invariant-reading
invariant-reading g l = record {
  consumed : Consumes (g.I.Source.tells l.fn.input).left (g.I.Source.tells l.input).left l.all.items;
  heard : Given (g.I.Source.tells l.fn.input) (g.I.Source.tells l.input) l.all.items;
  ahead : Heard (g.I.Source.tells l.fn.input) (g.I.Source.tells l.input) IsFewAhead;
  most : length l.all.items ≤ 67112960;
  spared : (g.I.Source.tells l.input).failed ≡ (g.I.Source.tells l.fn.input).failed;
  piece : length l.piece ≡ 4096;
}

abbrev pub decreases-reading : goal.decreases-reading
decreases-reading g l = 67108865 - vec_len l.all
