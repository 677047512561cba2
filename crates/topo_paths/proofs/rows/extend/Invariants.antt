use Rattle.std.proofs.Common.{◌≡◌, ℕ, List, false, length}
use Rattle.topo_paths.specs.Rows.{AreEnds}
use Rattle.topo_paths.specs.Levels.{IsLevel, IsGrown}
use Rattle.topo_paths.proofs.rows.extend.Given as goal

abbrev pub invariant-loop-i : goal.invariant-loop-i
invariant-loop-i l = record {
  square : length l.rows ≡ 64;
  masks : length l.reach ≡ 64;
  grown' : (switches : List ℕ) (level : ℕ) → AreEnds l.links switches l.ends → IsLevel l.links switches level l.before l.initial.rows → IsGrown l.links switches level l.i l.reach l.rows;
  none : l.grown ≡ false → l.reach ≡ l.initial.reach;
}
