use Rattle.std.proofs.Common.{◌≡◌, ℕ, ◌<◌, ◌&&◌, cond, eqb, [], length, get_or, Some}
use Rattle.topo_paths.specs.Rows.{cell_at}
use Rattle.topo_paths.specs.Levels.{has}
use Rattle.topo_paths.proofs.rows.write_hops.Given as goal

-- what is still to be written, on top of what stands
abbrev pub invariant-loop-left : goal.invariant-loop-left
invariant-loop-left l = record {
  square : length l.rows ≡ 64;
  rows : (i : ℕ) → i < length l.rows → length (get_or l.rows i []) ≡ 64;
  rest : (to at : ℕ) → to < 64 → at < 64 → cond (eqb l.from at && has l.left to) (Some l.hop) (cell_at l.rows to at) ≡ cond (eqb l.from at && has l.mask to) (Some l.hop) (cell_at l.initial.rows to at);
}

abbrev pub decreases-loop-left : goal.decreases-loop-left
decreases-loop-left l = l.left
