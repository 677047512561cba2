use Rattle.std.proofs.Common.{◌≡◌, ℕ, ◌<◌, None, [], length, get_or, replicate}
use Rattle.topo_paths.proofs.rows.clear.Given as goal

abbrev pub invariant-loop-place : goal.invariant-loop-place
invariant-loop-place l = record {
  square : length l.rows ≡ 64;
  none : (k : ℕ) → k < l.place → get_or l.rows k [] ≡ replicate 64 None;
}
