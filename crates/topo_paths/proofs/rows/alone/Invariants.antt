use Rattle.std.proofs.Common.{◌≡◌, ℕ, ◌<◌, ◌^◌, length, get_or}
use Rattle.topo_paths.proofs.rows.alone.Given as goal

abbrev pub invariant-loop-place : goal.invariant-loop-place
invariant-loop-place l = record {
  long : length l.reach ≡ 64;
  own : (k : ℕ) → k < l.place → get_or l.reach k 0 ≡ 2 ^ k;
}
