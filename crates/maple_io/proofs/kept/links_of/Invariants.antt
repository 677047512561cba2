use Rattle.std.proofs.Common.{◌≡◌, ℕ, false, take}
use Rattle.maple_io.specs.Schedules.{opens_in}
use Rattle.maple_io.specs.Kept.{has_link, is_closed}
use Rattle.maple_io.proofs.kept.links_of.Given as goal

abbrev pub invariant-loop-turn : goal.invariant-loop-turn
invariant-loop-turn l = record {
  links : (c : ℕ) → has_link c l.links.items ≡ opens_in c (take l.turn-index l.turns);
  still_open : (c : ℕ) → is_closed c l.links.items ≡ false;
}
