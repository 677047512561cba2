use Rattle.std.proofs.Common.{◌≡◌, ◌++◌, drop}
use Rattle.std.specs.List.{flat_map}
use Rattle.gen_script.specs.Summary.{summary_line}
use Rattle.gen_script.proofs.summing.push_tallies.Given as goal

-- what is written of the rest comes behind what was written
abbrev pub invariant-loop-tally : goal.invariant-loop-tally
invariant-loop-tally l =
    l.text.items ++ flat_map (summary_line l.report) (drop l.tally-index l.tallies) ≡ l.fn.text.items ++ flat_map (summary_line l.report) l.tallies
