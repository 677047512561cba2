use Rattle.std.proofs.Common.{◌≡◌, ◌++◌, ◌-◌}
use Rattle.std.specs.List.{flat_map}
use Rattle.gen_script.specs.Lines.{spelled}
use Rattle.gen_script.specs.Script.{rounds}
use Rattle.gen_script.proofs.script.push_rounds.Given as goal

-- what is written of the rest comes behind what was written
abbrev pub invariant-loop : goal.invariant-loop
invariant-loop l =
    l.text.items ++ flat_map spelled (rounds (l.count - l.counter) l.generator) ≡ l.fn.text.items ++ flat_map spelled (rounds l.count l.initial.generator)
