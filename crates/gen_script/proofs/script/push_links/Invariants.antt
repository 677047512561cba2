use Rattle.std.proofs.Common.{◌≡◌, ◌++◌, ◌-◌}
use Rattle.std.specs.List.{flat_map}
use Rattle.gen_script.specs.Lines.{spelled}
use Rattle.gen_script.specs.Script.{numbers, both_links, links}
use Rattle.gen_script.proofs.script.push_links.Given as goal

-- what is written of the rest comes behind what was written
abbrev pub invariant-loop-switch : goal.invariant-loop-switch
invariant-loop-switch l =
    l.text.items ++ flat_map spelled (flat_map both_links (numbers l.switch (4 - l.switch))) ≡ l.fn.text.items ++ flat_map spelled links
