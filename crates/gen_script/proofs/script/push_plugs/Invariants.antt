use Rattle.std.proofs.Common.{◌≡◌, ◌++◌, ◌-◌, map}
use Rattle.std.specs.List.{flat_map}
use Rattle.gen_script.specs.declared.line.ScriptLine.TheVariants.{Plug}
use Rattle.gen_script.specs.Lines.{spelled}
use Rattle.gen_script.specs.Script.{numbers, plugs}
use Rattle.gen_script.proofs.script.push_plugs.Given as goal

-- what is written of the rest comes behind what was written
abbrev pub invariant-loop-device : goal.invariant-loop-device
invariant-loop-device l = l.text.items ++ flat_map spelled (map Plug (numbers l.device (5 - l.device))) ≡ l.fn.text.items ++ flat_map spelled plugs
