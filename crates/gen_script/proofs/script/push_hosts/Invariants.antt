use Rattle.std.proofs.Common.{◌≡◌, ◌++◌, ◌-◌, map}
use Rattle.std.specs.List.{flat_map}
use Rattle.gen_script.specs.Lines.{spelled}
use Rattle.gen_script.specs.Script.{numbers, host_line, hosts}
use Rattle.gen_script.proofs.script.push_hosts.Given as goal

-- what is written of the rest comes behind what was written
abbrev pub invariant-loop-host : goal.invariant-loop-host
invariant-loop-host l = l.text.items ++ flat_map spelled (map host_line (numbers l.host (17 - l.host))) ≡ l.fn.text.items ++ flat_map spelled hosts
