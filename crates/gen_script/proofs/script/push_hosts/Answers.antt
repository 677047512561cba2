use Rattle.std.proofs.Common.{refl}
use Rattle.gen_script.specs.Script.{hosts}
use Rattle.gen_script.proofs.script.push_hosts.Goals as goal

pub loop-host-init : goal.loop-host-init
unfolding hosts
loop-host-init c = refl
