use Rattle.std.proofs.Common.{refl}
use Rattle.gen_script.specs.Script.{plugs}
use Rattle.gen_script.proofs.script.push_plugs.Goals as goal

pub loop-device-init : goal.loop-device-init
unfolding plugs
loop-device-init c = refl
