use Rattle.std.proofs.Common.{refl}
use Rattle.gen_script.specs.Script.{links}
use Rattle.gen_script.proofs.script.push_links.Goals as goal

pub loop-switch-init : goal.loop-switch-init
unfolding links
loop-switch-init c = refl
