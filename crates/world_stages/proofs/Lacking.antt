-- Where memory ran out nothing changed.
use Rattle.std.proofs.Common.{◌≡◌, true, false, ⊎_elim}
use Rattle.machine_steps.specs.declared.entry.Entry.{Entry}
use Rattle.machine_steps.specs.declared.reply.Reply.{Reply}
use Rattle.machine_steps.specs.declared.reply.Reply.TheVariants.{NoMemory}
use Rattle.machine_steps.specs.Effects.{tells_lack}
use Rattle.machine_steps.specs.Machine.{State}
use Rattle.machine_steps.specs.Steps.{Steps}
use Rattle.machine_steps.proofs.Changes.{changes}
use Rattle.world_steps.specs.Worlds.{lacks_memory}

told_lack : (r : Reply) → lacks_memory r ≡ true → tells_lack r ≡ false → ⊥
told_lack NoMemory l f = absurd (cc)
told_lack other l f = absurd (cc)

pub lacks_nothing : (old : State) (entry : Entry) (reply : Reply) (new : State) → lacks_memory reply ≡ true → Steps old entry reply new → new ≡ old
lacks_nothing old entry reply new lack steps = ⊎_elim (λ e. e) (λ f. absurd (told_lack reply lack f)) (changes old entry reply new steps).memory
