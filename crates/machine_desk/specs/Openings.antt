-- What the desk of a hall is made of, beside its pass, and a desk ahead of its first entry.
use Rattle.std.specs.Prelude.{◌≡◌, [], Some, IsTrue}
use Rattle.maple_base.specs.declared.decision.Settings.{Settings}
use Rattle.policy_lang.specs.declared.Policy.{Policy}
use Rattle.machine_steps.specs.Machine.{opening}
use Rattle.machine_steps.specs.Sound.{IsSound}
use Rattle.packet_workers.specs.Adding.{PassView}
use Rattle.machine_desk.specs.declared.opening.Opening.{Opening}
use Rattle.machine_desk.specs.Desks.{DeskView}

-- of a hall whose machine was sound, a pass that leads, has seen nothing of it yet and made no call
pub record IsAhead (k : PassView) (o : Opening) : Type 0 where
  pub leads : IsTrue k.leads
  pub opens : k.opening ≡ Some o.start.value
  pub nothing : k.seen ≡ []
  pub none : k.own ≡ []
  pub sound : IsSound o.start.value
  pub learning : o.learning ≡ o.start.value.policy.learning
  pub budget : o.budget ≡ o.start.value.settings.budget

-- the machine is that of a policy and of settings
abbrev pub IsMachineOf : Policy → Settings → Opening → Type 0
IsMachineOf policy settings o = o.start.value ≡ opening policy settings

-- ---- a hall that was just opened

-- the pass is of such a hall
pub record IsOpening (k : PassView) (o : Opening) : Type 0 where
  pub ahead : IsAhead k o
  pub machine : IsMachineOf o.start.value.policy o.start.value.settings o

-- and its settings have workers
pub record IsOpeningBeside (k : PassView) (o : Opening) : Type 0 where
  pub opened : IsOpening k o
  pub beside : o.start.value.settings.workers ≡ 0 → ⊥

-- ---- its desk

-- the machine is ahead of its first entry
pub record IsAtStart (desk : DeskView) : Type 0 where
  pub none : desk.past ≡ []
  pub opening : desk.now ≡ opening desk.now.policy desk.now.settings

-- and it is the one with which the hall was opened
pub record IsOpenedAt (desk : DeskView) : Type 0 where
  pub start : IsAtStart desk
  pub footing : desk.footing.start ≡ desk.now
