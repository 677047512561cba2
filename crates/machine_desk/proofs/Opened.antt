-- A desk ahead of its first entry, and a session that is open.
use Rattle.std.proofs.Common.{◌≡◌, true, refl, sym, subst}
use Rattle.machine_desk.specs.declared.inbound.Stage.{Stage}
use Rattle.machine_desk.specs.declared.inbound.Stage.TheVariants.{Live, Over, Unopened}
use Rattle.machine_desk.specs.Desks.{DeskView}
use Rattle.machine_desk.specs.Hearing.{is_live}
use Rattle.machine_desk.specs.Openings.{IsOpenedAt}
use Rattle.machine_steps.specs.Machine.{State, opening}

-- what it was opened with is a machine ahead of its first entry
pub opened_with : (desk : DeskView) → IsOpenedAt desk → desk.footing.start ≡ opening desk.footing.start.policy desk.footing.start.settings
opened_with desk h = subst (λ (m : State). m ≡ opening m.policy m.settings) (sym h.footing) h.start.opening

pub live_is : (stage : Stage) → is_live stage ≡ true → stage ≡ Live
live_is Unopened e = absurd (cc)
live_is Over e = absurd (cc)
live_is Live e = refl
