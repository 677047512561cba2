use Rattle.std.proofs.Common.{[], map, refl, sym, subst, inl}
use Rattle.script_text.specs.Orders.Order.{Nothing}
use Rattle.script_text.specs.Steps.{order_with}
use Rattle.sim_steps.specs.Stretches.{Obeyed}
use Rattle.sim_steps.proofs.Joining.{obeyed, stretch_empty}
use Rattle.sim_channels.specs.Channels.{bench}
use Rattle.sim_driver.proofs.obeying.obey.Goals as goal

pub returns-in-Nothing-clause-obeyed : goal.returns-in-Nothing-clause-obeyed
returns-in-Nothing-clause-obeyed g c =
    let d = c.args.driver.now in
    let devices = map g.D.Device.meaning c.args.devices.now in
    let h = c.requires in
    let resting = c.resting_laws.ensures in
    subst (λ step. Obeyed (order_with step c.args.text.now) (bench d devices) (bench d devices)) (sym c.in-Nothing.is)
    (obeyed Nothing [] _ _ (stretch_empty _) refl (resting.calm d devices h.fits.kept h.rest)
    (λ solo. resting.still d devices h.fits.kept h.rest (inl solo)))
