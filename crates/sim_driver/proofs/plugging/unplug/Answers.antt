use Rattle.std.proofs.Common.{false, sym, ap, ◌∙◌, subst}
use Rattle.script_text.specs.Orders.Order.{Unplug}
use Rattle.machine_steps.specs.declared.entry.Entry.TheVariants as entries
use Rattle.machine_steps.specs.declared.note.Note.TheVariants as notes
use Rattle.sim_steps.specs.Parts.{JustEnters}
use Rattle.machine_desk.specs.Hearing.{is_live}
use Rattle.sim_channels.proofs.Places.{fits_but}
use Rattle.sim_driver.specs.Commands.{AsksFor}
use Rattle.sim_driver.proofs.Doing.{if_absent, if_plugged, obeyed_asked, obeyed_noted, of_ok, on_ok, others_closed, staged_there}
use Rattle.sim_driver.proofs.plugging.unplug.Goals as goal

pub returns-in-Live-clause-fits : goal.returns-in-Live-clause-fits
returns-in-Live-clause-fits g c =
    let r = c.close.result in
    on_ok r (λ u e devices fits.
    (let changes = of_ok _ r u e c.close.ensures.changes in fits_but c.args.driver.now c.close.new.driver c.index_of-at.result devices changes.kept
    changes.channels fits))

pub returns-in-Live-clause-obeyed : goal.returns-in-Live-clause-obeyed
returns-in-Live-clause-obeyed g c =
    let r = c.close.result in
    let d = c.args.driver.now in
    let h = c.requires in
    let place = c.args.place in
    let staged = staged_there d place c.index_of-at.result c.stage.result h.kept c.index_of-at.ensures c.stage.ensures in
    on_ok r (λ u e devices fits.
    obeyed_asked c.resting_laws.ensures (Unplug place) (entries.Gone place false) d c.close.new.driver devices
    (λ es just. if_plugged place d.desk.now es (JustEnters (entries.Gone place false) es) (staged.plugged ∙ ap is_live c.in-Live.is) just) fits
    (subst (λ n. AsksFor (entries.Gone n false) d c.close.new.driver) (sym c.index_of-at.ensures) (of_ok _ r u e c.close.ensures.asked))
    (of_ok _ r u e c.close.ensures.changes).kept (of_ok _ r u e c.close.ensures.rest))

pub returns-in_default-clause-obeyed : goal.returns-in_default-clause-obeyed
returns-in_default-clause-obeyed g c =
    let r = c.note.result in
    let d = c.args.driver.now in
    let h = c.requires in
    let place = c.args.place in
    let staged = staged_there d place c.index_of-at.result c.stage.result h.kept c.index_of-at.ensures c.stage.ensures in
    on_ok r (λ u e devices fits.
    obeyed_noted c.resting_laws.ensures (Unplug place) (notes.Absent place) d c.note.new.driver devices
    (λ es just. if_absent place d.desk.now (JustEnters (entries.Gone place false) es) (staged.plugged ∙ others_closed _ c.in_default.not-Live) es just) fits
    (of_ok _ r u e c.note.ensures.told) (of_ok _ r u e c.note.ensures.kept) (of_ok _ r u e c.note.ensures.rest))
