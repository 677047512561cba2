use Rattle.std.proofs.Common.{map, sym, ap, ◌∙◌, subst, inr}
use Rattle.script_text.specs.Orders.Order.{Plug}
use Rattle.machine_steps.specs.declared.entry.Entry.TheVariants as entries
use Rattle.machine_steps.specs.declared.note.Note.TheVariants as notes
use Rattle.machine_desk.specs.Hearing.{is_live, was_begun}
use Rattle.sim_channels.specs.Channels.{WorksAlone}
use Rattle.sim_channels.specs.Resting.{DoesAt}
use Rattle.sim_channels.specs.Waiting.{NoneWaits}
use Rattle.sim_channels.proofs.Others.{same_then}
use Rattle.sim_channels.proofs.Places.{fits_but}
use Rattle.sim_driver.specs.Commands.{AsksFor}
use Rattle.sim_driver.proofs.Doing.{obeyed_done, obeyed_noted, of_ok, on_ok, plugs_gone, plugs_now, plugs_present, staged_there, stays_then}
use Rattle.std.proofs.lemmas.Result.{on_err_weaker}
use Rattle.sim_steps.proofs.Broken.{broken_stretch}
use Rattle.sim_driver.proofs.plugging.plug.Goals as goal

pub deliver-requires-clause-fits : goal.deliver-requires-clause-fits
deliver-requires-clause-fits g c =
    let changes = c.in_ok-open-in-Unopened.ensures.changes in
    fits_but c.args.driver.now c.open.new.driver c.index_of-at.result _ changes.kept changes.channels c.requires.fits

pub returns-in-Live-clause-obeyed : goal.returns-in-Live-clause-obeyed
returns-in-Live-clause-obeyed g c =
    let d = c.args.driver.now in
    let h = c.requires in
    let place = c.args.place in
    let staged = staged_there d place c.index_of-at.result c.stage.result h.fits.kept c.index_of-at.ensures c.stage.ensures in
    on_ok c.note.result (λ u e.
    obeyed_noted c.resting_laws.ensures (Plug place) (notes.Present place) d c.note.new.driver _ (plugs_present place d.desk.now (staged.plugged ∙ ap is_live c.in-Live.is)) h.fits
    (of_ok _ c.note.result u e c.note.ensures.told) (of_ok _ c.note.result u e c.note.ensures.kept) (of_ok _ c.note.result u e c.note.ensures.rest))

pub returns-in-Over-clause-obeyed : goal.returns-in-Over-clause-obeyed
returns-in-Over-clause-obeyed g c =
    let d = c.args.driver.now in
    let h = c.requires in
    let place = c.args.place in
    let staged = staged_there d place c.index_of-at.result c.stage.result h.fits.kept c.index_of-at.ensures c.stage.ensures in
    let r = c.note-in-Over.result in
    on_ok r (λ u e.
    obeyed_noted c.resting_laws.ensures (Plug place) (notes.GoneAlready place) d c.note-in-Over.new.driver _
    (plugs_gone place d.desk.now (staged.plugged ∙ ap is_live c.in-Over.is) (staged.opened ∙ ap was_begun c.in-Over.is)) h.fits
    (of_ok _ r u e c.note-in-Over.ensures.told) (of_ok _ r u e c.note-in-Over.ensures.kept) (of_ok _ r u e c.note-in-Over.ensures.rest))

pub returns-in_ok-open-in-Unopened-clause-rest : goal.returns-in_ok-open-in-Unopened-clause-rest
returns-in_ok-open-in-Unopened-clause-rest g c =
    let r = c.deliver.result in
    let h = c.requires in
    let resting = c.resting_laws.ensures in
    let opened = c.in_ok-open-in-Unopened.ensures in
    let done = c.deliver.ensures in
    let d = c.args.driver.now in
    let m = c.open.new.driver in
    let e = c.deliver.new.self in
    let at = c.index_of-at.result in
    on_ok r (λ u ok.
    (let none : WorksAlone d → NoneWaits m.desk = λ alone. opened.changes.jobs (h.rest.done alone).jobs in
    let does : DoesAt at d e = record {
      kept = (of_ok _ r u ok done.fits).kept;
      same = same_then d m e opened.same done.same;
      others = stays_then at d m e opened.changes (of_ok _ r u ok done.others);
      jobs = λ alone. of_ok _ r u ok done.jobs (none alone);
      taken = λ alone. of_ok _ r u ok done.taken (inr (none alone));
      offered = of_ok _ r u ok done.offered;
    } in
    resting.all at e (resting.beside at d e h.fits.kept (resting.but at d h.rest) does) (of_ok _ r u ok done.heard opened.heard)))

pub returns-in_ok-open-in-Unopened-clause-obeyed : goal.returns-in_ok-open-in-Unopened-clause-obeyed
returns-in_ok-open-in-Unopened-clause-obeyed g c =
    let r = c.deliver.result in
    let done = c.deliver.ensures in
    let d = c.args.driver.now in
    let h = c.requires in
    let place = c.args.place in
    let staged = staged_there d place c.index_of-at.result c.stage.result h.fits.kept c.index_of-at.ensures c.stage.ensures in
    on_ok r (λ u e.
    obeyed_done c.resting_laws.ensures (Plug place) (entries.Open place) d c.open.new.driver _ c.deliver.new.self _
    (plugs_now place d.desk.now (staged.plugged ∙ ap is_live c.in-Unopened.is) (staged.opened ∙ ap was_begun c.in-Unopened.is)) h.fits
    (subst (λ n. AsksFor (entries.Open n) d c.open.new.driver) (sym c.index_of-at.ensures) c.in_ok-open-in-Unopened.ensures.asked) (of_ok _ r u e done.carried)
    (of_ok _ r u e done.fits).kept (of_ok _ r u e (returns-in_ok-open-in-Unopened-clause-rest g c)))

pub returns-in_ok-open-in-Unopened-clause-broken : goal.returns-in_ok-open-in-Unopened-clause-broken
returns-in_ok-open-in-Unopened-clause-broken g c =
    let asked = c.in_ok-open-in-Unopened.ensures.asked (map g.D.Device.meaning c.args.devices.now) c.requires.fits in
    on_err_weaker c.deliver.result (broken_stretch _ _ _ _ c.deliver.new.self.desk.past asked.1.stretch) c.deliver.ensures.broken
