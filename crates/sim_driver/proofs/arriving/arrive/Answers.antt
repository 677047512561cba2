use Rattle.std.proofs.Common.{Ok, ap, ◌∙◌}
use Rattle.machine_steps.specs.declared.note.Note.TheVariants as notes
use Rattle.script_text.specs.Orders.Order.{Arrival}
use Rattle.sim_steps.specs.Parts.{JustLooks}
use Rattle.sim_steps.proofs.Joining.{carried_none}
use Rattle.machine_desk.specs.Hearing.{is_live}
use Rattle.sim_driver.proofs.Calling.{obeyed_looked}
use Rattle.sim_driver.proofs.Doing.{if_absent, obeyed_noted, of_ok, on_ok, others_closed, staged_there}
use Rattle.std.proofs.lemmas.Result.{on_err_weaker}
use Rattle.sim_steps.proofs.Broken.{broken_stretch}
use Rattle.sim_driver.proofs.arriving.arrive.Goals as goal

pub returns-then-branch-clause-obeyed : goal.returns-then-branch-clause-obeyed
returns-then-branch-clause-obeyed g c =
    let r = c.attend.result in
    let done = c.attend.ensures in
    let d = c.args.driver.now in
    let h = c.requires in
    let place = c.args.place in
    let at = c.index_of-at.result in
    let staged = staged_there d place at c.stage.result h.fits.kept c.index_of-at.ensures c.stage.ensures in
    on_ok r (λ u e.
    obeyed_looked c.resting_laws.ensures d _ c.look.new.driver _ c.attend.new.driver _ place at c.args.port c.args.frame c.index_of-at.ensures
    (staged.plugged ∙ ap is_live c.in-Live.is)
    c.in_ok-look-in-Live.ensures.looked (of_ok _ r u e done.carried) (of_ok _ r u e done.fits).kept (of_ok _ r u e done.rest))

pub returns-else-branch-clause-obeyed : goal.returns-else-branch-clause-obeyed
returns-else-branch-clause-obeyed g c =
    let d = c.args.driver.now in
    let h = c.requires in
    let place = c.args.place in
    let done = c.in_ok-look-in-Live.ensures in
    let staged = staged_there d place c.index_of-at.result c.stage.result h.fits.kept c.index_of-at.ensures c.stage.ensures in
    obeyed_looked c.resting_laws.ensures d _ c.look.new.driver _ c.look.new.driver _ place c.index_of-at.result c.args.port c.args.frame c.index_of-at.ensures
    (staged.plugged ∙ ap is_live c.in-Live.is) done.looked (carried_none _) done.fits.kept (done.silent (ap Ok c.if-branch.false))

pub returns-in_default-clause-obeyed : goal.returns-in_default-clause-obeyed
returns-in_default-clause-obeyed g c =
    let r = c.note.result in
    let d = c.args.driver.now in
    let h = c.requires in
    let place = c.args.place in
    let port = c.args.port in
    let frame = c.args.frame in
    let staged = staged_there d place c.index_of-at.result c.stage.result h.fits.kept c.index_of-at.ensures c.stage.ensures in
    on_ok r (λ u e.
    obeyed_noted c.resting_laws.ensures (Arrival place port frame) (notes.Absent place) d c.note.new.driver _
    (λ es just. if_absent place d.desk.now (JustLooks place port frame es) (staged.plugged ∙ others_closed _ c.in_default.not-Live) es just) h.fits
    (of_ok _ r u e c.note.ensures.told) (of_ok _ r u e c.note.ensures.kept) (of_ok _ r u e c.note.ensures.rest))

pub returns-then-branch-clause-broken : goal.returns-then-branch-clause-broken
returns-then-branch-clause-broken g c =
    on_err_weaker c.attend.result (broken_stretch _ _ _ _ c.attend.new.driver.desk.past c.in_ok-look-in-Live.ensures.looked.stretch) c.attend.ensures.broken
