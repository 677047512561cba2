use Rattle.machine_desk.specs.declared.inbound.Stage.TheVariants.{Live}
use Rattle.sim_channels.proofs.Offered.{reads, told, told_broken, told_stop}
use Rattle.sim_channels.proofs.Staged.{on_err, stands}
use Rattle.std.proofs.Common.{map, refl, subst}
use Rattle.machine_steps.specs.declared.reply.Reply.TheVariants.{Done}
use Rattle.sim_steps.specs.Stretches.{BreaksOff}
use Rattle.sim_steps.proofs.Broken.{broken_here}
use Rattle.sim_channels.specs.Channels.{bench}
use Rattle.sim_channels.proofs.Broken.{worn_past}
use Rattle.sim_channels.proofs.driver.Driver.offer_next.Goals as goal

pub offer_first-requires : goal.offer_first-requires
offer_first-requires g c =
    let h =
    reads g.D.Device.meaning c.args.devices.now c.args.at c.index-devices-at.result c.args.self.now c.index_mut.result.now c.requires.fits
    (stands c.args.at Live c.args.self.now c.index_mut.result.now c.requires.plugged c.index_mut.ensures.value) c.requires.can c.requires.some c.requires.within in
    record { some = h.some; can = h.can; waiting = h.waiting }

pub leave-requires : goal.leave-requires
leave-requires g c =
    let h =
    told c.driving_laws.ensures g.D.Device.meaning c.args.devices.now c.args.at c.index-devices-at.result c.offer_first.new.device c.args.self.now c.note.new.self c.index_mut.result.now c.offer_first.new.channel
    c.in_ok-failed.failed c.connection_of.result c.requires.fits
    (stands c.args.at Live c.args.self.now c.index_mut.result.now c.requires.plugged c.index_mut.ensures.value) c.requires.within c.in_ok-failed.ensures c.note.ensures.rest c.note.ensures.footing c.connection_of.ensures c.in_ok-note.ensures.notes in
    record { kept = h.kept; plugged = h.plugged }

pub returns-then-failed-clause-done : goal.returns-then-failed-clause-done
returns-then-failed-clause-done g c =
    let h =
    told c.driving_laws.ensures g.D.Device.meaning c.args.devices.now c.args.at c.index-devices-at.result c.offer_first.new.device c.args.self.now c.note.new.self c.index_mut.result.now c.offer_first.new.channel
    c.in_ok-failed.failed c.connection_of.result c.requires.fits
    (stands c.args.at Live c.args.self.now c.index_mut.result.now c.requires.plugged c.index_mut.ensures.value) c.requires.within c.in_ok-failed.ensures c.note.ensures.rest c.note.ensures.footing c.connection_of.ensures c.in_ok-note.ensures.notes in
    h.left c.if-failed.true c.leave.new.self c.in_ok-leave.ensures.leaves

pub returns-clause-done : goal.returns-clause-done
returns-clause-done g c =
    let h =
    told c.driving_laws.ensures g.D.Device.meaning c.args.devices.now c.args.at c.index-devices-at.result c.offer_first.new.device c.args.self.now c.note.new.self c.index_mut.result.now c.offer_first.new.channel
    c.in_ok-failed.failed c.connection_of.result c.requires.fits
    (stands c.args.at Live c.args.self.now c.index_mut.result.now c.requires.plugged c.index_mut.ensures.value) c.requires.within c.in_ok-failed.ensures c.note.ensures.rest c.note.ensures.footing c.connection_of.ensures c.in_ok-note.ensures.notes in
    h.taken c.if-failed.false

pub returns-clause-goes_on : goal.returns-clause-goes_on
returns-clause-goes_on g c =
    let h =
    told c.driving_laws.ensures g.D.Device.meaning c.args.devices.now c.args.at c.index-devices-at.result c.offer_first.new.device c.args.self.now c.note.new.self c.index_mut.result.now c.offer_first.new.channel
    c.in_ok-failed.failed c.connection_of.result c.requires.fits
    (stands c.args.at Live c.args.self.now c.index_mut.result.now c.requires.plugged c.index_mut.ensures.value) c.requires.within c.in_ok-failed.ensures c.note.ensures.rest c.note.ensures.footing c.connection_of.ensures c.in_ok-note.ensures.notes in
    h.goes_on c.if-failed.false

-- ---- it stops

pub returns-in_err-failed-clause-broken : goal.returns-in_err-failed-clause-broken
returns-in_err-failed-clause-broken g c =
    let old = c.args.self.now in on_err c.from_residual.result (broken_here (bench old (map g.D.Device.meaning c.args.devices.now)) old.desk.past refl)

pub returns-in_err-note-clause-broken : goal.returns-in_err-note-clause-broken
returns-in_err-note-clause-broken g c =
    on_err c.from_residual-in_err-note.result (
    told_stop c.driving_laws.ensures g.D.Device.meaning c.args.devices.now c.args.at c.index-devices-at.result c.offer_first.new.device c.args.self.now c.note.new.self c.index_mut.result.now c.offer_first.new.channel
    c.in_ok-failed.failed c.connection_of.result c.requires.fits
    (stands c.args.at Live c.args.self.now c.index_mut.result.now c.requires.plugged c.index_mut.ensures.value) c.requires.within c.in_ok-failed.ensures c.note.ensures.rest c.note.ensures.footing c.connection_of.ensures c.in_err-note.field-0.0 c.in_err-note.ensures.stops)

pub returns-in_err-leave-clause-broken : goal.returns-in_err-leave-clause-broken
returns-in_err-leave-clause-broken g c =
    let told =
    told_broken c.driving_laws.ensures g.D.Device.meaning c.args.devices.now c.args.at c.index-devices-at.result c.offer_first.new.device c.args.self.now c.note.new.self c.index_mut.result.now c.offer_first.new.channel
    c.in_ok-failed.failed c.connection_of.result c.requires.fits
    (stands c.args.at Live c.args.self.now c.index_mut.result.now c.requires.plugged c.index_mut.ensures.value) c.requires.within c.in_ok-failed.ensures c.note.ensures.rest c.note.ensures.footing c.connection_of.ensures Done c.in_ok-note.ensures.notes in
    on_err c.from_residual-in_err-leave.result
    (subst (BreaksOff (bench c.args.self.now (map g.D.Device.meaning c.args.devices.now))) (worn_past c.note.new.self.desk c.leave.new.self.desk c.in_err-leave.ensures.worn) told)
