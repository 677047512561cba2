use Rattle.std.proofs.Common.{ap, ◌∙◌, arith}
use Rattle.std.proofs.lemmas.List.{length-map}
use Rattle.sim_channels.specs.declared.driver.Driver.{Driver}
use Rattle.machine_desk.specs.declared.inbound.Stage.TheVariants.{Live}
use Rattle.sim_channels.specs.Looking.{is_failed}
use Rattle.sim_channels.proofs.Kept.{ChannelAt}
use Rattle.sim_channels.proofs.Looking.{called_stop, is_called, rests_silent}
use Rattle.sim_channels.proofs.Others.{same_by}
use Rattle.sim_channels.proofs.Staged.{on_err, stands}
use Rattle.std.proofs.Common.{map, refl}
use Rattle.sim_steps.proofs.Broken.{broken_here}
use Rattle.sim_channels.specs.Channels.{bench}
use Rattle.sim_channels.proofs.driver.Driver.call.Goals as goal

pub connection_of-device-requires : goal.connection_of-device-requires
connection_of-device-requires g c =
    let h = c.requires in
    let few = h.fits.kept.numbers in
    let same = h.fits.places ∙ length-map c.args.devices.now g.D.Device.meaning in
    let within = h.within in
    omega arith

pub returns-clause-called : goal.returns-clause-called
returns-clause-called g c =
    let h = c.requires in
    let told = c.note.ensures in
    let old = c.args.self.now in
    let new = c.note.new.self in
    is_called g.D.Device.meaning c.driving_laws.ensures old new c.args.devices.now c.args.at c.args.port c.args.frame c.items.result.now c.in_ok-seen.seen
    c.connection_of-device.result c.index_mut.result.now c.look_up.new.channel c.index-devices-at.result c.look_up.new.device h.fits h.rest
    (stands c.args.at Live old c.index_mut.result.now h.plugged c.index_mut.ensures.value) h.within c.index-devices-at.is c.items.ensures c.in_ok-seen.ensures.looks (ap (λ (x : Driver). x.channels.items) told.rest)
    (same_by old new (ap (λ (x : Driver). x.crew) told.rest) told.footing) c.connection_of-device.ensures c.in_ok-note.ensures.notes (is_failed c.answer_of-answer.result) c.answer_of-answer.ensures.failed

pub returns-clause-silent : goal.returns-clause-silent
returns-clause-silent g c = λ is.
    (let h = c.requires in
    let told = c.note.ensures in
    let old = c.args.self.now in
    let new = c.note.new.self in
    let k = c.index_mut.result.now in
    let l = c.look_up.new.channel in
    let same = same_by old new (ap (λ (x : Driver). x.crew) told.rest) told.footing in
    let at_channel : ChannelAt c.args.at k l old new = record { there = (stands c.args.at Live old k h.plugged c.index_mut.ensures.value).there; channels = ap (λ (x : Driver). x.channels.items) told.rest; same = same } in
    rests_silent c.args.at k l old new at_channel (c.in_ok-seen.ensures.silent (c.answer_of-answer.ensures.silent (cc))) h.rest (returns-clause-called g c).rest)

-- ---- it stops

pub returns-in_err-seen-clause-broken : goal.returns-in_err-seen-clause-broken
returns-in_err-seen-clause-broken g c =
    let old = c.args.self.now in on_err c.from_residual.result (broken_here (bench old (map g.D.Device.meaning c.args.devices.now)) old.desk.past refl)

pub returns-in_err-note-clause-broken : goal.returns-in_err-note-clause-broken
returns-in_err-note-clause-broken g c =
    let h = c.requires in
    let told = c.note.ensures in
    let old = c.args.self.now in
    let new = c.note.new.self in
    on_err c.from_residual-in_err-note.result
    (called_stop g.D.Device.meaning c.driving_laws.ensures old new c.args.devices.now c.args.at c.args.port c.args.frame c.items.result.now c.in_ok-seen.seen
    c.connection_of-device.result c.index_mut.result.now c.look_up.new.channel c.index-devices-at.result c.look_up.new.device h.fits h.rest
    (stands c.args.at Live old c.index_mut.result.now h.plugged c.index_mut.ensures.value) h.within c.index-devices-at.is c.items.ensures c.in_ok-seen.ensures.looks (ap (λ (x : Driver). x.channels.items) told.rest)
    (same_by old new (ap (λ (x : Driver). x.crew) told.rest) told.footing) c.connection_of-device.ensures c.in_err-note.field-0.0 c.in_err-note.ensures.stops)
