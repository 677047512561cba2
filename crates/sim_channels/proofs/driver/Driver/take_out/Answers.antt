use Rattle.std.proofs.Common.{◌+◌, ◌<◌, List, refl, sym, ap, ◌∙◌, subst}
use Rattle.std.specs.Vec.{with_item}
use Rattle.std.proofs.lemmas.Option.{slice_get_within}
use Rattle.machine_desk.specs.declared.inbound.Stage.TheVariants.{Live}
use Rattle.sim_channels.specs.declared.driver.Driver.{Driver}
use Rattle.sim_channels.specs.Delivering.{TakesMessages}
use Rattle.sim_channels.proofs.Emptied.{taken_out, taken_spelled}
use Rattle.sim_channels.proofs.Others.{same_but}
use Rattle.sim_channels.proofs.Staged.{on_err, stands}
use Rattle.std.specs.List.{slice_get}
use Rattle.machine_steps.specs.declared.entry.Entry.TheVariants as entries
use Rattle.machine_desk.specs.Orders.{Stops}
use Rattle.sim_channels.specs.declared.channel.Channel.{Channel}
use Rattle.sim_channels.proofs.Broken.{broken_stop}
use Rattle.sim_channels.proofs.Kept.{plugged_at}
use Rattle.sim_channels.proofs.driver.Driver.take_out.Goals as goal

pub new-requires-clause-spelled : goal.new-requires-clause-spelled
new-requires-clause-spelled g c =
    taken_spelled c.driving_laws.ensures c.args.self.now c.requires.kept c.connection_of.result c.in_ok-bytes.bytes c.in_ok-bytes.messages.value c.take_messages.new.desk
    c.in_ok-bytes.ensures.takes

pub index_mut-requires : goal.index_mut-requires
index_mut-requires g c =
    subst (λ n. c.args.at < n) (sym c.args.self.now.channels.ok.0)
    (slice_get_within c.args.self.now.channels.items c.args.at c.requires.plugged.channel c.requires.plugged.there)

pub returns-clause-takes : goal.returns-clause-takes
returns-clause-takes g c =
    let old = c.args.self.now in
    let k = c.index_mut.result.now in
    let ms = c.new.result in
    let s = stands c.args.at Live old k c.requires.plugged c.index_mut.ensures.value in
    let new : Driver = record old { desk = c.take_messages.new.desk; channels = with_item old.channels c.args.at (record k { to = ms }) } in
    taken_out c.driving_laws.ensures c.args.at old new c.in_ok-bytes.bytes ms k c.requires.kept s.is (c.requires.offered k s.there s.is)
    (record { there = s.there; channels = refl; same = same_but old new refl c.take_messages.ensures.footing })
    (subst (λ xs. TakesMessages (c.args.at + 1) c.in_ok-bytes.bytes xs old.desk new.desk) (sym c.new.ensures)
    (subst (λ n. TakesMessages n c.in_ok-bytes.bytes c.in_ok-bytes.messages.value old.desk new.desk) c.connection_of.ensures c.in_ok-bytes.ensures.takes))

pub returns-in_err-bytes-clause-broken : goal.returns-in_err-bytes-clause-broken
returns-in_err-bytes-clause-broken g c =
    let old = c.args.self.now in
    let at = c.args.at in
    let live = c.requires.plugged in
    let stop = c.in_err-bytes.field-0.0 in
    let stops = subst (λ n. Stops stop (entries.TakeOut n) old.desk c.take_messages.new.desk) c.connection_of.ensures c.in_err-bytes.ensures.stops in
    on_err c.from_residual.result
    (λ ds long. broken_stop c.driving_laws.ensures old c.requires.kept ds (entries.TakeOut (at + 1)) c.take_messages.new.desk stop stops
    (λ next did kept same. plugged_at next at live.channel kept (ap (λ (ks : List Channel). slice_get ks at) same ∙ live.there) live.is))
