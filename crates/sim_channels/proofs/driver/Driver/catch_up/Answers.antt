use Rattle.std.proofs.Common.{◌≡◌, Bool, true, false, not, map, sym, ap, ◌∙◌}
use Rattle.std.specs.Prelude.{is_some}
use Rattle.std.proofs.lemmas.Result.{on_err_weaker, on_ok_weaker}
use Rattle.sim_channels.specs.declared.driver.Driver.{Driver}
use Rattle.sim_channels.specs.Channels.{WorksAlone}
use Rattle.sim_channels.proofs.Delivered.{awaited_broken, awaited_fits, awaited_then, awaited_through}
use Rattle.sim_channels.proofs.Broken.{broken_meanwhile}
use Rattle.sim_channels.proofs.Staged.{on_err}
use Rattle.sim_channels.proofs.driver.Driver.catch_up.Goals as goal

some : (driver : Driver) (alone : Bool) → alone ≡ not (is_some driver.crew) → alone ≡ false → WorksAlone driver → ⊥
some driver alone is other none = (let f : true ≡ false = sym (is ∙ ap not none) ∙ other in cc)

pub deliver_all-requires-clause-fits : goal.deliver_all-requires-clause-fits
deliver_all-requires-clause-fits g c =
    awaited_fits c.driving_laws.ensures c.args.self.now c.await_all.new.self (map g.D.Device.meaning c.args.devices.now) c.requires.fits
    (some c.args.self.now c.works_alone.result c.works_alone.ensures c.if-works_alone.false) c.in_ok-await_all.ensures.awaits

pub deliver_all-requires-clause-through : goal.deliver_all-requires-clause-through
deliver_all-requires-clause-through g c =
    awaited_through c.driving_laws.ensures c.args.self.now c.await_all.new.self (map g.D.Device.meaning c.args.devices.now) c.requires.fits
    (some c.args.self.now c.works_alone.result c.works_alone.ensures c.if-works_alone.false) c.in_ok-await_all.ensures.awaits c.requires.rest

pub returns-clause-carried : goal.returns-clause-carried
returns-clause-carried g c =
    on_ok_weaker c.deliver_all.result
    (awaited_then c.driving_laws.ensures c.args.self.now c.await_all.new.self (map g.D.Device.meaning c.args.devices.now) c.requires.fits
    (some c.args.self.now c.works_alone.result c.works_alone.ensures c.if-works_alone.false) c.in_ok-await_all.ensures.awaits c.deliver_all.new.self
    (map g.D.Device.meaning c.deliver_all.new.devices)) c.deliver_all.ensures.carried

pub returns-in_err-await_all-clause-broken : goal.returns-in_err-await_all-clause-broken
returns-in_err-await_all-clause-broken g c =
    on_err c.from_residual.result
    (broken_meanwhile c.args.self.now c.await_all.new.self.desk c.in_err-await_all.ensures.meanwhile (map g.D.Device.meaning c.args.devices.now))

pub returns-clause-broken : goal.returns-clause-broken
returns-clause-broken g c =
    on_err_weaker c.deliver_all.result
    (awaited_broken c.driving_laws.ensures c.args.self.now c.await_all.new.self (map g.D.Device.meaning c.args.devices.now) c.requires.fits
    (some c.args.self.now c.works_alone.result c.works_alone.ensures c.if-works_alone.false) c.in_ok-await_all.ensures.awaits c.deliver_all.new.self.desk.past) c.deliver_all.ensures.broken
