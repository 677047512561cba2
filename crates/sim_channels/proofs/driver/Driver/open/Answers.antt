use Rattle.std.proofs.Common.{refl}
use Rattle.std.specs.Vec.{with_item}
use Rattle.machine_desk.specs.declared.inbound.Stage.TheVariants.{Unopened}
use Rattle.sim_channels.specs.declared.driver.Driver.{Driver}
use Rattle.sim_channels.specs.Channels.{with_inbound}
use Rattle.sim_channels.proofs.Others.{same_but}
use Rattle.sim_channels.proofs.Staged.{kept_opened, on_err, stands, stays_as_it_was}
use Rattle.sim_channels.proofs.driver.Driver.open.Goals as goal

pub returns-in_err-open-clause-rest : goal.returns-in_err-open-clause-rest
returns-in_err-open-clause-rest g c =
    let s = stands c.args.at Unopened c.args.self.now c.index_mut.result.now c.requires.unopened c.index_mut.ensures.value in
    on_err c.from_residual.result (stays_as_it_was c.args.self.now c.args.at c.index_mut.result.now c.open.new.inbound c.open.new.self s.there c.in_err-open.ensures.same)

pub returns : goal.returns
returns g c =
    let old = c.args.self.now in
    let k = c.index_mut.result.now in
    let j = c.open.new.inbound in
    let s = stands c.args.at Unopened old k c.requires.unopened c.index_mut.ensures.value in
    let new : Driver = record old { desk = c.open.new.self; channels = with_item old.channels c.args.at (with_inbound j k) } in
    let h = c.in_ok-open.ensures in
    let same = same_but old new refl h.footing in
    record {
      opens = record { connection = k; there = s.there; number = c.requires.kept.names c.args.at k s.there; behind = j; does = h.ok; rest = refl; all = refl };
      kept = kept_opened c.driving_laws.ensures old new c.args.at k j c.requires.kept s.there refl refl same h.ok s.is h.staged;
      stops = tt;
      rest = tt;
      same = same;
    }
