use Rattle.std.proofs.Common.{refl}
use Rattle.std.specs.Vec.{with_item}
use Rattle.machine_desk.specs.declared.inbound.Stage.TheVariants.{Live}
use Rattle.sim_channels.specs.declared.driver.Driver.{Driver}
use Rattle.sim_channels.specs.Channels.{with_inbound}
use Rattle.sim_channels.proofs.Others.{same_but}
use Rattle.sim_channels.proofs.Staged.{gone_enough, kept_closed, on_err, stands, stays_as_it_was}
use Rattle.sim_channels.proofs.driver.Driver.close.Goals as goal

pub returns-in_err-close-clause-rest : goal.returns-in_err-close-clause-rest
returns-in_err-close-clause-rest g c =
    let s = stands c.args.at Live c.args.self.now c.index_mut.result.now c.requires.plugged c.index_mut.ensures.value in
    on_err c.from_residual.result (stays_as_it_was c.args.self.now c.args.at c.index_mut.result.now c.close.new.inbound c.close.new.self s.there c.in_err-close.ensures.same)

pub returns : goal.returns
returns g c =
    let old = c.args.self.now in
    let k = c.index_mut.result.now in
    let j = c.close.new.inbound in
    let s = stands c.args.at Live old k c.requires.plugged c.index_mut.ensures.value in
    let new : Driver = record old { desk = c.close.new.self; channels = with_item old.channels c.args.at (with_inbound j k) } in
    let h = c.in_ok-close.ensures in
    let same = same_but old new refl h.footing in
    record {
      closes = record {
        connection = k;
        there = s.there;
        number = c.requires.kept.names c.args.at k s.there;
        behind = j;
        does = (h.ok, gone_enough k.inbound.connection c.args.fault h.ok.enters.between h.ok.reply new.desk.now h.ok.enters.made.steps);
        rest = refl;
        all = refl;
      };
      kept = kept_closed c.driving_laws.ensures old new c.args.at k j c.requires.kept s.there refl refl same c.args.fault h.ok s.is h.staged;
      worn = tt;
      rest = tt;
      same = same;
    }
