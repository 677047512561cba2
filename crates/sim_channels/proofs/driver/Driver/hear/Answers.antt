use Rattle.std.specs.Vec.{with_item}
use Rattle.std.proofs.lemmas.Option.{slice_get_read}
use Rattle.sim_channels.specs.declared.driver.Driver.{Driver}
use Rattle.sim_channels.specs.Channels.{with_inbound}
use Rattle.sim_channels.proofs.Others.{same_but}
use Rattle.sim_channels.proofs.Staged.{kept_heard, on_err}
use Rattle.std.proofs.Common.{length, refl, subst}
use Rattle.machine_steps.specs.declared.entry.Entry.TheVariants as entries
use Rattle.machine_desk.specs.Orders.{Stops}
use Rattle.sim_channels.proofs.driver.Driver.hear.Goals as goal

pub returns : goal.returns
returns g c =
    let old = c.args.self.now in
    let k = c.index_mut.result.now in
    let j = c.hear.new.inbound in
    let there = slice_get_read old.channels.items (length old.channels.items) c.args.at k refl c.requires.within c.index_mut.ensures.value in
    let new : Driver = record old { desk = c.hear.new.self; channels = with_item old.channels c.args.at (with_inbound j k) } in
    let h = c.in_ok-hear.ensures in
    let same = same_but old new refl h.footing in
    record {
      hears = record { connection = k; there = there; number = c.requires.kept.names c.args.at k there; behind = j; does = h.ok; rest = refl; all = refl };
      kept = kept_heard c.driving_laws.ensures old new c.args.at k j c.requires.kept there refl refl same c.args.input c.in_ok-hear.field-0 h.ok h.staged;
      stops = tt;
      same = same;
    }

pub returns-in_err-hear-clause-stops : goal.returns-in_err-hear-clause-stops
returns-in_err-hear-clause-stops g c =
    let old = c.args.self.now in
    let k = c.index_mut.result.now in
    let there = slice_get_read old.channels.items (length old.channels.items) c.args.at k refl c.requires.within c.index_mut.ensures.value in
    let stop = c.in_err-hear.field-0.0 in
    on_err c.from_residual.result
    (stop, subst (λ n. Stops stop (entries.Heard n c.args.input) old.desk c.hear.new.self) (c.requires.kept.names c.args.at k there) c.in_err-hear.ensures.stops)
