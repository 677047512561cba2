use Rattle.sim_channels.proofs.Others.{same_desk}
use Rattle.sim_driver.proofs.Wide.{changed, operators}
use Rattle.sim_channels.proofs.Staged.{on_err}
use Rattle.std.proofs.Common.{refl}
use Rattle.machine_steps.specs.declared.entry.Entry.TheVariants as entries
use Rattle.sim_turns.proofs.Broken.{asked_stop}
use Rattle.sim_driver.proofs.changing.update_network.Goals as goal

pub change-requires : goal.change-requires
change-requires g c = record { operators = operators c.args.update c.requires.line }

pub returns : goal.returns
returns g c =
    let h = c.requires in
    let done = c.in_ok-change.ensures in
    let stands =
    changed c.driving_laws.ensures c.resting_laws.ensures c.args.driver.now c.change.new.self h.kept h.rest done.rest done.footing c.args.update c.in_ok-change.field-0 done.changes in
    record {
      fits = stands.fits;
      through = stands.through;
      rest = λ vain. stands.rest (cc);
      asked = stands.asked;
      broken = tt;
      same = same_desk c.args.driver.now c.change.new.self done.rest done.footing;
    }

pub returns-in_err-change-clause-broken : goal.returns-in_err-change-clause-broken
returns-in_err-change-clause-broken g c =
    on_err c.from_residual.result
    (λ ds long. asked_stop c.driving_laws.ensures (entries.Change c.args.update) c.args.driver.now c.change.new.self.desk c.requires.kept ds c.in_err-change.field-0.0
    c.in_err-change.ensures.stops refl tt)
