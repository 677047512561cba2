use Rattle.sim_channels.proofs.Others.{same_desk}
use Rattle.sim_driver.proofs.Wide.{renew_stops, renewed}
use Rattle.sim_channels.proofs.Staged.{on_err}
use Rattle.sim_driver.proofs.changing.renew_policy.Goals as goal

pub returns : goal.returns
returns g c =
    let h = c.requires in
    let done = c.in_ok-renew.ensures in
    let stands =
    renewed c.driving_laws.ensures c.resting_laws.ensures c.args.driver.now c.renew.new.self h.kept h.rest done.rest done.footing c.args.text.now c.in_ok-renew.field-0 done.renews in
    record {
      fits = stands.fits;
      through = stands.through;
      rest = λ vain. stands.rest (cc);
      asked = stands.asked;
      broken = tt;
      same = same_desk c.args.driver.now c.renew.new.self done.rest done.footing;
    }

pub returns-in_err-renew-clause-broken : goal.returns-in_err-renew-clause-broken
returns-in_err-renew-clause-broken g c =
    on_err c.from_residual.result
    (λ ds long. renew_stops c.driving_laws.ensures c.args.driver.now c.renew.new.self.desk c.requires.kept ds c.args.text.now c.in_err-renew.field-0.0 c.in_err-renew.ensures.stops)
