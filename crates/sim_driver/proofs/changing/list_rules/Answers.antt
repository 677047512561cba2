use Rattle.std.proofs.Common.{refl}
use Rattle.machine_steps.specs.declared.entry.Entry.TheVariants as entries
use Rattle.script_text.specs.Orders.Order.{Rules}
use Rattle.sim_channels.proofs.Others.{same_desk}
use Rattle.sim_driver.proofs.Doing.{obeyed_asked}
use Rattle.sim_driver.proofs.Wide.{rules_stand}
use Rattle.sim_channels.proofs.Staged.{on_err}
use Rattle.sim_turns.proofs.Broken.{asked_stop}
use Rattle.sim_driver.proofs.changing.list_rules.Goals as goal

pub returns : goal.returns
returns g c =
    let h = c.requires in
    let d = c.args.driver.now in
    let e = c.list_rules.new.self in
    let switch = c.args.switch in
    let done = c.in_ok-list_rules.ensures in
    let stands = rules_stand c.driving_laws.ensures c.resting_laws.ensures d e h.kept h.rest done.rest done.footing switch done.asked in
    record {
      fits = stands.fits;
      rest = stands.rest refl;
      obeyed =
          λ devices fits. obeyed_asked c.resting_laws.ensures (Rules switch) (entries.ReadRules switch) d e devices (λ es just. just) fits stands.asked
          (stands.fits devices fits).kept (stands.rest refl);
      broken = tt;
      same = same_desk d e done.rest done.footing;
    }

pub returns-in_err-list_rules-clause-broken : goal.returns-in_err-list_rules-clause-broken
returns-in_err-list_rules-clause-broken g c =
    on_err c.from_residual.result
    (λ ds long. asked_stop c.driving_laws.ensures (entries.ReadRules c.args.switch) c.args.driver.now c.list_rules.new.self.desk c.requires.kept ds c.in_err-list_rules.field-0.0
    c.in_err-list_rules.ensures.stops refl tt)
