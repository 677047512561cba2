use Rattle.std.proofs.Common.{rules, ◌+◌, arith, sym, ap, ◌∙◌, subst}
use Rattle.std.proofs.lemmas.Grind.{common_steps}
use Rattle.sim_channels.specs.Channels.{AreNumbered}
use Rattle.sim_channels.proofs.Opening.{numbered_more}
use Rattle.sim_channels.proofs.driver.unplugged.Goals as goal

pub loop-at-preserved : goal.loop-at-preserved
loop-at-preserved c =
    let name = c.new.ensures.connection ∙ c.connection_of-connection.ensures ∙ ap (λ n. n + 1) (sym c.loop-at.invariant.count) in
    record {
      count = search rules;
      unused = grind (arith, common_steps);
      names = subst AreNumbered (sym c.in_ok-push.ensures.items) (numbered_more c.loop-at.channels.items _ c.loop-at.invariant.names name);
    }
