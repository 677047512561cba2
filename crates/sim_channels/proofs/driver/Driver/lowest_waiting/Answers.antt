use Rattle.std.proofs.Common.{◌≡◌, ◌<◌, length, refl, sym, ◌∙◌, below_more, rules, arith}
use Rattle.std.specs.Prelude.{Some}
use Rattle.std.specs.List.{slice_get}
use Rattle.std.proofs.lemmas.Option.{slice_get_read}
use Rattle.sim_channels.specs.Turns.{Waits}
use Rattle.sim_channels.proofs.Waits.{waits_not, waits_within}
use Rattle.sim_channels.proofs.driver.Driver.lowest_waiting.Goals as goal

pub loop-at-preserved : goal.loop-at-preserved
loop-at-preserved c =
    let ks = c.args.self.now.channels.items in
    let k = c.channel-item.result in
    let there : slice_get ks c.loop-at.at ≡ Some k = slice_get_read ks (length ks) c.loop-at.at k refl (search rules) (search rules) in
    below_more (λ i. Waits i c.args.self.now → ⊥) _ c.loop-at.invariant (waits_not c.args.self.now c.loop-at.at k there (sym c.is_waiting.ensures ∙ c.if-is_waiting.false))

pub returns : goal.returns
returns c at waits =
    let within : at < length c.args.self.now.channels.items = waits_within c.args.self.now at waits in
    c.loop-at.invariant at (omega arith) waits
