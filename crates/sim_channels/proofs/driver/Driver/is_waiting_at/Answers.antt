use Rattle.std.proofs.Common.{length, refl, sym, ◌∙◌}
use Rattle.std.proofs.lemmas.Option.{slice_get_read}
use Rattle.sim_channels.proofs.Waits.{waits_not, waits_there}
use Rattle.sim_channels.proofs.driver.Driver.is_waiting_at.Goals as goal

pub returns-clause-waits : goal.returns-clause-waits
returns-clause-waits c so =
    let driver = c.args.self.now in
    let k = c.index.result.now in
    waits_there driver c.args.at k (slice_get_read driver.channels.items (length driver.channels.items) c.args.at k refl c.requires c.index.ensures) (sym c.is_waiting.ensures ∙ so)

pub returns-clause-rests : goal.returns-clause-rests
returns-clause-rests c not waits =
    let driver = c.args.self.now in
    let k = c.index.result.now in
    waits_not driver c.args.at k (slice_get_read driver.channels.items (length driver.channels.items) c.args.at k refl c.requires c.index.ensures) (sym c.is_waiting.ensures ∙ not) waits
