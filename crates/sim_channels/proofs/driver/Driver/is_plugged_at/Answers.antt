use Rattle.std.proofs.Common.{length, refl, sym, ◌∙◌}
use Rattle.std.proofs.lemmas.Option.{slice_get_read}
use Rattle.sim_channels.proofs.Kept.{staged_at}
use Rattle.sim_channels.proofs.driver.Driver.is_plugged_at.Goals as goal

pub returns : goal.returns
returns c =
    let driver = c.args.self.now in
    let ks = driver.channels.items in
    let k = c.index.result.now in
    c.is_plugged.ensures ∙ sym (staged_at driver c.args.at k c.requires.kept (slice_get_read ks (length ks) c.args.at k refl c.requires.within c.index.ensures))
