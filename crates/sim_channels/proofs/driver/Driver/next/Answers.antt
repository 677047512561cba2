use Rattle.std.proofs.Common.{length, refl}
use Rattle.std.proofs.lemmas.Option.{slice_get_read}
use Rattle.sim_channels.proofs.Passing.{comes_at, kept_taken}
use Rattle.sim_channels.proofs.driver.Driver.next.Goals as goal

pub returns-clause-comes : goal.returns-clause-comes
returns-clause-comes c =
    let old = c.args.self.now in
    let k = c.index_mut.result.now in
    let there = slice_get_read old.channels.items (length old.channels.items) c.args.at k refl c.requires.within c.index_mut.ensures.value in
    comes_at c.args.at k c.next.new.self old there c.in_ok-next.field-0 c.in_ok-next.ensures.comes

pub returns-clause-kept : goal.returns-clause-kept
returns-clause-kept c =
    let old = c.args.self.now in
    let k = c.index_mut.result.now in
    let there = slice_get_read old.channels.items (length old.channels.items) c.args.at k refl c.requires.within c.index_mut.ensures.value in
    kept_taken c.args.at k c.next.new.self old there c.in_ok-next.field-0 c.in_ok-next.ensures.comes c.requires.kept
