use Rattle.sim_channels.proofs.Others.{same_desk}
use Rattle.sim_turns.proofs.Entered.{asked_over}
use Rattle.sim_turns.proofs.Noted.{told_fits, told_kept, told_rest}
use Rattle.sim_channels.proofs.Staged.{on_err}
use Rattle.sim_turns.proofs.Broken.{asked_stop}
use Rattle.sim_turns.proofs.noting.note.Goals as goal
use Rattle.std.proofs.Common.{refl}
use Rattle.machine_steps.specs.declared.entry.Entry.TheVariants as entries
use Rattle.machine_steps.specs.declared.reply.Reply.TheVariants.{Done}

pub returns : goal.returns
returns g c =
    let laws = c.driving_laws.ensures in
    let resting = c.resting_laws.ensures in
    let note = c.args.note in
    let old = c.args.driver.now in
    let new = c.note.new.self in
    let h = c.requires in
    let enters = c.in_ok-note.ensures.notes in
    let rest = c.note.ensures.rest in
    let footing = c.note.ensures.footing in
    record {
      kept = told_kept laws note old new h.kept enters rest footing;
      fits = told_fits laws note old new h.kept enters rest footing;
      rest = told_rest laws note old new h.kept enters rest footing resting h.rest;
      told = λ devices fits. asked_over laws resting (entries.Note note) Done old new h.kept enters rest devices h.rest refl h.settled refl h.may;
      broken = tt;
      same = same_desk old new rest footing;
      desk = rest;
    }

pub returns-in_err-note-clause-broken : goal.returns-in_err-note-clause-broken
returns-in_err-note-clause-broken g c =
    on_err c.from_residual.result
    (λ ds long. asked_stop c.driving_laws.ensures (entries.Note c.args.note) c.args.driver.now c.note.new.self.desk c.requires.kept ds c.in_err-note.field-0.0
    c.in_err-note.ensures.stops refl c.requires.may)
