use Rattle.machine_steps.specs.declared.entry.Entry.TheVariants as entries
use Rattle.machine_steps.specs.declared.note.Note.TheVariants as notes
use Rattle.machine_steps.specs.declared.reply.Reply.TheVariants.{Done}
use Rattle.sim_channels.proofs.Others.{same_desk, same_then}
use Rattle.sim_turns.proofs.Noted.{told_kept}
use Rattle.sim_turns.proofs.Told.{dealt_behind, failed_behind}
use Rattle.sim_channels.proofs.Staged.{on_err}
use Rattle.std.proofs.Common.{ℕ, sym, ap, subst}
use Rattle.machine_desk.specs.Desks.{DeskView, Enters}
use Rattle.machine_desk.specs.Orders.{Stops}
use Rattle.sim_steps.specs.Stretches.{BreaksOff}
use Rattle.sim_channels.specs.Channels.{bench}
use Rattle.sim_channels.proofs.Broken.{worn_past}
use Rattle.sim_turns.proofs.Broken.{turn_broken, turn_stop}
use Rattle.sim_turns.proofs.telling.tell_turn.Goals as goal

pub leave-requires-clause-kept : goal.leave-requires-clause-kept
leave-requires-clause-kept g c =
    told_kept c.driving_laws.ensures (notes.Turned c.connection_of-device.result c.args.turned) c.args.driver.now c.note.new.self c.requires.kept
    c.in_ok-note.ensures.notes c.note.ensures.rest
    c.note.ensures.footing

pub returns-in_ok-leave-in-Failed : goal.returns-in_ok-leave-in-Failed
returns-in_ok-leave-in-Failed g c =
    let at = c.args.at in
    let old = c.args.driver.now in
    let mid = c.note.new.self in
    let new = c.leave.new.self in
    let h = c.requires in
    let n = c.note.ensures in
    let enters =
    subst (λ (d : ℕ). Enters old.desk (entries.Note (notes.Turned d c.args.turned)) Done mid.desk) c.connection_of-device.ensures c.in_ok-note.ensures.notes in
    let brings =
    failed_behind c.driving_laws.ensures c.resting_laws.ensures at c.args.turned c.args.bytes.now old mid new h.kept h.rest h.waits h.taken enters n.rest n.footing c.in-Failed.is
    c.in_ok-leave-in-Failed.ensures.leaves in
    record {
      rest = brings.rest;
      told = brings.told;
      tires = brings.tires;
      broken = tt;
      same = same_then old mid new (same_desk old mid n.rest n.footing) c.leave.ensures.same;
    }

pub returns-in_ok-append-in_default : goal.returns-in_ok-append-in_default
returns-in_ok-append-in_default g c =
    let at = c.args.at in
    let old = c.args.driver.now in
    let mid = c.note.new.self in
    let new = c.append.new.self in
    let h = c.requires in
    let n = c.note.ensures in
    let enters =
    subst (λ (d : ℕ). Enters old.desk (entries.Note (notes.Turned d c.args.turned)) Done mid.desk) c.connection_of-device.ensures c.in_ok-note.ensures.notes in
    let also = c.append.ensures.same in
    let brings =
    dealt_behind c.driving_laws.ensures c.resting_laws.ensures at c.args.turned c.args.bytes.now old mid new h.kept h.rest h.waits h.taken enters n.rest n.footing
    c.in_default.not-Failed c.append.ensures.desk
    c.in_ok-append-in_default.ensures.moves also in
    record { rest = brings.rest; told = brings.told; tires = brings.tires; broken = tt; same = same_then old mid new (same_desk old mid n.rest n.footing) also }

-- ---- it stops

pub returns-in_err-note-clause-broken : goal.returns-in_err-note-clause-broken
returns-in_err-note-clause-broken g c =
    let h = c.requires in
    let old = c.args.driver.now in
    let b = c.note.new.self.desk in
    let stop = c.in_err-note.field-0.0 in
    let stops =
    subst (λ (d : ℕ). Stops stop (entries.Note (notes.Turned d c.args.turned)) old.desk b) c.connection_of-device.ensures c.in_err-note.ensures.stops in
    on_err c.from_residual.result
    (λ before behind fits turns. turn_stop c.driving_laws.ensures c.args.at c.args.turned c.args.bytes.now old h.waits h.taken before behind fits turns b stop stops)

pub returns-in_err-leave-in-Failed-clause-broken : goal.returns-in_err-leave-in-Failed-clause-broken
returns-in_err-leave-in-Failed-clause-broken g c =
    let h = c.requires in
    let old = c.args.driver.now in
    let b = c.note.new.self.desk in
    let enters = subst (λ (d : ℕ). Enters old.desk (entries.Note (notes.Turned d c.args.turned)) Done b) c.connection_of-device.ensures c.in_ok-note.ensures.notes in
    on_err c.from_residual-in_err-leave-in-Failed.result
    (λ before behind fits turns. subst (BreaksOff (bench old before)) (worn_past b c.leave.new.self.desk c.in_err-leave-in-Failed.ensures.worn)
    (turn_broken c.driving_laws.ensures c.args.at c.args.turned c.args.bytes.now old h.waits h.taken before behind fits turns b Done enters))

pub returns-in_err-append-in_default-clause-broken : goal.returns-in_err-append-in_default-clause-broken
returns-in_err-append-in_default-clause-broken g c =
    let h = c.requires in
    let old = c.args.driver.now in
    let b = c.note.new.self.desk in
    let enters = subst (λ (d : ℕ). Enters old.desk (entries.Note (notes.Turned d c.args.turned)) Done b) c.connection_of-device.ensures c.in_ok-note.ensures.notes in
    on_err c.from_residual-in_err-append-in_default.result
    (λ before behind fits turns. subst (BreaksOff (bench old before)) (ap (λ (d : DeskView). d.past) (sym c.append.ensures.desk))
    (turn_broken c.driving_laws.ensures c.args.at c.args.turned c.args.bytes.now old h.waits h.taken before behind fits turns b Done enters))
