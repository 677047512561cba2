use Rattle.std.proofs.Common.{◌∙◌, ap, subst}
use Rattle.history_lock.specs.Histories.{state_behind}
use Rattle.history_lock.specs.Passes.{known}
use Rattle.machine_sharing.specs.Legal.{turns_of}
use Rattle.machine_desk.specs.Desks.{DeskLaw, DeskView}
use Rattle.machine_desk.proofs.Room.{turns_found}
use Rattle.machine_desk.proofs.Turning.{turns_append}
use Rattle.machine_desk.proofs.desk.Desk.law.Goals as goal

pub returns : goal.returns
returns c =
    let laws = c.desk_laws.ensures in
    let k = known c.self.inside.pass.now in
    let mark = known c.self.inside.mark.value in
    let start = c.self.inside.start.value in
    let desk = c.self.invariant.1.0 in
    let later = c.self.invariant.1.2 in
    let P : DeskView → Type 0 = λ d. DeskLaw d in
    subst P c.self.view_is (record {
      sound = laws.sound start k.seen (state_behind start k.seen) desk.sound desk.legal;
      legal = (laws.turns start k.seen (state_behind start k.seen) desk.legal).leads;
      begins = (turns_of (state_behind start mark.seen) later.0, (ap (turns_of start) later.1 ∙ turns_append start mark.seen later.0));
      full = desk.full;
      room = turns_found start k.seen c.self.invariant.1.4;
    })
