use Rattle.std.proofs.Common.{◌∙◌, subst, sym}
use Rattle.history_lock.specs.Passes.{hall, known}
use Rattle.machine_steps.specs.Admitting.{Admits}
use Rattle.machine_desk.specs.Arriving.{HasRoomFor}
use Rattle.machine_desk.specs.Desks.{DeskView, Enters, view_by}
use Rattle.machine_desk.proofs.Admitted.{admitted}
use Rattle.machine_desk.proofs.Entering.{enters, is_desk, is_marked, is_roomy, is_told}
use Rattle.machine_desk.proofs.Memory.{memory_entered}
use Rattle.machine_desk.proofs.desk.Desk.enter.Goals as goal

pub call-requires-clause-admitted : goal.call-requires-clause-admitted
call-requires-clause-admitted g c =
    let P : DeskView → Type 0 = λ d. Admits d.now c.args.entry in
    let now = subst P (sym c.self.view_is) c.requires.admits in
    admitted c.desk_laws.ensures.since (known c.self.inside.pass.now) c.self.inside.start.value c.self.inside.worn c.self.invariant.1.0 c.args.entry now

pub invariant_of-self : goal.invariant_of-self
invariant_of-self g c =
    let laws = c.desk_laws.ensures in
    let old = known c.self.inside.pass.now in
    let new = known c.call.new.pass in
    let start = c.self.inside.start.value in
    let worn = c.self.inside.worn in
    let stays = c.call.ensures.stays in
    let made = c.in-Ok.ensures.ok in
    let told = is_told laws old new start worn c.args.entry c.in-Ok.reply c.self.invariant.1.0 stays.1 made c.self.inside.learning c.self.inside.budget c.self.invariant.1.1 in
    let P : DeskView → Type 0 = λ d. HasRoomFor c.args.entry d.now in
    let room = subst P (sym c.self.view_is) c.requires.room in
    let behind = c.learning_behind-learning.ensures in
    let chosen = c.accepted-self-inside.ensures in (
      stays.0,
      (
        is_desk laws old new start worn c.args.entry c.in-Ok.reply c.self.invariant.1.0 stays.1 made c.call.ensures.leads c.if-self.false,
        record { learning_is = cc; budget_is = told.budget_is },
        is_marked laws old new start worn c.args.entry c.in-Ok.reply c.self.invariant.1.0 stays.1 made (known c.self.inside.mark.value) c.self.invariant.1.2,
        memory_entered old new c.args.entry c.in-Ok.reply made c.self.inside.lacked c.lacks_memory.result c.lacks_memory.ensures c.self.invariant.1.3,
        is_roomy laws old new start worn c.args.entry c.in-Ok.reply c.self.invariant.1.0 stays.1 made room c.self.invariant.1.4,
      ),
    )

pub returns-in-Ok-clause-ok : goal.returns-in-Ok-clause-ok
returns-in-Ok-clause-ok g c =
    let old = known c.self.inside.pass.now in
    let new = known c.call.new.pass in
    let start = c.self.inside.start.value in
    let worn = c.self.inside.worn in
    let stays = c.call.ensures.stays in
    let P : DeskView → Type 0 = λ a. Enters a c.args.entry c.in-Ok.reply (view_by (hall c.call.new.pass) c.self.inside.pass.ghost_name new (known c.self.inside.mark.value) start worn) in
    let Q : DeskView → Type 0 = λ d. HasRoomFor c.args.entry d.now in
    let room = subst Q (sym c.self.view_is) c.requires.room in
    subst P c.self.view_is (
    enters c.desk_laws.ensures old new start worn c.args.entry c.in-Ok.reply c.self.invariant.1.0 stays.1 c.in-Ok.ensures.ok room (hall c.self.inside.pass.now)
    (hall c.call.new.pass) c.self.inside.pass.ghost_name (known c.self.inside.mark.value) (stays.0 ∙ sym c.self.invariant.0) stays.2)
