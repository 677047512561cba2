use Rattle.std.proofs.Common.{◌≡◌, ◌^◌, ◌≤◌, ◌∙◌, false, rules, subst, sym, true}
use Rattle.history_lock.specs.Passes.{hall, known}
use Rattle.packet_workers.specs.declared.worked.Worked.TheVariants.{Worn}
use Rattle.machine_desk.specs.Desks.{DeskView, view_by}
use Rattle.machine_desk.specs.Working.{Works}
use Rattle.machine_desk.proofs.AtWork.{desk_stays, full_by, is_same, is_worn, marked, not_lacking, roomy_stays, told_stays, works, works_not}
use Rattle.machine_desk.proofs.Memory.{AllHad, memory_stays, rounds_had}
use Rattle.machine_desk.proofs.desk.Desk.work.Goals as goal

pub returns-then-self-clause-works : goal.returns-then-self-clause-works
returns-then-self-clause-works g c =
    let P : DeskView → Type 0 = λ d. Works c.args.item Worn d d in
    subst P c.self.view_is (
    works_not c.args.item
    (view_by (hall c.self.inside.pass.now) c.self.inside.pass.ghost_name (known c.self.inside.pass.now) (known c.self.inside.mark.value) c.self.inside.start.value c.self.inside.worn)
    c.if-self.true (c.self.invariant.1.0.full c.if-self.true))

pub invariant_of-self : goal.invariant_of-self
invariant_of-self g c =
    let laws = c.desk_laws.ensures in
    let old = known c.self.inside.pass.now in
    let new = known c.work-worked.new.pass in
    let start = c.self.inside.start.value in
    let worn = c.self.inside.worn in
    let desk = c.self.invariant.1.0 in
    let done = c.work-worked.ensures.works in
    let now : c.eq-self-inside.result ≡ is_worn c.work-worked.result = c.eq-self-inside.ensures ∙ is_same c.work-worked.result in
    let had : c.eq.result ≡ false → AllHad done.calls =
    λ e. rounds_had c.args.item c.self.inside.budget 3 done.calls c.work-worked.result done.are (not_lacking c.work-worked.result (sym c.eq.ensures ∙ e))
    in
    let full : c.eq-self-inside.result ≡ true → 2 ^ 62 ≤ new.number = λ e. full_by c.work-worked.result new.number done.worn (sym now ∙ e) in (
      c.work-worked.ensures.hall,
      (
        desk_stays laws old new start worn desk done.calls done.adds _ (search (rules, full)),
        told_stays laws old new start worn desk done.calls done.adds c.self.inside.learning c.self.inside.budget c.self.invariant.1.1,
        marked laws old new start worn desk done.calls done.adds (known c.self.inside.mark.value) c.self.invariant.1.2,
        memory_stays old new done.calls done.adds.did c.self.inside.lacked c.eq.result had c.self.invariant.1.3,
        roomy_stays laws old new start worn desk done.calls done.adds c.self.invariant.1.4,
      ),
    )

pub returns-clause-works : goal.returns-clause-works
returns-clause-works g c =
    let old = known c.self.inside.pass.now in
    let new = known c.work-worked.new.pass in
    let start = c.self.inside.start.value in
    let worn = c.self.inside.worn in
    let done = c.work-worked.ensures.works in
    let P : DeskView → Type 0 = λ a. Works c.args.item c.work-worked.result a (view_by (hall c.work-worked.new.pass) c.self.inside.pass.ghost_name new (known c.self.inside.mark.value) start c.eq-self-inside.result) in
    subst P c.self.view_is (
    works c.desk_laws.ensures old new start worn c.self.invariant.1.0 done.calls done.adds (hall c.self.inside.pass.now) (hall c.work-worked.new.pass) c.self.inside.pass.ghost_name (known c.self.inside.mark.value)
    c.args.item c.work-worked.result c.self.inside.learning c.self.inside.budget c.eq-self-inside.result c.self.invariant.1.1 done.are done.worn c.if-self.false
    (c.eq-self-inside.ensures ∙ is_same c.work-worked.result))
