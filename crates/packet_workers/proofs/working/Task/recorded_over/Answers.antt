use Rattle.std.proofs.Common.{◌≡◌, sym, ap, ◌∙◌, arith}
use Rattle.history_lock.specs.Passes.{hall, known}
use Rattle.packet_workers.specs.Pieces.{Viewed}
use Rattle.packet_workers.proofs.Turning.{never_refused, of_item, ok_at, ok_no_err, records_it, records_not, same_hall}
use Rattle.packet_workers.proofs.working.Task.recorded_over.Goals as goal

pub returns-in-Ok-clause-run : goal.returns-in-Ok-clause-run
returns-in-Ok-clause-run g c =
    let w = c.record-recorded.new.view in
    let item = c.args.self.now.item in
    let first : c.new-view.result.refusals ≡ 0 = ap (λ (x : Viewed). x.refusals) c.new-view.ensures in
    records_it g.J.Start.start (known c.args.pass.now) (known c.finish-pass.result.pass.now) (hall c.finish-pass.result.pass.now) w.refusals w item c.args.self.now.budget c.args.number c.args.policy.now _
    c.requires.start c.finish-pass.ensures.same c.finish-pass.ensures.read c.finish-pass.ensures.refuses
    (never_refused w.refusals _ (ok_no_err c.record-recorded.result _ _ c.in-Ok.is) (λ some. c.record-recorded.ensures.unread (omega arith)))
    c.law.ensures
    (of_item c.args.policy.now c.args.number c.args.self.now.budget c.switch.result item.switch c.key.result.now item.key _ c.switch.ensures c.key.ensures.key (ok_at c.record-recorded.result _ _ c.in-Ok.is c.record-recorded.ensures.call))
    (ok_at c.record-recorded.result _ _ c.in-Ok.is c.record-recorded.ensures.given)

pub returns-in-Err-clause-broken : goal.returns-in-Err-clause-broken
returns-in-Err-clause-broken g c =
    let w = c.record-recorded.new.view in
    let first : c.new-view.result.refusals ≡ 0 = ap (λ (x : Viewed). x.refusals) c.new-view.ensures in
    rw (c.unrecorded.ensures)
    (records_not g.J.Start.start (known c.args.pass.now) (known c.finish-pass.result.pass.now) w.refusals c.record-recorded.result c.in-Err.why c.requires.start c.finish-pass.ensures.read c.finish-pass.ensures.refuses c.in-Err.is
    (λ some. c.record-recorded.ensures.unread (omega arith)) (λ e. let h = c.record-recorded.ensures.refused e in omega arith))

pub returns-in-Ok-clause-hall : goal.returns-in-Ok-clause-hall
returns-in-Ok-clause-hall g c = same_hall (hall c.finish-pass.result.pass.now) (hall c.args.pass.now) (sym c.finish-pass.ensures.halls ∙ c.requires.halls) ∙ c.requires.hall

pub returns-in-Err-clause-hall : goal.returns-in-Err-clause-hall
returns-in-Err-clause-hall g c = same_hall (hall c.finish-pass.result.pass.now) (hall c.args.pass.now) (sym c.finish-pass.ensures.halls ∙ c.requires.halls) ∙ c.requires.hall
