use Rattle.std.proofs.Common.{sym, ap, ◌∙◌, ◌∷◌, [], arith}
use Rattle.history_lock.specs.Passes.{hall, known}
use Rattle.packet_workers.proofs.Passing.{Stays}
use Rattle.packet_workers.proofs.Reading.{read_kept, told_kept}
use Rattle.packet_workers.proofs.Turning.{err_at, ok_at, read_in, read_kind, read_last, read_others, reading, refused, refuses_none, refuses_now, told_inside}
use Rattle.packet_workers.proofs.view.HallViewEnvView.read.Goals as goal

pub value_of-requires : goal.value_of-requires
value_of-requires g c = record { reading = reading (known c.self.inside.pass.now) (known c.call.new.pass) c.args.cell c.in-Ok.reply (ok_at c.call.result _ _ c.in-Ok.is c.call.ensures.ok) }

pub returns-then-self-gt0-clause-kept : goal.returns-then-self-gt0-clause-kept
returns-then-self-gt0-clause-kept g c = told_inside g.J.Start.start (hall c.self.inside.pass.now) (known c.self.inside.pass.now) c.self.inside.refusals c.args.self.now c.self.view_is

pub invariant_of-self-in-Ok : goal.invariant_of-self-in-Ok
invariant_of-self-in-Ok g c =
    let s = c.call.ensures.stays in
    let stay : Stays (known c.self.inside.pass.now) (known c.call.new.pass) = record { opening = s.1; parts = s.2; leads = c.call.ensures.leads } in
    let call = ok_at c.call.result _ _ c.in-Ok.is c.call.ensures.ok in (
      s.0,
      c.self.invariant.1,
      (
        read_in g.J.Start.start (known c.self.inside.pass.now) (known c.call.new.pass) c.args.cell c.in-Ok.reply c.value_of.result call stay c.value_of.ensures c.self.invariant.2.0,
        refuses_none (known c.self.inside.pass.now) (known c.call.new.pass) _ c.in-Ok.reply call c.self.inside.refusals (omega arith),
        c.self.invariant.2.2 ∙ ap (λ x. x ∷ []) (c.self.invariant.0 ∙ sym s.0),
      ),
    )

pub returns-in-Ok-clause-given : goal.returns-in-Ok-clause-given
returns-in-Ok-clause-given g c =
    let s = c.call.ensures.stays in
    read_last g.J.Start.start (known c.self.inside.pass.now) (known c.call.new.pass) c.args.cell c.in-Ok.reply c.value_of.result (ok_at c.call.result _ _ c.in-Ok.is c.call.ensures.ok)
    (record { opening = s.1; parts = s.2; leads = c.call.ensures.leads }) c.value_of.ensures c.self.invariant.2.0

pub returns-in-Ok-clause-kept : goal.returns-in-Ok-clause-kept
returns-in-Ok-clause-kept g c =
    let s = c.call.ensures.stays in
    λ d v h. read_others g.J.Start.start (known c.self.inside.pass.now) (known c.call.new.pass) c.args.cell c.in-Ok.reply c.value_of.result (ok_at c.call.result _ _ c.in-Ok.is c.call.ensures.ok)
    (record { opening = s.1; parts = s.2; leads = c.call.ensures.leads }) c.value_of.ensures d v
    (told_inside g.J.Start.start (hall c.self.inside.pass.now) (known c.self.inside.pass.now) c.self.inside.refusals c.args.self.now c.self.view_is d v h)

pub returns-in-Ok-clause-kind : goal.returns-in-Ok-clause-kind
returns-in-Ok-clause-kind g c =
    read_kind c.running_laws.ensures.kinds (known c.self.inside.pass.now) (known c.call.new.pass) c.args.cell c.in-Ok.reply c.value_of.result (ok_at c.call.result _ _ c.in-Ok.is c.call.ensures.ok) c.value_of.ensures

pub returns-clause-kept : goal.returns-clause-kept
returns-clause-kept g c =
    let s = c.call.ensures.stays in
    λ d v h. told_kept g.J.Start.start (known c.self.inside.pass.now) (known c.call.new.pass)
    (refused (known c.self.inside.pass.now) (known c.call.new.pass) (record { opening = s.1; parts = s.2; leads = c.call.ensures.leads }) (err_at c.call.result _ _ c.in-Err.is c.call.ensures.kept)) d v
    (told_inside g.J.Start.start (hall c.self.inside.pass.now) (known c.self.inside.pass.now) c.self.inside.refusals c.args.self.now c.self.view_is d v h)

pub invariant_of-self-in-Err : goal.invariant_of-self-in-Err
invariant_of-self-in-Err g c =
    let s = c.call.ensures.stays in
    let stay : Stays (known c.self.inside.pass.now) (known c.call.new.pass) = record { opening = s.1; parts = s.2; leads = c.call.ensures.leads } in
    let kept = refused (known c.self.inside.pass.now) (known c.call.new.pass) stay (err_at c.call.result _ _ c.in-Err.is c.call.ensures.kept) in (
      s.0,
      c.self.invariant.1,
      (
        read_kept g.J.Start.start (known c.self.inside.pass.now) (known c.call.new.pass) c.self.invariant.2.0 kept,
        refuses_now _ (err_at c.call.result _ _ c.in-Err.is c.call.ensures.err).1,
        c.self.invariant.2.2 ∙ ap (λ x. x ∷ []) (c.self.invariant.0 ∙ sym s.0),
      ),
    )
