use Rattle.std.proofs.Common.{inl}
use Rattle.history_lock.specs.Passes.{known}
use Rattle.packet_workers.proofs.Turning.{broken_by, err_at, is_refused, lends_it, lent_by, ok_at}
use Rattle.packet_workers.proofs.working.Task.lend.Goals as goal

pub lent-requires : goal.lent-requires
lent-requires g c = record { lending = lends_it (known c.args.pass.now) (known c.call.new.pass) _ (ok_at c.call.result _ _ c.in-Ok.is c.call.ensures.ok) }

pub returns-in-Ok-clause-lent : goal.returns-in-Ok-clause-lent
returns-in-Ok-clause-lent g c =
    let s = c.call.ensures.stays in
    lent_by c.longer_laws.ensures.settings (known c.args.pass.now) (known c.call.new.pass) _ c.lent.result (λ x. x.0) (λ x. x.1.value) (ok_at c.call.result _ _ c.in-Ok.is c.call.ensures.ok)
    (record { opening = s.1; parts = s.2; leads = c.call.ensures.leads }) c.lent.ensures.lent

pub returns-in-Ok-clause-broken : goal.returns-in-Ok-clause-broken
returns-in-Ok-clause-broken g c =
    let s = c.call.ensures.stays in
    broken_by (known c.args.pass.now) (known c.call.new.pass) _ c.lent.result (ok_at c.call.result _ _ c.in-Ok.is c.call.ensures.ok)
    (record { opening = s.1; parts = s.2; leads = c.call.ensures.leads }) c.lent.ensures.broken

pub returns-clause-broken : goal.returns-clause-broken
returns-clause-broken g c =
    let s = c.call.ensures.stays in
    inl (is_refused (known c.args.pass.now) (known c.call.new.pass) (record { opening = s.1; parts = s.2; leads = c.call.ensures.leads }) (err_at c.call.result _ _ c.in-Err.is c.call.ensures.kept)
    (err_at c.call.result _ _ c.in-Err.is c.call.ensures.err).1)
