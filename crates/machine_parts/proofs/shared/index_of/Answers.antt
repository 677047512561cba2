use Rattle.std.proofs.Common.{◌≡◌, sym, ap, ◌∙◌, subst, None}
use Rattle.std.specs.Prelude.{MatchOption, position}
use Rattle.machine_parts.specs.declared.connection.Connection.{Connection}
use Rattle.machine_steps.specs.Machine.{State, is_of, session_at}
use Rattle.machine_steps.specs.Places.{IsAt}
use Rattle.machine_parts.specs.Sessions.{session_of}
use Rattle.machine_parts.proofs.Sessions.{place_is}
use Rattle.machine_parts.proofs.shared.index_of.Goals as goal

pub returns : goal.returns
returns c =
    let place = c.place_of.ensures ∙ ap (position (λ (k : Connection). is_of c.args.connection (session_of k))) c.deref.ensures.value in
    subst (λ o. MatchOption o (session_at c.args.connection c.args.parts.now ≡ None) (λ at. IsAt c.args.connection at c.args.parts.now))
    (sym place) (place_is c.parts.inside.sessions.items c.args.parts.now (ap (λ (m : State). m.sessions) c.parts.view_is) c.args.connection)
