use Rattle.std.proofs.Common.{◌≡◌, sym, ap, ◌∙◌, subst, None}
use Rattle.std.specs.Prelude.{MatchOption, position, slice_get}
use Rattle.machine_parts.specs.declared.connection.Connection.{Connection}
use Rattle.machine_parts.specs.Finding.{IsKeptAt, is_kept}
use Rattle.machine_steps.specs.Machine.{State}
use Rattle.machine_parts.specs.Sessions.{session_of}
use Rattle.machine_steps.specs.Steps.{kept_at}
use Rattle.machine_parts.proofs.Sessions.{kept_place_is, kept_there}
use Rattle.machine_parts.proofs.takes.kept_index.Goals as goal

pub returns-in-Some : goal.returns-in-Some
returns-in-Some c =
    let k = c.in-Some.ensures in
    let xs = c.parts.inside.sessions.items in
    let there = ap (λ cs. slice_get cs c.in-Some.at) (sym c.deref.ensures.value) ∙ k.1 in
    kept_there xs c.args.parts.now (ap (λ (m : State). m.sessions) c.parts.view_is) c.requires.sound.others c.args.connection c.in-Some.at k.0 there k.2

pub returns-in-None : goal.returns-in-None
returns-in-None c =
    let place = c.kept_place.ensures ∙ ap (position (λ (k : Connection). is_kept c.args.connection (session_of k))) c.deref-in-None.ensures.value in
    subst (λ o. MatchOption o (kept_at c.args.connection c.args.parts.now ≡ None) (λ at. IsKeptAt c.args.connection at c.args.parts.now))
    (sym place) (kept_place_is c.parts.inside.sessions.items c.args.parts.now (ap (λ (m : State). m.sessions) c.parts.view_is) c.args.connection)
