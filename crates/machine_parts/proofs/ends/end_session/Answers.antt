use Rattle.std.proofs.Common.{◌≡◌, ◌∙◌, ap, inr, refl, None, arith}
use Rattle.machine_parts.specs.declared.connection.Connection.{Connection}
use Rattle.machine_steps.specs.Machine.{State}
use Rattle.machine_parts.specs.Sessions.{due}
use Rattle.machine_parts.proofs.Closing.{closed_is}
use Rattle.machine_parts.proofs.Keyed.{each-set, each_at}
use Rattle.machine_parts.proofs.Sessions.{due_changed, due_open, due_removed, here, is_open_at, stands, within}
use Rattle.switch_session.specs.Sessions.{ended}
use Rattle.machine_parts.proofs.ends.end_session.Goals as goal

pub close-requires : goal.close-requires
close-requires c =
    let m = c.args.parts.now in
    let is = c.in-Some.ensures in
    let two = due_open is.session (is_open_at m c.args.connection c.in-Some.at is) in
    let all = due_removed c.parts.inside.sessions.items m (ap (λ (n : State). n.sessions) c.parts.view_is) c.args.connection c.in-Some.at is.session (stands m c.args.connection c.in-Some.at is) in
    record { room = omega (arith, two, all, c.parts.invariant.room) }

pub invariant_of-parts : goal.invariant_of-parts
invariant_of-parts c =
    let m = c.args.parts.now in
    let is = c.in-Some.ensures in
    let xs = c.parts.inside.sessions.items in
    let are = ap (λ (n : State). n.sessions) c.parts.view_is in
    let st = stands m c.args.connection c.in-Some.at is in
    let two = due_open is.session (is_open_at m c.args.connection c.in-Some.at is) in
    let t : Connection = record { session = c.end.new.self; aim = c.index_mut.result.now.aim } in
    let idle = ap (λ (k : Connection). k.aim) c.index_mut.ensures.value ∙ each_at (λ (k : Connection). k.aim ≡ None) xs c.in-Some.at c.index_mut.result.now (within xs m are c.args.connection c.in-Some.at is.session st) c.parts.invariant.aims in
    record {
      aims = each-set (λ (k : Connection). k.aim ≡ None) xs c.in-Some.at t c.parts.invariant.aims idle;
      room = omega (arith, two, due_changed xs m are c.args.connection c.in-Some.at is.session st t, ap due c.end.ensures, c.parts.invariant.room, c.close.ensures.len, c.close.ensures.capacity);
    }

pub returns : goal.returns
returns c =
    let m = c.args.parts.now in
    let is = c.in-Some.ensures in
    let xs = c.parts.inside.sessions.items in
    let are = ap (λ (n : State). n.sessions) c.parts.view_is in
    let st = stands m c.args.connection c.in-Some.at is in
    let t : Connection = record { session = c.end.new.self; aim = c.index_mut.result.now.aim } in
    let there = ap (λ (k : Connection). k.session) c.index_mut.ensures.value ∙ here xs m are c.args.connection c.in-Some.at is.session st c.index_mut.result.now in
    inr (
      is.session,
      is.found,
      refl,
      closed_is c.parts.inside m c.parts.view_is c.args.connection c.in-Some.at is.session (ended is.session) st c.args.end t c.close.new.jobs.items c.close.new.lines.items
          c.requires.sound.others st.of (c.end.ensures ∙ ap ended there) c.close.ensures.jobs c.close.ensures.lines,
    )
