use Rattle.std.proofs.Common.{◌≡◌, ◌∙◌, None, ap, sym, subst, inl, inr, refl, map, arith}
use Rattle.std.specs.List.{AllByRecursion}
use Rattle.switch_session.specs.Calls.{TakesOut}
use Rattle.machine_parts.specs.declared.connection.Connection.{Connection}
use Rattle.machine_steps.specs.Machine.{Session, State, is_open}
use Rattle.machine_parts.specs.Sessions.{session_of, due_all}
use Rattle.machine_parts.proofs.Keyed.{each-remove, each-set, each_at}
use Rattle.machine_parts.proofs.Sessions.{due_changed, due_removed, here, stands_kept, within}
use Rattle.machine_parts.proofs.Taking.{due_taken, goes, remove_set, same_connection, stays}
use Rattle.machine_parts.proofs.takes.try_take_out.Goals as goal

pub invariant_of-parts-then-open : goal.invariant_of-parts-then-open
invariant_of-parts-then-open c =
    let m = c.args.parts.now in
    let is = c.in-Some.ensures in
    let at = c.in-Some.at in
    let xs = c.parts.inside.sessions.items in
    let are = ap (λ (n : State). n.sessions) c.parts.view_is in
    let st = stands_kept m c.args.connection at is in
    let k : Connection = record { session = c.take_out.new.self; aim = c.index_mut.result.now.aim } in
    let idle = ap (λ (n : Connection). n.aim) c.index_mut.ensures.value ∙ each_at (λ (n : Connection). n.aim ≡ None) xs at c.index_mut.result.now (within xs m are c.args.connection at is.session st) c.parts.invariant.aims in
    let there = ap (λ (n : Connection). n.session) c.index_mut.ensures.value ∙ here xs m are c.args.connection at is.session st c.index_mut.result.now in
    let takes = subst (λ (u : Session). TakesOut u c.in_ok-bytes.bytes c.take_out.new.self) there c.in_ok-bytes.ensures.taken in
    record {
      aims = each-set (λ (n : Connection). n.aim ≡ None) xs at k c.parts.invariant.aims idle;
      room = omega (arith, due_changed xs m are c.args.connection at is.session st k, due_taken is.session c.take_out.new.self c.in_ok-bytes.bytes takes, c.parts.invariant.room);
    }

pub returns-then-open-clause-taken : goal.returns-then-open-clause-taken
returns-then-open-clause-taken c =
    let m = c.args.parts.now in
    let is = c.in-Some.ensures in
    let at = c.in-Some.at in
    let xs = c.parts.inside.sessions.items in
    let are = ap (λ (n : State). n.sessions) c.parts.view_is in
    let st = stands_kept m c.args.connection at is in
    let t = c.take_out.new.self in
    let k : Connection = record { session = t; aim = c.index_mut.result.now.aim } in
    let there = ap (λ (n : Connection). n.session) c.index_mut.ensures.value ∙ here xs m are c.args.connection at is.session st c.index_mut.result.now in
    let takes = subst (λ (u : Session). TakesOut u c.in_ok-bytes.bytes t) there c.in_ok-bytes.ensures.taken in
    let seen_open = c.is_open-open.ensures ∙ ap is_open (ap (λ (n : Connection). n.session) c.index.ensures ∙ here xs m are c.args.connection at is.session st c.index.result.now) in
    inr (inl (
      is.session,
      t,
      c.in_ok-bytes.bytes,
      is.found,
      takes,
      refl,
      stays c.parts.inside m c.parts.view_is c.args.connection at is.session st c.requires.sound.others t (same_connection is.session t c.in_ok-bytes.bytes c.args.connection takes st.of) k refl (sym seen_open ∙ c.if-open.true),
    ))

pub remove-requires : goal.remove-requires
remove-requires c =
    let m = c.args.parts.now in
    let is = c.in-Some.ensures in
    let lt = within c.parts.inside.sessions.items m (ap (λ (n : State). n.sessions) c.parts.view_is) c.args.connection c.in-Some.at is.session (stands_kept m c.args.connection c.in-Some.at is) in
    record { within = omega (arith, lt, c.parts.inside.sessions.ok.0) }

pub invariant_of-parts-2 : goal.invariant_of-parts-2
invariant_of-parts-2 c =
    let m = c.args.parts.now in
    let is = c.in-Some.ensures in
    let at = c.in-Some.at in
    let xs = c.parts.inside.sessions.items in
    let are = ap (λ (n : State). n.sessions) c.parts.view_is in
    let st = stands_kept m c.args.connection at is in
    let k : Connection = record { session = c.take_out.new.self; aim = c.index_mut.result.now.aim } in
    let left = c.remove.ensures ∙ remove_set xs at k in
    record {
      aims = subst (AllByRecursion (λ (n : Connection). n.aim ≡ None)) (sym left) (each-remove (λ (n : Connection). n.aim ≡ None) xs at c.parts.invariant.aims);
      room = omega (arith, due_removed xs m are c.args.connection at is.session st, ap (λ ks. due_all (map session_of ks)) left, c.parts.invariant.room);
    }

pub returns-clause-taken : goal.returns-clause-taken
returns-clause-taken c =
    let m = c.args.parts.now in
    let is = c.in-Some.ensures in
    let at = c.in-Some.at in
    let xs = c.parts.inside.sessions.items in
    let are = ap (λ (n : State). n.sessions) c.parts.view_is in
    let st = stands_kept m c.args.connection at is in
    let t = c.take_out.new.self in
    let k : Connection = record { session = t; aim = c.index_mut.result.now.aim } in
    let there = ap (λ (n : Connection). n.session) c.index_mut.ensures.value ∙ here xs m are c.args.connection at is.session st c.index_mut.result.now in
    let takes = subst (λ (u : Session). TakesOut u c.in_ok-bytes.bytes t) there c.in_ok-bytes.ensures.taken in
    let seen_open = c.is_open-open.ensures ∙ ap is_open (ap (λ (n : Connection). n.session) c.index.ensures ∙ here xs m are c.args.connection at is.session st c.index.result.now) in
    inr (inl (
      is.session,
      t,
      c.in_ok-bytes.bytes,
      is.found,
      takes,
      refl,
      goes c.parts.inside m c.parts.view_is c.args.connection at is.session st c.requires.sound.others t (same_connection is.session t c.in_ok-bytes.bytes c.args.connection takes st.of) c.remove.new.sessions.items (c.remove.ensures ∙ remove_set xs at k) (sym seen_open ∙ c.if-open.false),
    ))
