use Rattle.std.proofs.Common.{◌≡◌, ◌++◌, ◌∷◌, [], None, List, map, subst, ap, sym, ◌∙◌, inl, inr, refl, arith}
use Rattle.std.specs.List.{AllByRecursion}
use Rattle.report_text.specs.declared.line.Line.{Line}
use Rattle.report_text.specs.declared.line.Line.TheVariants.{Closed, Open}
use Rattle.report_text.specs.declared.line.Why.TheVariants.{Full}
use Rattle.machine_parts.specs.declared.connection.Connection.{Connection}
use Rattle.machine_parts.specs.Sessions.{session_of, due_all}
use Rattle.machine_steps.specs.Machine.{State, was_opened}
use Rattle.machine_parts.proofs.Keyed.{each_push}
use Rattle.machine_parts.proofs.Opening.{counted, due_more, opened_is, refused_is}
use Rattle.machine_parts.proofs.opens.try_open.Goals as goal

pub returns-then-has-clause-opened : goal.returns-then-has-clause-opened
returns-then-has-clause-opened c =
    let told = ap (λ (n : State). was_opened c.args.connection n) (sym c.parts.view_is) ∙ sym c.has.ensures in
    inl (told ∙ c.if-has.true, (refl, refl))

pub returns-then-open_count-ge-MOST_SESSIONS-clause-opened : goal.returns-then-open_count-ge-MOST_SESSIONS-clause-opened
returns-then-open_count-ge-MOST_SESSIONS-clause-opened c =
    let a = c.parts.inside in
    let m = c.args.parts.now in
    let told = ap (λ (n : State). was_opened c.args.connection n) (sym c.parts.view_is) ∙ sym c.has.ensures in
    let count = counted a m c.parts.view_is c.open_count.result c.deref.result.now c.open_count.ensures c.deref.ensures.value in
    inr (inl (
      told ∙ c.if-has.false,
      omega (arith, count, c.if-open_count-ge-MOST_SESSIONS.true),
      refl,
      refused_is a m c.parts.view_is c.args.connection c.insert.new.self c.push_reserved.new.self.items
          c.in_ok-insert.ensures.ok
          (c.push_reserved.ensures.items ∙ ap (λ (ls : List Line). ls ++ Closed c.args.connection Full ∷ []) c.make_room.ensures.items),
    ))

pub invariant_of-parts-2 : goal.invariant_of-parts-2
invariant_of-parts-2 c =
    let k : Connection = record { session = c.in_ok-session.session; aim = None } in
    let xs = c.reserve.new.self.items in
    let ys = c.push_reserved-2.new.self.items in
    record {
      aims = subst (λ ks. AllByRecursion (λ (n : Connection). n.aim ≡ None) ks) (sym (c.push_reserved-2.ensures.items ∙ ap (λ (ks : List Connection). ks ++ k ∷ []) c.reserve.ensures.items)) (each_push (λ (n : Connection). n.aim ≡ None) c.parts.inside.sessions.items k c.parts.invariant.aims refl);
      room = omega (arith, due_more xs ys k c.push_reserved-2.ensures.items, ap (λ ks. due_all (map session_of ks)) c.deref-2.ensures.value, c.in_ok-make_room-2.ensures.room, c.push_reserved-3.ensures.len, c.push_reserved-3.ensures.capacity);
    }

pub returns-clause-opened : goal.returns-clause-opened
returns-clause-opened c =
    let a = c.parts.inside in
    let m = c.args.parts.now in
    let k : Connection = record { session = c.in_ok-session.session; aim = None } in
    let told = ap (λ (n : State). was_opened c.args.connection n) (sym c.parts.view_is) ∙ sym c.has.ensures in
    let count = counted a m c.parts.view_is c.open_count.result c.deref.result.now c.open_count.ensures c.deref.ensures.value in
    inr (inr (inl (
      told ∙ c.if-has.false,
      omega (arith, count, c.if-open_count-ge-MOST_SESSIONS.false),
      refl,
      opened_is a m c.parts.view_is c.args.connection c.insert-2.new.self c.push_reserved-2.new.self.items k c.push_reserved-3.new.self.items
          c.in_ok-insert-2.ensures.ok
          (c.push_reserved-2.ensures.items ∙ ap (λ (ks : List Connection). ks ++ k ∷ []) c.reserve.ensures.items)
          c.in_ok-session.ensures
          (c.push_reserved-3.ensures.items ∙ ap (λ (ls : List Line). ls ++ Open c.args.connection ∷ []) c.make_room-2.ensures.items),
    )))
