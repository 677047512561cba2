use Rattle.std.proofs.Common.{◌≡◌, ◌+◌, List, [], ◌∷◌, ◌++◌, length, map, false, ap, sym, subst, ◌∙◌, arith}
use Rattle.std.specs.Prelude.{None}
use Rattle.std.proofs.lemmas.List.{with_items_is}
use Rattle.std.specs.Vec.{with_items}
use Rattle.std.specs.List.{AllByRecursion}
use Rattle.env_cells.specs.Changes.{applied}
use Rattle.env_cells.specs.declared.updates.Update.{Update}
use Rattle.trace_tree.specs.declared.node.Leaf.{Leaf}
use Rattle.report_text.specs.declared.line.Line.{Line}
use Rattle.report_text.specs.declared.line.Line.TheVariants.{State as StateLine}
use Rattle.switch_traces.specs.Traces.{Learnings}
use Rattle.machine_parts.specs.declared.connection.Connection.{Connection}
use Rattle.machine_steps.specs.Machine.{State, kept_of, state_number, tells, this_state, trace_total}
use Rattle.machine_parts.specs.Seen.{seen, seen_past}
use Rattle.machine_parts.specs.Sessions.{due_all, session_of}
use Rattle.machine_steps.specs.Steps.{AimsAll, Reaches, reached, renewed}
use Rattle.core_machine.specs.Advancing.{AreLed}
use Rattle.core_machine.proofs.Reaching.{can_ready, maps_more, next_seen, one_longer, reached_next}
use Rattle.core_machine.proofs.policies.try_renew.Goals as goal

pub advance_without_traces-requires-clause-can : goal.advance_without_traces-requires-clause-can
advance_without_traces-requires-clause-can c =
    rw (c.deref_mut-2.ensures.value, c.deref_mut.ensures.value) (can_ready c.args.parts.now c.parts.inside c.parts.view_is c.parts.invariant c.requires.can)

pub invariant_of-parts-2 : goal.invariant_of-parts-2
invariant_of-parts-2 c =
    let a = c.parts.inside in
    let ds = c.advance_without_traces.new.sessions in
    let led = c.in_ok-pruned.ensures.led in
    let e = with_items_is a.sessions ds (omega (arith, c.advance_without_traces.auto.sessions, ap length c.deref_mut.ensures.value, a.sessions.ok.0)) in
    record {
      aims = subst (AllByRecursion (λ (d : Connection). d.aim ≡ None)) (sym e) led.idle;
      room = omega (
        arith,
        ap (λ (x : List Connection). due_all (map session_of x)) e,
        led.due,
        ap (λ (x : List Connection). due_all (map session_of x)) c.deref_mut.ensures.value,
        ap (λ (x : List Connection). due_all (map session_of x)) c.deref.ensures.value,
        c.enter.ensures.len,
        c.enter.ensures.capacity,
        c.in_ok-state.ensures.line,
      );
    }

pub returns-clause-renewed : goal.returns-clause-renewed
returns-clause-renewed c =
    let a = c.parts.inside in
    let p = c.args.policy in
    let none = kept_of (λ (x : Leaf). false) in
    let made = c.in_ok-pruned.ensures in
    let pruned = c.in_ok-pruned.pruned in
    let next = renewed p (seen a) in
    let ds = c.advance_without_traces.new.sessions in
    let ls = c.advance_without_traces.new.learned in
    let sessions = with_items_is a.sessions ds (omega (arith, c.advance_without_traces.auto.sessions, ap length c.deref_mut.ensures.value, a.sessions.ok.0)) in
    let learned = with_items_is a.learned ls (omega (arith, c.advance_without_traces.auto.learned, ap length c.deref_mut-2.ensures.value, a.learned.ok.0))
    ∙ made.left ∙ ap none c.deref_mut-2.ensures.value in
    let led = subst (λ (xs : List Learnings). AreLed (none xs) c.deref_mut.result.now ds) c.deref_mut-2.ensures.value made.led in
    let aims = subst (λ (xs : List Connection). AimsAll next.learned (map session_of xs) (map session_of ds)) c.deref_mut.ensures.value led.aims in
    let gone = subst (λ (xs : List Learnings). pruned + trace_total (none xs) ≡ trace_total xs) c.deref_mut-2.ensures.value made.gone in
    let number : state_number next ≡ c.in_ok-state.state = omega (arith, one_longer seen_past a.states.items (this_state (seen a)), c.in_ok-state.ensures.number, a.states.ok.0) in
    let state = StateLine c.in_ok-state.state pruned in
    let new : State = record next {
      earlier = map (λ s. s.value) c.push_reserved.new.self.items;
      policy = c.in_ok-policy.policy.value;
      states = map seen_past c.enter.new.states.items;
      scene = c.advance_without_traces.new.scene;
      learned = (with_items a.learned ls).items;
      sessions = map session_of (with_items a.sessions ds).items;
      lines = c.enter.new.lines.items;
    } in
    let is : new ≡ tells state (record next { sessions = map session_of ds }) =
    next_seen next state (map session_of ds) new.earlier new.policy new.states new.scene new.learned new.sessions new.lines
    (maps_more (λ s. s.value) a.earlier.items c.reserve.new.self.items c.push_reserved.new.self.items c.of-before.result a.policy.value c.in_ok-reserve.ensures.items c.push_reserved.ensures.items (c.of-before.ensures ∙ c.deref-2.ensures))
    c.in_ok-policy.ensures.ok
    (maps_more seen_past a.states.items c.make_room_for_state.new.states.items c.enter.new.states.items c.past_of-past.result (this_state (seen a)) c.in_ok-state.ensures.states c.enter.ensures.states
    (c.past_of-past.ensures ∙ ap this_state (sym c.parts.view_is)))
    (made.applied ∙ ap (λ (u : Update). applied a.scene u) c.in_ok-update.ensures.named)
    learned
    (ap (map session_of) sessions)
    (c.enter.ensures.lines ∙ ap (λ (l : List Line). l ++ state ∷ []) c.in_ok-state.ensures.lines)
    in
    let pair = reached_next (seen a) next (map session_of ds) c.in_ok-state.state pruned c.enter.result new aims number (omega (arith, gone)) c.enter.ensures.reply is in
    subst (λ (m : State). (c.enter.result ≡ reached m (renewed p m)) × Reaches m (renewed p m) new) c.parts.view_is pair
