use Rattle.std.proofs.Common.{◌≡◌, ◌+◌, List, [], ◌∷◌, ◌++◌, length, map, None, refl, ap, sym, subst, ◌∙◌, arith}
use Rattle.std.proofs.lemmas.List.{with_items_is}
use Rattle.std.specs.List.{AllByRecursion}
use Rattle.std.specs.Vec.{with_items}
use Rattle.report_text.specs.declared.line.Line.{Line}
use Rattle.report_text.specs.declared.line.Line.TheVariants.{State as StateLine}
use Rattle.switch_traces.specs.Traces.{Learnings}
use Rattle.machine_parts.specs.declared.connection.Connection.{Connection}
use Rattle.machine_steps.specs.Machine.{State, state_number, tells, this_state, trace_total}
use Rattle.machine_parts.specs.Seen.{seen, seen_past}
use Rattle.machine_parts.specs.Sessions.{due_all, session_of}
use Rattle.machine_parts.specs.Aiming.{left_behind}
use Rattle.machine_steps.specs.Steps.{AimsAll, updated}
use Rattle.core_machine.specs.Advancing.{AreLed}
use Rattle.core_machine.specs.Following.{IsOfCount, ReachesThen, jobs_behind, lines_behind}
use Rattle.core_machine.proofs.Following.{followed}
use Rattle.core_machine.proofs.Reaching.{can_ready, maps_more, one_longer, reached_next}
use Rattle.core_machine.proofs.updates.reach_then.Goals as goal

pub advance-requires-clause-can : goal.advance-requires-clause-can
advance-requires-clause-can c =
    rw (c.deref_mut-2.ensures.value, c.deref_mut.ensures.value) (can_ready c.args.parts.now c.parts.inside c.parts.view_is c.parts.invariant c.requires.can)

pub follow-requires-clause-next : goal.follow-requires-clause-next
follow-requires-clause-next c = subst (IsOfCount c.args.next) (ap (λ (m : State). m.job_count) (sym c.parts.view_is)) c.requires.next

pub invariant_of-parts-2 : goal.invariant_of-parts-2
invariant_of-parts-2 c =
    let a = c.parts.inside in
    let ds = c.advance.new.sessions in
    let led = c.in_ok-pruned.ensures.led in
    let e = with_items_is a.sessions ds (omega (arith, c.advance.auto.sessions, ap length c.deref_mut.ensures.value, a.sessions.ok.0)) in
    record {
      aims = subst (AllByRecursion (λ (d : Connection). d.aim ≡ None)) (sym e) led.idle;
      room = omega (
        arith,
        ap (λ (x : List Connection). due_all (map session_of x)) e,
        led.due,
        ap (λ (x : List Connection). due_all (map session_of x)) c.deref_mut.ensures.value,
        ap (λ (x : List Connection). due_all (map session_of x)) c.deref.ensures.value,
        c.lines_needed.ensures.is,
        c.follow.ensures.len,
        c.follow.ensures.capacity,
        c.enter-reply.ensures.len,
        c.enter-reply.ensures.capacity,
        c.in_ok-state.ensures.line,
      );
    }

pub returns-clause-reached : goal.returns-clause-reached
returns-clause-reached c =
    let a = c.parts.inside in
    let u = c.args.update.now in
    let made = c.in_ok-pruned.ensures in
    let pruned = c.in_ok-pruned.pruned in
    let next = updated u (seen a) in
    let ds = c.advance.new.sessions in
    let ls = c.advance.new.learned in
    let sessions = with_items_is a.sessions ds (omega (arith, c.advance.auto.sessions, ap length c.deref_mut.ensures.value, a.sessions.ok.0)) in
    let learned = with_items_is a.learned ls (omega (arith, c.advance.auto.learned, ap length c.deref_mut-2.ensures.value, a.learned.ok.0))
    ∙ made.left ∙ ap (left_behind a.scene u) c.deref_mut-2.ensures.value in
    let led = subst (λ (xs : List Learnings). AreLed (left_behind a.scene u xs) c.deref_mut.result.now ds) c.deref_mut-2.ensures.value made.led in
    let aims = subst (λ (xs : List Connection). AimsAll next.learned (map session_of xs) (map session_of ds)) c.deref_mut.ensures.value led.aims in
    let gone = subst (λ (xs : List Learnings). pruned + trace_total (left_behind a.scene u xs) ≡ trace_total xs) c.deref_mut-2.ensures.value made.gone in
    let number : state_number next ≡ c.in_ok-state.state = omega (arith, one_longer seen_past a.states.items (this_state (seen a)), c.in_ok-state.ensures.number, a.states.ok.0) in
    let state = StateLine c.in_ok-state.state pruned in
    let mid : State = tells state (record next { sessions = map session_of ds }) in
    let pair = reached_next (seen a) next (map session_of ds) c.in_ok-state.state pruned c.enter-reply.result mid aims number (omega (arith, gone)) c.enter-reply.ensures.reply refl in
    let states = maps_more seen_past a.states.items c.make_room_for_state.new.states.items c.enter-reply.new.states.items c.past_of-past.result (this_state (seen a))
    c.in_ok-state.ensures.states c.enter-reply.ensures.states (c.past_of-past.ensures ∙ ap this_state (sym c.parts.view_is)) in
    let told = c.enter-reply.ensures.lines ∙ ap (λ (l : List Line). l ++ state ∷ []) c.in_ok-state.ensures.lines in
    let new : State = record mid {
      states = map seen_past c.enter-reply.new.states.items;
      scene = c.advance.new.scene;
      learned = (with_items a.learned ls).items;
      sessions = map session_of (with_items a.sessions ds).items;
      lines = c.follow.new.lines.items;
      jobs = c.follow.new.jobs.items;
      job_count = c.follow.new.job_count;
    } in
    let is = followed mid c.args.next new.states new.scene new.learned new.sessions new.lines new.jobs new.job_count states made.applied learned (ap (map session_of) sessions)
    (c.follow.ensures.lines ∙ ap (lines_behind c.args.next) told) (c.follow.ensures.jobs ∙ ap (jobs_behind c.args.next) c.in_ok-make_room_for_job.ensures.jobs) c.follow.ensures.count in
    subst (λ (m : State). ReachesThen u c.args.next m c.enter-reply.result new) c.parts.view_is
    (record { reached = mid; reaches = record { accepted = made.accepted; reply_is = pair.0; reaches = pair.1 }; now_is = is })
