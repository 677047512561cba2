use Rattle.std.proofs.Common.{◌++◌, ◌∷◌, [], List, length, map, ap, sym, ◌∙◌, subst, arith}
use Rattle.std.specs.List.{slice_get}
use Rattle.std.proofs.lemmas.Option.{get_or_from_slice_get, same_Some, slice_get_read, slice_get_within}
use Rattle.report_text.specs.declared.line.Line.{Line}
use Rattle.report_text.specs.declared.line.Line.TheVariants as lines
use Rattle.machine_parts.specs.declared.connection.Connection.{Connection}
use Rattle.machine_parts.specs.Sessions.{due_all, session_of}
use Rattle.machine_steps.specs.declared.job.Job.{Job}
use Rattle.machine_steps.specs.Machine.{State}
use Rattle.machine_steps.specs.Sound.{IsSound}
use Rattle.core_machine.specs.Concluding.{AnswersIn, HasTrace}
use Rattle.core_machine.proofs.Concluding.{aims_behind, answered_in, answered_is, can_answer, due_behind}
use Rattle.core_machine.proofs.answers.answer_at.Goals as goal

pub answer_in-requires : goal.answer_in-requires
answer_in-requires c =
    let sound = subst IsSound (sym c.parts.view_is) c.requires.sound in
    let has = subst (HasTrace c.args.at c.args.trace) (sym c.parts.view_is) c.requires.trace in
    record { can = can_answer c.parts.inside sound c.parts.invariant c.args.at c.args.trace has c.index.result.now c.index.ensures }

pub close_at-job-requires : goal.close_at-job-requires
close_at-job-requires c =
    let has = subst (HasTrace c.args.at c.args.trace) (sym c.parts.view_is) c.requires.trace in
    record { within = omega (arith, slice_get_within c.parts.inside.jobs.items c.args.at has.job has.there, c.parts.inside.jobs.ok.0) }

pub invariant_of-parts-2 : goal.invariant_of-parts-2
invariant_of-parts-2 c =
    let a = c.parts.inside in
    let sound = subst IsSound (sym c.parts.view_is) c.requires.sound in
    let has = subst (HasTrace c.args.at c.args.trace) (sym c.parts.view_is) c.requires.trace in
    let i = c.index.result.now in
    let there = slice_get_read a.jobs.items (length a.jobs.items) c.args.at i (λ _. length a.jobs.items) (slice_get_within a.jobs.items c.args.at has.job has.there) c.index.ensures in
    let due = due_behind a sound c.args.at i there c.args.trace c.in_ok-learnt.learnt c.answer_in.new.learned.items c.answer_in.new.sessions.items c.in_ok-learnt.ensures.answers in
    record {
      aims = aims_behind a sound c.args.at i there c.args.trace c.in_ok-learnt.learnt c.answer_in.new.learned.items c.answer_in.new.sessions.items c.in_ok-learnt.ensures.answers c.parts.invariant;
      room = omega (arith, due, c.in_ok-make_room.ensures.room, ap (λ (ks : List Connection). due_all (map session_of ks)) c.deref.ensures.value, c.push_reserved.ensures.len, c.push_reserved.ensures.capacity);
    }

pub returns-clause-answers : goal.returns-clause-answers
returns-clause-answers c =
    λ j at_place.
    let a = c.parts.inside in
    let r = c.args.trace in
    let learnt = c.in_ok-learnt.learnt in
    let sound = subst IsSound (sym c.parts.view_is) c.requires.sound in
    let has = subst (HasTrace c.args.at r) (sym c.parts.view_is) c.requires.trace in
    let there = ap (λ (x : State). slice_get x.jobs c.args.at) c.parts.view_is ∙ at_place in
    let same = c.index.ensures ∙ get_or_from_slice_get a.jobs.items c.args.at j c.index.result.now there in
    let w = subst (λ (k : Job). AnswersIn a.settings k r a.learned.items a.sessions.items learnt c.answer_in.new.learned.items c.answer_in.new.sessions.items) same c.in_ok-learnt.ensures.answers in
    let line = λ (k : Job). lines.Answer k.switch k.key.in_port c.in_ok-told.told learnt in
    let told = c.push_reserved.ensures.items ∙ ap (λ (ls : List Line). ls ++ line c.close_at-job.result ∷ []) c.make_room.ensures.items
    ∙ ap (λ (k : Job). a.lines.items ++ line k ∷ []) (same_Some c.close_at-job.result j (sym c.close_at-job.ensures.job ∙ there)) in
    let answers =
    answered_is a sound c.args.at j there r learnt c.answer_in.new.learned.items c.answer_in.new.sessions.items w has.number c.in_ok-decision.decision c.in_ok-told.told
    c.close_at-job.new.jobs.items c.count_behind-count.result c.push_reserved.new.self.items c.in_ok-decision.ensures (c.in_ok-told.ensures ∙ c.in_ok-decision.ensures) c.close_at-job.ensures.left
    c.count_behind-count.ensures told in
    answered_in c.parts.view_is answers
