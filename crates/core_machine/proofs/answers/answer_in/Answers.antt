use Rattle.std.proofs.Common.{Bool, refl, sym, ap, ◌∙◌}
use Rattle.std.specs.Prelude.{◌==◌, position}
use Rattle.switch_traces.specs.Traces.{Learnings}
use Rattle.machine_parts.specs.declared.connection.Connection.{Connection}
use Rattle.machine_parts.specs.Sessions.{session_of}
use Rattle.machine_steps.specs.Machine.{is_of}
use Rattle.core_machine.proofs.answers.answer_in.Goals as goal

pub answer-requires-clause-can : goal.answer-requires-clause-can
answer-requires-clause-can c =
    let j = c.args.job.now in
    let p : Learnings → Bool = λ l. l.switch == j.switch in
    let q : Connection → Bool = λ k. is_of j.connection (session_of k) in
    c.requires.can.can c.in-Some.place c.in-Some-place_of.at c.index_mut.result.now c.index_mut-2.result.now
    (record {
      here = sym (c.place_of.ensures ∙ ap (position p) c.deref.ensures.value) ∙ c.in-Some.is;
      traces = c.index_mut.ensures.value;
      there = sym (c.place_of-2.ensures ∙ ap (position q) c.deref-2.ensures.value) ∙ c.in-Some-place_of.is;
      connection = c.index_mut-2.ensures.value;
    })

pub returns-clause-answers : goal.returns-clause-answers
returns-clause-answers c =
    let j = c.args.job.now in
    let p : Learnings → Bool = λ l. l.switch == j.switch in
    let q : Connection → Bool = λ k. is_of j.connection (session_of k) in
    record {
      of = c.in-Some.place;
      at = c.in-Some-place_of.at;
      traces = c.index_mut.result.now;
      connection = c.index_mut-2.result.now;
      stand = record {
        here = sym (c.place_of.ensures ∙ ap (position p) c.deref.ensures.value) ∙ c.in-Some.is;
        traces = c.index_mut.ensures.value;
        there = sym (c.place_of-2.ensures ∙ ap (position q) c.deref-2.ensures.value) ∙ c.in-Some-place_of.is;
        connection = c.index_mut-2.ensures.value;
      };
      behind = c.answer.new.traces;
      turned = c.answer.new.connection;
      answers = c.in_ok-learnt.ensures.ok;
      learned = refl;
      sessions = refl;
    }
