use Rattle.std.proofs.Common.{refl, sym, ◌∙◌}
use Rattle.policy_meaning.proofs.Looked.{looked_new, given_all, given_still}
use Rattle.trace_record.specs.Recorded.{answers_of}
use Rattle.trace_record.proofs.recorder.RecorderAsker.cell.Goals as goal

pub returns-clause-said : goal.returns-clause-said
returns-clause-said g c =
    let s = c.args.self.now in
    let read = c.in-Some-read.ensures in
    let gave = g.V.EnvView.gave in
    rw c.in_ok-push.ensures
    (record {
      key = refl;
      notes = looked_new s.notes.key (answers_of s.notes) c.args.cell c.in-Some-read.value (sym c.given.ensures.given ∙ c.in_default.is);
      told = λ all. given_all (gave c.read.new.self) s.notes.cells c.args.cell c.in-Some-read.value (given_still (gave s.view) (gave c.read.new.self) s.notes.cells read.kept all) read.given;
    })
