use Rattle.std.proofs.Common.{◌≡◌, ap, ◌∙◌, subst}
use Rattle.policy_tree.specs.Machine.{start, replay, whole}
use Rattle.policy_tree.specs.Stands.{Stands}
use Rattle.policy_tree.proofs.Replays.{file_made, step_at, ended}
use Rattle.policy_tree.proofs.building.build.Goals as goal

pub loop-event-init : goal.loop-event-init
loop-event-init c = λ f. (start, c.new-builder.ensures, ap (λ es. replay es start) f.same ∙ file_made f.file f.body)

pub loop-event-preserved : goal.loop-event-preserved
loop-event-preserved c = λ f.
    let (w, stands, rest) = c.loop-event.invariant f in
    let next = step_at c.args.events.now c.loop-event.event-index c.event-item.result w (whole f.file) (λ x. Stands x c.take.new.self) c.in_ok-fits.fits c.loop-event-test.true c.event-item.is rest (c.in_ok-fits.ensures w stands) in
    next.1

pub prove-unreachable-requires : goal.prove-unreachable-requires
prove-unreachable-requires c =
    let (w, stands, rest) = c.loop-event.invariant c.requires in
    let next = step_at c.args.events.now c.loop-event.event-index c.event-item.result w (whole c.requires.file) (λ x. Stands x c.take.new.self) c.in_ok-fits.fits c.loop-event-test.true c.event-item.is rest (c.in_ok-fits.ensures w stands) in
    let fits = next.0 in
    absurd (cc (fits, c.if-prove.true))

pub returns : goal.returns
returns c = record {
  parts = λ f right is.
      let (w, stands, rest) = c.loop-event.invariant (record { file = f; body = right; same = is }) in
      let all : w ≡ whole f = ended c.args.events.now c.loop-event.event-index w (whole f) c.loop-event-test.false rest in
      let built = subst (λ u. Stands u c.loop-event.builder) all stands in
      record {
        tables = ap (λ v. v.items) c.parts_of.ensures.tables ∙ built.tables;
        learning = c.parts_of.ensures.learning ∙ built.learning;
        body = c.parts_of.ensures.body ∙ built.body;
      };
}
