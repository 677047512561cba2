use Rattle.std.proofs.Common.{◌≡◌, false, ◌+◌, ◌*◌, ◌-◌, ◌<◌, length, take, drop, sym, ap, ◌∙◌, subst, arith}
use Rattle.std.proofs.lemmas.List.{take_rest, take_more_set, length-set, length-take-le, drop-drop}
use Rattle.of10_codec.specs.Messages.{SpellsOutput}
use Rattle.of10_codec.specs.Faults.{is_output, action_faults, first_fault}
use Rattle.of10_codec.proofs.Outputs.{outputs_more, faults_next, fault_here, is_output-spelled}
use Rattle.of10_codec.proofs.action_reading.read_actions.Goals as goal

pub returns-in_default-clause-fault : goal.returns-in_default-clause-fault
returns-in_default-clause-fault c = λ kind.
    let lt : 0 < c.args.count - c.loop-i.i = omega arith in
    let other : is_output (drop (c.args.start + 8 * c.loop-i.i) c.args.bytes.now) ≡ false = rw take_rest at c.in_default.ensures.other in
    ap (first_fault kind) c.loop-i.invariant.left ∙ fault_here kind (c.args.count - c.loop-i.i) (16 - c.loop-i.i) (c.args.start + 8 * c.loop-i.i) c.args.bytes.now lt other

pub loop-i-preserved : goal.loop-i-preserved
loop-i-preserved c =
    let at = c.args.start + 8 * c.loop-i.i in
    let size : c.loop-i.i < length c.loop-i.ports = omega (arith, c.loop-i.invariant.size) in
    let few : length (take c.loop-i.i c.loop-i.ports) ≡ c.loop-i.i = length-take-le c.loop-i.i c.loop-i.ports (omega arith) in
    let output : SpellsOutput c.in-Some.port (drop at c.args.bytes.now) = rw take_rest at c.in-Some.ensures.found in
    let place : at ≡ c.args.start + 8 * length (take c.loop-i.i c.loop-i.ports) = omega arith in
    let there : SpellsOutput c.in-Some.port (drop (8 * length (take c.loop-i.i c.loop-i.ports)) (drop c.args.start c.args.bytes.now)) =
    subst (SpellsOutput c.in-Some.port) (ap (λ p. drop p c.args.bytes.now) place ∙ sym (drop-drop (8 * length (take c.loop-i.i c.loop-i.ports)) c.args.start c.args.bytes.now)) output in
    record {
      size = length-set c.loop-i.ports c.loop-i.i c.in-Some.port ∙ c.loop-i.invariant.size;
      few = omega (arith, c.loop-i.invariant.few);
      spelled = rw (take_more_set c.loop-i.ports c.loop-i.i c.in-Some.port) (outputs_more (take c.loop-i.i c.loop-i.ports) c.in-Some.port (drop c.args.start c.args.bytes.now) c.loop-i.invariant.spelled there);
      left =
          let next = faults_next (c.args.count - c.loop-i.i) (c.args.count - (c.loop-i.i + 1)) (16 - c.loop-i.i) (16 - (c.loop-i.i + 1)) at c.args.bytes.now (omega arith) (omega (arith, c.loop-i.invariant.few)) (is_output-spelled c.in-Some.port (drop at c.args.bytes.now) output) in
          let place : at + 8 ≡ c.args.start + 8 * (c.loop-i.i + 1) = omega arith in
          c.loop-i.invariant.left ∙ next ∙ ap (λ p. action_faults (c.args.count - (c.loop-i.i + 1)) (16 - (c.loop-i.i + 1)) p c.args.bytes.now) place;
    }
