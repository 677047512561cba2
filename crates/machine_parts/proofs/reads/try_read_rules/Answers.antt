use Rattle.std.proofs.Common.{◌≤◌, ◌++◌, ◌∷◌, [], List, length, map, subst, ap, sym, ◌∙◌, inl, refl, arith}
use Rattle.std.specs.List.Sorted.{IsPermutation}
use Rattle.maple_base.specs.declared.decision.Rule.{Rule}
use Rattle.priority_plan.specs.Rules.{level_limit, levels_of, rules_of}
use Rattle.report_text.specs.declared.line.Line.{Line}
use Rattle.report_text.specs.declared.line.Line.TheVariants.{Rules}
use Rattle.trace_tree.specs.Growth.{scratch}
use Rattle.machine_steps.specs.Machine.{State, traces_in}
use Rattle.machine_steps.specs.Steps.{rule_line}
use Rattle.machine_parts.proofs.Listing.{few_levels, few_listed, put_of, listed_is}
use Rattle.machine_parts.proofs.reads.try_read_rules.Goals as goal

pub rules_of-requires : goal.rules_of-requires
rules_of-requires c =
    let ls = c.deref.ensures.value ∙ ap (λ (n : State). n.learned) c.parts.view_is in
    record { levels = subst (λ ks. levels_of (scratch (traces_in ks c.args.switch)) ≤ level_limit) (sym ls) (few_levels c.args.parts.now c.requires.sound c.args.switch) }

pub tell_rules-requires-clause-few : goal.tell_rules-requires-clause-few
tell_rules-requires-clause-few c =
    let ls = c.deref.ensures.value ∙ ap (λ (n : State). n.learned) c.parts.view_is in
    let some = c.in_ok-rules_of.field-0.items in
    let are = subst (λ ks. IsPermutation (rules_of (scratch (traces_in ks c.args.switch))) some) ls c.in_ok-rules_of.ensures in
    omega (arith, few_listed c.args.parts.now c.requires.sound c.args.switch some c.in_ok-rules.rules.items are c.in_ok-rules.ensures, ap (λ (rs : List Rule). length rs) c.deref-3.ensures.value)

pub returns-clause-told : goal.returns-clause-told
returns-clause-told c =
    let ls = c.deref.ensures.value ∙ ap (λ (n : State). n.learned) c.parts.view_is in
    let some = c.in_ok-rules_of.field-0.items in
    let are = subst (λ ks. IsPermutation (rules_of (scratch (traces_in ks c.args.switch))) some) ls c.in_ok-rules_of.ensures in
    let rs = c.in_ok-rules.rules.items in
    let told = λ (qs : List Rule). map (rule_line c.args.switch) qs ++ Rules c.args.switch (length qs) ∷ [] in
    inl (
      rs,
      put_of c.args.parts.now c.args.switch some rs are c.in_ok-rules.ensures,
      refl,
      listed_is c.parts.inside c.args.parts.now c.parts.view_is (told rs) c.tell_rules.new.lines.items
          (c.tell_rules.ensures.lines ∙ ap (λ (lines : List Line). lines ++ told c.deref-3.result.now) c.make_room.ensures.items ∙ ap (λ qs. c.parts.inside.lines.items ++ told qs) c.deref-3.ensures.value),
    )
