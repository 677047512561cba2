use Rattle.std.proofs.Common.{refl, rules, ap, ◌∙◌, eq-eqb, slice_set, Some}
use Rattle.std.proofs.lemmas.Bool.{ne_eqb}
use Rattle.maple_base.specs.declared.items.Item.TheVariants.{Test}
use Rattle.std.specs.Prelude.{true}
use Rattle.maple_base.specs.Questions.{field_number, known}
use Rattle.trace_record.proofs.Tables.{fixed_now, put_at, ruled_now}
use Rattle.trace_record.proofs.asked_items.AskedItems.test.Goals as goal
use Rattle.trace_record.proofs.asked_items.AskedItems.test.Goals.{then-outcome, else-outcome+in_ok-insert}

pub invariant_of-self-2 : goal.invariant_of-self-2
invariant_of-self-2 c =
    let f = c.args.field in
    let v = c.args.value in
    let old = c.self.inside in
    elim c.if-outcome.branch [
      | then-outcome w ↦ rw (c.push_reserved.ensures.items, w.self-inside-is, c.reserve.ensures.items, w.place.ensures, eq-eqb c.get.result v w.if-outcome.true)
          (fixed_now old.list.items (Test f v true) f v old.known (slice_set old.known (field_number f) (Some v)) old.excluded (λ g. refl) (λ g w. refl) (ap (known f) c.self.view_is ∙ c.requires.new)
          (search rules) (put_at old.known f v c.self.invariant.long) c.self.invariant)
      | else-outcome+in_ok-insert w ↦ rw (c.push_reserved.ensures.items, w.self-inside-is, c.reserve.ensures.items, ne_eqb c.get.result v w.if-outcome.false)
          (ruled_now old.list.items f v old.known old.excluded w.insert.new.self w.in_ok-insert.ensures.updates.0 c.self.invariant)
    ]
