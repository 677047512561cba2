use Rattle.std.proofs.Common.{refl, rules, ap, ◌∙◌, slice_set, Some}
use Rattle.maple_base.specs.declared.items.Item.TheVariants.{Read}
use Rattle.maple_base.specs.Questions.{field_number, known}
use Rattle.trace_record.proofs.Tables.{fixed_now, put_at}
use Rattle.trace_record.proofs.asked_items.AskedItems.read.Goals as goal

pub invariant_of-self-2 : goal.invariant_of-self-2
invariant_of-self-2 c =
    let f = c.args.field in
    let v = c.get-value.result in
    let old = c.self.inside in
    rw (c.push_reserved.ensures.items, c.reserve.ensures.items, c.place.ensures)
    (fixed_now old.list.items (Read f v) f v old.known (slice_set old.known (field_number f) (Some v)) old.excluded (λ g. refl) (λ g w. refl) (ap (known f) c.self.view_is ∙ c.requires.new)
    (search rules) (put_at old.known f v c.self.invariant.long) c.self.invariant)
