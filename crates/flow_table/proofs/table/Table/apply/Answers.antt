use Rattle.std.proofs.Common.{inr, sym, ap, ◌∙◌}
use Rattle.maple_base.specs.declared.decision.TableMod.{TableMod}
use Rattle.maple_base.specs.declared.decision.TableMod.TheVariants.{DeleteStrict, DeleteAll}
use Rattle.flow_table.specs.Effects.{answer_of}
use Rattle.flow_table.specs.Tables.{Entries}
use Rattle.flow_table.proofs.table.Table.apply.Goals as goal

pub invariant_of-self-in-DeleteStrict : goal.invariant_of-self-in-DeleteStrict
invariant_of-self-in-DeleteStrict c = c.delete_strict.ensures.kept c.self.inside.capacity c.self.invariant

pub invariant_of-self-in-DeleteAll : goal.invariant_of-self-in-DeleteAll
invariant_of-self-in-DeleteAll c = c.delete_all.ensures.kept c.self.inside.capacity c.self.invariant

pub returns-in-DeleteStrict-clause-answer : goal.returns-in-DeleteStrict-clause-answer
returns-in-DeleteStrict-clause-answer c =
    inr
    (c.delete_strict.ensures.answer c.self.inside.capacity
    ∙ ap (λ (a : Entries). answer_of (DeleteStrict c.in-DeleteStrict.of c.in-DeleteStrict.priority) a.rules a.capacity) c.self.view_is
    ∙ ap (λ (m : TableMod). answer_of m c.args.self.now.rules c.args.self.now.capacity) (sym c.in-DeleteStrict.is))

pub returns-in-DeleteStrict-clause-memory : goal.returns-in-DeleteStrict-clause-memory
returns-in-DeleteStrict-clause-memory c = λ m. let e = c.delete_strict.ensures.answer c.self.inside.capacity in absurd (cc)

pub returns-in-DeleteAll-clause-answer : goal.returns-in-DeleteAll-clause-answer
returns-in-DeleteAll-clause-answer c =
    inr
    (c.delete_all.ensures.answer c.self.inside.capacity
    ∙ ap (λ (a : Entries). answer_of DeleteAll a.rules a.capacity) c.self.view_is
    ∙ ap (λ (m : TableMod). answer_of m c.args.self.now.rules c.args.self.now.capacity) (sym c.in-DeleteAll.is))

pub returns-in-DeleteAll-clause-memory : goal.returns-in-DeleteAll-clause-memory
returns-in-DeleteAll-clause-memory c = λ m. let e = c.delete_all.ensures.answer c.self.inside.capacity in absurd (cc)
