use Rattle.std.proofs.Common.{[], Bool, length, sym, ap, ◌∙◌, set}
use Rattle.std.specs.Prelude.{◌==◌}
use Rattle.std.specs.List.{position}
use Rattle.switch_traces.specs.Traces.{Learnings}
use Rattle.machine_parts.proofs.Retiring.{has_place, told_there, put_there}
use Rattle.machine_parts.proofs.lists.retire.Goals as goal

pub unreachable-requires : goal.unreachable-requires
unreachable-requires c =
    let p : Learnings → Bool = λ l. l.switch == c.args.switch in
    has_place p c.args.learned.now.items c.requires.listed (sym c.in_default.is ∙ c.place_of.ensures ∙ ap (position p) c.deref.ensures.value)

pub returns-clause-told : goal.returns-clause-told
returns-clause-told c =
    let p : Learnings → Bool = λ l. l.switch == c.args.switch in
    let at = sym (c.place_of.ensures ∙ ap (position p) c.deref.ensures.value) ∙ c.in-Some.is in
    c.len-retired.ensures ∙ ap length (told_there c.args.switch c.args.learned.now.items c.in-Some.place c.index.result.now at c.index.ensures)

pub returns-clause-retired : goal.returns-clause-retired
returns-clause-retired c =
    let p : Learnings → Bool = λ l. l.switch == c.args.switch in
    let at = sym (c.place_of.ensures ∙ ap (position p) c.deref.ensures.value) ∙ c.in-Some.is in
    ap (set c.args.learned.now.items c.in-Some.place) c.clear.ensures
    ∙ put_there c.args.switch c.args.learned.now.items c.in-Some.place c.index_mut.result.now at c.index_mut.ensures.value []
