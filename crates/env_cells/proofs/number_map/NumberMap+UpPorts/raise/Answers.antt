use Rattle.std.proofs.Common.{ap, ◌∙◌}
use Rattle.std.specs.FinMap as map
use Rattle.std.specs.FinSet as set
use Rattle.env_cells.specs.Environment.{ports_in}
use Rattle.env_cells.proofs.Maps.{written, written_back, found, not_absent, on_err}
use Rattle.env_cells.proofs.number_map.NumberMap+UpPorts.raise.Goals as goal

pub returns-clause-ok : goal.returns-clause-ok
returns-clause-ok c =
    written c.self.inside.entries (c.get_mut.follows.lender c.insert.new.self) c.args.switch c.insert.new.self c.in-Some.up.now (c.get_mut.follows.holds c.insert.new.self) c.in-Some.ensures.value
    ∙ ap (map.insert (map.from_entries c.self.inside.entries.entries) c.args.switch) (c.in_ok-insert.ensures.ok ∙ ap (λ s. set.insert s c.args.port) (found c.self.inside.entries c.args.switch c.in-Some.up.now set.empty c.in-Some.ensures.value))
    ∙ ap (λ m. map.insert m c.args.switch (set.insert (ports_in m c.args.switch) c.args.port)) c.self.view_is

pub returns-in_default-clause-ok : goal.returns-in_default-clause-ok
returns-in_default-clause-ok c =
    absurd (not_absent c.self.inside.entries c.args.switch c.in_default.ensures.value (ap (λ m. map.contains_key m c.args.switch) c.self.view_is ∙ c.requires.known))

pub returns-in_err-insert-clause-err : goal.returns-in_err-insert-clause-err
returns-in_err-insert-clause-err c =
    on_err _ (written_back c.self.inside.entries (c.get_mut.follows.lender c.insert.new.self) c.args.switch c.insert.new.self c.in-Some.up.now c.in_err-insert.ensures.err
    (c.get_mut.follows.holds c.insert.new.self) c.in-Some.ensures.value ∙ c.self.view_is)
