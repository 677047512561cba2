use Rattle.std.proofs.Common.{ap, ◌∙◌}
use Rattle.std.specs.FinMap as map
use Rattle.std.specs.FinSet as set
use Rattle.env_cells.specs.Environment.{ports_in}
use Rattle.env_cells.proofs.Maps.{written, found, not_absent}
use Rattle.env_cells.proofs.number_map.NumberMap+UpPorts.lower.Goals as goal

pub returns : goal.returns
returns c =
    written c.self.inside.entries (c.get_mut.follows.lender c.remove.new.self) c.args.switch c.remove.new.self c.in-Some.up.now (c.get_mut.follows.holds c.remove.new.self) c.in-Some.ensures.value
    ∙ ap (map.insert (map.from_entries c.self.inside.entries.entries) c.args.switch) (c.remove.ensures ∙ ap (λ s. set.remove s c.args.port) (found c.self.inside.entries c.args.switch c.in-Some.up.now set.empty c.in-Some.ensures.value))
    ∙ ap (λ m. map.insert m c.args.switch (set.remove (ports_in m c.args.switch) c.args.port)) c.self.view_is

pub returns-in_default : goal.returns-in_default
returns-in_default c =
    absurd (not_absent c.self.inside.entries c.args.switch c.in_default.ensures.value (ap (λ m. map.contains_key m c.args.switch) c.self.view_is ∙ c.requires.known))
