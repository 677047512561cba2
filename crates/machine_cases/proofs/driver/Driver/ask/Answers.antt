-- Runs that are kept may be committed behind any entry.
use Rattle.machine_cases.proofs.Kept.{driven_stays}
use Rattle.machine_cases.proofs.driver.Driver.ask.Goals as goal

pub invariant_of-self : goal.invariant_of-self
invariant_of-self c = driven_stays c.self.inside.core c.step.new.self c.args.entry c.step.result c.self.inside.budget c.self.inside.runs.items c.step.ensures.step c.self.invariant
