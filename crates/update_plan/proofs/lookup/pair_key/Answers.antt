use Rattle.update_plan.specs.Lookups.{pair_key}
use Rattle.update_plan.proofs.lookup.pair_key.Goals as goal

pub returns : goal.returns
unfolding pair_key
returns c = cc (c.code16.ensures, c.flag.ensures, c.value_of.ensures, c.flag-2.ensures, c.value_of-2.ensures, c.code16-2.ensures, c.code8.ensures, c.code16-3.ensures, c.code8-2.ensures, c.code8-3.ensures, c.code32.ensures, c.code32-2.ensures, c.code16-4.ensures, c.code16-5.ensures)
