-- A script's refusal is told by its number.
use Rattle.std.proofs.Common.{refl}
use Rattle.report_text.specs.declared.line.ScriptRefusal.TheVariants.{Grammar, TooLong, Switch}
use Rattle.report_text.specs.ScriptRefusals.{RefusalsAreNumbered}

pub refusal_back : RefusalsAreNumbered
refusal_back Grammar = refl
refusal_back TooLong = refl
refusal_back Switch = refl
