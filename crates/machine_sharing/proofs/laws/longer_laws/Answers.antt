use Rattle.machine_sharing.proofs.Longer.{allowed_stays, policies_stay, runs_are_admitted, settings_stay, three_stay, told_stays}
use Rattle.machine_sharing.proofs.laws.longer_laws.Goals as goal

pub returns : goal.returns
returns c = record { three = three_stay; allowed = allowed_stays; told = told_stays; settings = settings_stay; policies = policies_stay; runs = runs_are_admitted }
