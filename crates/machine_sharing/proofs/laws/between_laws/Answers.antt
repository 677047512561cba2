use Rattle.machine_sharing.proofs.Frozen.{nothing_changes}
use Rattle.machine_sharing.proofs.Staying.{each_does_so, most_stays, since_stays}
use Rattle.machine_sharing.proofs.laws.between_laws.Goals as goal

pub returns : goal.returns
returns c = record { frozen = nothing_changes; stays = most_stays; since = since_stays; does = each_does_so }
