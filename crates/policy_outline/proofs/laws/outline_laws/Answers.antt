use Rattle.policy_outline.proofs.CountedLimits.{free_passes_none}
use Rattle.policy_outline.proofs.Outlines.{one_fault, fault_or_outline}
use Rattle.policy_outline.proofs.laws.outline_laws.Goals as goal

pub returns : goal.returns
returns c = record { free = free_passes_none; one = one_fault; outline = fault_or_outline }
