use Rattle.packet_workers.proofs.working.Task.+rounds.Given as goal

abbrev pub decreases-rounds : goal.decreases-rounds
decreases-rounds g a = a.left
