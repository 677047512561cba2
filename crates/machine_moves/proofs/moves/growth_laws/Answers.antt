use Rattle.machine_moves.proofs.Growing.{connections_open, states_grow}
use Rattle.machine_moves.proofs.moves.growth_laws.Goals as goal

pub returns-clause-connections : goal.returns-clause-connections
returns-clause-connections c = connections_open

pub returns-clause-states : goal.returns-clause-states
returns-clause-states c = states_grow
