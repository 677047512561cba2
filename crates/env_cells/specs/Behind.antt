-- What an update brings of its own.
use Rattle.std.specs.FinSet as set
use Rattle.env_cells.specs.declared.updates.Update.{Update}
use Rattle.env_cells.specs.declared.updates.Update.TheVariants.{Switch}
use Rattle.env_cells.specs.Environment.{PortSet}
use Rattle.env_cells.specs.Listed.{listed_up}

-- the up ports that an update lists
abbrev pub listed_in : Update → PortSet
listed_in (Switch switch ports) = listed_up ports
listed_in u = set.empty
