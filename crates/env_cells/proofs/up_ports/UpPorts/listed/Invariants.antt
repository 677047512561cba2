use Rattle.std.proofs.Common.{◌≡◌, take}
use Rattle.env_cells.specs.Listed.{listed_up}
use Rattle.env_cells.proofs.up_ports.UpPorts.listed.Given as goal

abbrev pub invariant-loop-port : goal.invariant-loop-port
invariant-loop-port l = l.up ≡ listed_up (take l.port-index l.ports)
