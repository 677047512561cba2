-- The numbers of a switch's physical ports (OpenFlow Switch Specification 1.0.0, 5.2.1: they end at OFPP_MAX, 0xff00).
use Rattle.std.specs.Prelude.{ℕ, Bool, ◌&&◌, nat_le}

-- the last of them
abbrev pub last_port : ℕ
last_port = 65280

-- the numbers that stand for all ports but the one that a packet came in by (OFPP_FLOOD), and for the controller (OFPP_CONTROLLER)
abbrev pub flood_port : ℕ
flood_port = 0xfffb

abbrev pub controller_port : ℕ
controller_port = 0xfffd

-- a packet can be sent out of the port of this number
abbrev pub is_port : ℕ → Bool
is_port n = nat_le 1 n && nat_le n last_port
