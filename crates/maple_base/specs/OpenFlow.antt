-- Numbers that OpenFlow gives a meaning, beside those of ports (OpenFlow Switch Specification 1.0.0).
use Rattle.std.specs.Prelude.{ℕ}

-- no buffer: the bytes of the packet stand in the message (5.3.3, 5.3.6, 5.4.1)
abbrev pub no_buffer : ℕ
no_buffer = 0xffffffff

-- a change that is restricted to no port (5.2.1, OFPP_NONE)
abbrev pub no_port : ℕ
no_port = 0xffff

-- the commands of a change (5.3.3, ofp_flow_mod_command)
abbrev pub add_command : ℕ
add_command = 0

abbrev pub delete_command : ℕ
delete_command = 3

abbrev pub delete_strict_command : ℕ
delete_strict_command = 4
