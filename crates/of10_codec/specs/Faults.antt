-- The first fault of bytes that spell no message.
use Rattle.std.specs.Prelude.{ℕ, zero, suc, ◌+◌, ◌-◌, ◌/◌, ◌%◌, Bool, true, false, not, ◌&&◌, ◌||◌, ◌==◌, nat_lt, nat_le, if◌then◌else◌, List, [], ◌∷◌, ◌++◌, length, drop, Option, Some, None}
use Rattle.maple_base.specs.NetworkOrder.{number_at}
use Rattle.of10_codec.specs.declared.fault.Bad.{Bad}
use Rattle.of10_codec.specs.declared.fault.Bad.TheVariants.{Short, Version, Length, Body}
use Rattle.of10_codec.specs.Types.{protocol_version, header_length, hello_type, error_type, features_request_type, features_reply_type, set_config_type, packet_in_type, flow_removed_type, port_status_type, packet_out_type, flow_mod_type, barrier_request_type, barrier_reply_type}
use Rattle.of10_codec.specs.Matches.{nw_src_bit, nw_dst_bit, wild_bits, is_whole}

-- this place, where the test fails
abbrev pub unless_so : Bool → ℕ → List ℕ
unless_so true place = []
unless_so false place = place ∷ []

-- how long a message of a type may be
abbrev pub is_length : ℕ → ℕ → Bool
is_length kind n =
    if kind == error_type then nat_le 12 n
    else (if kind == features_request_type || kind == barrier_request_type || kind == barrier_reply_type then n == header_length
    else (if kind == features_reply_type then nat_le 32 n && (n - 32) % 48 == 0
    else (if kind == set_config_type then n == 12
    else (if kind == packet_in_type then nat_le 18 n
    else (if kind == flow_removed_type then n == 88
    else (if kind == port_status_type then n == 64
    else (if kind == packet_out_type then nat_le 16 n
    else (if kind == flow_mod_type then nat_le 72 n && (n - 72) % 8 == 0
    else true))))))))

-- an address of the match is wildcarded in part: the wildcards, at offset 8
abbrev pub match_faults : List ℕ → List ℕ
match_faults b = unless_so (is_whole (wild_bits nw_src_bit (drop 8 b)) && is_whole (wild_bits nw_dst_bit (drop 8 b))) 8

-- an action of 8 bytes that sends out of a port
abbrev pub is_output : List ℕ → Bool
is_output b = number_at 0 2 b == 0 && number_at 2 2 b == 8

-- of so many actions from a place on: each that does not send out of a port, and the first past so many
abbrev pub action_faults : ℕ → ℕ → ℕ → List ℕ → List ℕ
action_faults zero room place b = []
action_faults (suc n) zero place b = place ∷ []
action_faults (suc n) (suc room) place b = unless_so (is_output (drop place b)) place ++ action_faults n room (place + 8) b

-- the actions of a packet to be sent fill whole actions and stand in the message
abbrev pub are_whole : ℕ → ℕ → Bool
are_whole len n = len % 8 == 0 && nat_le (16 + len) n

-- the offsets of faulty fields, in ascending order
abbrev pub field_faults : ℕ → List ℕ → List ℕ
field_faults kind b =
    if kind == flow_removed_type then match_faults b
    else (if kind == port_status_type then unless_so (nat_le (number_at 8 1 b) 2) 8
    else (if kind == packet_out_type then unless_so (are_whole (number_at 14 2 b) (length b)) 14 ++ action_faults (number_at 14 2 b / 8) 16 16 b
    else (if kind == flow_mod_type then match_faults b ++ action_faults ((length b - 72) / 8) 16 72 b
    else [])))

-- the offsets of what is wrong in a message of a type, in ascending order; that of its length is 2
abbrev pub body_faults : ℕ → List ℕ → List ℕ
body_faults kind b = unless_so (is_length kind (length b)) 2 ++ field_faults kind b

abbrev pub first_fault : ℕ → List ℕ → Option Bad
first_fault kind [] = None
first_fault kind (place ∷ places) = Some (Body kind place)

-- the version is one that is not read
abbrev pub is_foreign : List ℕ → Bool
is_foreign b = not (number_at 1 1 b == hello_type) && not (number_at 0 1 b == protocol_version)

-- the length in the header is not that of the bytes, or less than a header's
abbrev pub is_misfit : List ℕ → Bool
is_misfit b = nat_lt (number_at 2 2 b) header_length || not (number_at 2 2 b == length b)

-- the first fault: of the length of a header, the version, the length, and then the body
abbrev pub bad_of : List ℕ → Option Bad
bad_of b =
    if nat_lt (length b) header_length then Some Short
    else (if is_foreign b then Some Version
    else (if is_misfit b then Some Length
    else first_fault (number_at 1 1 b) (body_faults (number_at 1 1 b) b)))

-- the number by which a fault is told
abbrev pub fault_number : Bad → ℕ
fault_number Short = 1
fault_number Version = 2
fault_number Length = 3
fault_number (Body kind offset) = 4
