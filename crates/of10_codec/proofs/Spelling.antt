-- What is written spells its message.
use Rattle.std.proofs.Common.{◌≡◌, ℕ, ◌+◌, ◌*◌, ◌^◌, ◌<◌, ◌≤◌, true, List, [], ◌++◌, length, refl, sym, subst, ◌∙◌, arith, append-nil, length-append}
use Rattle.std.specs.Prelude.{◌&&◌, nat_lt}
use Rattle.std.specs.List.{list_all}
use Rattle.std.specs.Slice.Scan.{big_endian}
use Rattle.std.proofs.lemmas.Bool.{ltb-true, leb-true, and_parts, not-true}
use Rattle.std.proofs.lemmas.List.{drop-drop}
use Rattle.of10_codec.specs.declared.message.Body.{Body}
use Rattle.of10_codec.specs.declared.message.Body.TheVariants.{Hello, Error, EchoRequest, EchoReply, FeaturesRequest, FeaturesReply, SetConfig, PacketIn, FlowRemoved, PortStatus, PacketOut, FlowMod, BarrierRequest, BarrierReply, Other}
use Rattle.of10_codec.specs.Types.{type_of, is_named}
use Rattle.of10_codec.specs.Messages.{SpellsHeader, SpellsBody, SpellsOutputs, version_of}
use Rattle.maple_base.specs.NetworkOrder.{number, zeros}
use Rattle.of10_codec.specs.Written.{with_header, written_body, written_outputs, sent_body, fits_fields}
use Rattle.of10_codec.specs.Laws.{has_bits, match_has_bits, port_has_bits, actions_have_bits, body_has_bits, Spells}
use Rattle.maple_base.proofs.NumberBack.{number_back}
use Rattle.of10_codec.proofs.MatchBack.{match_back}
use Rattle.of10_codec.proofs.ListBack.{outputs_back, outputs_length, behind_outputs, port_back, ports_back, ports_length}

version_sent : (body : Body) → 1 ≡ version_of (sent_body body)
version_sent (Hello version) = refl
version_sent (Error kind code bytes) = refl
version_sent (EchoRequest bytes) = refl
version_sent (EchoReply bytes) = refl
version_sent FeaturesRequest = refl
version_sent (FeaturesReply dpid ports) = refl
version_sent (SetConfig miss_send_len) = refl
version_sent (PacketIn buffer total in_port reason bytes) = refl
version_sent (FlowRemoved of cookie priority reason idle) = refl
version_sent (PortStatus reason port) = refl
version_sent (PacketOut buffer in_port actions bytes) = refl
version_sent (FlowMod of cookie command idle hard priority buffer out_port flags actions) = refl
version_sent BarrierRequest = refl
version_sent BarrierReply = refl
version_sent (Other kind) = refl

-- the type is read back, and a message is sent with its own
type_sent : (body : Body) → body_has_bits body ≡ true → big_endian 0 (number 1 (type_of body)) ≡ type_of (sent_body body)
type_sent (Hello version) bits = refl
type_sent (Error kind code bytes) bits = refl
type_sent (EchoRequest bytes) bits = refl
type_sent (EchoReply bytes) bits = refl
type_sent FeaturesRequest bits = refl
type_sent (FeaturesReply dpid ports) bits = refl
type_sent (SetConfig miss_send_len) bits = refl
type_sent (PacketIn buffer total in_port reason bytes) bits = refl
type_sent (FlowRemoved of cookie priority reason idle) bits = refl
type_sent (PortStatus reason port) bits = refl
type_sent (PacketOut buffer in_port actions bytes) bits = refl
type_sent (FlowMod of cookie command idle hard priority buffer out_port flags actions) bits = refl
type_sent BarrierRequest bits = refl
type_sent BarrierReply bits = refl
type_sent (Other kind) bits = number_back 1 kind (ltb-true kind (2 ^ 8) bits)

header_back : (xid : ℕ) (body : Body) → has_bits 32 xid ≡ true → body_has_bits body ≡ true → 8 + length (written_body body) ≤ 65535
    → SpellsHeader (record { xid = xid; body = sent_body body }) (with_header (type_of body) xid (written_body body))
header_back xid body xid_bits bits short = record {
  long = omega arith;
  version = version_sent body;
  kind = type_sent body bits;
  whole = number_back 2 (8 + length (written_body body)) (omega arith) ∙ omega arith;
  xid = number_back 4 xid (ltb-true xid (2 ^ 32) xid_bits);
}

-- outputs with nothing behind them
last_outputs : (ports : List ℕ) → list_all (has_bits 16) ports ≡ true → SpellsOutputs ports (written_outputs ports)
last_outputs ports bits = subst (SpellsOutputs ports) (append-nil (written_outputs ports)) (outputs_back ports [] bits)

body_back : (xid : ℕ) (body : Body) → body_has_bits body ≡ true → fits_fields body ≡ true → 8 + length (written_body body) ≤ 65535
    → SpellsBody (sent_body body) (with_header (type_of body) xid (written_body body))
body_back xid (Hello version) bits fits short = tt
body_back xid (Error kind code bytes) bits fits short =
    let parts = and_parts (has_bits 16 kind) (has_bits 16 code) bits in
    record {
      long = omega arith;
      is_error = number_back 2 kind (ltb-true kind (2 ^ 16) parts.0);
      is_code = number_back 2 code (ltb-true code (2 ^ 16) parts.1);
      rest = refl;
    }
body_back xid (EchoRequest bytes) bits fits short = refl
body_back xid (EchoReply bytes) bits fits short = refl
body_back xid FeaturesRequest bits fits short = refl
body_back xid (FeaturesReply dpid ports) bits fits short =
    let parts = and_parts (has_bits 64 dpid) (list_all port_has_bits ports) bits in
    record {
      len = omega (arith, ports_length ports);
      is_dpid = number_back 8 dpid (ltb-true dpid (2 ^ 64) parts.0);
      are_ports = ports_back ports parts.1;
    }
body_back xid (SetConfig miss_send_len) bits fits short =
    record { len = refl; is_miss_send_len = number_back 2 miss_send_len (ltb-true miss_send_len (2 ^ 16) bits) }
body_back xid (PacketIn buffer total in_port reason bytes) bits fits short =
    let first = and_parts (has_bits 32 buffer && has_bits 16 total && has_bits 16 in_port) (has_bits 8 reason) bits in
    let second = and_parts (has_bits 32 buffer && has_bits 16 total) (has_bits 16 in_port) first.0 in
    let third = and_parts (has_bits 32 buffer) (has_bits 16 total) second.0 in
    record {
      long = omega arith;
      is_buffer = number_back 4 buffer (ltb-true buffer (2 ^ 32) third.0);
      is_total = number_back 2 total (ltb-true total (2 ^ 16) third.1);
      is_in_port = number_back 2 in_port (ltb-true in_port (2 ^ 16) second.1);
      is_reason = number_back 1 reason (ltb-true reason (2 ^ 8) first.1);
      rest = refl;
    }
body_back xid (FlowRemoved of cookie priority reason idle) bits fits short =
    let first = and_parts _ (has_bits 16 idle) bits in
    let second = and_parts _ (has_bits 8 reason) first.0 in
    let third = and_parts _ (has_bits 16 priority) second.0 in
    let fourth = and_parts (match_has_bits of) (has_bits 64 cookie) third.0 in
    record {
      len = refl;
      is_match = match_back of (number 8 cookie ++ number 2 priority ++ number 1 reason ++ zeros 1 ++ zeros 8 ++ number 2 idle ++ zeros 18) fourth.0 fits;
      is_cookie = number_back 8 cookie (ltb-true cookie (2 ^ 64) fourth.1);
      is_priority = number_back 2 priority (ltb-true priority (2 ^ 16) third.1);
      is_reason = number_back 1 reason (ltb-true reason (2 ^ 8) second.1);
      is_idle = number_back 2 idle (ltb-true idle (2 ^ 16) first.1);
    }
body_back xid (PortStatus reason port) bits fits short =
    let parts = and_parts (has_bits 8 reason) (port_has_bits port) bits in
    record {
      len = refl;
      is_reason = number_back 1 reason (ltb-true reason (2 ^ 8) parts.0);
      known = leb-true reason 2 fits;
      is_port = port_back port [] parts.1;
    }
body_back xid (PacketOut buffer in_port actions bytes) bits fits short =
    let first = and_parts (has_bits 32 buffer && has_bits 16 in_port) (actions_have_bits actions) bits in
    let second = and_parts (has_bits 32 buffer) (has_bits 16 in_port) first.0 in
    let outputs = and_parts (nat_lt (length actions) 17) (list_all (has_bits 16) actions) first.1 in
    let few : length actions < 17 = ltb-true (length actions) 17 outputs.0 in
    record {
      few = omega arith;
      long = omega (arith, outputs_length actions, length-append (written_outputs actions) bytes);
      is_buffer = number_back 4 buffer (ltb-true buffer (2 ^ 32) second.0);
      is_in_port = number_back 2 in_port (ltb-true in_port (2 ^ 16) second.1);
      actions_len = number_back 2 (8 * length actions) (omega arith);
      are_actions = outputs_back actions bytes outputs.1;
      rest = sym (drop-drop (8 * length actions) 16 (with_header 13 xid (written_body (PacketOut buffer in_port actions bytes)))) ∙ behind_outputs actions bytes;
    }
body_back xid (FlowMod of cookie command idle hard priority buffer out_port flags actions) bits fits short =
    let first = and_parts _ (actions_have_bits actions) bits in
    let second = and_parts _ (has_bits 16 flags) first.0 in
    let third = and_parts _ (has_bits 16 out_port) second.0 in
    let fourth = and_parts _ (has_bits 32 buffer) third.0 in
    let fifth = and_parts _ (has_bits 16 priority) fourth.0 in
    let sixth = and_parts _ (has_bits 16 hard) fifth.0 in
    let seventh = and_parts _ (has_bits 16 idle) sixth.0 in
    let eighth = and_parts _ (has_bits 16 command) seventh.0 in
    let ninth = and_parts (match_has_bits of) (has_bits 64 cookie) eighth.0 in
    let outputs = and_parts (nat_lt (length actions) 17) (list_all (has_bits 16) actions) first.1 in
    let few : length actions < 17 = ltb-true (length actions) 17 outputs.0 in
    record {
      few = omega arith;
      len = omega (arith, outputs_length actions);
      is_match = match_back of (number 8 cookie ++ number 2 command ++ number 2 idle ++ number 2 hard ++ number 2 priority ++ number 4 buffer ++ number 2 out_port ++ number 2 flags ++ written_outputs actions) ninth.0 fits;
      is_cookie = number_back 8 cookie (ltb-true cookie (2 ^ 64) ninth.1);
      is_command = number_back 2 command (ltb-true command (2 ^ 16) eighth.1);
      is_idle = number_back 2 idle (ltb-true idle (2 ^ 16) seventh.1);
      is_hard = number_back 2 hard (ltb-true hard (2 ^ 16) sixth.1);
      is_priority = number_back 2 priority (ltb-true priority (2 ^ 16) fifth.1);
      is_buffer = number_back 4 buffer (ltb-true buffer (2 ^ 32) fourth.1);
      is_out_port = number_back 2 out_port (ltb-true out_port (2 ^ 16) third.1);
      are_flags = number_back 2 flags (ltb-true flags (2 ^ 16) second.1);
      are_actions = last_outputs actions outputs.1;
    }
body_back xid BarrierRequest bits fits short = refl
body_back xid BarrierReply bits fits short = refl
body_back xid (Other kind) bits fits short = not-true (is_named kind) fits

pub spells : Spells
spells m bits fits short =
    let parts = and_parts (has_bits 32 m.xid) (body_has_bits m.body) bits in
    record {
      header = header_back m.xid m.body parts.0 parts.1 (omega arith);
      body = body_back m.xid m.body parts.1 fits (omega arith);
    }
