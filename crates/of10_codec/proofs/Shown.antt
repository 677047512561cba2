-- The one message that bytes can spell.
use Rattle.std.proofs.Common.{◌≡◌, ℕ, ◌+◌, ◌*◌, ◌-◌, ◌/◌, false, List, length, drop, refl, sym, ap, ◌∙◌, arith}
use Rattle.std.specs.Prelude.{◌==◌, if◌then◌else◌}
use Rattle.maple_base.specs.declared.key.Match.{Match}
use Rattle.maple_base.specs.NetworkOrder.{number_at}
use Rattle.of10_codec.specs.declared.message.Message.{Message}
use Rattle.of10_codec.specs.declared.message.Body.{Body}
use Rattle.of10_codec.specs.declared.message.Body.TheVariants.{Hello, Error, EchoRequest, EchoReply, FeaturesRequest, FeaturesReply, SetConfig, PacketIn, FlowRemoved, PortStatus, PacketOut, FlowMod, BarrierRequest, BarrierReply, Other}
use Rattle.of10_codec.specs.Types.{type_of, is_named}
use Rattle.of10_codec.specs.Matches.{SpellsMatch, unless, is_wild, is_all, wild_bits}
use Rattle.of10_codec.specs.Messages.{Spelled, SpellsBody, version_of}
use Rattle.of10_codec.specs.Lent.{ports_in}
use Rattle.of10_codec.specs.Reading.{port_in}
use Rattle.of10_codec.specs.Laws.{OneMessage}
use Rattle.of10_codec.proofs.Steps.{neither}
use Rattle.of10_codec.proofs.Outputs.{outputs_in, outputs_shown}
use Rattle.of10_codec.proofs.PortLists.{ports_shown, port_shown}

abbrev pub match_in : List ℕ → Match
match_in b = record {
  in_port = unless (is_wild 0 b) (number_at 4 2 b);
  dl_src = unless (is_wild 2 b) (number_at 6 6 b);
  dl_dst = unless (is_wild 3 b) (number_at 12 6 b);
  dl_vlan = unless (is_wild 1 b) (number_at 18 2 b);
  dl_pcp = unless (is_wild 20 b) (number_at 20 1 b);
  dl_type = unless (is_wild 4 b) (number_at 22 2 b);
  nw_tos = unless (is_wild 21 b) (number_at 24 1 b);
  nw_proto = unless (is_wild 5 b) (number_at 25 1 b);
  nw_src = unless (is_all (wild_bits 8 b)) (number_at 28 4 b);
  nw_dst = unless (is_all (wild_bits 14 b)) (number_at 32 4 b);
  tp_src = unless (is_wild 6 b) (number_at 36 2 b);
  tp_dst = unless (is_wild 7 b) (number_at 38 2 b);
}

pub match_shown : (m : Match) (b : List ℕ) → SpellsMatch m b → m ≡ match_in b
match_shown m b s = λ i. record {
  in_port = s.in_port i;
  dl_src = s.dl_src i;
  dl_dst = s.dl_dst i;
  dl_vlan = s.dl_vlan i;
  dl_pcp = s.dl_pcp i;
  dl_type = s.dl_type i;
  nw_tos = s.nw_tos i;
  nw_proto = s.nw_proto i;
  nw_src = s.nw_src i;
  nw_dst = s.nw_dst i;
  tp_src = s.tp_src i;
  tp_dst = s.tp_dst i;
}

-- the body that bytes show as one of a type
abbrev pub body_in : ℕ → List ℕ → Body
body_in kind b =
    if 0 == kind then Hello (number_at 0 1 b)
    else (if 1 == kind then Error (number_at 8 2 b) (number_at 10 2 b) (drop 12 b)
    else (if 2 == kind then EchoRequest (drop 8 b)
    else (if 3 == kind then EchoReply (drop 8 b)
    else (if 5 == kind then FeaturesRequest
    else (if 6 == kind then FeaturesReply (number_at 8 8 b) (ports_in ((length b - 32) / 48) (drop 32 b))
    else (if 9 == kind then SetConfig (number_at 10 2 b)
    else (if 10 == kind then PacketIn (number_at 8 4 b) (number_at 12 2 b) (number_at 14 2 b) (number_at 16 1 b) (drop 18 b)
    else (if 11 == kind then FlowRemoved (match_in (drop 8 b)) (number_at 48 8 b) (number_at 56 2 b) (number_at 58 1 b) (number_at 68 2 b)
    else (if 12 == kind then PortStatus (number_at 8 1 b) (port_in (drop 16 b))
    else (if 13 == kind then PacketOut (number_at 8 4 b) (number_at 12 2 b) (outputs_in (number_at 14 2 b / 8) (drop 16 b)) (drop (16 + 8 * (number_at 14 2 b / 8)) b)
    else (if 14 == kind then FlowMod (match_in (drop 8 b)) (number_at 48 8 b) (number_at 56 2 b) (number_at 58 2 b) (number_at 60 2 b) (number_at 62 2 b) (number_at 64 4 b) (number_at 68 2 b) (number_at 70 2 b) (outputs_in ((length b - 72) / 8) (drop 72 b))
    else (if 18 == kind then BarrierRequest
    else (if 19 == kind then BarrierReply
    else Other kind)))))))))))))

other_shown : (kind : ℕ) (b : List ℕ) → is_named kind ≡ false → Other kind ≡ body_in kind b
other_shown kind b h = grind (arith, neither)

pub body_shown : (m : Body) (b : List ℕ) → number_at 0 1 b ≡ version_of m → SpellsBody m b → m ≡ body_in (type_of m) b
body_shown (Hello version) b v s = ap Hello (sym v)
body_shown (Error kind code bytes) b v s = λ i. Error (sym s.is_error i) (sym s.is_code i) (sym s.rest i)
body_shown (EchoRequest bytes) b v s = ap EchoRequest (sym s)
body_shown (EchoReply bytes) b v s = ap EchoReply (sym s)
body_shown FeaturesRequest b v s = refl
body_shown (FeaturesReply dpid ports) b v s =
    let e : length ports ≡ (length b - 32) / 48 = omega (arith, s.len) in
    let p : ports ≡ ports_in ((length b - 32) / 48) (drop 32 b) = ports_shown ports (drop 32 b) s.are_ports ∙ ap (λ n. ports_in n (drop 32 b)) e in
    λ i. FeaturesReply (sym s.is_dpid i) (p i)
body_shown (SetConfig miss_send_len) b v s = ap SetConfig (sym s.is_miss_send_len)
body_shown (PacketIn buffer total in_port reason bytes) b v s = λ i. PacketIn (sym s.is_buffer i) (sym s.is_total i) (sym s.is_in_port i) (sym s.is_reason i) (sym s.rest i)
body_shown (FlowRemoved of cookie priority reason idle) b v s =
    λ i. FlowRemoved (match_shown of (drop 8 b) s.is_match i) (sym s.is_cookie i) (sym s.is_priority i) (sym s.is_reason i) (sym s.is_idle i)
body_shown (PortStatus reason port) b v s = λ i. PortStatus (sym s.is_reason i) (port_shown port (drop 16 b) s.is_port i)
body_shown (PacketOut buffer in_port actions bytes) b v s =
    let e : length actions ≡ number_at 14 2 b / 8 = omega (arith, s.actions_len) in
    let p : actions ≡ outputs_in (number_at 14 2 b / 8) (drop 16 b) = outputs_shown actions (drop 16 b) s.are_actions ∙ ap (λ n. outputs_in n (drop 16 b)) e in
    let r : bytes ≡ drop (16 + 8 * (number_at 14 2 b / 8)) b = sym s.rest ∙ ap (λ n. drop (16 + 8 * n) b) e in
    λ i. PacketOut (sym s.is_buffer i) (sym s.is_in_port i) (p i) (r i)
body_shown (FlowMod of cookie command idle hard priority buffer out_port flags actions) b v s =
    let e : length actions ≡ (length b - 72) / 8 = omega (arith, s.len) in
    let p : actions ≡ outputs_in ((length b - 72) / 8) (drop 72 b) = outputs_shown actions (drop 72 b) s.are_actions ∙ ap (λ n. outputs_in n (drop 72 b)) e in
    λ i. FlowMod (match_shown of (drop 8 b) s.is_match i) (sym s.is_cookie i) (sym s.is_command i) (sym s.is_idle i) (sym s.is_hard i) (sym s.is_priority i) (sym s.is_buffer i) (sym s.is_out_port i) (sym s.are_flags i) (p i)
body_shown BarrierRequest b v s = refl
body_shown BarrierReply b v s = refl
body_shown (Other kind) b v s = other_shown kind b s

-- the message that bytes show
abbrev pub message_in : List ℕ → Message
message_in b = record { xid = number_at 4 4 b; body = body_in (number_at 1 1 b) b }

pub message_shown : (m : Message) (b : List ℕ) → Spelled m b → m ≡ message_in b
message_shown m b s =
    let e : m.body ≡ body_in (number_at 1 1 b) b = body_shown m.body b s.header.version s.body ∙ ap (λ k. body_in k b) (sym s.header.kind) in
    λ i. record { xid = sym s.header.xid i; body = e i }

pub one_message : OneMessage
one_message m n b s t = message_shown m b s ∙ sym (message_shown n b t)
