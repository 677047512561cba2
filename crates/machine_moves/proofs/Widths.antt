-- The numbers of a normal match, of what a policy decides, and so of a rule, have their widths.
use Rattle.std.proofs.Common.{◌≡◌, ℕ, ◌^◌, ◌%◌, ◌<◌, Bool, true, List, [], ◌∷◌, length, refl, ap, ⊎_elim, arith}
use Rattle.std.specs.Prelude.{◌&&◌, ◌||◌, ◌==◌, nat_lt, nat_le, Option, Some, None, is_none}
use Rattle.std.specs.List.{list_all}
use Rattle.std.proofs.lemmas.Bool.{and_parts, and_from, or_cases, cond_both, eqb-true, lt-ltb, ltb-true, leb-true}
use Rattle.maple_base.specs.declared.cells.Place.{Place}
use Rattle.maple_base.specs.declared.decision.Decision.{Decision}
use Rattle.maple_base.specs.declared.decision.Decision.TheVariants.{Drop, Out, Flood, Path}
use Rattle.maple_base.specs.declared.decision.Outcome.TheVariants.{Decided}
use Rattle.maple_base.specs.declared.decision.Rule.{Rule}
use Rattle.maple_base.specs.declared.decision.TableMod.TheVariants.{Add, DeleteAll}
use Rattle.maple_base.specs.declared.key.Field.{Field}
use Rattle.maple_base.specs.declared.key.Field.TheVariants.{InPort, DlSrc, DlDst, DlVlan, DlType, NwTos, NwProto, NwSrc, NwDst, TpSrc, TpDst}
use Rattle.maple_base.specs.declared.key.Match.{Match}
use Rattle.maple_base.specs.Assigned.{ip_type, no_vlan}
use Rattle.maple_base.specs.Decisions.{hop_actions, actions_at}
use Rattle.maple_base.specs.Keys.{match_normal, link_normal, net_normal, transport_normal, in_domain, fixed_within, fixed_to, fixed_ports}
use Rattle.maple_base.specs.Ports.{is_port, last_port}
use Rattle.of10_codec.specs.Written.{is_address, match_fits_fields}
use Rattle.of10_codec.specs.Laws.{has_bits, fixed_has_bits, match_has_bits, actions_have_bits}
use Rattle.policy_meaning.specs.PolicyLaws.{decides_ports}
use Rattle.priority_plan.specs.Rules.{first_switch, fact_actions}
use Rattle.update_plan.specs.Batches.{deletion}
use Rattle.machine_moves.proofs.Few.{FewPorts}
use Rattle.machine_moves.proofs.Offers.{ChangeFits}

-- ---- a normal match

link_parts : (a b c d e f : Bool) → (a && b && c && d && e && f) ≡ true → (a ≡ true) × (b ≡ true) × (c ≡ true) × (d ≡ true) × (e ≡ true) × (f ≡ true)
link_parts a b c d e f h =
    let five = and_parts (a && b && c && d && e) f h in
    let four = and_parts (a && b && c && d) e five.0 in
    let three = and_parts (a && b && c) d four.0 in
    let two = and_parts (a && b) c three.0 in
    let one = and_parts a b two.0 in
    (one.0, one.1, two.1, three.1, four.1, five.1)

net_parts : (a b c d e : Bool) → (a && b && c && d && e) ≡ true → (a ≡ true) × (b ≡ true) × (c ≡ true) × (d ≡ true)
net_parts a b c d e h =
    let four = and_parts (a && b && c && d) e h in
    let three = and_parts (a && b && c) d four.0 in
    let two = and_parts (a && b) c three.0 in
    let one = and_parts a b two.0 in
    (one.0, one.1, two.1, three.1)

ten_hold : (a b c d e f g h i j : Bool) → a ≡ true → b ≡ true → c ≡ true → d ≡ true → e ≡ true → f ≡ true → g ≡ true → h ≡ true → i ≡ true → j ≡ true → (a && b && c && d && e && f && g && h && i && j) ≡ true
ten_hold a b c d e f g h i j p q r s t u v w x y = rw (p, q, r, s, t, u, v, w, x, y)

-- a fixed number of a field's domain has these bits, where all of the domain have
fixed_bits : (f : Field) (width : ℕ) → ((n : ℕ) → in_domain f n ≡ true → has_bits width n ≡ true) → (v : Option ℕ) → fixed_within f v ≡ true → fixed_has_bits width v ≡ true
fixed_bits f width within None h = refl
fixed_bits f width within (Some n) h = within n h

vlan_bits : (n : ℕ) → in_domain DlVlan n ≡ true → has_bits 16 n ≡ true
vlan_bits n h =
    let below : n < 2 ^ 16 = ⊎_elim (λ low. let l = ltb-true n 4096 low in omega (arith, l)) (λ none. let e = eqb-true n no_vlan none in omega (arith, e)) (or_cases (nat_lt n 4096) (n == no_vlan) h) in
    lt-ltb n (2 ^ 16) below

open_bits : (v : Option ℕ) → is_none v ≡ true → fixed_has_bits 8 v ≡ true
open_bits None h = refl
open_bits (Some n) h = absurd (cc)

fixed_address : (v : Option ℕ) → fixed_within DlSrc v ≡ true → is_address v ≡ true
fixed_address None h = refl
fixed_address (Some n) h = h

pub record MatchFits (m : Match) : Type 0 where
  pub bits : match_has_bits m ≡ true
  pub fields : match_fits_fields m ≡ true

pub normal_fits : (m : Match) → match_normal m ≡ true → MatchFits m
normal_fits m h =
    let parts = and_parts (link_normal m && net_normal m) (transport_normal m) h in
    let both = and_parts (link_normal m) (net_normal m) parts.0 in
    let link = link_parts (fixed_within InPort m.in_port) (fixed_within DlSrc m.dl_src) (fixed_within DlDst m.dl_dst) (fixed_within DlVlan m.dl_vlan) (fixed_within DlType m.dl_type) (is_none m.dl_pcp) both.0 in
    let net = net_parts (fixed_within NwTos m.nw_tos) (fixed_within NwProto m.nw_proto) (fixed_within NwSrc m.nw_src) (fixed_within NwDst m.nw_dst)
    (fixed_to m.dl_type ip_type || (is_none m.nw_tos && is_none m.nw_proto && is_none m.nw_src && is_none m.nw_dst)) both.1 in
    let ports = and_parts (fixed_within TpSrc m.tp_src) (fixed_within TpDst m.tp_dst)
    (and_parts (fixed_within TpSrc m.tp_src && fixed_within TpDst m.tp_dst) ((fixed_to m.dl_type ip_type && fixed_ports m.nw_proto) || (is_none m.tp_src && is_none m.tp_dst)) parts.1).0 in
    record {
      bits = ten_hold (fixed_has_bits 16 m.in_port) (fixed_has_bits 16 m.dl_vlan) (fixed_has_bits 8 m.dl_pcp) (fixed_has_bits 16 m.dl_type) (fixed_has_bits 8 m.nw_tos) (fixed_has_bits 8 m.nw_proto)
          (fixed_has_bits 32 m.nw_src) (fixed_has_bits 32 m.nw_dst) (fixed_has_bits 16 m.tp_src) (fixed_has_bits 16 m.tp_dst)
          (fixed_bits InPort 16 (λ n k. k) m.in_port link.0) (fixed_bits DlVlan 16 vlan_bits m.dl_vlan link.3) (open_bits m.dl_pcp link.5) (fixed_bits DlType 16 (λ n k. k) m.dl_type link.4)
          (fixed_bits NwTos 8 (λ n k. (and_parts (nat_lt n (2 ^ 8)) (n % 4 == 0) k).0) m.nw_tos net.0) (fixed_bits NwProto 8 (λ n k. k) m.nw_proto net.1)
          (fixed_bits NwSrc 32 (λ n k. k) m.nw_src net.2) (fixed_bits NwDst 32 (λ n k. k) m.nw_dst net.3) (fixed_bits TpSrc 16 (λ n k. k) m.tp_src ports.0) (fixed_bits TpDst 16 (λ n k. k) m.tp_dst ports.1);
      fields = and_from (is_address m.dl_src) (is_address m.dl_dst) (fixed_address m.dl_src link.1) (fixed_address m.dl_dst link.2);
    }

-- ---- the ports of a decision

port_bits : (n : ℕ) → is_port n ≡ true → has_bits 16 n ≡ true
port_bits n h = let low = leb-true n last_port (and_parts (nat_le 1 n) (nat_le n last_port) h).1 in lt-ltb n (2 ^ 16) (omega (arith, low))

ports_bits : (ps : List ℕ) → list_all is_port ps ≡ true → list_all (has_bits 16) ps ≡ true
ports_bits [] h = refl
ports_bits (p ∷ ps) h = let parts = and_parts (is_port p) (list_all is_port ps) h in and_from (has_bits 16 p) (list_all (has_bits 16) ps) (port_bits p parts.0) (ports_bits ps parts.1)

hops_bits : (hops : List Place) (switch : ℕ) → list_all (λ hop. is_port hop.port) hops ≡ true → actions_have_bits (hop_actions hops switch) ≡ true
hops_bits [] switch h = refl
hops_bits (p ∷ ps) switch h =
    let parts = and_parts (is_port p.port) (list_all (λ hop. is_port hop.port) ps) h in
    cond_both (p.switch == switch) (p.port ∷ []) (hop_actions ps switch) (λ ports. actions_have_bits ports ≡ true) (λ e. ap (λ b. b && true) (port_bits p.port parts.0)) (λ e. hops_bits ps switch parts.1)

pub actions_fit : (d : Decision) (switch : ℕ) → decides_ports (Decided d) ≡ true → FewPorts (Decided d) → actions_have_bits (actions_at d switch) ≡ true
actions_fit Drop switch h few = refl
actions_fit (Out ps) switch h few = and_from (nat_lt (length ps) 17) (list_all (has_bits 16) ps) (lt-ltb (length ps) 17 (omega (arith, few))) (ports_bits ps h)
actions_fit Flood switch h few = refl
actions_fit (Path hops) switch h few = hops_bits hops switch h

pub fact_fits : (d : Decision) → decides_ports (Decided d) ≡ true → FewPorts (Decided d) → actions_have_bits (fact_actions d) ≡ true
fact_fits Drop h few = actions_fit Drop 0 h few
fact_fits (Out ps) h few = actions_fit (Out ps) 0 h few
fact_fits Flood h few = actions_fit Flood 0 h few
fact_fits (Path hops) h few = actions_fit (Path hops) (first_switch hops) h few

-- ---- a rule

pub record RuleFits (r : Rule) : Type 0 where
  pub normal : match_normal r.of ≡ true
  pub priority : r.priority < 2 ^ 16
  pub actions : actions_have_bits r.actions ≡ true
  pub cookie : r.cookie ≡ 0
  pub idle : r.idle ≡ 0

flow_bits : (m c o i p a : Bool) → m ≡ true → c ≡ true → o ≡ true → i ≡ true → p ≡ true → a ≡ true → (m && c && o && i && true && p && true && true && true && a) ≡ true
flow_bits m c o i p a s t u v w x = rw (s, t, u, v, w, x)

pub addition_fits : (r : Rule) → RuleFits r → ChangeFits (Add r)
addition_fits r f =
    let m = normal_fits r.of f.normal in
    record {
      bits = flow_bits (match_has_bits r.of) (has_bits 64 r.cookie) true (has_bits 16 r.idle) (has_bits 16 r.priority) (actions_have_bits r.actions) m.bits (ap (has_bits 64) f.cookie) refl (ap (has_bits 16) f.idle)
          (lt-ltb r.priority (2 ^ 16) f.priority) f.actions;
      fields = m.fields;
      few = let few = ltb-true (length r.actions) 17 (and_parts (nat_lt (length r.actions) 17) (list_all (has_bits 16) r.actions) f.actions).0 in omega (arith, few);
    }

pub deletion_fits : (r : Rule) → RuleFits r → ChangeFits (deletion r)
deletion_fits r f =
    let m = normal_fits r.of f.normal in
    record {
      bits = flow_bits (match_has_bits r.of) true true true (has_bits 16 r.priority) true m.bits refl refl refl (lt-ltb r.priority (2 ^ 16) f.priority) refl;
      fields = m.fields;
      few = omega arith;
    }

pub clearing_fits : ChangeFits DeleteAll
clearing_fits = record { bits = refl; fields = refl; few = omega arith }
