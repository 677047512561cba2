-- Equal matches, and rules of one match and priority.
use Rattle.std.proofs.Common.{◌≡◌, ℕ, Bool, true, false, eqb, Option, Some, None, refl, sym, ap, ◌∙◌}
use Rattle.std.specs.Prelude.{◌&&◌, ◌==◌}
use Rattle.std.specs.Option.{option_eq}
use Rattle.std.proofs.lemmas.Bool.{and_parts, and_from, eqb-true, eq-eqb}
use Rattle.maple_base.specs.declared.key.Match.{Match}
use Rattle.maple_base.specs.declared.decision.Rule.{Rule}
use Rattle.flow_table.specs.Effects.{alike, same_link, same_net, same_transport, same_match, is_at}

alike_is : (o p : Option ℕ) → alike o p ≡ true → o ≡ p
alike_is None None h = refl
alike_is (Some v) (Some w) h = ap Some (eqb-true v w h)
alike_is None (Some w) h = absurd (cc)
alike_is (Some v) None h = absurd (cc)

alike_itself : (o : Option ℕ) → alike o o ≡ true
alike_itself None = refl
alike_itself (Some v) = eq-eqb v v refl

record LinkIs (m n : Match) : Type 0 where
  in_port : m.in_port ≡ n.in_port
  dl_src : m.dl_src ≡ n.dl_src
  dl_dst : m.dl_dst ≡ n.dl_dst
  dl_vlan : m.dl_vlan ≡ n.dl_vlan
  dl_pcp : m.dl_pcp ≡ n.dl_pcp
  dl_type : m.dl_type ≡ n.dl_type

record NetIs (m n : Match) : Type 0 where
  nw_tos : m.nw_tos ≡ n.nw_tos
  nw_proto : m.nw_proto ≡ n.nw_proto
  nw_src : m.nw_src ≡ n.nw_src
  nw_dst : m.nw_dst ≡ n.nw_dst

link_is : (m n : Match) → same_link m n ≡ true → LinkIs m n
link_is m n h =
    let e = and_parts (alike m.in_port n.in_port && alike m.dl_src n.dl_src && alike m.dl_dst n.dl_dst && alike m.dl_vlan n.dl_vlan && alike m.dl_pcp n.dl_pcp) (alike m.dl_type n.dl_type) h in
    let d = and_parts (alike m.in_port n.in_port && alike m.dl_src n.dl_src && alike m.dl_dst n.dl_dst && alike m.dl_vlan n.dl_vlan) (alike m.dl_pcp n.dl_pcp) e.0 in
    let c = and_parts (alike m.in_port n.in_port && alike m.dl_src n.dl_src && alike m.dl_dst n.dl_dst) (alike m.dl_vlan n.dl_vlan) d.0 in
    let b = and_parts (alike m.in_port n.in_port && alike m.dl_src n.dl_src) (alike m.dl_dst n.dl_dst) c.0 in
    let a = and_parts (alike m.in_port n.in_port) (alike m.dl_src n.dl_src) b.0 in
    record {
      in_port = alike_is m.in_port n.in_port a.0;
      dl_src = alike_is m.dl_src n.dl_src a.1;
      dl_dst = alike_is m.dl_dst n.dl_dst b.1;
      dl_vlan = alike_is m.dl_vlan n.dl_vlan c.1;
      dl_pcp = alike_is m.dl_pcp n.dl_pcp d.1;
      dl_type = alike_is m.dl_type n.dl_type e.1;
    }

net_is : (m n : Match) → same_net m n ≡ true → NetIs m n
net_is m n h =
    let c = and_parts (alike m.nw_tos n.nw_tos && alike m.nw_proto n.nw_proto && alike m.nw_src n.nw_src) (alike m.nw_dst n.nw_dst) h in
    let b = and_parts (alike m.nw_tos n.nw_tos && alike m.nw_proto n.nw_proto) (alike m.nw_src n.nw_src) c.0 in
    let a = and_parts (alike m.nw_tos n.nw_tos) (alike m.nw_proto n.nw_proto) b.0 in
    record {
      nw_tos = alike_is m.nw_tos n.nw_tos a.0;
      nw_proto = alike_is m.nw_proto n.nw_proto a.1;
      nw_src = alike_is m.nw_src n.nw_src b.1;
      nw_dst = alike_is m.nw_dst n.nw_dst c.1;
    }

pub same_is : (m n : Match) → same_match m n ≡ true → m ≡ n
same_is m n h =
    let b = and_parts (same_link m n && same_net m n) (same_transport m n) h in
    let a = and_parts (same_link m n) (same_net m n) b.0 in
    let t = and_parts (alike m.tp_src n.tp_src) (alike m.tp_dst n.tp_dst) b.1 in
    let link = link_is m n a.0 in
    let net = net_is m n a.1 in
    let src = alike_is m.tp_src n.tp_src t.0 in
    let dst = alike_is m.tp_dst n.tp_dst t.1 in
    λ i. record {
      in_port = link.in_port i;
      dl_src = link.dl_src i;
      dl_dst = link.dl_dst i;
      dl_vlan = link.dl_vlan i;
      dl_pcp = link.dl_pcp i;
      dl_type = link.dl_type i;
      nw_tos = net.nw_tos i;
      nw_proto = net.nw_proto i;
      nw_src = net.nw_src i;
      nw_dst = net.nw_dst i;
      tp_src = src i;
      tp_dst = dst i;
    }

pub same_itself : (m : Match) → same_match m m ≡ true
same_itself m =
    and_from _ _
    (and_from _ _
    (and_from _ _ (and_from _ _ (and_from _ _ (and_from _ _ (and_from _ _ (alike_itself m.in_port) (alike_itself m.dl_src)) (alike_itself m.dl_dst)) (alike_itself m.dl_vlan)) (alike_itself m.dl_pcp)) (alike_itself m.dl_type))
    (and_from _ _ (and_from _ _ (and_from _ _ (alike_itself m.nw_tos) (alike_itself m.nw_proto)) (alike_itself m.nw_src)) (alike_itself m.nw_dst)))
    (and_from _ _ (alike_itself m.tp_src) (alike_itself m.tp_dst))

pub same_of : (m n : Match) → m ≡ n → same_match m n ≡ true
same_of m n e = ap (λ x. same_match m x) (sym e) ∙ same_itself m

pub at_is : (of : Match) (priority : ℕ) (r : Rule) → is_at of priority r ≡ true → (r.of ≡ of) × (r.priority ≡ priority)
at_is of priority r h =
    let p = and_parts (same_match r.of of) (r.priority == priority) h in
    (same_is r.of of p.0, eqb-true r.priority priority p.1)

pub at_of : (of : Match) (priority : ℕ) (r : Rule) → r.of ≡ of → r.priority ≡ priority → is_at of priority r ≡ true
at_of of priority r e p = and_from _ _ (same_of r.of of e) (eq-eqb r.priority priority p)

-- the derived test of two matches, field by field
equal_option : (o p : Option ℕ) → option_eq eqb o p ≡ alike o p
equal_option None None = refl
equal_option (Some v) (Some w) = refl
equal_option None (Some w) = refl
equal_option (Some v) None = refl

regrouped : (a b c d e f g h i j k l : Bool) → (a && (b && (c && (d && (e && (f && (g && (h && (i && (j && (k && l))))))))))) ≡ ((a && b && c && d && e && f) && (g && h && i && j) && (k && l))
regrouped false b c d e f g h i j k l = refl
regrouped true false c d e f g h i j k l = refl
regrouped true true false d e f g h i j k l = refl
regrouped true true true false e f g h i j k l = refl
regrouped true true true true false f g h i j k l = refl
regrouped true true true true true false g h i j k l = refl
regrouped true true true true true true false h i j k l = refl
regrouped true true true true true true true false i j k l = refl
regrouped true true true true true true true true false j k l = refl
regrouped true true true true true true true true true false k l = refl
regrouped true true true true true true true true true true false l = refl
regrouped true true true true true true true true true true true false = refl
regrouped true true true true true true true true true true true true = refl

pub equal_is : (m n : Match) → (option_eq eqb m.in_port n.in_port && (option_eq eqb m.dl_src n.dl_src && (option_eq eqb m.dl_dst n.dl_dst && (option_eq eqb m.dl_vlan n.dl_vlan && (option_eq eqb m.dl_pcp n.dl_pcp && (option_eq eqb m.dl_type n.dl_type && (option_eq eqb m.nw_tos n.nw_tos && (option_eq eqb m.nw_proto n.nw_proto && (option_eq eqb m.nw_src n.nw_src && (option_eq eqb m.nw_dst n.nw_dst && (option_eq eqb m.tp_src n.tp_src && option_eq eqb m.tp_dst n.tp_dst))))))))))) ≡ same_match m n
equal_is m n =
    simp equal_option
    (regrouped (alike m.in_port n.in_port) (alike m.dl_src n.dl_src) (alike m.dl_dst n.dl_dst) (alike m.dl_vlan n.dl_vlan) (alike m.dl_pcp n.dl_pcp) (alike m.dl_type n.dl_type) (alike m.nw_tos n.nw_tos) (alike m.nw_proto n.nw_proto) (alike m.nw_src n.nw_src) (alike m.nw_dst n.nw_dst) (alike m.tp_src n.tp_src) (alike m.tp_dst n.tp_dst))
