-- The numbers of a match and a priority tell them, and look-ups by bisection find them.
use Rattle.std.proofs.Common.{◌≡◌, ℕ, true, false, List, get_or, Option, Some, None, Ok, Err, refl, sym, ap, ◌∙◌, ⊎_elim, arith}
use Rattle.std.specs.Prelude.{Contains}
use Rattle.std.specs.List.Sorted.{IsBinarySearchResult, IsPartitionPoint}
use Rattle.std.specs.declared.cmp.Ordering.{Ordering}
use Rattle.std.specs.declared.cmp.Ordering.TheVariants.{Less, Equal, Greater}
use Rattle.std.specs.Ordering.{nat_cmp}
use Rattle.std.specs.Cmp.Lexicographic.{slice_cmp, nat_list_cmp_total, texts_po, same_text}
use Rattle.std.proofs.lemmas.Bool.{cases_lt}
use Rattle.std.proofs.lemmas.Cmp.{tied_itself}
use Rattle.std.proofs.lemmas.List.Sorted.{searchable_from_sorted}
use Rattle.maple_base.specs.declared.key.Match.{Match}
use Rattle.maple_base.specs.declared.decision.Rule.{Rule}
use Rattle.flow_table.specs.Effects.{is_at, has_at}
use Rattle.flow_table.proofs.Matches.{at_is, at_of}
use Rattle.update_plan.specs.Lookups.{code, flag, value_of, pair_key, rule_key, IsIndex}
use Rattle.update_plan.proofs.Members.{none_any}

code_same : (o p : Option ℕ) → code o ≡ code p → o ≡ p
code_same None None e = refl
code_same (Some v) (Some w) e = let f : v ≡ w = omega (arith, e) in ap Some f
code_same None (Some w) e = absurd (omega (arith, e))
code_same (Some v) None e = absurd (omega (arith, e))

fixed_same : (o p : Option ℕ) → flag o ≡ flag p → value_of o ≡ value_of p → o ≡ p
fixed_same None None e f = refl
fixed_same (Some v) (Some w) e f = ap Some f
fixed_same None (Some w) e f = absurd (omega (arith, e))
fixed_same (Some v) None e f = absurd (omega (arith, e))

record ArePaired (m n : Match) (p q : ℕ) : Type 0 where
  matches : m ≡ n
  priorities : p ≡ q

key_same : (m n : Match) (p q : ℕ) → pair_key m p ≡ pair_key n q → ArePaired m n p q
unfolding pair_key
key_same m n p q e =
    let priority : p ≡ q = cc in
    let in_port : code m.in_port ≡ code n.in_port = cc in
    let src_flag : flag m.dl_src ≡ flag n.dl_src = cc in
    let src : value_of m.dl_src ≡ value_of n.dl_src = cc in
    let dst_flag : flag m.dl_dst ≡ flag n.dl_dst = cc in
    let dst : value_of m.dl_dst ≡ value_of n.dl_dst = cc in
    let vlan : code m.dl_vlan ≡ code n.dl_vlan = cc in
    let pcp : code m.dl_pcp ≡ code n.dl_pcp = cc in
    let type : code m.dl_type ≡ code n.dl_type = cc in
    let tos : code m.nw_tos ≡ code n.nw_tos = cc in
    let proto : code m.nw_proto ≡ code n.nw_proto = cc in
    let nw_src : code m.nw_src ≡ code n.nw_src = cc in
    let nw_dst : code m.nw_dst ≡ code n.nw_dst = cc in
    let tp_src : code m.tp_src ≡ code n.tp_src = cc in
    let tp_dst : code m.tp_dst ≡ code n.tp_dst = cc in
    record {
      matches = λ i. record {
        in_port = code_same m.in_port n.in_port in_port i;
        dl_src = fixed_same m.dl_src n.dl_src src_flag src i;
        dl_dst = fixed_same m.dl_dst n.dl_dst dst_flag dst i;
        dl_vlan = code_same m.dl_vlan n.dl_vlan vlan i;
        dl_pcp = code_same m.dl_pcp n.dl_pcp pcp i;
        dl_type = code_same m.dl_type n.dl_type type i;
        nw_tos = code_same m.nw_tos n.nw_tos tos i;
        nw_proto = code_same m.nw_proto n.nw_proto proto i;
        nw_src = code_same m.nw_src n.nw_src nw_src i;
        nw_dst = code_same m.nw_dst n.nw_dst nw_dst i;
        tp_src = code_same m.tp_src n.tp_src tp_src i;
        tp_dst = code_same m.tp_dst n.tp_dst tp_dst i;
      };
      priorities = priority;
    }

lists_same : (xs ys : List ℕ) → slice_cmp nat_cmp xs ys ≡ Equal → xs ≡ ys
lists_same xs ys e = same_text xs ys (sym ((texts_po.matches_eq xs ys).1 (ap Some e)))

abbrev key_cmp : Match → ℕ → Rule → Ordering
key_cmp of priority r = slice_cmp nat_cmp (rule_key r) (pair_key of priority)

equal_at : (of : Match) (priority : ℕ) (r : Rule) → key_cmp of priority r ≡ Equal → is_at of priority r ≡ true
equal_at of priority r e = let s = key_same r.of of r.priority priority (lists_same (rule_key r) (pair_key of priority) e) in at_of of priority r s.matches s.priorities

at_equal : (of : Match) (priority : ℕ) (r : Rule) → is_at of priority r ≡ true → key_cmp of priority r ≡ Equal
at_equal of priority r h =
    let t = at_is of priority r h in
    ap (λ m. slice_cmp nat_cmp (pair_key m r.priority) (pair_key of priority)) t.0
    ∙ ap (λ p. slice_cmp nat_cmp (pair_key of p) (pair_key of priority)) t.1
    ∙ tied_itself nat_list_cmp_total (pair_key of priority)

module _ (of : Match) (priority : ℕ) (rules : List Rule) where
  pub found_at : (i : ℕ) (r : Rule) → IsBinarySearchResult (key_cmp of priority) rules (Ok i) → r ≡ get_or rules i r → is_at of priority r ≡ true
  found_at i r h e = equal_at of priority r (ap (key_cmp of priority) e ∙ h r)

  pub none_found : (i : ℕ) → IsIndex rules → IsBinarySearchResult (key_cmp of priority) rules (Err i) → has_at of priority rules ≡ false
  none_found i index h = none_any (is_at of priority) rules (λ x c e. clash x c (at_equal of priority x e))
    where
      parted : IsPartitionPoint (λ y. key_cmp of priority y ≡ Less) (λ y. key_cmp of priority y ≡ Greater) rules i
      parted = h (searchable_from_sorted nat_list_cmp_total rule_key rules (pair_key of priority) index.sorted)

      clash : (x : Rule) → Contains rules x → key_cmp of priority x ≡ Equal → ⊥
      clash x c e = ⊎_elim
          (λ lt. let l = parted.0 c.0 x (omega arith) lt in let s = ap (key_cmp of priority) c.2 in absurd (cc))
          (λ le. let g = parted.1 c.0 x le c.1 in let s = ap (key_cmp of priority) c.2 in absurd (cc))
          (cases_lt c.0 i)
