-- The rules of traces can be sent to a switch, and so can the parts of an update from such rules to others.
use Rattle.std.proofs.Common.{◌≡◌, ℕ, ◌+◌, ◌^◌, ◌<◌, ◌≤◌, Bool, true, false, List, [], ◌∷◌, ◌++◌, length, refl, sym, subst, ⊎_elim, arith}
use Rattle.std.specs.Prelude.{Contains, map, if◌then◌else◌}
use Rattle.std.specs.List.{AllByRecursion}
use Rattle.std.proofs.lemmas.List.Elements.{Contains-append_cases, Contains-append_left, Contains-append_right}
use Rattle.std.proofs.lemmas.List.Sorted.{IsPermutation-sym, IsPermutation-append, Contains-permutation, length_permutation}
use Rattle.maple_base.specs.declared.decision.Rule.{Rule}
use Rattle.maple_base.specs.declared.decision.TableMod.{TableMod}
use Rattle.maple_base.specs.declared.decision.TableMod.TheVariants.{Add}
use Rattle.maple_base.specs.declared.key.Match.{Match}
use Rattle.maple_base.specs.declared.items.Item.{Item}
use Rattle.maple_base.specs.Keys.{anything}
use Rattle.maple_base.specs.RuleLists.{Rules}
use Rattle.of10_codec.specs.Laws.{Spells, actions_have_bits}
use Rattle.trace_tree.specs.declared.node.Leaf.{Leaf}
use Rattle.trace_tree.specs.declared.node.Trace.{Trace}
use Rattle.trace_tree.specs.Growth.{scratch}
use Rattle.priority_plan.specs.declared.rows.Row.{Row}
use Rattle.priority_plan.specs.Rules.{facts_of, barriers_of, fact_actions, rules_of as tree_rules}
use Rattle.priority_plan.specs.Standing.{rule_of}
use Rattle.priority_plan.proofs.Listed.{rule_stands}
use Rattle.priority_plan.proofs.Places.{levels_law}
use Rattle.rule_builder.specs.Laws.{NormalLaw}
use Rattle.rule_builder.proofs.Paths.{IsFrom, scratch_along, along_map, of_each}
use Rattle.update_plan.specs.Batches.{rules_of, no_rules, IsTarget, deletion, batch, first_adds, first_deletes, second_adds, second_deletes, IsSent, is_over, origin}
use Rattle.update_plan.specs.Laws.{LengthLaw, SentLaw, AreShort}
use Rattle.update_plan.proofs.Members.{none_in, in_filter, in_map}
use Rattle.switch_session.specs.declared.part.Part.{Part}
use Rattle.switch_session.specs.declared.part.Part.TheVariants.{Clearing}
use Rattle.switch_session.specs.Parts.{changes_of, changes_from, barrier_of, barrier_request, part_messages, batch_part, AreParts}
use Rattle.switch_traces.specs.Laws.{RulesAreList}
use Rattle.switch_traces.specs.Lists.{AreRulesOf, AreFit}
use Rattle.machine_steps.proofs.Sound.Zipped.{all_from, all_push}
use Rattle.machine_moves.specs.Sends.{CanBeOffered}
use Rattle.machine_moves.proofs.Offers.{ChangeFits, all_append, barrier_offered, changes_offered}
use Rattle.machine_moves.proofs.Widths.{RuleFits, addition_fits, deletion_fits, clearing_fits}

-- ---- rules of traces

-- what no fact and no barrier lacks
record RowFits (r : Rule) : Type 0 where
  pub actions : actions_have_bits r.actions ≡ true
  pub cookie : r.cookie ≡ 0
  pub idle : r.idle ≡ 0

-- rules that a switch with room for so many can be led to, and that can be sent
pub record CanBeSent (capacity : ℕ) (X : Rules) : Type 0 where
  pub target : IsTarget capacity X
  pub rules : (r : Rule) → Contains (rules_of X) r → RuleFits r

module _ (normal : NormalLaw) (list : RulesAreList) (capacity : ℕ) (traces : List Trace) (fit : AreFit capacity traces) (each : (x : Trace) → Contains traces x → actions_have_bits (fact_actions x.decision) ≡ true) where
  row_fits : (r : Rule) → Contains (tree_rules (scratch traces)) r → RowFits r
  row_fits r c =
      let s = rule_stands r (scratch traces) anything 0 c in
      let P : Match → List Item → Leaf → Type 0 = λ m is l. actions_have_bits (fact_actions l.decision) ≡ true in
      let along = along_map (IsFrom traces) (P anything) (λ is l f. subst (λ (x : Leaf). actions_have_bits (fact_actions x.decision) ≡ true) f.leaf (each f.trace f.there)) (scratch traces) (scratch_along traces fit.admitted) in
      subst RowFits s.is
      (of_each P (λ (x : Row). RowFits (rule_of x)) (λ m i is l p. p) (λ m b l p. record { actions = p; cookie = refl; idle = refl }) (λ m f v a is l p q. record { actions = refl; cookie = refl; idle = refl })
      s.row (scratch traces) anything 0 along s.stands)

  tree_fits : (r : Rule) → Contains (tree_rules (scratch traces)) r → RuleFits r
  tree_fits r c =
      let row = row_fits r c in
      let low = (levels_law (scratch traces)).bound r c in
      let limit = fit.levels in
      record { normal = normal traces r fit.admitted fit.normal c; priority = omega (arith, low, limit); actions = row.actions; cookie = row.cookie; idle = row.idle }

  pub traces_sent : (X : Rules) → AreRulesOf traces X → CanBeSent capacity X
  traces_sent X are =
      let t = scratch traces in
      let whole = IsPermutation-append (facts_of t anything 0) X.facts (barriers_of t anything 0) X.barriers are.facts are.barriers in
      record { target = (list capacity traces X fit are).target; rules = λ r c. tree_fits r (Contains-permutation (rules_of X) (tree_rules t) r (IsPermutation-sym (tree_rules t) (rules_of X) whole) c) }

-- ---- parts

-- a part that can be sent: it has few changes, each of which can be
pub record PartFits (part : Part) : Type 0 where
  pub changes : AllByRecursion ChangeFits (changes_of part)
  pub short : length (changes_of part) + 1 < 2 ^ 18

abbrev pub PartsFit : List Part → Type 0
PartsFit parts = AllByRecursion PartFits parts

pub clearing_part : PartFits Clearing
clearing_part = record { changes = (clearing_fits, tt); short = omega arith }

module _ (sent : SentLaw) (adds deletes : List Rule) (of_adds : (r : Rule) → Contains adds r → RuleFits r) (of_deletes : (r : Rule) → Contains deletes r → RuleFits r) where
  changes_fit : (mods : List TableMod) → IsSent adds deletes mods → AllByRecursion ChangeFits mods
  changes_fit mods is =
      subst (AllByRecursion ChangeFits) (sym is.is)
      (all_from ChangeFits (batch is.first is.rest) (λ c i. ⊎_elim (λ d. added c d) (λ d. deleted c d) (Contains-append_cases (map Add is.first) (map deletion is.rest) c i)))
    where
      added : (c : TableMod) → Contains (map Add is.first) c → ChangeFits c
      added c d =
          let t = in_map Add is.first c d in
          subst ChangeFits t.2 (addition_fits t.0 (of_adds t.0 (Contains-permutation is.first adds t.0 (IsPermutation-sym adds is.first is.adds_put.same) t.1)))

      deleted : (c : TableMod) → Contains (map deletion is.rest) c → ChangeFits c
      deleted c d =
          let t = in_map deletion is.rest c d in
          subst ChangeFits t.2 (deletion_fits t.0 (of_deletes t.0 (Contains-permutation is.rest deletes t.0 (IsPermutation-sym deletes is.rest is.deletes_put.same) t.1)))

  batch_fits : (mods : List TableMod) → IsSent adds deletes mods → length (batch adds deletes) + 1 < 2 ^ 18 → PartsFit (batch_part mods)
  batch_fits mods is few = go mods (changes_fit mods is) (let same = length_permutation (batch adds deletes) mods (sent adds deletes mods is) in omega (arith, same, few))
    where
      go : (ms : List TableMod) → AllByRecursion ChangeFits ms → length ms + 1 < 2 ^ 18 → PartsFit (batch_part ms)
      go [] f short = tt
      go (m ∷ ms) f short = (record { changes = f; short = short }, tt)

-- the parts of an update
pub parts_fit : LengthLaw → SentLaw → (capacity : ℕ) (A B : Rules) → capacity ≤ 65535 → CanBeSent capacity A → CanBeSent capacity B → (parts : List Part) → AreParts capacity A B parts → PartsFit parts
parts_fit lengths sent capacity A B room a b parts are =
    subst PartsFit (sym are.is)
    (all_append PartFits ((if is_over capacity A B then Clearing ∷ [] else []) ++ batch_part are.first) (batch_part are.second)
    (all_append PartFits (if is_over capacity A B then Clearing ∷ [] else []) (batch_part are.first) (cleared (is_over capacity A B))
    (batch_fits sent (first_adds O B) (first_deletes O B) (λ r c. barriers_fit r (in_filter _ B.barriers r c).0) (λ r c. old_facts r (in_filter _ O.facts r c).0) are.first are.is_first short.first))
    (batch_fits sent (second_adds O B) (second_deletes O B) (λ r c. facts_fit r (in_filter _ B.facts r c).0) (λ r c. old_barriers r (in_filter _ O.barriers r c).0) are.second are.is_second short.second))
  where
    O : Rules
    O = origin capacity A B

    short : AreShort O B
    short = lengths capacity A B a.target b.target room

    cleared : (over : Bool) → PartsFit (if over then Clearing ∷ [] else [])
    cleared true = (clearing_part, tt)
    cleared false = tt

    old_rules : (over : Bool) (r : Rule) → Contains (rules_of (if over then no_rules else A)) r → RuleFits r
    old_rules true r c = absurd (none_in r c)
    old_rules false r c = a.rules r c

    facts_fit : (r : Rule) → Contains B.facts r → RuleFits r
    facts_fit r c = b.rules r (Contains-append_left B.facts B.barriers r c)

    barriers_fit : (r : Rule) → Contains B.barriers r → RuleFits r
    barriers_fit r c = b.rules r (Contains-append_right B.facts B.barriers r c)

    old_facts : (r : Rule) → Contains O.facts r → RuleFits r
    old_facts r c = old_rules (is_over capacity A B) r (Contains-append_left O.facts O.barriers r c)

    old_barriers : (r : Rule) → Contains O.barriers r → RuleFits r
    old_barriers r c = old_rules (is_over capacity A B) r (Contains-append_right O.facts O.barriers r c)

-- and the messages of a part
pub part_offered : Spells → (used : ℕ) (part : Part) → PartFits part → barrier_of used part < 2 ^ 32 → AllByRecursion CanBeOffered (part_messages used part)
part_offered law used part f small =
    all_push CanBeOffered (changes_from (used + 1) (changes_of part)) (barrier_request (barrier_of used part)) (changes_offered law (used + 1) (changes_of part) (omega (arith, small)) f.changes) (barrier_offered law (barrier_of used part) small)
