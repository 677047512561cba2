-- What aiming leaves of a session.
use Rattle.std.proofs.Common.{◌≡◌, ℕ, Bool, true, false, List, [], ◌∷◌, refl, sym, ◌∙◌, subst, ⊎_elim}
use Rattle.std.specs.Prelude.{Contains, Option, Some, None}
use Rattle.std.specs.List.Sorted.{IsPermutation}
use Rattle.std.proofs.lemmas.Bool.{cases_Bool}
use Rattle.std.proofs.lemmas.List.Elements.{Contains-append_left, Contains-append_right, Contains-append_cases}
use Rattle.std.proofs.lemmas.List.Sorted.{IsPermutation-sym, IsPermutation-trans, Contains-permutation}
use Rattle.maple_base.specs.declared.decision.Rule.{Rule}
use Rattle.maple_base.specs.Choice.{Differ}
use Rattle.maple_base.specs.Keys.{anything}
use Rattle.maple_base.specs.RuleLists.{Rules}
use Rattle.of10_codec.specs.RuleOrder.{AreInOrder}
use Rattle.priority_plan.specs.Rules.{facts_of, barriers_of}
use Rattle.trace_tree.specs.declared.node.Trace.{Trace}
use Rattle.trace_tree.specs.Growth.{scratch}
use Rattle.update_plan.specs.Batches.{rules_of, IsTarget}
use Rattle.update_plan.proofs.Members.{pairs_left, pairs_right}
use Rattle.update_plan.proofs.Distinct.{same_rules}
use Rattle.switch_session.specs.declared.part.Part.{Part}
use Rattle.switch_session.specs.declared.part.UnderWay.{UnderWay}
use Rattle.switch_session.specs.Lists.{Lists}
use Rattle.switch_session.specs.Parts.{Update as Plan}
use Rattle.switch_session.specs.Sessions.{leaves, aimed, aimed_by, heading}
use Rattle.switch_session.specs.Calls.{IsUpdate}
use Rattle.switch_session.specs.Laws.{SettledLaw}
use Rattle.switch_traces.specs.Lists.{AreRulesOf}
use Rattle.machine_steps.specs.Machine.{Session}

-- ---- what parts that leave do not touch

pub record IsMoved (s t : Session) : Type 0 where
  pub connection : t.connection ≡ s.connection
  pub capacity : t.capacity ≡ s.capacity
  pub phase : t.phase ≡ s.phase
  pub dpid : t.dpid ≡ s.dpid
  pub ready : t.ready ≡ s.ready
  pub quiet : t.quiet ≡ s.quiet
  pub heading : heading t ≡ heading s
  pub prepared : t.prepared ≡ s.prepared

pub leaves_moved : (lists : Lists) (parts : List Part) (s : Session) → IsMoved s (leaves lists parts s)
leaves_moved lists [] s = record { connection = refl; capacity = refl; phase = refl; dpid = refl; ready = refl; quiet = refl; heading = refl; prepared = refl }
leaves_moved lists (part ∷ parts) s = record { connection = refl; capacity = refl; phase = refl; dpid = refl; ready = refl; quiet = refl; heading = refl; prepared = refl }

-- ---- what an aim leaves

pub record IsAimed (plan : Plan) (s t : Session) : Type 0 where
  pub connection : t.connection ≡ s.connection
  pub capacity : t.capacity ≡ s.capacity
  pub phase : t.phase ≡ s.phase
  pub dpid : t.dpid ≡ s.dpid
  pub quiet : t.quiet ≡ s.quiet
  pub idle : t.prepared ≡ None
  pub fresh : plan.settled ≡ false → heading t ≡ plan.rules
  pub same : plan.settled ≡ true → heading t ≡ heading s

pub aimed_so : (plan : Plan) (s : Session) → IsAimed plan s (aimed plan s)
aimed_so plan s = go plan.settled s.under_way refl
  where
    go : (b : Bool) (part : Option UnderWay) → plan.settled ≡ b → IsAimed plan s (aimed_by b part plan (record s { prepared = None }))
    go true part e = record { connection = refl; capacity = refl; phase = refl; dpid = refl; quiet = refl; idle = refl; fresh = λ f. absurd (cc); same = λ t. refl }
    go false None e =
        let m = leaves_moved (record { from = s.target; to = plan.rules }) plan.parts (record s { prepared = None; target = plan.rules; next = None }) in
        record { connection = m.connection; capacity = m.capacity; phase = m.phase; dpid = m.dpid; quiet = m.quiet; idle = m.prepared; fresh = λ f. m.heading; same = λ t. absurd (cc) }
    go false (Some part) e = record { connection = refl; capacity = refl; phase = refl; dpid = refl; quiet = refl; idle = refl; fresh = λ f. refl; same = λ t. absurd (cc) }

-- ---- lists of the same rules have the same facts, and the same barriers

module _ (capacity : ℕ) (A B : Rules) (a : IsTarget capacity A) (b : IsTarget capacity B) (same : IsPermutation (rules_of A) (rules_of B)) where
  fact_to : (r : Rule) → Contains A.facts r → Contains B.facts r
  fact_to r c = ⊎_elim (λ d. d) (λ d. absurd (a.fact r c (b.barrier r d))) (Contains-append_cases B.facts B.barriers r (Contains-permutation (rules_of A) (rules_of B) r same (Contains-append_left A.facts A.barriers r c)))

  barrier_to : (r : Rule) → Contains A.barriers r → Contains B.barriers r
  barrier_to r c = ⊎_elim (λ d. absurd (b.fact r d (a.barrier r c))) (λ d. d) (Contains-append_cases B.facts B.barriers r (Contains-permutation (rules_of A) (rules_of B) r same (Contains-append_right A.facts A.barriers r c)))

pub same_facts : (capacity : ℕ) (A B : Rules) → IsTarget capacity A → IsTarget capacity B → IsPermutation (rules_of A) (rules_of B) → IsPermutation A.facts B.facts
same_facts capacity A B a b same =
    same_rules A.facts B.facts (pairs_left Differ A.facts A.barriers a.distinct) (pairs_left Differ B.facts B.barriers b.distinct) (fact_to capacity A B a b same)
    (fact_to capacity B A b a (IsPermutation-sym (rules_of A) (rules_of B) same))

pub same_barriers : (capacity : ℕ) (A B : Rules) → IsTarget capacity A → IsTarget capacity B → IsPermutation (rules_of A) (rules_of B) → IsPermutation A.barriers B.barriers
same_barriers capacity A B a b same =
    same_rules A.barriers B.barriers (pairs_right Differ A.facts A.barriers a.distinct) (pairs_right Differ B.facts B.barriers b.distinct) (barrier_to capacity A B a b same)
    (barrier_to capacity B A b a (IsPermutation-sym (rules_of A) (rules_of B) same))

-- where an update to the rules of traces is settled the session heads for them
pub settled_rules : SettledLaw → (traces : List Trace) (s : Session) (X : Rules) (plan : Plan) → IsTarget s.capacity (heading s) → IsTarget s.capacity X → IsUpdate s X plan → plan.settled ≡ true
    → AreInOrder (heading s).facts → AreInOrder (heading s).barriers → AreRulesOf traces X → AreRulesOf traces (heading s)
settled_rules law traces s X plan a b is settled facts barriers are =
    let same = (law s X plan a b is).same settled in
    record {
      facts = IsPermutation-trans (facts_of (scratch traces) anything 0) X.facts (heading s).facts are.facts (IsPermutation-sym (heading s).facts X.facts (same_facts s.capacity (heading s) X a b same));
      facts_order = facts;
      barriers = IsPermutation-trans (barriers_of (scratch traces) anything 0) X.barriers (heading s).barriers are.barriers (IsPermutation-sym (heading s).barriers X.barriers (same_barriers s.capacity (heading s) X a b same));
      barriers_order = barriers;
    }

-- what is aimed at the rules of traces heads for them
pub aimed_rules : SettledLaw → (traces : List Trace) (s : Session) (X : Rules) (plan : Plan) → IsTarget s.capacity (heading s) → IsTarget s.capacity X → IsUpdate s X plan → AreInOrder (heading s).facts → AreInOrder (heading s).barriers
    → AreRulesOf traces X → AreRulesOf traces (heading (aimed plan s))
aimed_rules law traces s X plan a b is facts barriers are =
    ⊎_elim
    (λ e. subst (AreRulesOf traces) (sym ((aimed_so plan s).same e)) (settled_rules law traces s X plan a b is e facts barriers are))
    (λ e. subst (AreRulesOf traces) (sym ((aimed_so plan s).fresh e ∙ is.rules)) are)
    (cases_Bool plan.settled)
