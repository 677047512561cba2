-- What holds of the rules of a tree.
use Rattle.std.specs.Prelude.{◌≡◌, false, true, List, [], ◌∷◌, Contains}
use Rattle.std.specs.List.{All, AllPairs}
use Rattle.std.specs.List.Sorted.{IsPermutation}
use Rattle.maple_base.specs.Ports.{controller_port}
use Rattle.maple_base.specs.declared.decision.Rule.{Rule}
use Rattle.maple_base.specs.Choice.{Differ}
use Rattle.maple_base.specs.Keys.{match_exact, match_normal, anything}
use Rattle.flow_table.specs.Shielding.{IsBarrier}
use Rattle.policy_meaning.specs.QuestionLaws.{asks_normally}
use Rattle.trace_tree.specs.declared.node.Trace.{Trace}
use Rattle.trace_tree.specs.Shape.{Shape, Empty}
use Rattle.trace_tree.specs.Growth.{scratch, AreAdmitted, AllAskOnce}
use Rattle.priority_plan.specs.Rules.{facts_of, barriers_of, fact_actions, rules_of}

-- no rule is exact
abbrev pub NoneExact : Type 0
NoneExact = (t : Shape) (r : Rule) → Contains (rules_of t) r → match_exact r.of ≡ false

-- the rules of a list of traces, in any order, differ from each other
abbrev pub DistinctLaw : Type 0
DistinctLaw =
    (traces : List Trace) (table : List Rule) → AreAdmitted Empty traces → AllAskOnce traces → IsPermutation (rules_of (scratch traces)) table → AllPairs Differ table

-- a trace asks of a field for a number of its domain, and of a header's field only where the items before tell that the header is there
abbrev pub AsksNormally : Trace → Type 0
AsksNormally x = asks_normally anything x.items ≡ true

abbrev pub AllAskNormally : List Trace → Type 0
AllAskNormally = All AsksNormally

-- where all traces ask so, each match is normal
abbrev pub NormalLaw : Type 0
NormalLaw =
    (traces : List Trace) (r : Rule) → AreAdmitted Empty traces → AllAskNormally traces → Contains (rules_of (scratch traces)) r → match_normal r.of ≡ true

-- a trace decides the controller's port alone (OpenFlow Switch Specification 1.0.0, 5.2.1, OFPP_CONTROLLER)
abbrev pub IsToController : Trace → Type 0
IsToController x = fact_actions x.decision ≡ controller_port ∷ []

-- where no trace does, no fact is a barrier
abbrev pub FactLaw : Type 0
FactLaw =
    (traces : List Trace) (r : Rule) → AreAdmitted Empty traces → ((x : Trace) → Contains traces x → IsToController x → ⊥) → Contains (facts_of (scratch traces) anything 0) r → IsBarrier r → ⊥

-- each barrier is one, and the switch keeps it whatever it does not see
abbrev pub BarrierLaw : Type 0
BarrierLaw = (t : Shape) (r : Rule) → Contains (barriers_of t anything 0) r → IsBarrier r × (r.cookie ≡ 0) × (r.idle ≡ 0)
