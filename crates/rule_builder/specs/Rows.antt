-- The rules of two small trees, row by row.
use Rattle.std.specs.Prelude.{◌≡◌, ℕ, Bool, true, false, List, [], ◌∷◌, Some}
use Rattle.maple_base.specs.Ports.{controller_port}
use Rattle.maple_base.specs.declared.key.Field.TheVariants.{DlType, NwProto, TpDst}
use Rattle.maple_base.specs.declared.key.Match.{Match}
use Rattle.maple_base.specs.declared.items.Item.TheVariants.{Read, Test}
use Rattle.maple_base.specs.declared.decision.Rule.{Rule}
use Rattle.maple_base.specs.declared.decision.Decision.{Decision}
use Rattle.maple_base.specs.declared.decision.Decision.TheVariants.{Drop, Out}
use Rattle.maple_base.specs.Keys.{anything}
use Rattle.trace_tree.specs.declared.node.Trace.{Trace}
use Rattle.trace_tree.specs.Shape.{Shape}
use Rattle.trace_tree.specs.Growth.{scratch}
use Rattle.priority_plan.specs.Rules.{levels_of, facts_of, barriers_of, rules_needed}

-- a trace over a TCP packet (RFC 790: 6) that asks whether it goes to port 22
abbrev pub asks_ssh : Bool → Decision → Trace
asks_ssh answer decision =
    record { number = 1; items = Read DlType 0x0800 ∷ Read NwProto 6 ∷ Test TpDst 22 answer ∷ []; cells = []; decision = decision }

abbrev pub tcp : Match
tcp = record anything { dl_type = Some 0x0800; nw_proto = Some 6 }

abbrev pub ssh : Match
ssh = record tcp { tp_dst = Some 22 }

abbrev pub row : ℕ → Match → List ℕ → Rule
row priority m actions = record { of = m; priority = priority; actions = actions; cookie = 0; idle = 0 }

abbrev pub two_traces : Shape
two_traces = scratch (asks_ssh false (Out (2 ∷ [])) ∷ asks_ssh true Drop ∷ [])

abbrev pub drop_alone : Shape
drop_alone = scratch (asks_ssh true Drop ∷ [])

-- port 22 is dropped above what goes out of port 2, with a barrier between
pub record RowsOfTwo : Type 0 where
  pub facts : facts_of two_traces anything 0 ≡ row 3 ssh [] ∷ row 1 tcp (2 ∷ []) ∷ []
  pub barriers : barriers_of two_traces anything 0 ≡ row 2 ssh (controller_port ∷ []) ∷ []
  pub levels : levels_of two_traces ≡ 3
  pub needed : rules_needed two_traces ≡ 3

-- with nothing on the false side there is no barrier
pub record RowsOfDrop : Type 0 where
  pub facts : facts_of drop_alone anything 0 ≡ row 1 ssh [] ∷ []
  pub barriers : barriers_of drop_alone anything 0 ≡ []
  pub levels : levels_of drop_alone ≡ 1
  pub needed : rules_needed drop_alone ≡ 1
