-- What becomes of one trace more.
use Rattle.std.specs.Prelude.{ℕ, ◌+◌, ◌<◌, ◌≤◌, ◌^◌, Bool, nat_lt, if◌then◌else◌, List, [], length, IsTrue}
use Rattle.std.specs.List.{AllByRecursion}
use Rattle.maple_base.specs.Limits.{most_items}
use Rattle.maple_base.specs.Questions.{asks_once}
use Rattle.report_text.specs.declared.line.Learnt.{Learnt}
use Rattle.report_text.specs.declared.line.Learnt.TheVariants.{Learned, Levels, Rows, Quiet}
use Rattle.trace_tree.specs.declared.node.Trace.{Trace}
use Rattle.trace_tree.specs.Bounds.{items_within}
use Rattle.trace_tree.specs.Growth.{scratch, admits}
use Rattle.priority_plan.specs.Rules.{levels_of, rules_needed}

-- what is said of traces by how many levels their rules take, how many rules they have, and whether the switch gets no more rules
abbrev pub judged : ℕ → ℕ → Bool → List Trace → Learnt
judged limit capacity quiet traces =
    if nat_lt limit (levels_of (scratch traces)) then Levels (levels_of (scratch traces)) limit
    else (if nat_lt capacity (rules_needed (scratch traces)) then Rows (rules_needed (scratch traces)) capacity
    else (if quiet then Quiet else Learned))

-- a trace that a tree of these takes: it leads to an empty place, asks as runs ask, and has a greater number than they
pub record CanTake (traces : List Trace) (r : Trace) : Type 0 where
  pub admitted : IsTrue (admits r.items (scratch traces))
  pub within : IsTrue (items_within r.items)
  pub once : IsTrue (asks_once [] r.items)
  pub short : length r.items ≤ most_items
  pub room : length traces + 1 < 2 ^ 32
  pub above : AllByRecursion (λ (x : Trace). x.number < r.number) traces
