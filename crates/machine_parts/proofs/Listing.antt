-- The traces of a switch, looked up, and the lines that list their rules.
use Rattle.std.proofs.Common.{◌≡◌, ℕ, ◌≤◌, ◌==◌, List, [], ◌∷◌, ◌++◌, length, ap, ◌∙◌, arith}
use Rattle.std.specs.List.{AllByRecursion}
use Rattle.std.specs.List.Sorted.{IsPermutation}
use Rattle.std.proofs.lemmas.Bool.{cond_both}
use Rattle.std.proofs.lemmas.List.Sorted.{IsPermutation-trans, length_permutation}
use Rattle.maple_base.specs.declared.decision.Rule.{Rule}
use Rattle.of10_codec.specs.RuleOrder.{ArePut}
use Rattle.priority_plan.specs.Rules.{level_limit, levels_of, rules_of, rules_needed}
use Rattle.report_text.specs.declared.line.Line.{Line}
use Rattle.switch_traces.specs.Traces.{Learnings}
use Rattle.trace_tree.specs.declared.node.Trace.{Trace}
use Rattle.trace_tree.specs.Growth.{scratch}
use Rattle.machine_parts.specs.declared.parts.Parts.TheInside.{Inside}
use Rattle.machine_steps.specs.Machine.{State, tells_all, traces_in}
use Rattle.machine_parts.specs.Seen.{seen}
use Rattle.machine_steps.specs.Sound.{AreLearned, IsSound}

-- what holds of the traces of each switch, and of none, holds of those looked up
looked_up : (P : List Trace → Type 0) → P [] → (ls : List Learnings) (switch : ℕ) → AllByRecursion (λ (l : Learnings). P l.traces) ls → P (traces_in ls switch)
looked_up P none [] switch h = none
looked_up P none (l ∷ ls) switch h = cond_both (l.switch == switch) l.traces (traces_in ls switch) P (λ _. h.0) (λ _. looked_up P none ls switch h.1)

weaker : {X : Type 0} (P Q : X → Type 0) → ((x : X) → P x → Q x) → (xs : List X) → AllByRecursion P xs → AllByRecursion Q xs
weaker P Q f [] h = h
weaker P Q f (x ∷ xs) h = (f x h.0, weaker P Q f xs h.1)

pub few_levels : (m : State) → IsSound m → (switch : ℕ) → levels_of (scratch (traces_in m.learned switch)) ≤ level_limit
few_levels m sound switch =
    looked_up (λ rs. levels_of (scratch rs) ≤ level_limit) (omega arith) m.learned switch (weaker (AreLearned m) (λ (l : Learnings). levels_of (scratch l.traces) ≤ level_limit) (λ l are. are.fit.levels) m.learned sound.learned)

few_rules : (m : State) → IsSound m → (switch : ℕ) → rules_needed (scratch (traces_in m.learned switch)) ≤ m.settings.capacity
few_rules m sound switch =
    looked_up (λ rs. rules_needed (scratch rs) ≤ m.settings.capacity) (omega arith) m.learned switch (weaker (AreLearned m) (λ (l : Learnings). rules_needed (scratch l.traces) ≤ m.settings.capacity) (λ l are. are.fit.rules) m.learned sound.learned)

pub few_listed : (m : State) → IsSound m → (switch : ℕ) (some put : List Rule) → IsPermutation (rules_of (scratch (traces_in m.learned switch))) some → ArePut some put → length put ≤ 65535
few_listed m sound switch some put are order =
    omega (arith, few_rules m sound switch, sound.ranges.capacity, length_permutation _ some are, length_permutation some put order.same)

pub put_of : (m : State) (switch : ℕ) (some put : List Rule) → IsPermutation (rules_of (scratch (traces_in m.learned switch))) some → ArePut some put → ArePut (rules_of (scratch (traces_in m.learned switch))) put
put_of m switch some put are order = record { same = IsPermutation-trans _ some put are order.same; order = order.order }

-- the lines of a list of rules are told
pub listed_is : (a : Inside) (m : State) (view : seen a ≡ m) (told lines : List Line) → lines ≡ a.lines.items ++ told → record (seen a) { lines = lines } ≡ tells_all told m
listed_is a m view told lines el =
    let behind : lines ≡ m.lines ++ told = el ∙ ap (λ (n : State). n.lines ++ told) view in
    λ i. record (view i) { lines = behind i }
