-- What holds of the meaning of each policy.
use Rattle.std.specs.Prelude.{◌≡◌, ℕ, ◌+◌, Bool, true, false, ◌==◌, [], ◌∷◌}
use Rattle.std.specs.List.{list_all}
use Rattle.maple_base.specs.declared.key.Key.{Key}
use Rattle.maple_base.specs.declared.cells.Cell.{Cell}
use Rattle.maple_base.specs.declared.cells.Value.{Value}
use Rattle.maple_base.specs.declared.decision.Decision.{Decision}
use Rattle.maple_base.specs.declared.decision.Decision.TheVariants.{Out, Path}
use Rattle.maple_base.specs.declared.decision.Outcome.{Outcome}
use Rattle.maple_base.specs.declared.decision.Outcome.TheVariants.{Decided}
use Rattle.maple_base.specs.Ports.{is_port}
use Rattle.policy_lang.specs.Tree.{Acts}
use Rattle.policy_meaning.specs.QuestionLaws.{AsksAtMost, EndsWithin}
use Rattle.policy_meaning.specs.Meaning.{meaning, eval_of}

-- a path that is decided begins at this switch
abbrev pub begins_at : ℕ → Outcome → Bool
begins_at switch (Decided (Path [])) = false
begins_at switch (Decided (Path (hop ∷ hops))) = hop.switch == switch
begins_at switch o = true

-- each port that is decided is a physical one, or flood's alone, so that no rule of a decision sends to the controller
abbrev pub decides_ports : Outcome → Bool
decides_ports (Decided (Out ports)) = list_all is_port ports
decides_ports (Decided (Path hops)) = list_all (λ hop. is_port hop.port) hops
decides_ports o = true

-- where cells have values of their kinds, a path that a policy decides begins at its own switch
abbrev pub BeginsHere : Type 0
BeginsHere = (body : Acts) (budget switch : ℕ) → EndsWithin (begins_at switch) (meaning body budget switch)

-- and each port that it decides is a physical one
abbrev pub DecidesPorts : Type 0
DecidesPorts = (body : Acts) (budget switch : ℕ) → EndsWithin decides_ports (meaning body budget switch)

-- it asks the packet at most as many questions as it has steps
abbrev pub AsksWithinBudget : Type 0
AsksWithinBudget = (body : Acts) (budget switch : ℕ) → AsksAtMost budget (meaning body budget switch)

-- with a larger budget a decided outcome stays the same
abbrev pub KeepsDecisions : Type 0
KeepsDecisions =
    (body : Acts) (budget more switch : ℕ) (env : Cell → Value) (k : Key) (d : Decision)
    → eval_of body budget env switch k ≡ Decided d → eval_of body (budget + more) env switch k ≡ Decided d
