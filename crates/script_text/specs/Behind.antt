-- What stands behind a step's line.
use Rattle.std.specs.Prelude.{◌≡◌, ℕ, ◌+◌, List, [], ◌∷◌, Ok}
use Rattle.script_text.specs.declared.step.Step.{Step}
use Rattle.script_text.specs.Orders.{Text, ahead_of, orders_in, orders_of, refused_or, refused_in, refused_from}
use Rattle.script_text.specs.Steps.{order_with}

-- behind a step's line comes this text, and so many lines ahead of those that are left
pub record LeavesBehind (step : Step) (behind : List (List ℕ)) (text : List ℕ) (passed : ℕ) (left : List (List ℕ)) : Type 0 where
  pub orders : (places : ℕ) → ahead_of (Ok (order_with step [])) (orders_of places behind) (orders_in places (Text []) behind)
      ≡ order_with step text ∷ orders_of places left
  pub refused : (places n : ℕ) → refused_or n (Ok (order_with step [])) (refused_from places (n + 1) behind) (refused_in places (Text []) (n + 1) behind)
      ≡ refused_from places (n + (1 + passed)) left
