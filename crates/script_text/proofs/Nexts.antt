-- What the first line of a script asks for, and what is behind it.
use Rattle.std.proofs.Common.{ℕ, ◌+◌, List, [], ◌∷◌, ap, ◌∙◌}
use Rattle.std.specs.Prelude.{Option, Result}
use Rattle.report_text.specs.declared.line.ScriptRefusal.{ScriptRefusal}
use Rattle.script_text.specs.declared.step.Step.{Step}
use Rattle.script_text.specs.declared.step.StepStop.{StepStop}
use Rattle.script_text.specs.declared.step.StepStop.TheVariants.{End, Refused, NoMemory}
use Rattle.script_text.specs.Behind.{LeavesBehind}
use Rattle.script_text.specs.Lines.{without_end}
use Rattle.script_text.specs.Orders.{Order, Halt, Text, order_of, ahead_of, orders_in, orders_of, refused_or, refused_in, refused_from}
use Rattle.script_text.specs.Steps.{order_with, Asks, IsStop, Leads, IsHalted}

module _ (places : ℕ) (line : List ℕ) (behind : List (List ℕ)) where
  abbrev orders_by : Result Order Halt → List Order
  orders_by o = ahead_of o (orders_of places behind) (orders_in places (Text []) behind)

  abbrev refused_by : ℕ → Result Order Halt → Option (ℕ × ScriptRefusal)
  refused_by n o = refused_or n o (refused_from places (n + 1) behind) (refused_in places (Text []) (n + 1) behind)

  pub leads : (step : Step) (text : List ℕ) (passed : ℕ) (left : List (List ℕ)) → Asks (order_of places (without_end line)) step → LeavesBehind step behind text passed left
      → Leads places (line ∷ behind) (order_with step text) (1 + passed) left
  leads step text passed left good b = record {
    orders = ap orders_by good ∙ b.orders places;
    refused = λ n. ap (refused_by n) good ∙ b.refused places n;
  }

  pub halted : (stop : StepStop) → IsStop (order_of places (without_end line)) stop → IsHalted places (line ∷ behind) stop
  halted End bad = record { orders = ap orders_by bad; refused_is = λ n. ap (refused_by n) bad }
  halted (Refused kind) bad = record { orders = ap orders_by bad; refused_is = λ n. ap (refused_by n) bad }
  halted NoMemory bad = tt
