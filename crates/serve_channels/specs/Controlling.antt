-- The control text as it comes, and the start script.
use Rattle.std.specs.Prelude.{◌≡◌, ℕ, Bool, true, false, List, [], ◌++◌, Option, Some, None, Result, Ok}
use Rattle.report_text.specs.declared.line.ScriptRefusal.{ScriptRefusal}
use Rattle.script_text.specs.declared.step.Step.{Step}
use Rattle.script_text.specs.Orders.{Order, Halt}
use Rattle.script_text.specs.Steps.{order_with}
use Rattle.maple_io.specs.Fronts.{IsFront}
use Rattle.board_lines.specs.declared.control_item.ControlItem.{ControlItem}
use Rattle.board_lines.specs.Laws.{held_behind}
use Rattle.board_lines.specs.Readings.{Reading, beginning}
use Rattle.machine_steps.specs.declared.entry.Entry.{Entry}
use Rattle.serve_steps.specs.Deeds.{Past}
use Rattle.serve_steps.specs.Texts.{Ask, AreEntriesOf, ahead_of_refused, asked_by, asked_by_order, control_quits, ends_by_order, first_refused, is_quit}
use Rattle.serve_steps.specs.Texts.{script_asks, script_quits, without_places}
use Rattle.serve_channels.specs.declared.scripting.ScriptEnd.{ScriptEnd}
use Rattle.serve_channels.specs.declared.scripting.ScriptEnd.TheVariants.{Quit, Refused, Whole}

-- the entries are those that are asked for so
abbrev pub Answers : List Ask → Past → List Entry → Past → Type 0
Answers asks past own done = AreEntriesOf asks own

-- the same, up to a line that is refused
abbrev pub AnswersAhead : List Ask → Past → List Entry → Past → Type 0
AnswersAhead asks past own done = AreEntriesOf (ahead_of_refused asks) own

-- ---- the control text

-- a reader has read this text, in which no line that has ended is `quit`
pub record IsReading (text : List ℕ) (r : Reading) : Type 0 where
  pub held : r ≡ held_behind beginning text
  pub goes_on : control_quits text ≡ false

-- whether a line of the text is `quit`; where none is, it goes on
pub record IsReadTo (text : List ℕ) (ended : Bool) (r : Reading) : Type 0 where
  pub ended_is : ended ≡ control_quits text
  pub reading : ended ≡ false → IsReading text r

-- so it is behind these bytes
abbrev pub ReadsOn : List ℕ → Bool → Reading → Reading → Type 0
ReadsOn bytes ended old new = (text : List ℕ) → IsReading text old → IsReadTo (text ++ bytes) ended new

-- some first bytes of these were read
abbrev pub ReadsSome : List ℕ → Reading → Reading → Type 0
ReadsSome bytes old new = (text : List ℕ) → IsReading text old → (ahead : List ℕ) × IsFront ahead bytes × IsReading (text ++ ahead) new

-- ---- the start script

-- how a script ends: at a refused line, ahead of any `quit`; by `quit`; or as it comes to its end
abbrev pub end_with : Option (ℕ × ScriptRefusal) → Bool → ScriptEnd
end_with (Some refused) quits = Refused refused.0 refused.1
end_with None true = Quit
end_with None false = Whole

abbrev pub script_end : ℕ → List ℕ → ScriptEnd
script_end n script = end_with (first_refused (script_asks n script)) (script_quits n script)

-- whether it ends at a line, and how, by what this asks for
abbrev pub order_end : ℕ → Result Order Halt → ScriptEnd
order_end n order = end_with (first_refused (asked_by_order n order)) (ends_by_order order)

-- what a line asks for whose step this is, where there are no places
abbrev pub order_here : Step → Result Order Halt
order_here step = without_places (Ok (order_with step []))

-- whether it ends at an item, and how
abbrev pub item_end : ControlItem → ScriptEnd
item_end item = end_with (first_refused (asked_by item)) (is_quit item)
