-- What texts ask for in `serve`: the start script, and the control text as it comes. Both have lines, and the texts of new policies.
use Rattle.std.specs.Prelude.{◌≡◌, ℕ, Bool, true, false, if◌then◌else◌, List, [], ◌∷◌, ◌++◌, length, drop, Option, Some, None, Result, Ok, Err}
use Rattle.std.specs.List.{list_any}
use Rattle.env_cells.specs.declared.updates.Update.{Update}
use Rattle.report_text.specs.declared.line.ScriptRefusal.{ScriptRefusal}
use Rattle.report_text.specs.declared.line.ScriptRefusal.TheVariants.{Grammar, TooLong, Switch}
use Rattle.report_text.specs.ScriptRefusals.{refusal_number}
use Rattle.script_text.specs.Lines.{ended_lines}
use Rattle.script_text.specs.Orders.{Order, Halt, Ends, order_of}
use Rattle.script_text.specs.Orders.Halt.{Refuses as RefusesLine}
use Rattle.script_text.specs.Orders.Order.{Settle, Change, Rules}
use Rattle.board_lines.specs.declared.control_item.ControlItem.{ControlItem}
use Rattle.board_lines.specs.declared.control_item.ControlItem.TheVariants as items
use Rattle.board_lines.specs.ControlItems.{items_in, items_of}
use Rattle.board_lines.specs.ControlItems.Within.{Control}
use Rattle.machine_steps.specs.declared.entry.Entry.{Entry}
use Rattle.machine_steps.specs.declared.entry.Entry.TheVariants as entries
use Rattle.machine_steps.specs.declared.note.Note.TheVariants as notes
use Rattle.sim_steps.specs.Parts.{RenewsBy}

-- what a text asks of the machine; an empty line and a comment ask for nothing
pub data Ask : Type 0 where
  -- something changes in the network
  Changes : Update → Ask
  -- another policy, of this text
  Renews : List ℕ → Ask
  -- the rules of a switch are told
  ReadsRules : ℕ → Ask
  -- the line of this number is refused
  Refuses : ℕ → ScriptRefusal → Ask

-- ---- one line

-- there are no places here, so a command that needs one, and `settle`, isn't in the grammar
abbrev pub without_places : Result Order Halt → Result Order Halt
without_places (Err (RefusesLine Switch)) = Err (RefusesLine Grammar)
without_places (Ok Settle) = Err (RefusesLine Grammar)
without_places order = order

abbrev pub serve_order : List ℕ → Result Order Halt
serve_order line = without_places (order_of 0 line)

abbrev pub asked_by_order : ℕ → Result Order Halt → List Ask
asked_by_order n (Ok (Change update)) = Changes update ∷ []
asked_by_order n (Ok (Rules switch)) = ReadsRules switch ∷ []
asked_by_order n (Err (RefusesLine kind)) = Refuses n kind ∷ []
asked_by_order n order = []

abbrev pub ends_by_order : Result Order Halt → Bool
ends_by_order (Err Ends) = true
ends_by_order order = false

-- ---- what stands in a text: lines, and texts of new policies

abbrev pub asked_by : ControlItem → List Ask
asked_by (items.Line n line) = asked_by_order n (serve_order line)
asked_by (items.TooLong n) = Refuses n TooLong ∷ []
asked_by (items.Policy n text) = Renews text ∷ []

-- the line `quit`
abbrev pub is_quit : ControlItem → Bool
is_quit (items.Line n line) = ends_by_order (serve_order line)
is_quit item = false

-- one of them is `quit`
abbrev pub quits : List ControlItem → Bool
quits all = list_any is_quit all

-- what they ask for, up to `quit`
abbrev pub asks_of : List ControlItem → List Ask
asks_of [] = []
asks_of (i ∷ later) = if is_quit i then [] else asked_by i ++ asks_of later

-- ---- the start script

-- what stands in it, where its first line has this number
abbrev pub script_items : ℕ → List ℕ → List ControlItem
script_items n script = items_in Control n (ended_lines script)

abbrev pub script_asks : ℕ → List ℕ → List Ask
script_asks n script = asks_of (script_items n script)

abbrev pub script_quits : ℕ → List ℕ → Bool
script_quits n script = quits (script_items n script)

-- the asks ahead of the first refused line
abbrev pub ahead_of_refused : List Ask → List Ask
ahead_of_refused [] = []
ahead_of_refused (Refuses n kind ∷ asks) = []
ahead_of_refused (ask ∷ asks) = ask ∷ ahead_of_refused asks

-- the first refused line
abbrev pub first_refused : List Ask → Option (ℕ × ScriptRefusal)
first_refused [] = None
first_refused (Refuses n kind ∷ asks) = Some (n, kind)
first_refused (ask ∷ asks) = first_refused asks

-- ---- the control text, as it comes

abbrev pub but_last : List ControlItem → List ControlItem
but_last [] = []
but_last (i ∷ []) = []
but_last (i ∷ (j ∷ later)) = i ∷ but_last (j ∷ later)

-- what has ended in a text, whatever comes behind it: where one more line feed stands there, all but the last, which that line feed ends or belongs to
abbrev pub ended_items : List ℕ → List ControlItem
ended_items text = but_last (items_of (text ++ 10 ∷ []))

abbrev pub control_asks : List ℕ → List Ask
control_asks text = asks_of (ended_items text)

-- a line that has ended is `quit`
abbrev pub control_quits : List ℕ → Bool
control_quits text = quits (ended_items text)

-- what the lines ask for that end in these bytes, which come behind that text
abbrev pub asks_more : List ℕ → List ℕ → List Ask
asks_more text bytes = drop (length (control_asks text)) (control_asks (text ++ bytes))

-- what is asked for as that text comes to its end: by a last line without a line feed, or by the text of a new policy that goes up to the end
abbrev pub asks_last : List ℕ → List Ask
asks_last text = drop (length (control_asks text)) (asks_of (items_of text))

-- ---- entries

-- the entry that is asked for; of a text that is no policy's it tells where and why
abbrev pub IsEntryOf : Ask → Entry → Type 0
IsEntryOf (Changes update) entry = entry ≡ entries.Change update
IsEntryOf (Renews text) entry = RenewsBy text (λ (made : Entry). entry ≡ made)
IsEntryOf (ReadsRules switch) entry = entry ≡ entries.ReadRules switch
IsEntryOf (Refuses n kind) entry = entry ≡ entries.Note (notes.LineRefused n (refusal_number kind))

-- an entry for each ask, in their order
abbrev pub AreEntriesOf : List Ask → List Entry → Type 0
AreEntriesOf [] [] = Unit {0}
AreEntriesOf [] (e ∷ es) = ⊥
AreEntriesOf (a ∷ asks) [] = ⊥
AreEntriesOf (a ∷ asks) (e ∷ es) = IsEntryOf a e × AreEntriesOf asks es
