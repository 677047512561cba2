-- The steps of a script, which are its orders without the text of a new policy, and why a line gives none.
use Rattle.std.specs.Prelude.{◌≡◌, ℕ, ◌+◌, ◌≤◌, Bool, true, false, nat_le, ◌&&◌, if◌then◌else◌, List, [], ◌∷◌, length, Option, Some, None, Result, Ok, Err}
use Rattle.env_cells.specs.declared.updates.Update.{Update}
use Rattle.env_cells.specs.declared.updates.Update.TheVariants as updates
use Rattle.script_text.specs.declared.command.Command.{Command}
use Rattle.script_text.specs.declared.command.Command.TheVariants.{Packet, Frame}
use Rattle.script_text.specs.Grammar.{most_bytes}
use Rattle.script_text.specs.Reading.{line_command}
use Rattle.report_text.specs.declared.line.ScriptRefusal.{ScriptRefusal}
use Rattle.report_text.specs.declared.line.ScriptRefusal.TheVariants.{Switch}
use Rattle.script_text.specs.declared.step.Step.{Step}
use Rattle.script_text.specs.declared.step.Step.TheVariants as steps
use Rattle.script_text.specs.declared.step.StepStop.{StepStop}
use Rattle.script_text.specs.declared.step.StepStop.TheVariants.{End, Refused, NoMemory}
use Rattle.script_text.specs.Orders.{Order, Halt, Ends, Refuses, orders_of, refused_from}
use Rattle.script_text.specs.Orders.Order.{Nothing, Plug, Unplug, Arrival, Turn, Settle, Change, NewPolicy, Rules}

-- the order of a step, with the text behind the line of a new policy
abbrev pub order_with : Step → List ℕ → Order
order_with steps.Nothing text = Nothing
order_with (steps.Plug c) text = Plug c
order_with (steps.Unplug c) text = Unplug c
order_with (steps.Arrival c port frame) text = Arrival c port frame
order_with (steps.Turn c n) text = Turn c n
order_with steps.Settle text = Settle
order_with (steps.Change update) text = Change update
order_with steps.NewPolicy text = NewPolicy text
order_with (steps.Rules switch) text = Rules switch

-- a line asks for this step; the text of a new policy comes behind it
abbrev pub Asks : Result Order Halt → Step → Type 0
Asks order step = order ≡ Ok (order_with step [])

-- a line stops the script where it ends it or is refused; memory may run out
abbrev pub IsStop : Result Order Halt → StepStop → Type 0
IsStop order End = order ≡ Err Ends
IsStop order (Refused kind) = order ≡ Err (Refuses kind)
IsStop order NoMemory = Unit {0}

-- memory is taken for a frame and for a packet's alone
abbrev pub has_frame : Command → Bool
has_frame (Packet c key) = true
has_frame (Frame c port bytes) = true
has_frame command = false

abbrev pub has_frame_read : Option Command → Bool
has_frame_read None = false
has_frame_read (Some command) = has_frame command

abbrev pub takes_memory : List ℕ → Bool
takes_memory line = has_frame_read (line_command line)

-- a place is one of so many
abbrev pub IsAmong : ℕ → ℕ → Type 0
IsAmong places c = (1 ≤ c) × (c ≤ places)

-- an update of hosts, links or numbers of tables: a script makes no other
abbrev pub IsOfLine : Update → Type 0
IsOfLine (updates.Host mac place) = Unit {0}
IsOfLine (updates.NoHost mac) = Unit {0}
IsOfLine (updates.Link from to) = Unit {0}
IsOfLine (updates.NoLink from) = Unit {0}
IsOfLine (updates.Set table key value) = Unit {0}
IsOfLine (updates.Unset table key) = Unit {0}
IsOfLine update = ⊥

-- what holds of each step: its place is one of so many, its frame no longer than a line, its update one of a line
abbrev pub IsKept : ℕ → Step → Type 0
IsKept places (steps.Plug c) = IsAmong places c
IsKept places (steps.Unplug c) = IsAmong places c
IsKept places (steps.Arrival c port frame) = IsAmong places c × (length frame ≤ most_bytes)
IsKept places (steps.Turn c n) = IsAmong places c
IsKept places (steps.Change update) = IsOfLine update
IsKept places step = Unit {0}

-- a command whose frame is no longer than a line
abbrev pub IsShort : Command → Type 0
IsShort (Frame c port bytes) = length bytes ≤ most_bytes
IsShort command = Unit {0}

-- a place where there are so many
abbrev pub place_among : ℕ → ℕ → Result ℕ StepStop
place_among places c = if nat_le 1 c && nat_le c places then Ok c else Err (Refused Switch)

-- a script's first lines, so many, ask for this order, and behind them come these
pub record Leads (places : ℕ) (lines : List (List ℕ)) (order : Order) (passed : ℕ) (left : List (List ℕ)) : Type 0 where
  pub orders : orders_of places lines ≡ order ∷ orders_of places left
  pub refused : (n : ℕ) → refused_from places n lines ≡ refused_from places (n + passed) left

-- the first line asks for nothing more, and this is known of refused lines
pub record Halts (places : ℕ) (lines : List (List ℕ)) (refused : ℕ → Option (ℕ × ScriptRefusal)) : Type 0 where
  pub orders : orders_of places lines ≡ []
  pub refused_is : (n : ℕ) → refused_from places n lines ≡ refused n

-- where the first line ends the script no line is refused; where it is refused it is the first such line
abbrev pub IsHalted : ℕ → List (List ℕ) → StepStop → Type 0
IsHalted places lines End = Halts places lines (λ n. None)
IsHalted places lines (Refused kind) = Halts places lines (λ n. Some (n, kind))
IsHalted places lines NoMemory = Unit {0}
