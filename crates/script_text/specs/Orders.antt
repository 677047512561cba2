-- What the lines of a script ask for, and which of them is refused. Each line is given with the line feed that ends it.
use Rattle.std.specs.Prelude.{ℕ, ◌+◌, ◌&&◌, nat_le, nat_lt, if◌then◌else◌, List, [], ◌∷◌, ◌++◌, length, Option, Some, None, Result, Ok, Err}
use Rattle.env_cells.specs.declared.updates.Update.{Update}
use Rattle.env_cells.specs.declared.updates.Update.TheVariants as updates
use Rattle.script_text.specs.declared.command.Command.{Command}
use Rattle.script_text.specs.declared.command.Command.TheVariants as commands
use Rattle.script_text.specs.Frames.{frame}
use Rattle.script_text.specs.Grammar.{most_bytes}
use Rattle.script_text.specs.Reading.{line_command}
use Rattle.report_text.specs.declared.line.ScriptRefusal.{ScriptRefusal}
use Rattle.report_text.specs.declared.line.ScriptRefusal.TheVariants.{Grammar, TooLong, Switch}
use Rattle.script_text.specs.Lines.{is_mark, without_end}

-- what a line of a script asks for; the devices stand at places, from 1 on
pub data Order : Type 0 where
  Nothing : Order
  Plug : ℕ → Order
  Unplug : ℕ → Order
  -- a frame comes to the device at a place by a port
  Arrival : ℕ → ℕ → List ℕ → Order
  -- the device at a place takes so many turns
  Turn : ℕ → ℕ → Order
  Settle : Order
  Change : Update → Order
  -- another policy, of this text
  NewPolicy : List ℕ → Order
  Rules : ℕ → Order

-- why a line asks for nothing more: the script ends there, or the line is refused
pub data Halt : Type 0 where
  Ends : Halt
  Refuses : ScriptRefusal → Halt

-- a place is one of so many
abbrev pub at_place : ℕ → ℕ → Order → Result Order Halt
at_place places c order = if nat_le 1 c && nat_le c places then Ok order else Err (Refuses Switch)

-- what a command asks for, where there are so many places; a packet comes as its frame. The text of a new policy comes behind its line
abbrev pub order_by : ℕ → Command → Result Order Halt
order_by places commands.Nothing = Ok Nothing
order_by places (commands.Plug c) = at_place places c (Plug c)
order_by places (commands.Unplug c) = at_place places c (Unplug c)
order_by places (commands.Packet c key) = at_place places c (Arrival c key.in_port (frame key))
order_by places (commands.Frame c port bytes) = at_place places c (Arrival c port bytes)
order_by places (commands.Turn c n) = at_place places c (Turn c n)
order_by places commands.Settle = Ok Settle
order_by places (commands.Host mac place) = Ok (Change (updates.Host mac place))
order_by places (commands.NoHost mac) = Ok (Change (updates.NoHost mac))
order_by places (commands.Link from to) = Ok (Change (updates.Link from to))
order_by places (commands.NoLink from) = Ok (Change (updates.NoLink from))
order_by places (commands.Set table key value) = Ok (Change (updates.Set table key value))
order_by places (commands.Unset table key) = Ok (Change (updates.Unset table key))
order_by places commands.NewPolicy = Ok (NewPolicy [])
order_by places (commands.Rules switch) = Ok (Rules switch)
order_by places commands.Quit = Err Ends

abbrev pub order_read : ℕ → Option Command → Result Order Halt
order_read places None = Err (Refuses Grammar)
order_read places (Some c) = order_by places c

-- what a line asks for, or why it is refused
abbrev pub order_of : ℕ → List ℕ → Result Order Halt
order_of places line = if nat_lt most_bytes (length line) then Err (Refuses TooLong) else order_read places (line_command line)

-- what the next line belongs to: the script, or the text of a new policy, of which these bytes stand before it
pub data Within : Type 0 where
  Script : Within
  Text : List ℕ → Within

-- an order ahead of those behind it: behind `newpolicy` its text comes first
abbrev pub ahead_of : Result Order Halt → List Order → List Order → List Order
ahead_of (Ok (NewPolicy none)) script text = text
ahead_of (Ok order) script text = order ∷ script
ahead_of (Err halt) script text = []

-- what the lines ahead of the first refused one, or of the end of the script, ask for. The text of a new policy goes up to a line %%, or to the end
abbrev pub orders_in : ℕ → Within → List (List ℕ) → List Order
orders_in places Script [] = []
orders_in places (Text text) [] = NewPolicy text ∷ []
orders_in places Script (l ∷ ls) = ahead_of (order_of places (without_end l)) (orders_in places Script ls) (orders_in places (Text []) ls)
orders_in places (Text text) (l ∷ ls) = if is_mark l then NewPolicy text ∷ orders_in places Script ls else orders_in places (Text (text ++ l)) ls

abbrev pub orders_of : ℕ → List (List ℕ) → List Order
orders_of places lines = orders_in places Script lines

-- where the script ends no later line is refused
abbrev pub refused_or : ℕ → Result Order Halt → Option (ℕ × ScriptRefusal) → Option (ℕ × ScriptRefusal) → Option (ℕ × ScriptRefusal)
refused_or n (Ok (NewPolicy none)) script text = text
refused_or n (Ok order) script text = script
refused_or n (Err Ends) script text = None
refused_or n (Err (Refuses kind)) script text = Some (n, kind)

-- the number of the first refused line, and why it is refused, where the first of the lines has this number; no line of a policy's text is
abbrev pub refused_in : ℕ → Within → ℕ → List (List ℕ) → Option (ℕ × ScriptRefusal)
refused_in places within n [] = None
refused_in places Script n (l ∷ ls) =
    refused_or n (order_of places (without_end l)) (refused_in places Script (n + 1) ls) (refused_in places (Text []) (n + 1) ls)
refused_in places (Text text) n (l ∷ ls) = if is_mark l then refused_in places Script (n + 1) ls else refused_in places (Text (text ++ l)) (n + 1) ls

abbrev pub refused_from : ℕ → ℕ → List (List ℕ) → Option (ℕ × ScriptRefusal)
refused_from places n lines = refused_in places Script n lines
