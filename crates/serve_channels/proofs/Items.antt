-- What an item of a text asks for, whether the text ends at it, and what stands behind it.
use Rattle.std.proofs.Common.{◌≡◌, ℕ, Bool, true, false, ◌&&◌, ◌||◌, List, [], ◌∷◌, ◌++◌, Option, Some, None, refl, sym, ap, ◌∙◌, subst}
use Rattle.std.specs.Option.{option_to_list}
use Rattle.std.specs.Prelude.{if◌then◌else◌, length, nat_le, nat_lt, Result, Ok, Err}
use Rattle.report_text.specs.declared.line.ScriptRefusal.TheVariants.{Switch, TooLong}
use Rattle.script_text.specs.declared.command.Command.{Command}
use Rattle.script_text.specs.declared.command.Command.TheVariants as commands
use Rattle.script_text.specs.declared.step.Step.{Step}
use Rattle.script_text.specs.declared.step.Step.TheVariants as steps
use Rattle.script_text.specs.Frames.{frame}
use Rattle.script_text.specs.Grammar.{most_bytes}
use Rattle.script_text.specs.Orders.{Order, Halt, order_of, order_read}
use Rattle.script_text.specs.Orders.Halt.{Ends, Refuses as RefusesLine}
use Rattle.script_text.specs.Orders.Order.{Arrival, Change, Rules}
use Rattle.script_text.specs.Reading.{line_command}
use Rattle.script_text.specs.Steps.{Asks, has_frame_read, takes_memory}
use Rattle.board_lines.specs.declared.control_item.ControlItem.{ControlItem}
use Rattle.board_lines.specs.declared.control_item.ControlItem.TheVariants as items
use Rattle.board_lines.specs.Laws.{given_by}
use Rattle.board_lines.specs.Readings.{Reading, last_item}
use Rattle.serve_steps.specs.Texts.{Ask, ahead_of_refused, asked_by, asked_by_order, asks_last, asks_more, asks_of, ends_by_order, first_refused, is_quit, quits, serve_order, without_places}
use Rattle.serve_steps.specs.Laws.{LastAsks, LinesGoOn}
use Rattle.serve_steps.specs.Texts.Ask.{Changes, ReadsRules, Refuses, Renews}
use Rattle.serve_channels.specs.declared.scripting.ScriptEnd.{ScriptEnd}
use Rattle.serve_channels.specs.declared.scripting.ScriptEnd.TheVariants.{Quit, Refused, Whole}
use Rattle.serve_channels.specs.Controlling.{IsReading, end_with, item_end, order_here}

-- an item asks for nothing, is `quit`, or asks for one thing
by_item : (P : List Ask → Bool → Type 0) → P [] false → P [] true → ((ask : Ask) → P (ask ∷ []) false) → (i : ControlItem) → P (asked_by i) (is_quit i)
by_item P none quit one (items.Line n line) = by_order (serve_order line)
  where
    by_order : (order : Result Order Halt) → P (asked_by_order n order) (ends_by_order order)
    by_order (Ok (Change update)) = one (Changes update)
    by_order (Ok (Rules switch)) = one (ReadsRules switch)
    by_order (Ok order) = none
    by_order (Err Ends) = quit
    by_order (Err (RefusesLine kind)) = one (Refuses n kind)
by_item P none quit one (items.TooLong n) = one (Refuses n TooLong)
by_item P none quit one (items.Policy n text) = one (Renews text)

-- ---- a line that isn't `quit`

-- one that asks for a step
pub step_goes_on : (line : List ℕ) (step : Step) → Asks (order_of 0 line) step → ends_by_order (serve_order line) ≡ false
step_goes_on line step asks = ap (λ (order : Result Order Halt). ends_by_order (without_places order)) asks ∙ here step
  where
    here : (step : Step) → ends_by_order (order_here step) ≡ false
    here steps.Settle = refl
    here step = refl

-- one by which a frame comes, whether its place is there or not
arrival_goes_on : (c port : ℕ) (bytes : List ℕ) (there : Bool)
    → ends_by_order (without_places (if there then Ok (Arrival c port bytes) else Err (RefusesLine Switch))) ≡ false
arrival_goes_on c port bytes true = refl
arrival_goes_on c port bytes false = refl

-- one that takes memory
frame_goes_on : (long : Bool) (command : Option Command) → has_frame_read command ≡ true
    → ends_by_order (without_places (if long then Err (RefusesLine TooLong) else order_read 0 command)) ≡ false
frame_goes_on true command has = refl
frame_goes_on false (Some (commands.Packet c key)) has = arrival_goes_on c key.in_port (frame key) (nat_le 1 c && nat_le c 0)
frame_goes_on false (Some (commands.Frame c port bytes)) has = arrival_goes_on c port bytes (nat_le 1 c && nat_le c 0)
frame_goes_on false command has = absurd (cc)

pub memory_goes_on : (line : List ℕ) → takes_memory line ≡ true → ends_by_order (serve_order line) ≡ false
memory_goes_on line takes = frame_goes_on (nat_lt most_bytes (length line)) (line_command line) takes

-- ---- an item alone

-- what it asks for, where these stand behind it
abbrev asks_ahead : List Ask → Bool → List Ask → List Ask
asks_ahead asks quit later = if quit then [] else asks ++ later

pub asks_alone : (i : ControlItem) → asks_of (i ∷ []) ≡ asked_by i
asks_alone = by_item (λ asks quit. asks_ahead asks quit [] ≡ asks) refl refl (λ ask. refl)

pub quits_alone : (i : ControlItem) → quits (i ∷ []) ≡ is_quit i
quits_alone = by_item (λ asks quit. (quit || false) ≡ quit) refl refl (λ ask. refl)

-- what is asked for is what a script does that ends so, and a line that is refused
abbrev EndsSo : List Ask → Bool → ScriptEnd → Type 0
EndsSo asks quit Whole = (ahead_of_refused asks ≡ asks) × (false ≡ quit)
EndsSo asks quit Quit = (ahead_of_refused asks ≡ asks) × (true ≡ quit)
EndsSo asks quit (Refused n kind) = (ahead_of_refused asks ++ Refuses n kind ∷ [] ≡ asks) × (false ≡ quit)

one_ends : (ask : Ask) → EndsSo (ask ∷ []) false (end_with (first_refused (ask ∷ [])) false)
one_ends (Refuses n kind) = (refl, refl)
one_ends ask = (refl, refl)

pub ends_so : (i : ControlItem) (end is : ScriptEnd) → end ≡ item_end i → end ≡ is → EndsSo (asked_by i) (is_quit i) is
ends_so i end is end_is e =
    subst (EndsSo (asked_by i) (is_quit i)) (sym end_is ∙ e)
    (by_item (λ asks quit. EndsSo asks quit (end_with (first_refused asks) quit)) (refl, refl) (refl, refl) one_ends i)

-- ---- and what stands behind it

-- a text goes on behind what stands first in it; or it ends there, whatever comes
pub data Splits {X : Type 0} (whole : X) (first later all : List Ask) (end later_end all_end : X) : Type 0 where
  GoesOn : end ≡ whole → all ≡ first ++ later → all_end ≡ later_end → Splits whole first later all end later_end all_end
  EndsHere : (end ≡ whole → ⊥) → all ≡ first → all_end ≡ end → Splits whole first later all end later_end all_end

-- so it is in this list
pub record StandsFirst {X : Type 0} (asks : List ControlItem → List Ask) (end : List ControlItem → X) (whole : X) (first later all : List ControlItem) : Type 0 where
  pub splits : Splits whole (asks first) (asks later) (asks all) (end first) (end later) (end all)

-- a control text goes on up to `quit`
pub control_first : (o : Option ControlItem) (later : List ControlItem) → StandsFirst asks_of quits false (option_to_list o) later (option_to_list o ++ later)
control_first None later = record { splits = GoesOn refl refl refl }
control_first (Some i) later = record {
  splits =
      by_item
      (λ asks quit. Splits false (asks_ahead asks quit []) (asks_of later) (asks_ahead asks quit (asks_of later)) (quit || false) (quits later) (quit || quits later))
      (GoesOn refl refl refl) (EndsHere (λ e. absurd (cc)) refl refl) (λ ask. GoesOn refl refl refl) i;
}

-- a script also ends at a line that is refused
abbrev pub script_does : List ControlItem → List Ask
script_does all = ahead_of_refused (asks_of all)

abbrev pub list_end : List ControlItem → ScriptEnd
list_end all = end_with (first_refused (asks_of all)) (quits all)

abbrev ScriptSplits : List ControlItem → List Ask → Bool → Type 0
ScriptSplits later asks quit =
    Splits Whole (ahead_of_refused (asks_ahead asks quit [])) (script_does later) (ahead_of_refused (asks_ahead asks quit (asks_of later)))
    (end_with (first_refused (asks_ahead asks quit [])) (quit || false)) (list_end later) (end_with (first_refused (asks_ahead asks quit (asks_of later))) (quit || quits later))

one_splits : (later : List ControlItem) (ask : Ask) → ScriptSplits later (ask ∷ []) false
one_splits later (Refuses n kind) = EndsHere (λ e. absurd (cc)) refl refl
one_splits later ask = GoesOn refl refl refl

pub script_first : (o : Option ControlItem) (later : List ControlItem) → StandsFirst script_does list_end Whole (option_to_list o) later (option_to_list o ++ later)
script_first None later = record { splits = GoesOn refl refl refl }
script_first (Some i) later = record { splits = by_item (ScriptSplits later) (GoesOn refl refl refl) (EndsHere (λ e. absurd (cc)) refl refl) (one_splits later) i }

-- ---- whole texts

-- what further bytes ask for is what a reader gives that has read the text, and so it is at the end
pub more_asks : LinesGoOn → (text bytes : List ℕ) (r : Reading) → IsReading text r → asks_more text bytes ≡ asks_of (given_by r bytes)
more_asks on text bytes r is = on text bytes ∙ rw (is.goes_on) (ap (λ (q : Reading). asks_of (given_by q bytes)) (sym is.held))

pub last_asked : LastAsks → (text : List ℕ) (r : Reading) → IsReading text r → asks_last text ≡ asks_of (option_to_list (last_item r))
last_asked last text r is = last text ∙ rw (is.goes_on) (ap (λ (q : Reading). asks_of (option_to_list (last_item q))) (sym is.held))
