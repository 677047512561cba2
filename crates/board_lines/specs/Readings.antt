-- How control text is read byte by byte, in bounded memory. It need not be believed: the law `ReadsItems` says that what is given so is what the text has.
use Rattle.std.specs.Prelude.{ℕ, ◌+◌, ◌≤◌, Bool, ◌==◌, nat_lt, if◌then◌else◌, List, [], ◌∷◌, ◌++◌, length, take, Option, Some, None, codes}
use Rattle.std.specs.Option.{option_to_list}
use Rattle.std.specs.Str.{bytes_eq}
use Rattle.script_text.specs.Grammar.{most_bytes}
use Rattle.board_lines.specs.declared.control_item.ControlItem.{ControlItem}
use Rattle.board_lines.specs.declared.control_item.ControlItem.TheVariants.{Policy}
use Rattle.board_lines.specs.ControlItems.{is_new_policy, line_item, next_number}
use Rattle.board_lines.specs.KeptTexts.{Kept, keep, most_kept, nothing_kept}

-- what is held: the number of the line that goes on; its bytes so far, or more than 8,192 of them; the number of the line `newpolicy`, where it belongs to a
-- policy's text; and what is kept of that text, this line included
pub record Reading : Type 0 where
  pub number : ℕ
  pub line : List ℕ
  pub policy : Option ℕ
  pub kept : Kept

-- nothing was read of a text whose first line has this number
abbrev pub beginning_at : ℕ → Reading
beginning_at n = record { number = n; line = []; policy = None; kept = nothing_kept }

abbrev pub beginning : Reading
beginning = beginning_at 1

-- how many bytes are stored
abbrev pub stored : Reading → ℕ
stored r = length r.line + length r.kept.bytes

-- no more than this, whatever was read
pub record IsBounded (r : Reading) : Type 0 where
  pub line : length r.line ≤ most_bytes + 1
  pub kept : length r.kept.bytes ≤ most_kept

-- the line %%, without a line feed
abbrev pub is_end : List ℕ → Bool
is_end line = bytes_eq line (codes "%%")

-- the text of the policy that a line %% ends
abbrev pub text_ahead : Kept → List ℕ
text_ahead k = take k.ahead k.bytes

-- a line goes on; of a longer one than 8,192 bytes one byte more is held, and no other
abbrev pub longer : List ℕ → ℕ → List ℕ
longer line b = if nat_lt most_bytes (length line) then line else line ++ b ∷ []

abbrev pub kept_by : Option ℕ → Kept → ℕ → Kept
kept_by None k b = k
kept_by (Some n) k b = keep k b

-- a line of a policy's text has ended, and stands ahead of the next
abbrev pub line_kept : Kept → Kept
line_kept k = record k { ahead = length k.bytes }

-- the next line begins
abbrev pub next_line : Reading → Reading
next_line r = record r { number = next_number r.number; line = [] }

-- what the line feed of a line gives
abbrev pub item_at_end : Option ℕ → Reading → Option ControlItem
item_at_end None r = if is_new_policy r.line then None else Some (line_item r.number r.line)
item_at_end (Some n) r = if is_end r.line then Some (Policy n (text_ahead r.kept)) else None

-- and what is held behind it
abbrev pub behind_end : Option ℕ → Reading → Reading
behind_end None r = if is_new_policy r.line then record (next_line r) { policy = Some r.number; kept = nothing_kept } else next_line r
behind_end (Some n) r =
    if is_end r.line then record (next_line r) { policy = None; kept = nothing_kept } else record (next_line r) { kept = line_kept (keep r.kept 10) }

-- the line goes on
abbrev pub going_on : Reading → ℕ → Reading
going_on r b = record r { line = longer r.line b; kept = kept_by r.policy r.kept b }

-- what a byte gives
abbrev pub item_at : Reading → ℕ → Option ControlItem
item_at r b = if b == 10 then item_at_end r.policy r else None

-- what is held behind a byte
abbrev pub behind : Reading → ℕ → Reading
behind r b = if b == 10 then behind_end r.policy r else going_on r b

-- what the end gives of a line without a line feed
abbrev pub item_of_rest : ℕ → List ℕ → Option ControlItem
item_of_rest n [] = None
item_of_rest n line = if is_new_policy line then Some (Policy n []) else Some (line_item n line)

-- what the end gives of a policy's text, within this line
abbrev pub last_text : List ℕ → Kept → List ℕ
last_text line k = if is_end line then text_ahead k else k.bytes

abbrev pub last_item_in : Option ℕ → Reading → Option ControlItem
last_item_in None r = item_of_rest r.number r.line
last_item_in (Some n) r = Some (Policy n (last_text r.line r.kept))

abbrev pub last_item : Reading → Option ControlItem
last_item r = last_item_in r.policy r

-- what these bytes give, and then the end
abbrev pub items_from : Reading → List ℕ → List ControlItem
items_from r [] = option_to_list (last_item r)
items_from r (b ∷ bs) = option_to_list (item_at r b) ++ items_from (behind r b) bs
