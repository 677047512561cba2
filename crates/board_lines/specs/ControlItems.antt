-- What a control text has: lines, and the texts of new policies. It is read as a script is: behind a line `newpolicy` the lines up to a line %%, or to the end,
-- are the text of a policy.
use Rattle.std.specs.Prelude.{ℕ, ◌+◌, ◌-◌, ◌^◌, Bool, min, nat_lt, if◌then◌else◌, List, [], ◌∷◌, ◌++◌, length, codes}
use Rattle.std.specs.Str.{bytes_eq}
use Rattle.script_text.specs.Grammar.{most_bytes}
use Rattle.script_text.specs.Lines.{ended_lines, is_mark, without_end}
use Rattle.board_lines.specs.declared.control_item.ControlItem.{ControlItem}
use Rattle.board_lines.specs.declared.control_item.ControlItem.TheVariants.{Line, TooLong, Policy}
use Rattle.board_lines.specs.KeptTexts.{kept_text}

-- the number of the line behind one with this number; numbers stand still at 2 ^ 32 - 1
abbrev pub next_number : ℕ → ℕ
next_number n = min (n + 1) (2 ^ 32 - 1)

-- the word of a new policy, without a line feed
abbrev pub is_new_policy : List ℕ → Bool
is_new_policy line = bytes_eq line (codes "newpolicy")

-- a line, without its line feed; one of more than 8,192 bytes is too long
abbrev pub line_item : ℕ → List ℕ → ControlItem
line_item n line = if nat_lt most_bytes (length line) then TooLong n else Line n line

-- a policy's text, with the number of its line `newpolicy`
abbrev pub policy_item : ℕ → List ℕ → ControlItem
policy_item n text = Policy n (kept_text text)

-- what the next line belongs to: the control text, or the text of a new policy, of which these bytes stand before it
pub data Within : Type 0 where
  Control : Within
  Text : ℕ → List ℕ → Within

-- what these lines have, each given with the line feed that ends it, where the first has this number
abbrev pub items_in : Within → ℕ → List (List ℕ) → List ControlItem
items_in Control n [] = []
items_in (Text k text) n [] = policy_item k text ∷ []
items_in Control n (l ∷ ls) =
    if is_new_policy (without_end l) then items_in (Text n []) (next_number n) ls else line_item n (without_end l) ∷ items_in Control (next_number n) ls
items_in (Text k text) n (l ∷ ls) =
    if is_mark l then policy_item k text ∷ items_in Control (next_number n) ls else items_in (Text k (text ++ l)) (next_number n) ls

-- what a whole control text has
abbrev pub items_of : List ℕ → List ControlItem
items_of text = items_in Control 1 (ended_lines text)
