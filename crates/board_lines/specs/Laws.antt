-- What holds of whatever is sent and read.
use Rattle.std.specs.Prelude.{◌≡◌, ◌≢◌, ◌↔◌, ℕ, ◌≤◌, true, List, [], ◌∷◌, ◌++◌, length, Ok}
use Rattle.std.specs.List.{concat}
use Rattle.std.specs.Option.{option_map, option_to_list}
use Rattle.maple_base.specs.PolicyLimits.{most_bytes}
use Rattle.maple_io.specs.declared.act.Act.{Act}
use Rattle.maple_io.specs.Boards.{control_text, heard, sent, was_closed, was_opened}
use Rattle.policy_lang.specs.declared.Policy.{Policy}
use Rattle.policy_text.specs.declared.reading.ReadError.{ReadError}
use Rattle.policy_text.specs.Texts.{IsRefused, IsTextOf}
use Rattle.policy_tokens.specs.Faults.{earliest, faults, told}
use Rattle.board_lines.specs.declared.control_item.ControlItem.{ControlItem}
use Rattle.script_text.specs.Orders.{order_of}
use Rattle.script_text.specs.Orders.Order.{NewPolicy}
use Rattle.script_text.specs.Lines.{ended_lines}
use Rattle.board_lines.specs.ControlItems.{is_new_policy, items_in, items_of}
use Rattle.board_lines.specs.ControlItems.Within.{Control}
use Rattle.board_lines.specs.Deliveries.{OnlySends}
use Rattle.board_lines.specs.KeptTexts.{kept_text, most_kept}
use Rattle.board_lines.specs.Readings.{Reading, beginning, beginning_at, behind, item_at, items_from, last_item}

-- ---- control text

-- what was given so far, with what is held, is what the text has that was read so far, whatever comes behind it
abbrev pub IsAt : List ℕ → List ControlItem → Reading → Type 0
IsAt text given r = (rest : List ℕ) → items_of (text ++ rest) ≡ given ++ items_from r rest

-- so it is of a new reader
abbrev pub BeginsAt : Type 0
BeginsAt = IsAt [] [] beginning

-- and behind each byte
abbrev pub GoesOnAt : Type 0
GoesOnAt =
    (text : List ℕ) (given : List ControlItem) (r : Reading) (b : ℕ) → IsAt text given r → IsAt (text ++ b ∷ []) (given ++ option_to_list (item_at r b)) (behind r b)

-- so at the end what was given is what the whole text has
abbrev pub EndsAt : Type 0
EndsAt = (text : List ℕ) (given : List ControlItem) (r : Reading) → IsAt text given r → items_of text ≡ given ++ option_to_list (last_item r)

-- what these bytes give, and what is held behind them
abbrev pub given_by : Reading → List ℕ → List ControlItem
given_by r [] = []
given_by r (b ∷ bs) = option_to_list (item_at r b) ++ given_by (behind r b) bs

abbrev pub held_behind : Reading → List ℕ → Reading
held_behind r [] = r
held_behind r (b ∷ bs) = held_behind (behind r b) bs

-- the same of pieces, and then the end
abbrev pub given_of : Reading → List (List ℕ) → List ControlItem
given_of r [] = option_to_list (last_item r)
given_of r (piece ∷ pieces) = given_by r piece ++ given_of (held_behind r piece) pieces

-- whatever the pieces, what is given is what the pieces, joined, have
abbrev pub AnyPieces : Type 0
AnyPieces = (pieces : List (List ℕ)) → given_of beginning pieces ≡ items_of (concat pieces)

-- the same of a text whose first line has any number
abbrev pub AnyFirstLine : Type 0
AnyFirstLine = (n : ℕ) (text : List ℕ) → given_of (beginning_at n) (text ∷ []) ≡ items_in Control n (ended_lines text)

-- a line begins the text of a policy just where a script's line asks for a new policy, whatever places there are
abbrev pub BeginsAsOrdered : Type 0
BeginsAsOrdered = (places : ℕ) (line : List ℕ) → (is_new_policy line ≡ true) ↔ (order_of places line ≡ Ok (NewPolicy []))

-- ---- what is kept of the text of a policy

abbrev pub KeepsAll : Type 0
KeepsAll = (text : List ℕ) → length text ≤ most_bytes → kept_text text ≡ text

abbrev pub IsFew : Type 0
IsFew = (text : List ℕ) → length (kept_text text) ≤ most_kept

-- the first fault of what is kept is that of the text, at the same position
abbrev pub KeepsFaults : Type 0
KeepsFaults = (text : List ℕ) → option_map (told (kept_text text)) (earliest (faults (kept_text text))) ≡ option_map (told text) (earliest (faults text))

-- so it is a text of the policies that the text is of, and is refused just as the text is
abbrev pub PoliciesAlike : Type 0
PoliciesAlike = (text : List ℕ) (policy : Policy) → IsTextOf policy (kept_text text) ↔ IsTextOf policy text

abbrev pub RefusedAlike : Type 0
RefusedAlike = (text : List ℕ) (error : ReadError) → IsRefused (kept_text text) error ↔ IsRefused text error

-- ---- sends

-- all but what was sent for the connection is as it was
pub record IsElseSame (c : ℕ) (old new : List Act) : Type 0 where
  pub sent_same : (d : ℕ) → d ≢ c → sent d new ≡ sent d old
  pub heard_same : (d : ℕ) → heard d new ≡ heard d old
  pub opened_same : (d : ℕ) → was_opened d new ≡ was_opened d old
  pub closed_same : (d : ℕ) → was_closed d new ≡ was_closed d old
  pub control_same : control_text new ≡ control_text old

abbrev pub NothingElse : Type 0
NothingElse = (c : ℕ) (old new : List Act) → OnlySends c old new → IsElseSame c old new
