-- What has ended in a control text, and what that asks for.
use Rattle.std.proofs.Common.{◌≡◌, ◌⊎◌, ℕ, true, false, List, [], ◌∷◌, ◌++◌, length, drop, Option, Some, None, refl, sym, ap, ◌∙◌, subst, inl, inr, ⊎_elim}
use Rattle.std.specs.Option.{option_to_list}
use Rattle.std.proofs.lemmas.Bool.{cases_Bool}
use Rattle.std.proofs.lemmas.List.{append-nil, append_assoc}
use Rattle.board_lines.specs.declared.control_item.ControlItem.{ControlItem}
use Rattle.board_lines.specs.declared.control_item.ControlItem.TheVariants.{Policy}
use Rattle.board_lines.specs.ControlItems.{is_new_policy, items_of, line_item}
use Rattle.board_lines.specs.KeptTexts.{Kept, keep}
use Rattle.board_lines.specs.Laws.{BeginsAt, EndsAt, GoesOnAt, IsAt, PoliciesAlike, RefusedAlike, given_by, held_behind}
use Rattle.board_lines.specs.Readings.{Reading, beginning, behind, is_end, item_at, items_from, last_item, text_ahead}
use Rattle.policy_text.specs.declared.reading.ReadError.TheVariants.{Refused}
use Rattle.serve_steps.specs.Texts.{Ask, asked_by, asks_of, but_last, control_asks, ended_items, is_quit}
use Rattle.serve_steps.specs.Laws.{EachAsksOnce, EndedIsGiven, EndedStays, LastAsks, LinesGoOn, RenewsAlike, asks_behind}

-- ---- what the reader gives

-- bytes are read one behind the other
pub given_on : (r : Reading) (xs ys : List ℕ) → given_by r (xs ++ ys) ≡ given_by r xs ++ given_by (held_behind r xs) ys
given_on r [] ys = refl
given_on r (x ∷ xs) ys =
    ap (λ (is : List ControlItem). option_to_list (item_at r x) ++ is) (given_on (behind r x) xs ys)
    ∙ sym (append_assoc (option_to_list (item_at r x)) (given_by (behind r x) xs) (given_by (held_behind (behind r x) xs) ys))

at_same : (text other : List ℕ) (given more : List ControlItem) (r : Reading) → text ≡ other → given ≡ more → IsAt text given r → IsAt other more r
at_same text other given more r e f at =
    subst (λ (xs : List ℕ). IsAt xs more r) e (subst (λ (is : List ControlItem). IsAt text is r) f at)

reads_on : GoesOnAt → (bytes text : List ℕ) (given : List ControlItem) (r : Reading) → IsAt text given r
    → IsAt (text ++ bytes) (given ++ given_by r bytes) (held_behind r bytes)
reads_on goes [] text given r at = at_same text (text ++ []) given (given ++ []) r (sym (append-nil text)) (sym (append-nil given)) at
reads_on goes (b ∷ bs) text given r at =
    at_same ((text ++ b ∷ []) ++ bs) (text ++ b ∷ bs) ((given ++ option_to_list (item_at r b)) ++ given_by (behind r b) bs) (given ++ given_by r (b ∷ bs))
    (held_behind r (b ∷ bs)) (append_assoc text (b ∷ []) bs) (append_assoc given (option_to_list (item_at r b)) (given_by (behind r b) bs))
    (reads_on goes bs (text ++ b ∷ []) (given ++ option_to_list (item_at r b)) (behind r b) (goes text given r b at))

is_at : BeginsAt → GoesOnAt → (text : List ℕ) → IsAt text (given_by beginning text) (held_behind beginning text)
is_at begins goes text = reads_on goes text [] [] beginning begins

-- ---- what has ended

-- one more line feed, and then the end, give one item
abbrev GivesOne : List ControlItem → Type 0
GivesOne given = (i : ControlItem) × (given ≡ i ∷ [])

ends_one : (number : ℕ) (line : List ℕ) (policy : Option ℕ) (kept : Kept) → (is_new_policy line ≡ true) ⊎ (is_new_policy line ≡ false)
    → (is_end line ≡ true) ⊎ (is_end line ≡ false)
    → GivesOne (items_from (record { number = number; line = line; policy = policy; kept = kept }) (10 ∷ []))
ends_one number line None kept new end = ⊎_elim (λ t. rw t (Policy number [], refl)) (λ t. rw t (line_item number line, refl)) new
ends_one number line (Some n) kept new end = ⊎_elim (λ t. rw t (Policy n (text_ahead kept), refl)) (λ t. rw t (Policy n ((keep kept 10).bytes), refl)) end

gives_one : (r : Reading) → GivesOne (items_from r (10 ∷ []))
gives_one r = ends_one r.number r.line r.policy r.kept (cases_Bool (is_new_policy r.line)) (cases_Bool (is_end r.line))

last_off : (is : List ControlItem) (i : ControlItem) → but_last (is ++ i ∷ []) ≡ is
last_off [] i = refl
last_off (x ∷ []) i = refl
last_off (x ∷ (y ∷ is)) i = ap (λ (js : List ControlItem). x ∷ js) (last_off (y ∷ is) i)

pub ended_is_given : BeginsAt → GoesOnAt → EndedIsGiven
ended_is_given begins goes text =
    sym (
    ap but_last
    (is_at begins goes text (10 ∷ []) ∙ ap (λ (is : List ControlItem). given_by beginning text ++ is) (gives_one (held_behind beginning text)).1)
    ∙ last_off (given_by beginning text) (gives_one (held_behind beginning text)).0
    )

pub ended_stays : BeginsAt → GoesOnAt → EndedStays
ended_stays begins goes text rest = (
  items_from (held_behind beginning text) rest,
  is_at begins goes text rest ∙ ap (λ (is : List ControlItem). is ++ items_from (held_behind beginning text) rest) (ended_is_given begins goes text),
)

ended_on : BeginsAt → GoesOnAt → (text bytes : List ℕ) → ended_items (text ++ bytes) ≡ ended_items text ++ given_by (held_behind beginning text) bytes
ended_on begins goes text bytes =
    sym (ended_is_given begins goes (text ++ bytes)) ∙ given_on beginning text bytes
    ∙ ap (λ (is : List ControlItem). is ++ given_by (held_behind beginning text) bytes) (ended_is_given begins goes text)

-- ---- what is asked for

asks_on : (is js : List ControlItem) → asks_of (is ++ js) ≡ asks_of is ++ asks_behind is js
asks_on [] js = refl
asks_on (i ∷ is) js =
    ⊎_elim
    (λ e. rw e refl)
    (λ e. rw e (ap (λ (asks : List Ask). asked_by i ++ asks) (asks_on is js) ∙ sym (append_assoc (asked_by i) (asks_of is) (asks_behind is js))))
    (cases_Bool (is_quit i))

dropped : (xs ys : List Ask) → drop (length xs) (xs ++ ys) ≡ ys
dropped [] ys = refl
dropped (x ∷ xs) ys = dropped xs ys

more_is : BeginsAt → GoesOnAt → (text bytes : List ℕ)
    → control_asks (text ++ bytes) ≡ control_asks text ++ asks_behind (ended_items text) (given_by (held_behind beginning text) bytes)
more_is begins goes text bytes = ap asks_of (ended_on begins goes text bytes) ∙ asks_on (ended_items text) (given_by (held_behind beginning text) bytes)

pub lines_go_on : BeginsAt → GoesOnAt → LinesGoOn
lines_go_on begins goes text bytes =
    ap (λ (asks : List Ask). drop (length (control_asks text)) asks) (more_is begins goes text bytes)
    ∙ dropped (control_asks text) (asks_behind (ended_items text) (given_by (held_behind beginning text) bytes))

pub each_asks_once : BeginsAt → GoesOnAt → EachAsksOnce
each_asks_once begins goes text bytes =
    more_is begins goes text bytes ∙ ap (λ (asks : List Ask). control_asks text ++ asks) (sym (lines_go_on begins goes text bytes))

last_is : BeginsAt → GoesOnAt → EndsAt → (text : List ℕ)
    → asks_of (items_of text) ≡ control_asks text ++ asks_behind (ended_items text) (option_to_list (last_item (held_behind beginning text)))
last_is begins goes ends text =
    ap asks_of
    (ends text (given_by beginning text) (held_behind beginning text) (is_at begins goes text)
    ∙ ap (λ (is : List ControlItem). is ++ option_to_list (last_item (held_behind beginning text))) (ended_is_given begins goes text))
    ∙ asks_on (ended_items text) (option_to_list (last_item (held_behind beginning text)))

pub last_asks : BeginsAt → GoesOnAt → EndsAt → LastAsks
last_asks begins goes ends text =
    ap (λ (asks : List Ask). drop (length (control_asks text)) asks) (last_is begins goes ends text)
    ∙ dropped (control_asks text) (asks_behind (ended_items text) (option_to_list (last_item (held_behind beginning text))))

-- ---- texts of policies

pub renews_alike : PoliciesAlike → RefusedAlike → RenewsAlike
renews_alike policies refused text entry = (
  ⊎_elim (λ i. inl (i.0, (policies text i.0).0 i.1, i.2)) (λ i. inr (i.0, i.1, i.2, (refused text (Refused i.0 i.1 i.2)).0 i.3, i.4)),
  ⊎_elim (λ i. inl (i.0, (policies text i.0).1 i.1, i.2)) (λ i. inr (i.0, i.1, i.2, (refused text (Refused i.0 i.1 i.2)).1 i.3, i.4)),
)
