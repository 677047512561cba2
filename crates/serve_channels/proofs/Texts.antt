-- What the control text and the start script ask for is done, byte by byte.
use Rattle.std.proofs.Common.{◌≡◌, ℕ, ◌+◌, ◌<◌, ◌≤◌, Bool, false, ◌||◌, List, [], ◌∷◌, ◌++◌, length, drop, take, get_or, Option, refl, sym, ap, ◌∙◌, subst}
use Rattle.std.specs.Option.{option_to_list}
use Rattle.std.proofs.lemmas.List.{append-nil, append_assoc, drop_all, drop_more, take-append-drop, take_all, take_more}
use Rattle.std.proofs.lemmas.List.Folds.{list_any-append}
use Rattle.board_lines.specs.declared.control_item.ControlItem.{ControlItem}
use Rattle.board_lines.specs.Laws.{given_by, given_of, held_behind}
use Rattle.board_lines.specs.Readings.{Reading, beginning, behind, item_at, last_item}
use Rattle.machine_desk.proofs.Tended.{same_self, same_then}
use Rattle.serve_steps.specs.Texts.{Ask, asks_of, control_quits, is_quit, quits}
use Rattle.serve_steps.specs.Laws.{EndedIsGiven}
use Rattle.serve_steps.proofs.Control.{given_on}
use Rattle.serve_channels.specs.declared.scripting.ScriptEnd.TheVariants.{Whole}
use Rattle.serve_channels.specs.declared.server.Server.{Server}
use Rattle.serve_channels.specs.Controlling.{IsReading, IsReadTo, ReadsOn, ReadsSome}
use Rattle.serve_channels.specs.Servers.{IsSame, home}
use Rattle.serve_channels.proofs.AskedFor.{AnswersBy, answers_none, answers_then}
use Rattle.serve_channels.proofs.Items.{Splits, StandsFirst, control_first, list_end, script_does, script_first}
use Rattle.serve_channels.proofs.Items.Splits.{EndsHere, GoesOn}

-- ---- a text is followed

-- of what all in it asks for this is to be done yet, and so the text ends; the rest was done
pub record Followed {X : Type 0} (asks : List ControlItem → List Ask) (end : List ControlItem → X) (all : List ControlItem) (todo : List Ask) (how : X) (old new : Server) : Type 0 where
  pub asked : List Ask
  pub asks_are : asks all ≡ asked ++ todo
  pub end_is : end all ≡ how
  pub goes : AnswersBy asked old new
  pub connections : new.connections ≡ old.connections
  pub same : IsSame old new

pub followed_none : {X : Type 0} (asks : List ControlItem → List Ask) (end : List ControlItem → X) (all left : List ControlItem) (s : Server) → all ≡ left
    → Followed asks end all (asks left) (end left) s s
followed_none asks end all left s e = record { asked = []; asks_are = ap asks e; end_is = ap end e; goes = answers_none s; connections = refl; same = same_self home s }

module _ {X : Type 0} {asks : List ControlItem → List Ask} {end : List ControlItem → X} {all : List ControlItem} where
  -- nothing is to be done any more
  pub followed_all : {how : X} {old new : Server} → Followed asks end all [] how old new → AnswersBy (asks all) old new
  followed_all {how} {old} {new} h = subst (λ xs. AnswersBy xs old new) (sym (h.asks_are ∙ append-nil h.asked)) h.goes

  -- one call more
  pub followed_by : {now todo : List Ask} {is how : X} {old mid new : Server} (more : List Ask) → Followed asks end all now is old mid → AnswersBy more mid new
      → new.connections ≡ mid.connections → IsSame mid new → now ≡ more ++ todo → is ≡ how → Followed asks end all todo how old new
  followed_by {now} {todo} {is} {how} {old} {mid} {new} more h goes connections same e f = record {
    asked = h.asked ++ more;
    asks_are = h.asks_are ∙ ap (λ xs. h.asked ++ xs) e ∙ sym (append_assoc h.asked more todo);
    end_is = h.end_is ∙ f;
    goes = answers_then h.asked more old mid new connections h.goes goes;
    connections = connections ∙ h.connections;
    same = same_then home h.same same;
  }

  -- what stands first was done
  module _ {whole : X} {first later left : List ControlItem} {old mid new : Server} (stands : StandsFirst asks end whole first later left)
      (h : Followed asks end all (asks left) (end left) old mid) (how : X) (goes : AnswersBy (asks first) mid new) (how_is : how ≡ end first)
      (connections : new.connections ≡ mid.connections) (same : IsSame mid new) where
    -- the text goes on
    pub followed_on : how ≡ whole → Followed asks end all (asks later) (end later) old new
    followed_on e = by stands.splits
      where
        by : Splits whole (asks first) (asks later) (asks left) (end first) (end later) (end left) → Followed asks end all (asks later) (end later) old new
        by (GoesOn is split ends) = followed_by (asks first) h goes connections same split ends
        by (EndsHere other split ends) = absurd (other (sym how_is ∙ e))

    -- it ends there, whatever stands behind it
    pub followed_end : (how ≡ whole → ⊥) → Followed asks end all [] how old new
    followed_end other = by stands.splits
      where
        by : Splits whole (asks first) (asks later) (asks left) (end first) (end later) (end left) → Followed asks end all [] how old new
        by (GoesOn is split ends) = absurd (other (how_is ∙ is))
        by (EndsHere is split ends) = followed_by (asks first) h goes connections same (split ∙ sym (append-nil (asks first))) (ends ∙ sym how_is)

-- ---- byte by byte

module _ (r q : Reading) (bytes : List ℕ) (i : ℕ) (given : Option ControlItem) (lt : i < length bytes) (is : given ≡ item_at r (get_or bytes i 0))
    (behind_is : q ≡ behind r (get_or bytes i 0)) where
  abbrev rest : List ℕ
  rest = drop (i + 1) bytes

  -- in a control text
  given_next : given_by r (drop i bytes) ≡ option_to_list given ++ given_by q rest
  given_next = rw (drop_more bytes i 0 lt, is, behind_is) refl

  held_next : held_behind r (drop i bytes) ≡ held_behind q rest
  held_next = rw (drop_more bytes i 0 lt, behind_is) refl

  pub control_next : StandsFirst asks_of quits false (option_to_list given) (given_by q rest) (given_by r (drop i bytes))
  control_next = subst (StandsFirst asks_of quits false (option_to_list given) (given_by q rest)) (sym given_next) (control_first given (given_by q rest))

  -- in a script
  items_next : given_of r (drop i bytes ∷ []) ≡ option_to_list given ++ given_of q (rest ∷ [])
  items_next =
      ap (λ (is : List ControlItem). is ++ option_to_list (last_item (held_behind r (drop i bytes)))) given_next
      ∙ append_assoc (option_to_list given) (given_by q rest) (option_to_list (last_item (held_behind r (drop i bytes))))
      ∙ ap (λ (last : Reading). option_to_list given ++ (given_by q rest ++ option_to_list (last_item last))) held_next

  pub script_next : StandsFirst script_does list_end Whole (option_to_list given) (given_of q (rest ∷ [])) (given_of r (drop i bytes ∷ []))
  script_next = subst (StandsFirst script_does list_end Whole (option_to_list given) (given_of q (rest ∷ []))) (sym items_next) (script_first given (given_of q (rest ∷ [])))

pub script_last : (r : Reading) (text : List ℕ) (i : ℕ) (given : Option ControlItem) → length text ≤ i → given ≡ last_item r → given_of r (drop i text ∷ []) ≡ option_to_list given
script_last r text i given end is = rw (drop_all i text end, is) refl

-- ---- the control text

held_on : (r : Reading) (xs ys : List ℕ) → held_behind r (xs ++ ys) ≡ held_behind (held_behind r xs) ys
held_on r [] ys = refl
held_on r (x ∷ xs) ys = held_on (behind r x) xs ys

module _ (law : EndedIsGiven) (text bytes : List ℕ) (r : Reading) (reading : IsReading text r) where
  quits_are : control_quits (text ++ bytes) ≡ quits (given_by r bytes)
  quits_are =
      ap quits (sym (law (text ++ bytes)) ∙ given_on beginning text bytes)
      ∙ list_any-append is_quit (given_by beginning text) (given_by (held_behind beginning text) bytes)
      ∙ ap (λ (b : Bool). b || quits (given_by (held_behind beginning text) bytes)) (ap quits (law text) ∙ reading.goes_on)
      ∙ ap (λ (q : Reading). quits (given_by q bytes)) (sym reading.held)

  pub read_on : (ended : Bool) (new : Reading) → ended ≡ quits (given_by r bytes) → (ended ≡ false → new ≡ held_behind r bytes) → IsReadTo (text ++ bytes) ended new
  read_on ended new ended_is held = record {
    ended_is = ended_is ∙ sym quits_are;
    reading = λ e. record {
      held = held e ∙ ap (λ q. held_behind q bytes) reading.held ∙ sym (held_on beginning text bytes);
      goes_on = quits_are ∙ sym ended_is ∙ e;
    };
  }

-- so many of these bytes were read
abbrev pub ReadsFirst : ℕ → List ℕ → Reading → Reading → Type 0
ReadsFirst i bytes old new = (text : List ℕ) → IsReading text old → IsReading (text ++ take i bytes) new

pub none_read : (bytes : List ℕ) (r : Reading) → ReadsFirst 0 bytes r r
none_read bytes r text reading = subst (λ t. IsReading t r) (sym (append-nil text)) reading

-- one more, which ends no `quit`
pub one_read : (law : EndedIsGiven) (old r new : Reading) (bytes : List ℕ) (i : ℕ) (given : Option ControlItem) → i < length bytes → given ≡ item_at r (get_or bytes i 0)
    → new ≡ behind r (get_or bytes i 0) → quits (option_to_list given) ≡ false → ReadsFirst i bytes old r → ReadsFirst (i + 1) bytes old new
one_read law old r new bytes i given lt is behind_is goes_on first text reading =
    let b = get_or bytes i 0 in
    let here = sym (ap quits (append-nil (option_to_list (item_at r b)) ∙ ap (λ (o : Option ControlItem). option_to_list o) (sym is)) ∙ goes_on) in
    subst (λ t. IsReading t new) (append_assoc text (take i bytes) (b ∷ []) ∙ ap (λ xs. text ++ xs) (sym (take_more bytes i 0 lt)))
    ((read_on law (text ++ take i bytes) (b ∷ []) r (first text reading) false new here (λ e. behind_is)).reading refl)

pub some_read : (i : ℕ) (bytes : List ℕ) (old new : Reading) → ReadsFirst i bytes old new → ReadsSome bytes old new
some_read i bytes old new first text reading = (take i bytes, (drop i bytes, take-append-drop i bytes), first text reading)

pub all_read : (i : ℕ) (bytes : List ℕ) (old new : Reading) → length bytes ≤ i → ReadsFirst i bytes old new → ReadsOn bytes false old new
all_read i bytes old new end first text reading =
    let whole = subst (λ xs. IsReading (text ++ xs) new) (take_all i bytes end) (first text reading) in
    record { ended_is = sym whole.goes_on; reading = λ e. whole }
