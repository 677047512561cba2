-- What was opened by the log of a slow board, and by that of the board in memory.
use Rattle.std.proofs.Common.{◌≡◌, ℕ, Bool, true, false, List, ◌++◌, refl, ap, sym, ◌∙◌}
use Rattle.std.proofs.lemmas.List.Folds.{list_any-append}
use Rattle.std.specs.Prelude.{◌||◌}
use Rattle.maple_io.specs.declared.act.Act.{Act}
use Rattle.maple_io.specs.declared.board.Sent.{Sent}
use Rattle.maple_io.specs.declared.board.Sent.TheVariants as sends
use Rattle.maple_io.specs.Boards.{is_opening, was_opened}
use Rattle.maple_io.specs.declared.board.Turn.{Turn}
use Rattle.maple_io.specs.declared.board.Turn.TheVariants as turns
use Rattle.maple_io.specs.Turns.{OpensAnew, sent_acts}
use Rattle.serve_cases.specs.Slow.{HasOpened}

-- both did the same
pub both_on : (a b more own under : List Act) → own ≡ a ++ more → under ≡ b ++ more → HasOpened a b → HasOpened own under
both_on a b more own under e f h = record {
  same = λ c.
      ap (was_opened c) e ∙ list_any-append (is_opening c) a more ∙ ap (λ t. t || was_opened c more) (h.same c)
      ∙ sym (list_any-append (is_opening c) b more) ∙ sym (ap (was_opened c) f);
}

or_false : (t : Bool) → (t || false) ≡ t
or_false true = refl
or_false false = refl

-- a send opens nothing
sends_open_none : (c d : ℕ) (s : Sent) (piece : List ℕ) → was_opened c (sent_acts d s piece) ≡ false
sends_open_none c d (sends.Took n) piece = refl
sends_open_none c d sends.NotYet piece = refl
sends_open_none c d sends.Failed piece = refl
sends_open_none c d sends.NoMemory piece = refl

sent_on : (c : ℕ) (a own : List Act) (d : ℕ) (s : Sent) (piece : List ℕ) → own ≡ a ++ sent_acts d s piece → was_opened c own ≡ was_opened c a
sent_on c a own d s piece e =
    ap (was_opened c) e ∙ list_any-append (is_opening c) a (sent_acts d s piece) ∙ ap (λ t. was_opened c a || t) (sends_open_none c d s piece)
    ∙ or_false (was_opened c a)

-- one of them sent
pub own_on : (a b own : List Act) (d : ℕ) (s : Sent) (piece : List ℕ) → own ≡ a ++ sent_acts d s piece → HasOpened a b → HasOpened own b
own_on a b own d s piece e h = record { same = λ c. sent_on c a own d s piece e ∙ h.same c }

pub under_on : (a b under : List Act) (d : ℕ) (s : Sent) (piece : List ℕ) → under ≡ b ++ sent_acts d s piece → HasOpened a b → HasOpened a under
under_on a b under d s piece e h = record { same = λ c. h.same c ∙ sym (sent_on c b under d s piece e) }

-- a number that is new to one is new to the other
pub opens_anew : (t : Turn) (a b own : List Act) → a ≡ own → HasOpened a b → OpensAnew t b → OpensAnew t own
opens_anew (turns.Opened c) a b own e h o = sym (ap (was_opened c) e) ∙ h.same c ∙ o
opens_anew (turns.Bytes c n) a b own e h o = o
opens_anew (turns.Closed c) a b own e h o = o
opens_anew (turns.Broken c) a b own e h o = o
opens_anew (turns.Control n) a b own e h o = o
opens_anew turns.Idle a b own e h o = o
opens_anew turns.End a b own e h o = o
opens_anew turns.Failed a b own e h o = o
opens_anew turns.NoMemory a b own e h o = o
