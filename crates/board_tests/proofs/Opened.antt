-- A connection that was opened stays so in the log.
use Rattle.std.proofs.Common.{◌≡◌, ℕ, true, false, Bool, List, ◌++◌, refl, ap, ◌∙◌, arith}
use Rattle.std.proofs.lemmas.Bool.Decides.{nat_tests}
use Rattle.std.proofs.lemmas.List.Folds.{list_any-append}
use Rattle.std.specs.Prelude.{◌||◌, ◌==◌}
use Rattle.maple_io.specs.declared.act.Act.{Act}
use Rattle.maple_io.specs.declared.board.Turn.{Turn}
use Rattle.maple_io.specs.declared.board.Turn.TheVariants as turns
use Rattle.maple_io.specs.Boards.{is_opening, was_opened}
use Rattle.maple_io.specs.Turns.{given_acts}

or_true : (b : Bool) → (b || true) ≡ true
or_true true = refl
or_true false = refl

same : (c : ℕ) → (c == c) ≡ true
same c = grind (arith, nat_tests)

opens : (c : ℕ) (into : List ℕ) → was_opened c (given_acts (turns.Opened c) into) ≡ true
opens c into = ap (λ b. b || false) (same c)

pub opened_now : (c : ℕ) (turn : Turn) (into : List ℕ) (log all : List Act) → turn ≡ turns.Opened c → all ≡ log ++ given_acts turn into
    → was_opened c all ≡ true
opened_now c turn into log all opened is =
    ap (was_opened c) is ∙ list_any-append (is_opening c) log (given_acts turn into)
    ∙ ap (λ t. was_opened c log || was_opened c (given_acts t into)) opened ∙ ap (λ b. was_opened c log || b) (opens c into)
    ∙ or_true (was_opened c log)

pub opened_still : (c : ℕ) (log more all : List Act) → was_opened c log ≡ true → all ≡ log ++ more → was_opened c all ≡ true
opened_still c log more all opened is =
    ap (was_opened c) is ∙ list_any-append (is_opening c) log more ∙ ap (λ b. b || was_opened c more) opened
