-- Each connection gets a number that none had before.
use Rattle.std.proofs.Common.{◌≡◌, ℕ, ◌+◌, ◌<◌, ◌≤◌, false, List, [], ◌∷◌, ◌++◌, refl, ap, ◌∙◌, arith}
use Rattle.std.proofs.lemmas.Bool.Decides.{nat_tests}
use Rattle.std.proofs.lemmas.List.{length-append}
use Rattle.std.proofs.lemmas.List.Elements.{filter-append}
use Rattle.std.specs.Prelude.{◌==◌, ◌||◌, length}
use Rattle.std.specs.List.{filter}
use Rattle.maple_io.specs.declared.act.Act.{Act}
use Rattle.maple_io.specs.declared.act.Act.TheVariants as acts
use Rattle.maple_io.specs.declared.board.Turn.{Turn}
use Rattle.maple_io.specs.declared.board.Turn.TheVariants as turns
use Rattle.maple_io.specs.Boards.{is_opening, was_opened}
use Rattle.maple_io.specs.Turns.{OpensAnew, given_acts}
use Rattle.socket_board.specs.Numbers.{AreBelow, IsBelow, next_number}
use Rattle.socket_board.specs.Openings.{OpensNext, opened, opens}

pub below_more : (n : ℕ) (log more : List Act) → AreBelow n log → AreBelow n more → AreBelow n (log ++ more)
below_more n [] more h k = k
below_more n (a ∷ log) more (b, h) k = (b, below_more n log more h k)

-- ---- one act

raised : (m n : ℕ) (a : Act) → m ≤ n → IsBelow m a → IsBelow n a
raised m n (acts.Starts listen control) le h = tt
raised m n (acts.Gives (turns.Opened c) bytes) le h = omega (arith, le, h)
raised m n (acts.Gives (turns.Bytes c k) bytes) le h = tt
raised m n (acts.Gives (turns.Closed c) bytes) le h = tt
raised m n (acts.Gives (turns.Broken c) bytes) le h = tt
raised m n (acts.Gives (turns.Control k) bytes) le h = tt
raised m n (acts.Gives turns.Idle bytes) le h = tt
raised m n (acts.Gives turns.End bytes) le h = tt
raised m n (acts.Gives turns.Failed bytes) le h = tt
raised m n (acts.Gives turns.NoMemory bytes) le h = tt
raised m n (acts.Takes c bytes answer) le h = tt
raised m n (acts.Closes c) le h = tt

not_same : (c n : ℕ) → c < n → (c == n) ≡ false
not_same c n h = grind (arith, nat_tests)

is_other : (n : ℕ) (a : Act) → IsBelow n a → is_opening n a ≡ false
is_other n (acts.Starts listen control) h = refl
is_other n (acts.Gives (turns.Opened c) bytes) h = not_same c n h
is_other n (acts.Gives (turns.Bytes c k) bytes) h = refl
is_other n (acts.Gives (turns.Closed c) bytes) h = refl
is_other n (acts.Gives (turns.Broken c) bytes) h = refl
is_other n (acts.Gives (turns.Control k) bytes) h = refl
is_other n (acts.Gives turns.Idle bytes) h = refl
is_other n (acts.Gives turns.End bytes) h = refl
is_other n (acts.Gives turns.Failed bytes) h = refl
is_other n (acts.Gives turns.NoMemory bytes) h = refl
is_other n (acts.Takes c bytes answer) h = refl
is_other n (acts.Closes c) h = refl

-- ---- all of them

pub all_raised : (m n : ℕ) (log : List Act) → m ≤ n → AreBelow m log → AreBelow n log
all_raised m n [] le h = tt
all_raised m n (a ∷ log) le (b, h) = (raised m n a le b, all_raised m n log le h)

none_opened : (n : ℕ) (log : List Act) → AreBelow n log → was_opened n log ≡ false
none_opened n [] h = refl
none_opened n (a ∷ log) (b, h) = ap (λ x. x || was_opened n log) (is_other n a b) ∙ none_opened n log h

-- ---- a turn

pub risen : (m n : ℕ) (t : Turn) → next_number m n t → m ≤ n
risen m n (turns.Opened c) (is, more) = omega (arith, more)
risen m n (turns.Bytes c k) same = omega (arith, same)
risen m n (turns.Closed c) same = omega (arith, same)
risen m n (turns.Broken c) same = omega (arith, same)
risen m n (turns.Control k) same = omega (arith, same)
risen m n turns.Idle same = omega (arith, same)
risen m n turns.End never = absurd never
risen m n turns.Failed same = omega (arith, same)
risen m n turns.NoMemory same = omega (arith, same)

pub given_below : (m n : ℕ) (t : Turn) (into : List ℕ) → next_number m n t → AreBelow n (given_acts t into)
given_below m n (turns.Opened c) into (is, more) = (omega (arith, is, more), tt)
given_below m n (turns.Bytes c k) into same = (tt, tt)
given_below m n (turns.Closed c) into same = (tt, tt)
given_below m n (turns.Broken c) into same = (tt, tt)
given_below m n (turns.Control k) into same = (tt, tt)
given_below m n turns.Idle into same = (tt, tt)
given_below m n turns.End into never = absurd never
given_below m n turns.Failed into same = tt
given_below m n turns.NoMemory into same = tt

pub opens_anew : (m n : ℕ) (t : Turn) (log : List Act) → next_number m n t → AreBelow m log → OpensAnew t log
opens_anew m n (turns.Opened c) log (is, more) h = ap (λ k. was_opened k log) is ∙ none_opened m log h
opens_anew m n (turns.Bytes c k) log same h = tt
opens_anew m n (turns.Closed c) log same h = tt
opens_anew m n (turns.Broken c) log same h = tt
opens_anew m n (turns.Control k) log same h = tt
opens_anew m n turns.Idle log same h = tt
opens_anew m n turns.End log never h = absurd never
opens_anew m n turns.Failed log same h = tt
opens_anew m n turns.NoMemory log same h = tt

-- ---- how many were opened

pub opened_more : (log more : List Act) → opened (log ++ more) ≡ opened log + opened more
opened_more log more = ap (λ (l : List Act). length l) (filter-append opens log more) ∙ length-append (filter opens log) (filter opens more)

pub counted_turn : (m n : ℕ) (t : Turn) (into : List ℕ) → next_number m n t → n ≡ m + opened (given_acts t into)
counted_turn m n (turns.Opened c) into (is, more) = more
counted_turn m n (turns.Bytes c k) into same = omega (arith, same)
counted_turn m n (turns.Closed c) into same = omega (arith, same)
counted_turn m n (turns.Broken c) into same = omega (arith, same)
counted_turn m n (turns.Control k) into same = omega (arith, same)
counted_turn m n turns.Idle into same = omega (arith, same)
counted_turn m n turns.End into never = absurd never
counted_turn m n turns.Failed into same = omega (arith, same)
counted_turn m n turns.NoMemory into same = omega (arith, same)

pub opens_next : (m n : ℕ) (t : Turn) (log : List Act) → next_number m n t → m ≡ opened log + 1 → OpensNext t log
opens_next m n (turns.Opened c) log (is, more) e = is ∙ e
opens_next m n (turns.Bytes c k) log same e = tt
opens_next m n (turns.Closed c) log same e = tt
opens_next m n (turns.Broken c) log same e = tt
opens_next m n (turns.Control k) log same e = tt
opens_next m n turns.Idle log same e = tt
opens_next m n turns.End log never e = tt
opens_next m n turns.Failed log same e = tt
opens_next m n turns.NoMemory log same e = tt
