-- What is true of every board stays true behind each call.
use Rattle.std.proofs.Common.{◌≡◌, ℕ, ◌+◌, ◌≤◌, true, false, Bool, List, [], ◌∷◌, ◌++◌, Option, refl, sym, ap, ◌∙◌, subst, append-nil, arith}
use Rattle.std.proofs.lemmas.List.Folds.{list_any-append}
use Rattle.std.specs.Prelude.{◌||◌, is_some}
use Rattle.maple_io.specs.declared.act.Act.{Act}
use Rattle.maple_io.specs.declared.act.Act.TheVariants as acts
use Rattle.maple_io.specs.declared.board.Sent.{Sent}
use Rattle.maple_io.specs.declared.board.Sent.TheVariants as sends
use Rattle.maple_io.specs.declared.board.Started.{Started}
use Rattle.maple_io.specs.declared.board.Started.TheVariants as started
use Rattle.maple_io.specs.declared.board.Turn.{Turn}
use Rattle.maple_io.specs.declared.board.Turn.TheVariants as turns
use Rattle.maple_io.specs.Turns.{given_acts, sent_acts, started_acts}
use Rattle.socket_board.specs.declared.sockets.Sockets.{Sockets}
use Rattle.socket_board.specs.Keeping.{IsKept, next_of}
use Rattle.socket_board.specs.Numbers.{AreBelow, next_number}
use Rattle.socket_board.specs.Openings.{opened}
use Rattle.socket_board.specs.Starts.{is_start, was_started}
use Rattle.socket_board.specs.Views.{SocketView, told}
use Rattle.socket_board.proofs.Numbered.{all_raised, below_more, counted_turn, given_below, opened_more, risen}

or_false : (b : Bool) → (b || false) ≡ b
or_false true = refl
or_false false = refl

or_true : (b : Bool) → (b || true) ≡ true
or_true true = refl
or_true false = refl

-- ---- more acts, none of which is a start

quietly : (log more : List Act) → was_started more ≡ false → was_started (log ++ more) ≡ was_started log
quietly log more none = list_any-append is_start log more ∙ ap (λ b. was_started log || b) none ∙ or_false (was_started log)

counted_more : (old new : Option Sockets) (log more : List Act) → next_of old ≡ opened log + 1 → next_of new ≡ next_of old + opened more
    → next_of new ≡ opened (log ++ more) + 1
counted_more old new log more is count = omega (arith, is, count, opened_more log more)

kept_quietly : (old new : Option Sockets) (log more : List Act) → IsKept old log → next_of old ≤ next_of new → AreBelow (next_of new) more
    → next_of new ≡ next_of old + opened more → was_started more ≡ false → is_some new ≡ is_some old → IsKept new (log ++ more)
kept_quietly old new log more kept le below count none same = record {
  numbers = below_more (next_of new) log more (all_raised (next_of old) (next_of new) log le kept.numbers) below;
  counted = counted_more old new log more kept.counted count;
  started = same ∙ kept.started ∙ sym (quietly log more none);
}

-- ---- a turn

no_start : (t : Turn) (into : List ℕ) → was_started (given_acts t into) ≡ false
no_start (turns.Opened c) into = refl
no_start (turns.Bytes c k) into = refl
no_start (turns.Closed c) into = refl
no_start (turns.Broken c) into = refl
no_start (turns.Control k) into = refl
no_start turns.Idle into = refl
no_start turns.End into = refl
no_start turns.Failed into = refl
no_start turns.NoMemory into = refl

pub kept_turn : (old new : Option Sockets) (t : Turn) (into : List ℕ) (log all : List Act) → IsKept old log → next_number (next_of old) (next_of new) t
    → is_some new ≡ is_some old → all ≡ log ++ given_acts t into → IsKept new all
kept_turn old new t into log all kept number same is =
    subst (λ acts. IsKept new acts) (sym is)
    (kept_quietly old new log (given_acts t into) kept (risen (next_of old) (next_of new) t number)
    (given_below (next_of old) (next_of new) t into number) (counted_turn (next_of old) (next_of new) t into number) (no_start t into) same)

-- ---- a send, and a close

sent_below : (n c : ℕ) (s : Sent) (piece : List ℕ) → AreBelow n (sent_acts c s piece)
sent_below n c (sends.Took k) piece = (tt, tt)
sent_below n c sends.NotYet piece = (tt, tt)
sent_below n c sends.Failed piece = (tt, tt)
sent_below n c sends.NoMemory piece = tt

no_start_sent : (c : ℕ) (s : Sent) (piece : List ℕ) → was_started (sent_acts c s piece) ≡ false
no_start_sent c (sends.Took k) piece = refl
no_start_sent c sends.NotYet piece = refl
no_start_sent c sends.Failed piece = refl
no_start_sent c sends.NoMemory piece = refl

none_sent : (c : ℕ) (s : Sent) (piece : List ℕ) → opened (sent_acts c s piece) ≡ 0
none_sent c (sends.Took k) piece = refl
none_sent c sends.NotYet piece = refl
none_sent c sends.Failed piece = refl
none_sent c sends.NoMemory piece = refl

pub kept_send : (old new : Option Sockets) (c : ℕ) (s : Sent) (piece : List ℕ) (log all : List Act) → IsKept old log → next_of new ≡ next_of old
    → is_some new ≡ is_some old → all ≡ log ++ sent_acts c s piece → IsKept new all
kept_send old new c s piece log all kept next same is =
    subst (λ acts. IsKept new acts) (sym is)
    (kept_quietly old new log (sent_acts c s piece) kept (omega (arith, next)) (sent_below (next_of new) c s piece) (omega (arith, next, none_sent c s piece)) (no_start_sent c s piece) same)

pub kept_close : (old new : Option Sockets) (c : ℕ) (log all : List Act) → IsKept old log → next_of new ≡ next_of old → is_some new ≡ is_some old
    → all ≡ log ++ acts.Closes c ∷ [] → IsKept new all
kept_close old new c log all kept next same is =
    subst (λ acts. IsKept new acts) (sym is) (kept_quietly old new log (acts.Closes c ∷ []) kept (omega (arith, next)) (tt, tt) (omega (arith, next)) refl same)

-- ---- a start

loudly : (log : List Act) (listen control : ℕ) → was_started (log ++ acts.Starts listen control ∷ []) ≡ true
loudly log listen control = list_any-append is_start log (acts.Starts listen control ∷ []) ∙ or_true (was_started log)

begun : (old new : Option Sockets) (listen control : ℕ) (s : Started) (log : List Act) → IsKept old log → next_of new ≡ next_of old
    → (s ≡ started.Ready → is_some new ≡ true) → (s ≡ started.Failed → new ≡ old) → IsKept new (log ++ started_acts listen control s)
begun old new listen control started.Ready log kept next ready failed = record {
  numbers = below_more (next_of new) log (acts.Starts listen control ∷ [])
      (all_raised (next_of old) (next_of new) log (omega (arith, next)) kept.numbers) (tt, tt);
  counted = counted_more old new log (acts.Starts listen control ∷ []) kept.counted (omega (arith, next));
  started = ready refl ∙ sym (loudly log listen control);
}
begun old new listen control started.Failed log kept next ready failed =
    kept_quietly old new log [] kept (omega (arith, next)) tt (omega (arith, next)) refl (ap is_some (failed refl))

pub kept_start : (old new : Option Sockets) (listen control : ℕ) (s : Started) (log all : List Act) → IsKept old log → next_of new ≡ next_of old
    → (s ≡ started.Ready → is_some new ≡ true) → (s ≡ started.Failed → new ≡ old) → all ≡ log ++ started_acts listen control s → IsKept new all
kept_start old new listen control s log all kept next ready failed is =
    subst (λ acts. IsKept new acts) (sym is) (begun old new listen control s log kept next ready failed)

-- ---- what is told

-- a turn for which memory ran out adds nothing
pub told_still : (s : SocketView) (t : Turn) (into : List ℕ) (log all : List Act) (failed broken : ℕ) → (record { log = log; failed = failed; broken = broken }) ≡ s
    → all ≡ log ++ given_acts t into → t ≡ turns.NoMemory → told (record { log = all; failed = failed; broken = broken }) ≡ told s
told_still s t into log all failed broken seen is none =
    let same : all ≡ log = is ∙ ap (λ u. log ++ given_acts u into) none ∙ append-nil log in
    ap (λ (acts : List Act). told (record { log = acts; failed = failed; broken = broken })) same ∙ ap told seen
