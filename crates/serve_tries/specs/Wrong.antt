-- Runs that are none.
use Rattle.std.specs.Prelude.{◌≡◌, ℕ, true, false, List, [], ◌∷◌}
use Rattle.maple_base.specs.declared.decision.Settings.{Settings}
use Rattle.policy_lang.specs.declared.Policy.{Policy}
use Rattle.maple_io.specs.declared.act.Act.TheVariants as acts
use Rattle.maple_io.specs.declared.board.Turn.TheVariants as turn
use Rattle.maple_io.specs.declared.board.Sent.TheVariants as sends
use Rattle.switch_session.specs.declared.told.End.TheVariants.{LinkEnd, Version}
use Rattle.machine_steps.specs.declared.entry.Entry.TheVariants as entries
use Rattle.machine_steps.specs.declared.entry.Input.TheVariants.{Message as Whole}
use Rattle.machine_steps.specs.declared.reply.Reply.TheVariants as replies
use Rattle.machine_steps.specs.Histories.{Turn}
use Rattle.serve_steps.specs.Deeds.{is_over}
use Rattle.serve_steps.specs.Deeds.Deed.{Enters, Does}
use Rattle.serve_steps.specs.Parts.{Part, deeds_of, AreCutAtTurns, AreOpenedOnce, IsPart}
use Rattle.serve_tries.specs.More.{enters, last_words, zero_bytes, zero_hello}
use Rattle.serve_tries.specs.Row.{first_row, given_row, part1, part2, state2, state4, turn1, turn2, turn3, turn4, turn5, was_heard, hello_bytes, request_bytes}

-- ---- what was taken out is never sent

abbrev pub unsent : Policy → Settings → Part
unsent p s = record { given = turn.Opened 1; bytes = []; done = Enters (turn2 p s) ∷ Enters (turn1 p s) ∷ [] }

abbrev pub NeverSent : Type 0
NeverSent = (p : Policy) (s : Settings) → ¬ (IsPart (given_row p s) first_row [] (unsent p s))

-- ---- a line of the control text is skipped

-- rules 1, and then quit
abbrev pub two_lines : List ℕ
two_lines = 114 ∷ 117 ∷ 108 ∷ 101 ∷ 115 ∷ 32 ∷ 49 ∷ 10 ∷ 113 ∷ 117 ∷ 105 ∷ 116 ∷ 10 ∷ []

abbrev pub skips : Policy → Settings → Part
skips p s = record { given = turn.Control 13; bytes = two_lines; done = Enters (turn5 p s) ∷ [] }

abbrev pub Skipped : Type 0
Skipped = (p : Policy) (s : Settings) → ¬ (IsPart (given_row p s) first_row (part2 p s ∷ part1 p s ∷ []) (skips p s))

-- ---- a message is heard behind the end of its session

-- the connection was closed, and the session ended by that
abbrev pub gone : Policy → Settings → Turn
gone p s = record { before = state2 p s; entry = entries.Gone 1 false; reply = replies.Ended LinkEnd; behind = state2 p s }

abbrev pub closed : Policy → Settings → Part
closed p s = record { given = turn.Closed 1; bytes = []; done = Does (acts.Closes 1) ∷ Enters (gone p s) ∷ [] }

-- then it is over
abbrev pub EndIsSeen : Type 0
EndIsSeen = (p : Policy) (s : Settings) → is_over 1 (deeds_of first_row (closed p s ∷ part1 p s ∷ [])) ≡ true

-- a HELLO comes all the same, and is heard
abbrev pub again : Policy → Settings → Part
again p s = record {
  given = turn.Bytes 1 8;
  bytes = hello_bytes;
  done = Enters (record { before = state2 p s; entry = entries.Heard 1 (Whole was_heard); reply = replies.Done; behind = state2 p s }) ∷ [];
}

abbrev pub HeardBehindEnd : Type 0
HeardBehindEnd = (p : Policy) (s : Settings) → ¬ (IsPart (given_row p s) first_row (closed p s ∷ part1 p s ∷ []) (again p s))

-- ---- others

-- what was taken out is sent twice
abbrev pub twice : Policy → Settings → Part
twice p s = record {
  given = turn.Opened 1;
  bytes = [];
  done =
      Does (acts.Takes 1 hello_bytes (sends.Took 8)) ∷ Does (acts.Takes 1 hello_bytes (sends.Took 8)) ∷ Enters (turn2 p s) ∷ Enters (turn1 p s)
      ∷ [];
}

abbrev pub SentTwice : Type 0
SentTwice = (p : Policy) (s : Settings) → ¬ (IsPart (given_row p s) first_row [] (twice p s))

-- a send fails, and the machine isn't told
abbrev pub untold : Policy → Settings → Part
untold p s = record {
  given = turn.Opened 1;
  bytes = [];
  done = Does (acts.Takes 1 [] sends.Failed) ∷ Enters (turn2 p s) ∷ Enters (turn1 p s) ∷ [];
}

abbrev pub NotTold : Type 0
NotTold = (p : Policy) (s : Settings) → ¬ (IsPart (given_row p s) first_row [] (untold p s))

-- what the machine has is taken out ahead of the message that came
abbrev pub soon : Policy → Settings → Part
soon p s = record {
  given = turn.Bytes 1 8;
  bytes = hello_bytes;
  done = Enters (turn3 p s) ∷ Does (acts.Takes 1 request_bytes (sends.Took 8)) ∷ Enters (turn4 p s) ∷ [];
}

abbrev pub TakenTooSoon : Type 0
TakenTooSoon = (p : Policy) (s : Settings) → ¬ (IsPart (given_row p s) first_row (part1 p s ∷ []) (soon p s))

-- the session is over, and its connection isn't closed
abbrev pub unclosed : Policy → Settings → Part
unclosed p s = record { given = turn.Closed 1; bytes = []; done = Enters (gone p s) ∷ [] }

abbrev pub NotClosed : Type 0
NotClosed = (p : Policy) (s : Settings) → ¬ (IsPart (given_row p s) first_row (part1 p s ∷ []) (unclosed p s))

-- a connection is closed whose session is open
abbrev pub early : Policy → Settings → Part
early p s = record { given = turn.Idle; bytes = []; done = Does (acts.Closes 1) ∷ Enters (turn2 p s) ∷ [] }

abbrev pub ClosedEarly : Type 0
ClosedEarly = (p : Policy) (s : Settings) → ¬ (IsPart (given_row p s) first_row (part1 p s ∷ []) (early p s))

-- the last bytes for a connection are sent behind its close
abbrev pub sent_late : Policy → Settings → Part
sent_late p s = record {
  given = turn.Bytes 1 8;
  bytes = zero_bytes;
  done =
      Does (acts.Takes 1 last_words (sends.Took 12)) ∷ Does (acts.Closes 1) ∷ enters p s (entries.TakeOut 1) (replies.Out last_words)
      ∷ enters p s (entries.Heard 1 (Whole zero_hello)) (replies.Ended Version)
      ∷ [];
}

abbrev pub SentBehindClose : Type 0
SentBehindClose = (p : Policy) (s : Settings) → ¬ (IsPart (given_row p s) first_row (part1 p s ∷ []) (sent_late p s))

-- the machine is asked to run the policy itself, though no run was stale
abbrev pub asks_at_once : Policy → Settings → Part
asks_at_once p s = record {
  given = turn.Idle;
  bytes = [];
  done = Enters (turn5 p s) ∷ Enters (record { before = state4 p s; entry = entries.Decide 1; reply = replies.Spent; behind = state4 p s }) ∷ [];
}

abbrev pub DecidedAtOnce : Type 0
DecidedAtOnce = (p : Policy) (s : Settings) → ¬ (IsPart (given_row p s) first_row (part2 p s ∷ part1 p s ∷ []) (asks_at_once p s))

-- a turn of the board stands within the part of another
abbrev pub two_turns : Policy → Settings → Part
two_turns p s = record {
  given = turn.Opened 1;
  bytes = [];
  done = Enters (turn2 p s) ∷ Does (acts.Gives (turn.Bytes 1 8) hello_bytes) ∷ Enters (turn1 p s) ∷ [];
}

abbrev pub TwoTurnsInOne : Type 0
TwoTurnsInOne = (p : Policy) (s : Settings) → ¬ (AreCutAtTurns first_row (two_turns p s ∷ []))

-- a number is given to a second connection
abbrev pub OpenedTwice : Type 0
OpenedTwice = (p : Policy) (s : Settings) → ¬ (AreOpenedOnce first_row (part1 p s ∷ part1 p s ∷ []))
