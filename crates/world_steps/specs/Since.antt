-- Since which state the rules that a switch may have are right: a fold over the machine's history, connection by connection.
use Rattle.std.specs.Prelude.{ℕ, Bool, true, not, ◌&&◌, ◌||◌, if◌then◌else◌, List, [], ◌∷◌, Option, Some, is_some, is_none, unwrap_or}
use Rattle.std.specs.Option.{option_map}
use Rattle.switch_session.specs.Parts.{Update, is_nil}
use Rattle.machine_steps.specs.Histories.{Turn}
use Rattle.machine_steps.specs.Machine.{Session, is_live, session_at, state_number}

pub record Marks : Type 0 where
  -- the base of the running update, also of a clearing behind an error: the oldest state of which the table may have rules
  pub base : ℕ
  -- the last state in which the session was aimed at the rules that the running update leads to, or at rest at those that it was led to
  pub aimed : ℕ

abbrev pub no_marks : Marks
no_marks = record { base = 0; aimed = 0 }

-- the update that waited has started
abbrev pub starts_next : Session → Session → Bool
starts_next s t = is_some s.next && (is_none t.next && not t.quiet)

-- the base behind a turn, in which the session s became t, between the states of these numbers. What an entry started while no barrier was outstanding has the
-- state before it, the first clearing the one that FEATURES_REPLY made; an update that started with a barrier's reply has the last state in which the session was
-- aimed at the rules from which it starts, the first update behind the first clearing the one of that; a clearing behind an error has that of the update which
-- it breaks off
abbrev pub base_behind : Session → Session → ℕ → ℕ → Marks → ℕ
base_behind s t old new marks =
    if is_none s.under_way then (if is_live s then old else new)
    else (if starts_next s t && s.ready then marks.aimed else marks.base)

-- a session heads for its target: no update waits, or one that leads nowhere from there
abbrev pub heads_for_target : Session → Bool
heads_for_target t = unwrap_or (option_map (λ (u : Update). is_nil u.parts) t.next) true

-- a live session that isn't quiet is aimed in each state; where it heads for its target, at the rules that the running update leads to, or at those that it has
abbrev pub aimed_behind : Session → Session → ℕ → Marks → ℕ
aimed_behind s t new marks = if not (is_live s) || (heads_for_target t && not t.quiet) then new else marks.aimed

abbrev pub marked_by : Option Session → Option Session → ℕ → ℕ → Marks → Marks
marked_by (Some s) (Some t) old new marks = record { base = base_behind s t old new marks; aimed = aimed_behind s t new marks }
marked_by s t old new marks = marks

-- behind one more turn
abbrev pub marked : ℕ → Turn → Marks → Marks
marked c t marks = marked_by (session_at c t.before) (session_at c t.behind) (state_number t.before) (state_number t.behind) marks

abbrev pub marked_all : ℕ → List Turn → Marks → Marks
marked_all c [] marks = marks
marked_all c (t ∷ ts) marks = marked_all c ts (marked c t marks)

-- behind a history
abbrev pub marks_of : ℕ → List Turn → Marks
marks_of c ts = marked_all c ts no_marks

-- ---- the last update that was acknowledged whole

-- in a turn the reply to the barrier of an update's last part was heard, and no change of it was refused
abbrev pub is_whole : Session → Session → Bool
is_whole s t = is_some s.under_way && (is_nil s.to_come && (not s.quiet && (is_none t.under_way || starts_next s t)))

-- the last state in which the session was aimed at its target; the first clearing's is the empty list, at which FEATURES_REPLY aimed
abbrev pub whole_behind : Session → Session → Marks → ℕ → ℕ
whole_behind s t marks whole = if is_whole s t then (if s.ready then marks.aimed else marks.base) else whole

abbrev pub whole_by : Option Session → Option Session → Marks → ℕ → ℕ
whole_by (Some s) (Some t) marks whole = whole_behind s t marks whole
whole_by s t marks whole = whole

-- behind these turns, where so it was before them
abbrev pub wholes : ℕ → List Turn → Marks → ℕ → ℕ
wholes c [] marks whole = whole
wholes c (t ∷ ts) marks whole = wholes c ts (marked c t marks) (whole_by (session_at c t.before) (session_at c t.behind) marks whole)

abbrev pub whole_of : ℕ → List Turn → ℕ
whole_of c ts = wholes c ts no_marks 0

-- ---- since

-- the oldest state that a hit at a session's switch may show: the base where a barrier is outstanding, and else the state now
abbrev pub since_by : Session → ℕ → Marks → ℕ
since_by s now marks = if is_some s.under_way then marks.base else now
