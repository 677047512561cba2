-- What calls did behind a turn, one behind the other.
use Rattle.std.proofs.Common.{◌≡◌, ◌⊎◌, ℕ, true, false, List, [], ◌∷◌, ◌++◌, take, sym, subst, inl, inr}
use Rattle.std.specs.Option.{option_to_list}
use Rattle.maple_io.specs.declared.act.Act.{Act}
use Rattle.maple_io.specs.declared.board.Turn.{Turn as BoardTurn}
use Rattle.maple_io.specs.declared.board.Turn.TheVariants as turn
use Rattle.board_lines.specs.Laws.{given_by}
use Rattle.board_lines.specs.Readings.{Reading, last_item}
use Rattle.machine_steps.specs.declared.entry.Entry.{Entry}
use Rattle.machine_steps.specs.declared.entry.Entry.TheVariants as entries
use Rattle.serve_steps.specs.Deeds.{Past}
use Rattle.serve_steps.specs.Parts.{Given}
use Rattle.serve_steps.specs.Texts.{asks_of}
use Rattle.serve_channels.specs.declared.connection.Connection.{Connection}
use Rattle.serve_channels.specs.declared.server.Server.{Server}
use Rattle.serve_channels.specs.Delivering.{IsNew}
use Rattle.machine_desk.specs.declared.hearing.Came.TheVariants.{Nothing}
use Rattle.serve_channels.specs.Controlling.{Answers}
use Rattle.serve_channels.specs.Hearing.{Hears}
use Rattle.serve_channels.specs.Keeping.{Are, Goes, GoesFrom, IsBegun, IsKept, IsServing, ServesSome}
use Rattle.serve_channels.specs.Servers.{IsKnown, IsUnknown}
use Rattle.serve_channels.proofs.Stretching.{goes_then}
use Rattle.serve_pump.specs.declared.pump.Pump.{Pump}
use Rattle.serve_pump.specs.Turning.{Acts, ActsBehind, Delivers, Entered, EntersBy, Follows, GoesBehind, IsPassedBy, IsReached, IsSomeTurned, IsTurned}
use Rattle.serve_pump.proofs.Asked.{entered_then}
use Rattle.serve_pump.proofs.Reached.{acted_then, passed_ahead, reached_ahead}

-- ---- it is served still

pub serves_turned : (t : BoardTurn) (s : Server) → IsSomeTurned t s → ServesSome s
serves_turned t s h = (h.0, record { given = h.1.given; before = h.1.before; past = h.1.past; kept = h.1.kept })

pub serving_behind : (t : BoardTurn) (So : Past → List Entry → Past → Type 0) (a b : Server) (log1 log2 : List Act) → IsTurned t log1 a → GoesBehind t So a log1 b log2
    → IsServing log2 b
serving_behind t So a b log1 log2 h goes =
    let w = goes h.given h.before h.past h.kept h.new in
    record { given = h.given; before = h.before; past = w.done ++ h.past; kept = w.kept }

pub serving_then : (So : Past → List Entry → Past → Type 0) (a b : Server) (log1 log2 : List Act) → IsServing log1 a → Goes So a log1 b log2 → IsServing log2 b
serving_then So a b log1 log2 h goes =
    let w = goes h.given h.before h.past h.kept tt in
    record { given = h.given; before = h.before; past = w.done ++ h.past; kept = w.kept }

pub serving_acted : (t : BoardTurn) (So : Past → List Entry → Past → Type 0) (a b : Server) (log1 log2 : List Act) → IsTurned t log1 a → ActsBehind t So a log1 b log2
    → IsServing log2 b
serving_acted t So a b log1 log2 h acts =
    let w = acts h.given h.before h.past h.kept h.new in
    record { given = h.given; before = h.before; past = w.done ++ h.past; kept = w.kept }

-- ---- where all turns so far were marked

abbrev pub marked : Server → Server
marked s = record s { desk = record s.desk { footing = record s.desk.footing { marked = s.desk.past } } }

pub kept_marked : (g : Given) (before : List Act) (past : Past) (log : List Act) (s : Server) → IsKept g before past log s → IsKept g before past log (marked s)
kept_marked g before past log s h = record {
  start = h.start;
  turns = h.turns;
  acts = h.acts;
  sorted = h.sorted;
  agree = h.agree;
  forgotten = h.forgotten;
  unused = h.unused;
  sessions = h.sessions;
  crew = h.crew;
  jobs = h.jobs;
}

-- ---- the entries, by the turn

pub enters_as : (t u : BoardTurn) (old new : Pump) → t ≡ u → EntersBy u old new → EntersBy t old new
enters_as t u old new e h = subst (λ (x : BoardTurn). EntersBy x old new) (sym e) h

module _ (old new : Pump) where
  -- what a call did on the machine
  abbrev pub By : (Past → List Entry → Past → Type 0) → Type 0
  By So = (log : List Act) → Goes So old.server log new.server log

  pub enters_opened : (c : ℕ) → ((log : List Act) → GoesFrom (IsBegun c) (Are (entries.Open c ∷ [])) old.server log new.server log) → EntersBy (turn.Opened c) old new
  enters_opened c h log g before past kept is = h log g before past kept is.0

  pub enters_bytes : (c n : ℕ) → By (Hears c Nothing) → EntersBy (turn.Bytes c n) old new
  enters_bytes c n h log g before past kept is = h log g before past kept tt

  pub enters_closed : (c : ℕ) → By (Are (entries.Gone c false ∷ [])) → EntersBy (turn.Closed c) old new
  enters_closed c h log g before past kept is = h log g before past kept tt

  pub enters_broken : (c : ℕ) → By (Are (entries.Gone c true ∷ [])) → EntersBy (turn.Broken c) old new
  enters_broken c h log g before past kept is = h log g before past kept tt

  pub enters_control : (n : ℕ) → By (Answers (asks_of (given_by old.reader (take n old.room.items)))) → EntersBy (turn.Control n) old new
  enters_control n h log g before past kept is = h log g before past kept tt

  pub enters_idle : By (Are []) → EntersBy turn.Idle old new
  enters_idle h log g before past kept is = h log g before past kept tt

  pub enters_end : By (Answers (asks_of (option_to_list (last_item old.reader)))) → EntersBy turn.End old new
  enters_end h log g before past kept is = h log g before past kept tt

-- and then none
pub awaited : (t : BoardTurn) (bytes : List ℕ) (r : Reading) (a b c : Server) (log : List Act) → c.connections ≡ b.connections
    → GoesBehind t (Entered t bytes r) a log b log → Goes (Are []) b log c log → GoesBehind t (Entered t bytes r) a log c log
awaited t bytes r a b c log same h k =
    goes_then (λ past. IsNew t past a) (Entered t bytes r) (Are []) (Entered t bytes r) a b c log log log
    (λ past ours theirs first more x none. entered_then past t bytes r ours theirs first more x none)
    (λ n known. subst (λ (ks : List Connection). IsKnown n ks) (same_items b c same) known) h k
  where
    same_items : (s t : Server) → t.connections ≡ s.connections → s.connections.items ≡ t.connections.items
    same_items s t e = cc

-- ---- and then deliveries

module _ (c : ℕ) (s : Server) (past first more : Past) where
  both_ahead : (IsUnknown c s.connections.items → IsPassedBy c (first ++ past) more → IsPassedBy c past (more ++ first))
      → (IsReached c (first ++ past) more → IsReached c past (more ++ first))
      → (IsUnknown c s.connections.items × IsPassedBy c (first ++ past) more) ⊎ IsReached c (first ++ past) more
      → IsPassedBy c past (more ++ first) ⊎ IsReached c past (more ++ first)
  both_ahead passed reached (inl h) = inl (passed h.0 h.1)
  both_ahead passed reached (inr h) = inr (reached h)

pub followed : (t : BoardTurn) (bytes : List ℕ) (r : Reading) (a b c : Server) (log log2 : List Act) → GoesBehind t (Entered t bytes r) a log b log
    → Acts (Delivers b) b log c log2 → ActsBehind t (Follows t bytes r) a log c log2
followed t bytes r a b c log log2 h k g before past kept new =
    let w = h g before past kept new in
    let v = k g before (w.done ++ past) w.kept in
    acted_then g before (Follows t bytes r past) past w.done v.done w.own v.own log2 c w.stretch v.stretch w.unread v.unread v.kept (
      entered_then past t bytes r w.own v.own w.done v.done w.so v.so.0,
      λ n. both_ahead n b past w.done v.done (λ unknown. passed_ahead n w.done v.done past (w.aside n unknown)) (reached_ahead n w.done v.done past w.stretch.due_is)
          (v.so.1 n),
    )
