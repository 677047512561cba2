-- A turn: it is received, followed, and the report is written; or the run breaks off.
use Rattle.std.proofs.Common.{◌≡◌, ℕ, Bool, true, List, [], ◌∷◌, ◌++◌, length, append-nil, append_assoc, refl, sym, ap, ◌∙◌, subst, ⊎_elim, arith}
use Rattle.std.specs.Vec.{with_items}
use Rattle.std.proofs.lemmas.List.{with_items_is}
use Rattle.maple_io.specs.declared.act.Act.{Act}
use Rattle.maple_io.specs.declared.act.Act.TheVariants as acts
use Rattle.maple_io.specs.declared.board.Turn.{Turn as BoardTurn}
use Rattle.maple_io.specs.declared.board.Turn.TheVariants as turn
use Rattle.maple_io.specs.Boards.{BoardView, NoBoardFailed}
use Rattle.maple_io.specs.Turns.{TurnsWithin}
use Rattle.maple_io.specs.Views.{SinkView}
use Rattle.maple_io.proofs.Pieces.{wrote_nothing}
use Rattle.board_lines.specs.Readings.{Reading}
use Rattle.machine_desk.specs.Desks.{DeskLaw, DeskView}
use Rattle.machine_desk.specs.Reports.{EndsReport, Reports, ReportsInPart}
use Rattle.machine_desk.specs.declared.report.ReportStop.{ReportStop}
use Rattle.machine_desk.specs.declared.report.ReportStop.TheVariants.{Failed, NoMemory, Worn}
use Rattle.serve_steps.specs.Deeds.{Past, acts_of, turns_of}
use Rattle.serve_steps.specs.Deeds.Deed.{Does}
use Rattle.serve_steps.specs.Laws.{ReportIsTold}
use Rattle.serve_steps.specs.Parts.{Given, Part, deeds_of}
use Rattle.serve_channels.specs.declared.server.Server.{Server}
use Rattle.serve_channels.specs.Delivering.{AllLive, FailsBy, GivesOne, GoesReporting, IsNew, IsStill, OpensOnce, Receives, bytes_in, given_deeds}
use Rattle.serve_channels.specs.Keeping.{IsKept, IsServing}
use Rattle.serve_channels.specs.Stretches.{IsQuietly}
use Rattle.serve_channels.proofs.Taking.{opens_once}
use Rattle.serve_pump.specs.declared.pump.Pump.{Pump}
use Rattle.serve_pump.specs.Running.{BreaksOff, BreaksOffBy, FailsAtBoard, GoesOn, TurnsBy}
use Rattle.serve_pump.specs.Turning.{Acted, Comes, Follows, FollowsBy, IsReceived, IsTurned, ReadsBy, ReadsFor, TurnLaws}
use Rattle.serve_pump.proofs.Broken.{breaks_before, breaks_reporting, breaks_since, breaks_with}
use Rattle.serve_pump.proofs.Followed.{kept_marked, marked, serving_acted}
use Rattle.serve_pump.proofs.Whole.{runs_on, stays_on}

-- ---- no turn came

-- whatever was done before is kept, and nothing was done since
abbrev pub Stays : Server → List Act → Server → List Act → Type 0
Stays a old b new = (g : Given) (before : List Act) (past : Past) → IsKept g before past old a → IsKept g before past new b

pub stays_failed : (t : BoardTurn) (bytes : List ℕ) (a b : Server) (old new : List Act) → t ≡ turn.Failed → Receives t bytes a old b new → Stays a old b new
stays_failed t bytes a b old new e h g before past kept = (subst (λ (u : BoardTurn). Receives u bytes a old b new) e h g before past kept).0

pub stays_lacking : (t : BoardTurn) (bytes : List ℕ) (a b : Server) (old new : List Act) → t ≡ turn.NoMemory → Receives t bytes a old b new → Stays a old b new
stays_lacking t bytes a b old new e h g before past kept = (subst (λ (u : BoardTurn). Receives u bytes a old b new) e h g before past kept).0

module _ (p q : Pump) (law : DeskLaw p.server.desk) (desk : q.server.desk ≡ p.server.desk) where
  law_still : DeskLaw q.server.desk
  law_still = subst DeskLaw (sym desk) law

  pub breaks_unbegun : ReportIsTold → (old new : List Act) → Stays p.server old q.server new → (to : SinkView) → BreaksOffBy p old q new to to
  breaks_unbegun told old new stays to g before first parts h =
      breaks_before told g before first parts old p h new q to (stays g before (deeds_of first parts) h.running.kept) law_still

  -- one came, and memory ran out for its bytes
  pub breaks_given : ReportIsTold → (old new : List Act) → GivesOne old new → (to : SinkView) → BreaksOffBy p old q new to to
  breaks_given told old new gave to g before first parts h =
      let ahead = deeds_of first parts in
      breaks_with told g before first parts old p h gave.turn gave.bytes (opens_once h.running.kept gave.turn gave.anew) [] new q to to [] law_still (ap (λ (d : DeskView). d.footing.start) desk ∙ h.running.kept.start) refl
      (ap (λ (d : DeskView). d.past) desk ∙ h.running.kept.turns ∙ sym (append-nil (turns_of ahead)))
      (gave.log ∙ ap (λ (xs : List Act). xs ++ acts.Gives gave.turn gave.bytes ∷ []) h.running.kept.acts
      ∙ append_assoc before (acts_of ahead) (acts.Gives gave.turn gave.bytes ∷ []))
      (wrote_nothing to) ([], refl)

pub fails_at_board : (p q : Pump) (old new : BoardView) (t : BoardTurn) → t ≡ turn.Failed → IsServing old.log p.server → Stays p.server old.log q.server new.log
    → FailsBy t old new → q.server.desk ≡ p.server.desk → q.reader ≡ p.reader → (to : SinkView) → FailsAtBoard p old q new to to
fails_at_board p q old new t e serving stays fails desk reader to = record {
  failed = subst (λ (u : BoardTurn). FailsBy u old new) e fails;
  log = (stays serving.given serving.before serving.past serving.kept).acts ∙ sym serving.kept.acts;
  desk = desk;
  silent = refl;
  goes_on = λ g before first parts h. stays_on g before first parts old.log new.log p q h (stays g before (deeds_of first parts) h.running.kept) desk reader;
}

-- ---- one came

pub comes_else : (t : BoardTurn) → (t ≡ turn.Failed → ⊥) → (t ≡ turn.NoMemory → ⊥) → Comes t
comes_else turn.Failed failed lacks = absurd (failed refl)
comes_else turn.NoMemory failed lacks = absurd (lacks refl)
comes_else t failed lacks = tt

pub fails_else : (t : BoardTurn) (old new : BoardView) → (t ≡ turn.Failed → ⊥) → FailsBy t old new → NoBoardFailed old new
fails_else turn.Failed old new failed h = absurd (failed refl)
fails_else t old new failed h = h

-- its bytes stand in the room
pub received_in : (t : BoardTurn) (p : Pump) (s : Server) (into was : List ℕ) (old new : BoardView) → length into ≡ length was → was ≡ p.room.items → Comes t
    → Receives t (bytes_in t into) p.server old.log s new.log → TurnsWithin t (length was) → NoBoardFailed old new
    → IsReceived t p old (record p { server = s; room = with_items p.room into }) new
received_in t p s into was old new long is comes receives within spared =
    let items : (with_items p.room into).items ≡ into = with_items_is p.room into (omega (arith, long, ap length is, p.room.ok.0)) in
    record {
      comes = comes;
      receives = subst (λ (xs : List ℕ). Receives t (bytes_in t xs) p.server old.log s new.log) (sym items) receives;
      within = subst (λ n. TurnsWithin t n) (sym (ap length items ∙ long)) within;
      spared = spared;
      reader = refl;
    }

given_is : (t : BoardTurn) (bytes : List ℕ) (past : Past) → Comes t → given_deeds t bytes past ≡ Does (acts.Gives t bytes) ∷ past
given_is turn.Failed bytes past comes = absurd comes
given_is turn.NoMemory bytes past comes = absurd comes
given_is t bytes past comes = refl

new_marked : (t : BoardTurn) (past : Past) (s : Server) → IsNew t past s → IsNew t past (marked s)
new_marked (turn.Opened c) past s h = h
new_marked t past s h = h

-- it is kept, and its turns are marked
pub record IsMarked (g : Given) (before : List Act) (past : Past) (t : BoardTurn) (log : List Act) (s : Server) : Type 0 where
  pub kept : IsKept g before past log s
  pub new : IsNew t past s
  pub marks : s.desk.footing.marked ≡ s.desk.past

module _ (t : BoardTurn) (p mid : Pump) (old came : BoardView) (received : IsReceived t p old mid came) (m : Server) (mark : m ≡ marked mid.server) where
  abbrev bytes : List ℕ
  bytes = bytes_in t mid.room.items

  pub is_marked : (g : Given) (before : List Act) (past : Past) → IsKept g before past old.log p.server
      → IsMarked g before (Does (acts.Gives t bytes) ∷ past) t came.log m
  is_marked g before past kept =
      let h = received.receives g before past kept in
      subst (λ (ds : Past). IsMarked g before ds t came.log m) (given_is t bytes past received.comes)
      (subst (λ (s : Server). IsMarked g before (given_deeds t bytes past) t came.log s) (sym mark)
      (record {
        kept = kept_marked g before (given_deeds t bytes past) came.log mid.server h.0;
        new = new_marked t (given_deeds t bytes past) mid.server h.1;
        marks = refl;
      }))

  -- a number that it opens wasn't opened before
  opened_once : (g : Given) (before : List Act) (first : Past) (parts : List Part) → GoesOn g before first parts old.log p → OpensOnce t (deeds_of first parts)
  opened_once g before first parts h = (received.receives g before (deeds_of first parts) h.running.kept).2

  pub turned_by : IsServing old.log p.server → IsTurned t came.log m
  turned_by serving =
      let h = is_marked serving.given serving.before serving.past serving.kept in
      record { given = serving.given; before = serving.before; past = Does (acts.Gives t bytes) ∷ serving.past; kept = h.kept; new = h.new }

  -- ---- and it was followed

  abbrev pub ready : Pump
  ready = record mid { server = m }

  module _ (f : Pump) (log : List Act) where
    -- a call stopped
    pub breaks_followed : ReportIsTold → f.server.desk.footing ≡ m.desk.footing → IsQuietly came.log log → DeskLaw f.server.desk → (to : SinkView)
        → BreaksOffBy p old.log f log to to
    breaks_followed told footing quietly law to g before first parts h =
        let k = is_marked g before (deeds_of first parts) h.running.kept in
        breaks_since told g before first parts old.log p h t bytes (opened_once g before first parts h) came.log log m f to k.kept k.marks footing quietly law

    module _ (follows : FollowsBy t ready came.log f log) where
      pub serving_followed : IsServing old.log p.server → IsServing log f.server
      serving_followed serving = serving_acted t (Follows t bytes mid.reader) m f.server came.log log (turned_by serving) follows

      pub acted_by : (g : Given) (before : List Act) (past : Past) → IsKept g before past old.log p.server
          → Acted g before (Follows t bytes p.reader (Does (acts.Gives t bytes) ∷ past)) (Does (acts.Gives t bytes) ∷ past) log f.server
      acted_by g before past kept =
          let k = is_marked g before past kept in
          let turned = Does (acts.Gives t bytes) ∷ past in
          subst (λ (r : Reading). Acted g before (Follows t bytes r turned) turned log f.server) received.reader (follows g before turned k.kept k.new)

      -- ---- and the report was written

      module _ (q : Pump) (from to : SinkView) where
        pub turns_by : TurnLaws → (ended : Bool) → ReadsFor t ended ready f → AllLive f.server → (ended ≡ true → IsStill f.server)
            → ((log : List Act) → GoesReporting from to f.server log q.server log) → Reports f.server.desk q.server.desk from to
            → q.server ≡ record f.server { desk = q.server.desk } → (IsStill f.server → IsStill q.server) → q.reader ≡ f.reader → DeskLaw q.server.desk
            → TurnsBy ended p old.log q log from to
        turns_by laws ended reads live still goes reports rest stays reader law g before first parts h =
            let w = acted_by g before (deeds_of first parts) h.running.kept in
            let turned = Does (acts.Gives t bytes) ∷ deeds_of first parts in
            let read : ReadsBy t bytes ended p.reader q.reader =
            subst (λ (r : Reading). ReadsBy t bytes ended r q.reader) received.reader
            (subst (λ (r : Reading). ReadsBy t bytes ended mid.reader r) (sym reader) reads) in
            runs_on laws g before first parts old.log log p q f.server h t bytes ended from to w (goes log g before (w.done ++ turned) w.kept) reports rest live law
            (received.receives g before (deeds_of first parts) h.running.kept).2 read (λ e. stays (still e))

        pub serving_told : IsServing old.log p.server → ((log : List Act) → GoesReporting from to f.server log q.server log) → IsServing log q.server
        serving_told serving goes =
            let s = serving_followed serving in
            let v = goes log s.given s.before s.past s.kept in
            record { given = s.given; before = s.before; past = v.done ++ s.past; kept = v.kept }

        -- or it wasn't, or not whole
        pub breaks_told : ReportIsTold → (stop : ReportStop) → EndsReport stop f.server.desk q.server.desk from to → q.server.desk.footing ≡ m.desk.footing
            → IsQuietly came.log log → DeskLaw q.server.desk → BreaksOffBy p old.log q log from to
        breaks_told told stop ends footing quietly law g before first parts h = by_stop stop ends
          where
            silently : to ≡ from → BreaksOff g before first parts log q from to
            silently e =
                let k = is_marked g before (deeds_of first parts) h.running.kept in
                subst (λ (x : SinkView). BreaksOff g before first parts log q from x) (sym e)
                (breaks_since told g before first parts old.log p h t bytes (opened_once g before first parts h) came.log log m q from k.kept k.marks footing quietly law)

            partly : ReportsInPart f.server.desk q.server.desk from to → BreaksOff g before first parts log q from to
            partly e =
                let w = acted_by g before (deeds_of first parts) h.running.kept in
                breaks_reporting told g before first parts old.log p h t bytes (opened_once g before first parts h) w.done log f.server q from to e w.kept w.stretch.quiet w.unread law

            by_stop : (stop : ReportStop) → EndsReport stop f.server.desk q.server.desk from to → BreaksOff g before first parts log q from to
            by_stop Failed ends = partly ends.0
            by_stop NoMemory ends = ⊎_elim (λ lacks. silently lacks.1) (λ part. partly part) ends
            by_stop Worn ends = silently ends.1
