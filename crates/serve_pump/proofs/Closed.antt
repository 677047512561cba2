-- The hall is closed: a run of its one history.
use Rattle.std.proofs.Common.{◌≡◌, ℕ, ◌≤◌, true, false, List, [], ◌∷◌, ◌++◌, length, map, append-nil, append_assoc, refl, sym, ap, ◌∙◌, subst, arith}
use Rattle.std.specs.Prelude.{◌≢◌, Err, Ok, Some}
use Rattle.std.specs.List.{flat_map}
use Rattle.maple_io.specs.Boards.{BoardView}
use Rattle.maple_io.specs.Views.{SinkView, Wrote}
use Rattle.maple_io.proofs.Pieces.{wrote_nothing}
use Rattle.report_text.specs.Report.{spelled}
use Rattle.history_lock.specs.Histories.{AreAllPositions, AreAllowed, HasSeenLegal, Replays, state_behind}
use Rattle.history_lock.proofs.States.{replays_cut}
use Rattle.machine_desk.proofs.Turning.{calls_same, turns_append, turns_length}
use Rattle.machine_sharing.specs.Legal.{call_of, turns_of as turns_along}
use Rattle.machine_sharing.specs.Sharing.{Allows, Call, Turns}
use Rattle.machine_steps.specs.Histories.{Leads, Turn}
use Rattle.machine_steps.specs.Machine.{State, opening}
use Rattle.machine_steps.specs.Sound.{IsSound}
use Rattle.packet_workers.specs.Adding.{PassView}
use Rattle.worker_crew.specs.declared.gave_up.GaveUp.TheVariants as gave_up
use Rattle.worker_crew.specs.Tasks.{Worked}
use Rattle.machine_desk.proofs.HadMemory.{had_at_all, had_seen}
use Rattle.serve_steps.specs.declared.end.ServeEnd.{ServeEnd}
use Rattle.serve_steps.specs.declared.end.ServeEnd.TheVariants as ends
use Rattle.serve_steps.specs.Deeds.{Past, acts_of, turns_of}
use Rattle.serve_steps.specs.Laws.{OthersGoOn, first_entered, parts_entered}
use Rattle.serve_steps.specs.Parts.{AreCutAtTurns, AreOpenedOnce, Given, Part, deeds_of, has_ended, state_of}
use Rattle.serve_steps.specs.Runs.{ArePartsButLast, EndsWith, HasCause, HasRun, IsBrokenOff, IsLastAsked, IsSmooth, IsWrittenButLast, most_entries, report, is_whole, taken_report}
use Rattle.serve_pump.specs.Ending.{DroveBy, EndsSoFar, IsCaused, IsFailedSoFar, joined}
use Rattle.serve_pump.specs.EndLaws.{EndingLaws}
use Rattle.serve_pump.proofs.Reports.{done_broken, script_broken, written_by, report_only}

-- ---- causes

pub cause_of : (end : ServeEnd) (old_board new_board : BoardView) (old new : SinkView) → IsCaused end old_board new_board old new → HasCause end old_board new_board old new
cause_of end old_board new_board old new h = record {
  board = h.board;
  no_board = λ spares. h.spared (λ e. let f : is_whole ends.BoardFault ≡ true = subst (λ (x : ServeEnd). is_whole x ≡ true) e spares in absurd (cc));
  writes = h.writes;
}

-- ---- what was broken off

abbrev pub Opens : Given → State
Opens g = opening g.policy g.settings

-- it stays so with turns behind all that was done, and where more was written
pub written_on : (ts : List Turn) (first : Past) (parts : List Part) (text : List ℕ) → IsWrittenButLast first parts text
    → IsWrittenButLast (first_entered ts first parts) (parts_entered ts parts) text
written_on ts first [] text h = tt
written_on ts first (p ∷ ahead) text h = h

pub written_more : (first : Past) (parts : List Part) (text more : List ℕ) → IsWrittenButLast first parts text → IsWrittenButLast first parts (text ++ more)
written_more first [] text more h = tt
written_more first (p ∷ ahead) text more h =
    (h.0 ++ more, sym (append_assoc (report (deeds_of first ahead)) h.0 more) ∙ ap (λ (xs : List ℕ). xs ++ more) h.1)

module _ (laws : EndingLaws) (g : Given) where
  -- where all lines were taken it is all of the report
  pub told_whole : (past : Past) (last : State) → Leads (Opens g) (turns_of past) last → last.lines ≡ [] → taken_report past ≡ report past
  told_whole past last legal none =
      sym (laws.report past g.policy g.settings last legal ∙ ap (λ ls. taken_report past ++ flat_map spelled ls) none ∙ append-nil (taken_report past))

  -- as it was where the board failed
  failed_whole : (first : Past) (parts : List Part) (text : List ℕ) (last : State) → Leads (Opens g) (turns_of (deeds_of first parts)) last
      → IsFailedSoFar g first parts text → text ≡ report (deeds_of first parts)
  failed_whole first parts text last legal h =
      h.text_is
      ∙ told_whole (deeds_of first parts) last legal (ap (λ (m : State). m.lines) (sym (laws.told (Opens g) last (deeds_of first parts) legal)) ∙ h.told)

  -- ---- a run of this history

  pub run_of : (end : ServeEnd) (history : List Turn) (last : State) (first : Past) (parts : List Part) (text : List ℕ) (old_board new_board : BoardView) (old new : SinkView)
      → turns_of (deeds_of first parts) ≡ history → Leads (Opens g) history last → AreCutAtTurns first parts → AreOpenedOnce first parts
      → new_board.log ≡ old_board.log ++ acts_of (deeds_of first parts) → EndsWith end g first parts text → IsSmooth (is_whole end) history → Wrote old new text
      → HasRun end g old_board new_board old new
  run_of end history last first parts text old_board new_board old new turns legal cut opened log ends smooth wrote = (
    text,
    record {
      history = history;
      run = record { first = first; parts = parts; turns = turns; last = last; legal = legal; cut = cut; opened = opened; log = log; ends = ends; smooth = smooth };
      right = laws.world g (deeds_of first parts);
    },
    wrote,
  )

  -- memory ran out ahead of the machine
  pub never_ran : (board : BoardView) (to : SinkView) → HasRun ends.NoMemory g board board to to
  never_ran board to =
      run_of ends.NoMemory [] (Opens g) [] [] [] board board to to refl refl refl tt (sym (append-nil board.log)) (record { ahead = tt; written = tt; front = ([], refl) })
      (record { room = tt; memory = λ whole. absurd (cc) }) (wrote_nothing to)

  -- ---- with nobody beside

  ends_whole : (end : ServeEnd) (number : ℕ) (first : Past) (parts : List Part) (text : List ℕ) (last : State) → Leads (Opens g) (turns_of (deeds_of first parts)) last
      → EndsSoFar end g number first parts text → number ≤ length (turns_of (deeds_of first parts)) → EndsWith end g first parts text
  ends_whole ends.Done number first parts text last legal h few = h
  ends_whole (ends.Script line kind) number first parts text last legal h few = h.0
  ends_whole ends.WriteFault number first parts text last legal h few = h
  ends_whole ends.BoardFault number first parts text last legal h few =
      record { stops = h.stops; text_is = failed_whole first parts text last legal h }
  ends_whole ends.Worn number first parts text last legal h few = record { broken = h.0; long = omega (arith, h.1, few) }
  ends_whole ends.NoMemory number first parts text last legal h few = h

  pub seen_legal : (start : State) (k : PassView) → k.opening ≡ Some start → (legal : HasSeenLegal Turns k) → Replays Turns start k.seen legal.0
  seen_legal start k opens legal =
      let same : legal.1.0 ≡ start = let opened_with = legal.1.1 in cc in
      subst (λ (s : State). Replays Turns s k.seen legal.0) same legal.1.2

  module _ (start : State) (is : start ≡ Opens g) (k : PassView) (opens : k.opening ≡ Some start) (legal : HasSeenLegal Turns k) where
    leads_seen : Leads (Opens g) (turns_along start k.seen) legal.0
    leads_seen = subst (λ (s : State). Leads s (turns_along start k.seen) legal.0) is (laws.calls start k.seen legal.0 (seen_legal start k opens legal)).leads

    pub closed_alone : (end : ServeEnd) (old_board new_board : BoardView) (old new : SinkView) → DroveBy end g start k old_board new_board old new
        → k.number ≤ length k.seen → AreAllPositions (length k.seen) k.own → HasRun end g old_board new_board old new
    closed_alone end old_board new_board old new drove enough all =
        let ran = drove.ran in
        let history = turns_along start k.seen in
        let few : k.number ≤ length history = subst (λ (n : ℕ). k.number ≤ n) (sym (turns_length start k.seen)) enough in
        run_of end history legal.0 ran.first ran.parts ran.text old_board new_board old new (sym ran.turns) leads_seen ran.cut ran.opened ran.acts
        (ends_whole end k.number ran.first ran.parts ran.text legal.0 (subst (λ (ts : List Turn). Leads (Opens g) ts legal.0) ran.turns leads_seen) ran.ends
        (subst (λ (ts : List Turn). k.number ≤ length ts) ran.turns few))
        (record {
          room = drove.smooth.room;
          memory = λ whole. had_at_all start k.seen k.own (had_seen start k.seen k.own (drove.smooth.memory whole)) all;
        })
        ran.wrote

  -- ---- with what others did behind it

  module _ (start : State) (is : start ≡ Opens g) (sound : IsSound start) (seen rest : List Call) (m : State) (all : Replays Turns start (seen ++ rest) m)
      (allowed : AreAllowed Allows seen rest) (first : Past) (parts : List Part) (turns : turns_along start seen ≡ turns_of (deeds_of first parts)) where
    abbrev mid : State
    mid = state_behind start seen

    cut : Replays Turns start seen mid × Replays Turns mid rest m
    cut = replays_cut Turns start seen rest m all

    abbrev others : List Turn
    others = turns_along mid rest

    abbrev pub first_on : Past
    first_on = first_entered others first parts

    abbrev pub parts_on : List Part
    parts_on = parts_entered others parts

    go : OthersGoOn g (deeds_of first parts) others
    go = record {
      now = mid;
      sound = laws.sound start seen mid sound cut.0;
      legal =
          subst (λ (ts : List Turn). Leads (Opens g) ts mid) turns
          (subst (λ (s : State). Leads s (turns_along start seen) mid) is (laws.calls start seen mid cut.0).leads);
      last = m;
      goes_on = (laws.calls mid rest m cut.1).leads;
      allowed =
          subst (λ (cs : List Call). AreAllowed Allows cs (map call_of others)) (sym (ap (map call_of) (sym turns) ∙ calls_same start seen))
          (subst (λ (cs : List Call). AreAllowed Allows seen cs) (sym (calls_same mid rest)) allowed);
    }

    pub turns_on : turns_of (deeds_of first_on parts_on) ≡ turns_along start (seen ++ rest)
    turns_on = (laws.stand others first parts).turns ∙ ap (λ (ts : List Turn). ts ++ others) (sym turns) ∙ sym (turns_append start seen rest)

    pub acts_on : acts_of (deeds_of first_on parts_on) ≡ acts_of (deeds_of first parts)
    acts_on = (laws.stand others first parts).acts

    pub cut_on : AreCutAtTurns first parts → AreOpenedOnce first parts → AreCutAtTurns first_on parts_on × AreOpenedOnce first_on parts_on
    cut_on cuts opened = laws.cut g first parts others go (cuts, opened)

    idle : (state_of g (deeds_of first parts)).jobs ≡ [] → go.now.jobs ≡ []
    idle none = ap (λ (s : State). s.jobs) (sym (laws.told (Opens g) go.now (deeds_of first parts) go.legal)) ∙ none

    report_on : (state_of g (deeds_of first parts)).jobs ≡ [] → report (deeds_of first parts) ≡ report (deeds_of first_on parts_on)
    report_on none = sym (laws.tell g first parts others go (idle none))

    front_on : (text : List ℕ) → IsBrokenOff g first parts text → IsBrokenOff g first_on parts_on text
    front_on text h = laws.front text g first parts others go h

    -- but for a fault of the board
    pub ends_on : (end : ServeEnd) (outcome : Worked) (number : ℕ) (text : List ℕ) → end ≢ ends.BoardFault → EndsSoFar end g number first parts text
        → number ≤ length (turns_of (deeds_of first_on parts_on)) → (outcome ≡ Err gave_up.Worn → most_entries ≤ length (turns_of (deeds_of first_on parts_on)))
        → EndsWith (joined end outcome) g first_on parts_on text
    ends_on ends.Done (Ok done) number text other h few worn = record {
      all = laws.parts g first parts others go h.all;
      ended = laws.ended true g first parts others go h.ended;
      rest = laws.rest g first parts others go h.rest;
      text_is = h.text_is ∙ report_on h.rest.jobs;
    }
    ends_on ends.Done (Err gave_up.NoMemory) number text other h few worn = front_on text (done_broken g first parts text h)
    ends_on ends.Done (Err gave_up.Worn) number text other h few worn =
        record { broken = front_on text (done_broken g first parts text h); long = worn refl }
    ends_on (ends.Script line kind) (Ok done) number text other h few worn =
        let only = laws.script g first parts others go h.0.only in
        record { refused = h.0.refused; only = only; text_is = h.0.text_is ∙ report_only g first parts h.0.only ∙ report_on h.1 ∙ sym (report_only g first_on parts_on only) }
    ends_on (ends.Script line kind) (Err gave_up.NoMemory) number text other h few worn = front_on text (script_broken line kind g first parts text h.0)
    ends_on (ends.Script line kind) (Err gave_up.Worn) number text other h few worn =
        record { broken = front_on text (script_broken line kind g first parts text h.0); long = worn refl }
    ends_on ends.WriteFault outcome number text other h few worn = front_on text h
    ends_on ends.BoardFault outcome number text other h few worn = absurd (other refl)
    ends_on ends.Worn outcome number text other h few worn = record { broken = front_on text h.0; long = omega (arith, h.1, few) }
    ends_on ends.NoMemory outcome number text other h few worn = front_on text h

    -- where the board failed: all but that the report is whole
    pub record IsFailedOn (text : List ℕ) : Type 0 where
      pub asked : ArePartsButLast g first_on parts_on × IsLastAsked g first_on parts_on
      pub not_ended : has_ended g first_on parts_on ≡ false
      pub text_is : text ≡ taken_report (deeds_of first_on parts_on)
      pub written : IsWrittenButLast first_on parts_on text

    pub failed_on : (text : List ℕ) → IsFailedSoFar g first parts text → IsFailedOn text
    failed_on text h = record {
      asked = laws.asked g first parts others go (h.stops.ahead, h.stops.last);
      not_ended = laws.ended false g first parts others go h.stops.not_ended;
      text_is = h.text_is ∙ sym (laws.take g first parts others go);
      written = written_on others first parts text (written_by first parts text (failed_whole first parts text go.now go.legal h));
    }
