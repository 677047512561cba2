-- Beside workers: what they did is joined in, and behind a fault of the board the rest of the report is told.
use Rattle.std.proofs.Common.{◌≡◌, ℕ, ◌≤◌, ◌^◌, Bool, true, false, List, [], ◌∷◌, ◌++◌, length, append-nil, append_assoc, refl, sym, ap, ◌∙◌, subst, arith, ⊎_elim}
use Rattle.std.specs.Prelude.{◌≢◌, Err, Ok, Result, Some}
use Rattle.atomic_table.specs.Seated.{TableId}
use Rattle.maple_io.specs.Boards.{BoardView}
use Rattle.maple_io.specs.Fronts.{IsFront}
use Rattle.maple_io.specs.Views.{SinkView, Wrote}
use Rattle.maple_io.proofs.Pieces.{wrote_nothing, wrote_then}
use Rattle.maple_base.specs.Counts.{HasRisen}
use Rattle.history_lock.specs.Histories.{AreAllPositions, HasSeenLegal, IsAllowedSince, Replays, StartsWith, state_behind}
use Rattle.history_lock.proofs.States.{replays_begins, replays_end}
use Rattle.machine_desk.specs.declared.report.ReportStop.{ReportStop}
use Rattle.machine_desk.specs.declared.report.ReportStop.TheVariants as reports
use Rattle.machine_desk.specs.Desks.{DeskView, Enters as EntersAtDesk, NoneOverflows, WearsOut, turn, view_by}
use Rattle.machine_desk.specs.Reports.{ReportsBy, ReportsInPart}
use Rattle.machine_desk.specs.Resting.{finds_worn}
use Rattle.machine_desk.proofs.Turning.{turns_length}
use Rattle.machine_sharing.specs.Legal.{turns_of as turns_along}
use Rattle.machine_sharing.specs.Sharing.{Allows, Call, Turns}
use Rattle.machine_steps.specs.declared.entry.Entry.TheVariants as entries
use Rattle.machine_steps.specs.declared.reply.Reply.{Reply}
use Rattle.machine_steps.specs.declared.reply.Reply.TheVariants as replies
use Rattle.machine_steps.specs.Histories.{Leads, Turn}
use Rattle.machine_steps.specs.Machine.{State}
use Rattle.machine_steps.specs.Sound.{IsSound}
use Rattle.machine_steps.specs.Waiting.{Waiting}
use Rattle.packet_workers.specs.Adding.{PassView}
use Rattle.packet_workers.specs.Crewing.{Makes}
use Rattle.worker_crew.specs.declared.gave_up.GaveUp.{GaveUp}
use Rattle.worker_crew.specs.declared.gave_up.GaveUp.TheVariants as gave_up
use Rattle.worker_crew.specs.declared.rule.Account.{Account}
use Rattle.worker_crew.specs.Tasks.{Toiled, Worked}
use Rattle.machine_desk.specs.Crews.{given_up}
use Rattle.machine_desk.proofs.Smooth.{memory_joined, room_joined}
use Rattle.sim_steps.specs.Ends.{IsFaultOf}
use Rattle.serve_steps.specs.declared.end.ServeEnd.{ServeEnd}
use Rattle.serve_steps.specs.declared.end.ServeEnd.TheVariants as ends
use Rattle.serve_steps.specs.Deeds.{Past, acts_of, turns_of}
use Rattle.serve_steps.specs.Deeds.Deed.{Enters}
use Rattle.serve_steps.specs.Laws.{first_entered, parts_entered}
use Rattle.serve_steps.specs.Parts.{AreCutAtTurns, AreOpenedOnce, Given, Part, deeds_of}
use Rattle.serve_steps.specs.Runs.{AllHadMemory, ArePartsButLast, EndsWith, HasCause, HasRun, IsBrokenOff, IsLastAsked, IsSmooth, is_whole, taken_in, taken_report}
use Rattle.serve_pump.specs.Ending.{DroveBy, IsCaused, joined, serve_ends, told_as}
use Rattle.serve_pump.specs.EndLaws.{EndingLaws}
use Rattle.serve_pump.specs.Resting.{RestsBy, RestsSo}
use Rattle.serve_pump.proofs.Broken.{taken_front}
use Rattle.serve_pump.proofs.Closed.{IsFailedOn, Opens, acts_on, cause_of, cut_on, ends_on, failed_on, first_on, parts_on, run_of, seen_legal, told_whole, turns_on, written_more, written_on}
use Rattle.serve_pump.proofs.Going.{caused_well}
use Rattle.serve_pump.proofs.Whole.{lines_taken}

-- ---- by how the workers ended

-- no run came to its end where somebody gave up
short : (cause : GaveUp) → is_whole (given_up serve_ends cause) ≡ false
short gave_up.NoMemory = refl
short gave_up.Worn = refl

module _ (old_board new_board : BoardView) (old new : SinkView) where
  gives_up : (end other : ServeEnd) → end ≢ ends.BoardFault → end ≢ ends.WriteFault → other ≢ ends.BoardFault → other ≢ ends.WriteFault
      → IsCaused end old_board new_board old new → IsCaused other old_board new_board old new
  gives_up end other a b c d h = caused_well other old_board new_board old new c d (h.spared a) (h.writes.spared b)

  pub caused_joined : (end : ServeEnd) (outcome : Worked) → IsCaused end old_board new_board old new → IsCaused (joined end outcome) old_board new_board old new
  caused_joined ends.Done (Ok done) h = h
  caused_joined ends.Done (Err gave_up.NoMemory) h = gives_up ends.Done ends.NoMemory (λ e. absurd (cc)) (λ e. absurd (cc)) (λ e. absurd (cc)) (λ e. absurd (cc)) h
  caused_joined ends.Done (Err gave_up.Worn) h = gives_up ends.Done ends.Worn (λ e. absurd (cc)) (λ e. absurd (cc)) (λ e. absurd (cc)) (λ e. absurd (cc)) h
  caused_joined (ends.Script line kind) (Ok done) h = h
  caused_joined (ends.Script line kind) (Err gave_up.NoMemory) h =
      gives_up (ends.Script line kind) ends.NoMemory (λ e. absurd (cc)) (λ e. absurd (cc)) (λ e. absurd (cc)) (λ e. absurd (cc)) h
  caused_joined (ends.Script line kind) (Err gave_up.Worn) h =
      gives_up (ends.Script line kind) ends.Worn (λ e. absurd (cc)) (λ e. absurd (cc)) (λ e. absurd (cc)) (λ e. absurd (cc)) h
  caused_joined end outcome h = h

-- ---- what workers did is joined in

module _ (laws : EndingLaws) (g : Given) (start : State) (is : start ≡ Opens g) (sound : IsSound start) (budget : ℕ) (end : ServeEnd) (outcome : Worked)
    (mine x : PassView) (account w : Account Waiting) (old_board new_board : BoardView) (old new : SinkView)
    (drove : DroveBy end g start mine old_board new_board old new)
    (toiled : Toiled (λ item told made. Makes budget item told made) mine account outcome x w) (number : mine.number ≤ x.number)
    (since : IsAllowedSince Allows x.seen mine.seen) (opens : x.opening ≡ Some start) where
  abbrev rest : List Call
  rest = since.0

  -- from a legal history to this machine
  module _ (m : State) (all : Replays Turns start (mine.seen ++ rest) m) where
    abbrev first_now : Past
    first_now = first_on laws g start is sound mine.seen rest m all since.2 drove.ran.first drove.ran.parts drove.ran.turns

    abbrev parts_now : List Part
    parts_now = parts_on laws g start is sound mine.seen rest m all since.2 drove.ran.first drove.ran.parts drove.ran.turns

    turns_now : turns_of (deeds_of first_now parts_now) ≡ turns_along start (mine.seen ++ rest)
    turns_now = turns_on laws g start is sound mine.seen rest m all since.2 drove.ran.first drove.ran.parts drove.ran.turns

    log_now : new_board.log ≡ old_board.log ++ acts_of (deeds_of first_now parts_now)
    log_now =
        drove.ran.acts
        ∙ ap (λ xs. old_board.log ++ xs) (sym (acts_on laws g start is sound mine.seen rest m all since.2 drove.ran.first drove.ran.parts drove.ran.turns))

    leads_now : Leads (Opens g) (turns_along start (mine.seen ++ rest)) m
    leads_now = subst (λ (s : State). Leads s (turns_along start (mine.seen ++ rest)) m) is (laws.calls start (mine.seen ++ rest) m all).leads

    long_now : (n : ℕ) → n ≤ length x.seen → n ≤ length (turns_of (deeds_of first_now parts_now))
    long_now n few =
        subst (λ (ts : List Turn). n ≤ length ts) (sym turns_now)
        (let a = ap length since.1 in let b = turns_length start (mine.seen ++ rest) in omega (arith, a, b, few))

    smooth_now : AreAllPositions (length x.seen) x.own → IsSmooth (is_whole (joined end outcome)) (turns_along start (mine.seen ++ rest))
    smooth_now positions = record {
      room = room_joined laws.room start mine.seen rest m all since.2 drove.smooth.room;
      memory = λ whole.
          subst AllHadMemory (ap (turns_along start) since.1)
          (memory_joined serve_ends short end outcome start budget mine x account w drove.smooth toiled positions whole);
    }

    -- but for a fault of the board
    pub closed_beside : end ≢ ends.BoardFault → x.number ≤ length x.seen → AreAllPositions (length x.seen) x.own
        → HasRun (joined end outcome) g old_board new_board old new
    closed_beside other enough positions =
        let cuts = cut_on laws g start is sound mine.seen rest m all since.2 drove.ran.first drove.ran.parts drove.ran.turns drove.ran.cut drove.ran.opened in
        run_of laws g (joined end outcome) (turns_along start (mine.seen ++ rest)) m first_now parts_now drove.ran.text old_board new_board old new turns_now
        leads_now cuts.0 cuts.1 log_now
        (ends_on laws g start is sound mine.seen rest m all since.2 drove.ran.first drove.ran.parts drove.ran.turns end outcome mine.number drove.ran.text other
        drove.ran.ends (long_now mine.number (omega (arith, number, enough))) (λ worn. long_now (2 ^ 62) (omega (arith, toiled.worn worn, enough))))
        (smooth_now positions) drove.ran.wrote

  legal_x : (legal : HasSeenLegal Turns x) → Replays Turns start (mine.seen ++ rest) legal.0
  legal_x legal = subst (λ (cs : List Call). Replays Turns start cs legal.0) since.1 (seen_legal laws g start x opens legal)

  pub joined_ends : end ≢ ends.BoardFault → HasSeenLegal Turns x → x.number ≤ length x.seen → AreAllPositions (length x.seen) x.own
      → HasRun (joined end outcome) g old_board new_board old new
  joined_ends other legal enough positions = closed_beside legal.0 (legal_x legal) other enough positions

-- ---- behind a fault of the board

-- one more turn
room_then : (ts : List Turn) (t : Turn) → NoneOverflows ts → t.reply ≢ replies.Overload → NoneOverflows (ts ++ t ∷ [])
room_then [] t h one = (one, tt)
room_then (x ∷ ts) t h one = (h.0, room_then ts t h.1 one)

-- the report is taken once more
taken_last : (first : Past) (parts : List Part) (t : Turn) → taken_report (deeds_of (first_entered (t ∷ []) first parts) (parts_entered (t ∷ []) parts))
    ≡ taken_report (deeds_of first parts) ++ taken_in (Enters t)
taken_last first [] t = refl
taken_last first (p ∷ ahead) t = refl

module _ (laws : EndingLaws) (g : Given) (start : State) (is : start ≡ Opens g) (sound : IsSound start) (mine x l : PassView) (old_board new_board : BoardView)
    (old mid to : SinkView) (place : TableId) (drove : DroveBy ends.BoardFault g start mine old_board new_board old mid) (since : IsAllowedSince Allows x.seen mine.seen)
    (opens : l.opening ≡ Some start) (legal : HasSeenLegal Turns l) (later : StartsWith l.seen x.seen) (enough : l.number ≤ length l.seen) where
  abbrev ran_text : List ℕ
  ran_text = drove.ran.text

  legal_l : Replays Turns start l.seen legal.0
  legal_l = seen_legal laws g start l opens legal

  leads_l : Leads (Opens g) (turns_along start l.seen) legal.0
  leads_l = subst (λ (s : State). Leads s (turns_along start l.seen) legal.0) is (laws.calls start l.seen legal.0 legal_l).leads

  last_is : legal.0 ≡ state_behind start l.seen
  last_is = replays_end Turns start l.seen legal.0 legal_l

  all : Replays Turns start (mine.seen ++ since.0) (state_behind start x.seen)
  all =
      subst (λ (cs : List Call). Replays Turns start cs (state_behind start x.seen)) since.1
      (replays_begins Turns start l.seen x.seen legal.0 later legal_l)

  abbrev f : Past
  f = first_on laws g start is sound mine.seen since.0 (state_behind start x.seen) all since.2 drove.ran.first drove.ran.parts drove.ran.turns

  abbrev ps : List Part
  ps = parts_on laws g start is sound mine.seen since.0 (state_behind start x.seen) all since.2 drove.ran.first drove.ran.parts drove.ran.turns

  turns_x : turns_of (deeds_of f ps) ≡ turns_along start x.seen
  turns_x =
      turns_on laws g start is sound mine.seen since.0 (state_behind start x.seen) all since.2 drove.ran.first drove.ran.parts drove.ran.turns
      ∙ ap (turns_along start) (sym since.1)

  log_x : new_board.log ≡ old_board.log ++ acts_of (deeds_of f ps)
  log_x =
      drove.ran.acts
      ∙ ap (λ xs. old_board.log ++ xs)
      (sym (acts_on laws g start is sound mine.seen since.0 (state_behind start x.seen) all since.2 drove.ran.first drove.ran.parts drove.ran.turns))

  cuts : AreCutAtTurns f ps × AreOpenedOnce f ps
  cuts =
      cut_on laws g start is sound mine.seen since.0 (state_behind start x.seen) all since.2 drove.ran.first drove.ran.parts drove.ran.turns drove.ran.cut
      drove.ran.opened

  abbrev Failed : Type 0
  Failed = IsFailedOn laws g start is sound mine.seen since.0 (state_behind start x.seen) all since.2 drove.ran.first drove.ran.parts drove.ran.turns ran_text

  failed : Failed
  failed =
      failed_on laws g start is sound mine.seen since.0 (state_behind start x.seen) all since.2 drove.ran.first drove.ran.parts drove.ran.turns ran_text
      drove.ran.ends

  room_x : NoneOverflows (turns_along start x.seen)
  room_x =
      subst (λ (cs : List Call). NoneOverflows (turns_along start cs)) (sym since.1)
      (room_joined laws.room start mine.seen since.0 (state_behind start x.seen) all since.2 drove.smooth.room)

  abbrev at_x : DeskView
  at_x = view_by place 0 x x start false

  abbrev at_l : Bool → DeskView
  at_l worn = view_by place 0 l x start worn

  -- by the reply
  module _ (r : Reply) (worn : Bool) (e : EntersAtDesk at_x entries.TakeReport r (at_l worn)) (whole : x.parts ≡ 1024) where
    abbrev t : Turn
    t = turn e.between entries.TakeReport r (state_behind start l.seen)

    abbrev first_l : Past
    first_l = first_entered (t ∷ []) f ps

    abbrev parts_l : List Part
    parts_l = parts_entered (t ∷ []) ps

    one_more : turns_along start l.seen ≡ turns_along start x.seen ++ t ∷ []
    one_more = e.past ∙ ap (λ (ts : List Turn). ts ++ t ∷ []) (ap (λ (ts : List Turn). turns_along start x.seen ++ ts) (e.alone whole) ∙ append-nil (turns_along start x.seen))

    turns_l : turns_of (deeds_of first_l parts_l) ≡ turns_along start l.seen
    turns_l = (laws.stand (t ∷ []) f ps).turns ∙ ap (λ (ts : List Turn). ts ++ t ∷ []) turns_x ∙ sym one_more

    smooth_l : IsSmooth false (turns_along start l.seen)
    smooth_l = record { room = subst NoneOverflows (sym one_more) (room_then (turns_along start x.seen) t room_x e.room); memory = λ whole. absurd (cc) }

    leads_on : Leads (Opens g) (turns_of (deeds_of first_l parts_l)) legal.0
    leads_on = subst (λ (ts : List Turn). Leads (Opens g) ts legal.0) (sym turns_l) leads_l

    asked : ArePartsButLast g first_l parts_l × IsLastAsked g first_l parts_l
    asked = laws.taken g f ps t refl failed.asked

    run_l : (end : ServeEnd) (text : List ℕ) → is_whole end ≡ false → EndsWith end g first_l parts_l text → Wrote old to text → HasRun end g old_board new_board old to
    run_l end text not_whole ends wrote =
        let cut = laws.taken_cut g f ps t refl cuts in
        run_of laws g end (turns_along start l.seen) legal.0 first_l parts_l text old_board new_board old to turns_l leads_l cut.0 cut.1
        (log_x ∙ ap (λ xs. old_board.log ++ xs) (sym (laws.stand (t ∷ []) f ps).acts)) ends
        (subst (λ (b : Bool). IsSmooth b (turns_along start l.seen)) (sym not_whole) smooth_l) wrote

    taken_is : taken_report (deeds_of first_l parts_l) ≡ ran_text ++ taken_in (Enters t)
    taken_is = taken_last f ps t ∙ ap (λ xs. xs ++ taken_in (Enters t)) (sym failed.text_is)

    -- a front of it was written
    broken_l : (more : List ℕ) → IsFront more (taken_in (Enters t)) → IsBrokenOff g first_l parts_l (ran_text ++ more)
    broken_l more front = record {
      ahead = asked.0;
      written = written_on (t ∷ []) f ps (ran_text ++ more) (written_more f ps ran_text more failed.written);
      front =
          taken_front laws.report g (deeds_of first_l parts_l) legal.0 leads_on (ran_text ++ more)
          (front.0, append_assoc ran_text more front.0 ∙ ap (λ xs. ran_text ++ xs) front.1 ∙ sym taken_is);
    }

    -- all of it was
    whole_l : (more : List ℕ) → more ≡ taken_in (Enters t) → (state_behind start l.seen).lines ≡ [] → Wrote mid to more → HasRun ends.BoardFault g old_board new_board old to
    whole_l more same none wrote =
        run_l ends.BoardFault (ran_text ++ more) refl (record {
          stops = record { ahead = asked.0; last = asked.1; not_ended = laws.taken_ended false g f ps t refl failed.not_ended };
          text_is =
              ap (λ xs. ran_text ++ xs) same ∙ sym taken_is
              ∙ told_whole laws g (deeds_of first_l parts_l) legal.0 leads_on (ap (λ (m : State). m.lines) last_is ∙ none);
        })
        (wrote_then old mid to ran_text more drove.ran.wrote wrote)

  -- the hall was worn: nothing was taken
  worn_x : (whole : WearsOut at_x (at_l true)) → to ≡ mid → HasRun ends.Worn g old_board new_board old to
  worn_x out silent =
      let turns : turns_along start l.seen ≡ turns_along start x.seen = ap (λ (d : DeskView). d.past) out.same in
      let here = turns_x ∙ sym turns in
      run_of laws g ends.Worn (turns_along start l.seen) legal.0 f ps ran_text old_board new_board old to here leads_l cuts.0 cuts.1 log_x (record {
        broken = record {
          ahead = failed.asked.0;
          written = failed.written;
          front =
              taken_front laws.report g (deeds_of f ps) legal.0 (subst (λ (ts : List Turn). Leads (Opens g) ts legal.0) (sym here) leads_l) ran_text
              ([], append-nil ran_text ∙ failed.text_is);
        };
        long =
            subst (λ (ts : List Turn). 2 ^ 62 ≤ length ts) (sym here)
            (let a = turns_length start l.seen in let full : 2 ^ 62 ≤ l.number = out.full in omega (arith, a, full, enough));
      })
      (record { room = subst NoneOverflows (sym turns) room_x; memory = λ spares. absurd (cc) })
      (subst (λ (s : SinkView). Wrote old s ran_text) (sym silent) drove.ran.wrote)

  -- by what is told of it
  pub told_rest : (told : Result (Unit {0}) ReportStop) → x.parts ≡ 1024 → ReportsBy told at_x (at_l (finds_worn told)) mid to
      → HasRun (told_as told) g old_board new_board old to
  told_rest (Ok done) whole h =
      whole_l (replies.Lines h.text) false h.enters whole h.text refl (lines_taken at_x (at_l false) mid to h) h.wrote
  told_rest (Err reports.Failed) whole h =
      run_l (replies.Lines h.0.text) false h.0.enters whole ends.WriteFault (ran_text ++ h.0.front) refl
      (broken_l (replies.Lines h.0.text) false h.0.enters whole h.0.front h.0.is_front) (wrote_then old mid to ran_text h.0.front drove.ran.wrote h.0.wrote)
  told_rest (Err reports.NoMemory) whole h = ⊎_elim lacks in_part h
    where
      lacks : EntersAtDesk at_x entries.TakeReport replies.NoMemory (at_l false) × (to ≡ mid) → HasRun ends.NoMemory g old_board new_board old to
      lacks k =
          run_l replies.NoMemory false k.0 whole ends.NoMemory (ran_text ++ []) refl (broken_l replies.NoMemory false k.0 whole [] ([], refl))
          (wrote_then old mid to ran_text [] drove.ran.wrote (subst (λ (s : SinkView). Wrote mid s []) (sym k.1) (wrote_nothing mid)))

      in_part : ReportsInPart at_x (at_l false) mid to → HasRun ends.NoMemory g old_board new_board old to
      in_part k =
          run_l (replies.Lines k.text) false k.enters whole ends.NoMemory (ran_text ++ k.front) refl
          (broken_l (replies.Lines k.text) false k.enters whole k.front k.is_front) (wrote_then old mid to ran_text k.front drove.ran.wrote k.wrote)
  told_rest (Err reports.Worn) whole h = worn_x h.0 h.1

-- and why it ended so
pub rest_cause : (told : Result (Unit {0}) ReportStop) (old_board new_board : BoardView) (old mid to : SinkView) → IsCaused ends.BoardFault old_board new_board old mid
    → IsFaultOf (told ≡ Err reports.Failed) mid to → HasCause (told_as told) old_board new_board old to
rest_cause (Ok done) old_board new_board old mid to h writes = record {
  board = λ e. h.board refl;
  no_board = λ e. absurd (cc);
  writes = record { fault = λ e. absurd (cc); spared = λ n. writes.spared (λ e. absurd (cc)) ∙ h.writes.spared (λ e. absurd (cc)) };
}
rest_cause (Err reports.Failed) old_board new_board old mid to h writes = record {
  board = λ e. absurd (cc);
  no_board = λ e. absurd (cc);
  writes =
      record {
        fault = λ e. subst (λ (n : ℕ). HasRisen n to.failed) (h.writes.spared (λ e. absurd (cc))) (writes.fault refl);
        spared = λ n. absurd (n refl);
      };
}
rest_cause (Err reports.NoMemory) old_board new_board old mid to h writes = record {
  board = λ e. absurd (cc);
  no_board = λ e. absurd (cc);
  writes = record { fault = λ e. absurd (cc); spared = λ n. writes.spared (λ e. absurd (cc)) ∙ h.writes.spared (λ e. absurd (cc)) };
}
rest_cause (Err reports.Worn) old_board new_board old mid to h writes = record {
  board = λ e. absurd (cc);
  no_board = λ e. absurd (cc);
  writes = record { fault = λ e. absurd (cc); spared = λ n. writes.spared (λ e. absurd (cc)) ∙ h.writes.spared (λ e. absurd (cc)) };
}

-- ---- all of it

joined_other : (was : ServeEnd) (outcome : Worked) → was ≢ ends.BoardFault → joined was outcome ≢ ends.BoardFault
joined_other ends.Done (Ok done) other = λ e. absurd (cc)
joined_other ends.Done (Err gave_up.NoMemory) other = λ e. absurd (cc)
joined_other ends.Done (Err gave_up.Worn) other = λ e. absurd (cc)
joined_other (ends.Script line kind) (Ok done) other = λ e. absurd (cc)
joined_other (ends.Script line kind) (Err gave_up.NoMemory) other = λ e. absurd (cc)
joined_other (ends.Script line kind) (Err gave_up.Worn) other = λ e. absurd (cc)
joined_other was outcome other = other

rests_none : (was end : ServeEnd) (k l : PassView) (old new : SinkView) → was ≢ ends.BoardFault → RestsBy was end k l old new → (end ≡ was) × (l ≡ k) × (new ≡ old)
rests_none ends.BoardFault end k l old new other h = absurd (other refl)
rests_none was end k l old new other h = h

module _ (laws : EndingLaws) (g : Given) (start : State) (is : start ≡ Opens g) (sound : IsSound start) (budget : ℕ) (outcome : Worked) (mine x l : PassView)
    (account w : Account Waiting) (old_board new_board : BoardView) (old mid to : SinkView)
    (toiled : Toiled (λ item told made. Makes budget item told made) mine account outcome x w) (number : mine.number ≤ x.number)
    (since : IsAllowedSince Allows x.seen mine.seen) (opens_x : x.opening ≡ Some start) (opens_l : l.opening ≡ Some start) (whole : x.parts ≡ 1024) (place : TableId)
    (legal : HasSeenLegal Turns l) (enough : l.number ≤ length l.seen) (positions : AreAllPositions (length l.seen) l.own) where
  -- how it ended, and why
  abbrev pub Ends : ServeEnd → Type 0
  Ends end = HasRun end g old_board new_board old to × HasCause end old_board new_board old to

  other_end : (was end : ServeEnd) → was ≢ ends.BoardFault → DroveBy was g start mine old_board new_board old mid → RestsBy (joined was outcome) end x l mid to → Ends end
  other_end was end other drove rests =
      let none = rests_none (joined was outcome) end x l mid to (joined_other was outcome other) rests in
      let run =
      joined_ends laws g start is sound budget was outcome mine x account w old_board new_board old mid drove toiled number since opens_x other
      (subst (λ (k : PassView). HasSeenLegal Turns k) none.1 legal) (subst (λ (k : PassView). k.number ≤ length k.seen) none.1 enough)
      (subst (λ (k : PassView). AreAllPositions (length k.seen) k.own) none.1 positions) in
      let cause = cause_of (joined was outcome) old_board new_board old mid (caused_joined old_board new_board old mid was outcome drove.caused) in
      subst Ends (sym none.0)
      (subst (λ (s : SinkView). HasRun (joined was outcome) g old_board new_board old s × HasCause (joined was outcome) old_board new_board old s) (sym none.2)
      (run, cause))

  fault_end : (end : ServeEnd) → DroveBy ends.BoardFault g start mine old_board new_board old mid → RestsSo end x l mid to → Ends end
  fault_end end drove h =
      let run =
      told_rest laws g start is sound mine x l old_board new_board old mid to place drove since opens_l legal h.later enough h.told whole
      (h.rest place start opens_x sound) in
      subst Ends (sym h.end_is) (run, rest_cause h.told old_board new_board old mid to drove.caused h.writes)

  pub ended : (was end : ServeEnd) → DroveBy was g start mine old_board new_board old mid → RestsBy (joined was outcome) end x l mid to → Ends end
  ended ends.Done end drove rests = other_end ends.Done end (λ e. absurd (cc)) drove rests
  ended (ends.Script line kind) end drove rests = other_end (ends.Script line kind) end (λ e. absurd (cc)) drove rests
  ended ends.WriteFault end drove rests = other_end ends.WriteFault end (λ e. absurd (cc)) drove rests
  ended ends.BoardFault end drove rests = fault_end end drove rests
  ended ends.Worn end drove rests = other_end ends.Worn end (λ e. absurd (cc)) drove rests
  ended ends.NoMemory end drove rests = other_end ends.NoMemory end (λ e. absurd (cc)) drove rests
