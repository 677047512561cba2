-- Turn follows turn, and how a run ends at its desk.
use Rattle.std.proofs.Common.{◌≡◌, ℕ, Bool, true, false, List, [], ◌∷◌, ◌++◌, append-nil, refl, sym, ap, ◌∙◌, subst, inl, inr}
use Rattle.std.specs.Prelude.{◌≢◌, Option}
use Rattle.std.specs.List.{flat_map}
use Rattle.machine_desk.proofs.Crewed.{crew_then, same_crew}
use Rattle.maple_io.specs.declared.act.Act.{Act}
use Rattle.maple_io.specs.declared.act.Act.TheVariants as acts
use Rattle.maple_io.specs.Boards.{BoardFailed, BoardView, NoBoardFailed}
use Rattle.maple_io.specs.Views.{NoWriteFailed, SinkView, WriteFailed, Wrote}
use Rattle.maple_io.proofs.Pieces.{wrote_nothing, wrote_then}
use Rattle.maple_base.specs.Counts.{HasRisen}
use Rattle.report_text.specs.declared.line.ScriptRefusal.{ScriptRefusal}
use Rattle.report_text.specs.Report.{spelled}
use Rattle.machine_desk.specs.Desks.{DeskLaw, DeskView, Footing, HadMemory, NoneOverflows, SameHall, calls_of}
use Rattle.machine_desk.specs.Runs.{IsSmoothFor}
use Rattle.machine_steps.specs.Machine.{State}
use Rattle.machine_desk.specs.declared.crew.Crew.{Crew}
use Rattle.machine_desk.specs.Crews.{MayHave, SameCrew}
use Rattle.serve_steps.specs.declared.end.ServeEnd.{ServeEnd}
use Rattle.serve_steps.specs.declared.end.ServeEnd.TheVariants as ends
use Rattle.serve_steps.specs.Deeds.{Past}
use Rattle.serve_steps.specs.Deeds.Deed.{Does}
use Rattle.serve_steps.specs.Laws.{ReportIsTold, StatesAreTold}
use Rattle.serve_steps.specs.Parts.{Given, Part, deeds_of}
use Rattle.serve_steps.specs.Runs.{AreParts, ArePartsButLast, IsBrokenOff, IsLastAsked, IsWrittenButLast, report, taken_in, taken_report}
use Rattle.serve_channels.specs.declared.server.Server.{Server}
use Rattle.serve_channels.specs.Keeping.{IsKept}
use Rattle.serve_channels.specs.Servers.{IsSame, IsSameHall}
use Rattle.serve_channels.specs.Starting.{IsFresh}
use Rattle.serve_channels.proofs.Stretching.{gathered_then}
use Rattle.serve_pump.specs.declared.pump.Pump.{Pump}
use Rattle.serve_pump.specs.declared.pump.TurnStop.{TurnStop}
use Rattle.serve_pump.specs.declared.pump.TurnStop.TheVariants as stops
use Rattle.serve_pump.specs.declared.startup.Begun.TheVariants as begun
use Rattle.serve_pump.specs.Beginning.{BeginLaws, BreaksAtFirst, FailsAtStart, HasBegun}
use Rattle.serve_pump.specs.Ending.{DroveAt, EndsSoFar, IsCaused, IsUnderWay, RanAt, end_of, with_memory}
use Rattle.machine_desk.specs.Openings.{IsOpenedAt}
use Rattle.serve_pump.specs.Running.{AreMore, BreaksOff, FailsAtBoard, GoesOn, RunsOn}
use Rattle.serve_pump.proofs.Reports.{but_last, done_broken, script_broken, written_behind}
use Rattle.serve_pump.proofs.Whole.{legal, state_is}

-- ---- the report

-- where all lines were taken it is all of the report
pub all_told : ReportIsTold → (g : Given) (before : List Act) (past : Past) (log : List Act) (s : Server) → IsKept g before past log s → DeskLaw s.desk → s.desk.now.lines ≡ []
    → taken_report past ≡ report past
all_told told g before past log s kept law none =
    sym (told past g.policy g.settings s.desk.now (legal g before past log s kept law) ∙ ap (λ ls. taken_report past ++ flat_map spelled ls) none ∙ append-nil (taken_report past))

-- ---- by why it stops

by_stop : (Ends : ServeEnd → Type 0) (stop : TurnStop) (worn : Bool) → (stop ≡ stops.Board → Ends ends.BoardFault) → Ends ends.WriteFault
    → (worn ≡ true → Ends ends.Worn) → Ends ends.NoMemory → Ends (end_of stop worn)
by_stop Ends stops.Board worn failed write full short = failed refl
by_stop Ends stops.Write worn failed write full short = write
by_stop Ends stops.Stopped true failed write full short = full refl
by_stop Ends stops.Stopped false failed write full short = short

-- ---- turn after turn

module _ (g : Given) (before : List Act) (from to_old to_new : SinkView) (old_log log : List Act) (old new : Pump) (way : IsUnderWay g before from old_log old to_old) where
  wrote_on : (part : Part) → Wrote to_old to_new (taken_report part.done) → Wrote from to_new (taken_report (deeds_of way.first (part ∷ way.parts)))
  wrote_on part wrote =
      let ahead = deeds_of way.first way.parts in
      let turned = Does (acts.Gives part.given part.bytes) ∷ ahead in
      subst (λ (text : List ℕ). Wrote from to_new text)
      (ap (λ (text : List ℕ). text ++ taken_report part.done) (sym (append-nil (taken_report ahead))) ∙ sym (gathered_then taken_in turned part.done))
      (wrote_then from to_old to_new (taken_report ahead) (taken_report part.done) way.wrote wrote)

  pub under_way_on : (ended : Bool) → ended ≡ false → RunsOn g before way.first way.parts ended log new to_old to_new → IsUnderWay g before from log new to_new
  under_way_on ended not_yet on = record {
    first = way.first;
    parts = on.part ∷ way.parts;
    goes_on = record { running = on.running; goes_on = on.ended_is ∙ not_yet; read = on.read not_yet };
    wrote = wrote_on on.part on.wrote;
  }

  -- the last turn
  pub done_at : ReportIsTold → (ended : Bool) → ended ≡ true → RunsOn g before way.first way.parts ended log new to_old to_new → DeskLaw new.server.desk
      → RanAt ends.Done g before log new.server.desk from to_new
  done_at told ended last on law =
      let parts = on.part ∷ way.parts in
      let run = on.running in
      record {
        first = way.first;
        parts = parts;
        turns = run.kept.turns;
        acts = run.kept.acts;
        cut = run.cut;
        opened = run.opened;
        text = taken_report (deeds_of way.first parts);
        ends = record {
          all = run.parts_are;
          ended = on.ended_is ∙ last;
          rest = on.rest last;
          text_is = all_told told g before (deeds_of way.first parts) log new.server run.kept law run.told;
        };
        wrote = wrote_on on.part on.wrote;
      }

  -- ---- it breaks off

  last_asked : (parts : List Part) → AreParts g way.first parts → IsLastAsked g way.first parts
  last_asked [] are = (are.scripted, are.none_refused, are.free, inr are.started)
  last_asked (p ∷ ahead) are = (are.0.asked, are.0.free)

  ahead_of_more : (all : List Part) → AreMore all way.parts → ArePartsButLast g way.first all
  ahead_of_more all (inl e) = subst (ArePartsButLast g way.first) (sym e) (but_last g way.first way.parts way.goes_on.running.parts_are)
  ahead_of_more all (inr (last, e)) = subst (ArePartsButLast g way.first) (sym e) way.goes_on.running.parts_are

  pub failed_at : StatesAreTold → (old_board new_board : BoardView) → old_board.log ≡ old_log → new_board.log ≡ log → DeskLaw new.server.desk
      → FailsAtBoard old old_board new new_board to_old to_new → RanAt ends.BoardFault g before log new.server.desk from to_new
  failed_at told old_board new_board was is law fails =
      let deeds = deeds_of way.first way.parts in
      let on : GoesOn g before way.first way.parts log new =
      subst (λ (l : List Act). GoesOn g before way.first way.parts l new) is
      (fails.goes_on g before way.first way.parts (subst (λ (l : List Act). GoesOn g before way.first way.parts l old) (sym was) way.goes_on)) in
      let run = on.running in
      record {
        first = way.first;
        parts = way.parts;
        turns = run.kept.turns;
        acts = run.kept.acts;
        cut = run.cut;
        opened = run.opened;
        text = taken_report deeds;
        ends = record {
          stops = record { ahead = but_last g way.first way.parts run.parts_are; last = last_asked way.parts run.parts_are; not_ended = on.goes_on };
          told = ap (λ (m : State). m.lines) (state_is g before deeds log new.server run.kept law told) ∙ run.told;
          text_is = refl;
        };
        wrote = subst (λ (to : SinkView). Wrote from to (taken_report deeds)) (sym fails.silent) way.wrote;
      }

  -- by another stop
  module _ (told : ReportIsTold) (law : DeskLaw old.server.desk) (off : BreaksOff g before way.first way.parts log new to_old to_new) (law_behind : DeskLaw new.server.desk) where
    abbrev written : List ℕ
    written = taken_report (deeds_of way.first way.parts) ++ off.text

    -- all of the report that was there before was written
    before_was : report (deeds_of way.first way.parts) ++ off.text ≡ written
    before_was =
        let run = way.goes_on.running in
        ap (λ (text : List ℕ). text ++ off.text) (sym (all_told told g before (deeds_of way.first way.parts) old_log old.server run.kept law run.told))

    written_more : (all : List Part) → AreMore all way.parts → IsWrittenButLast way.first all written
    written_more all (inl e) =
        subst (λ (ps : List Part). IsWrittenButLast way.first ps written) (sym e) (written_behind way.first way.parts off.text written before_was)
    written_more all (inr (last, e)) = subst (λ (ps : List Part). IsWrittenButLast way.first ps written) (sym e) (off.text, before_was)

    broken : IsBrokenOff g way.first off.all written
    broken = record { ahead = ahead_of_more off.all off.more; written = written_more off.all off.more; front = off.front }

    ran_off : (end : ServeEnd) → EndsSoFar end g new.server.desk.number way.first off.all written → RanAt end g before log new.server.desk from to_new
    ran_off end is = record {
      first = way.first;
      parts = off.all;
      turns = off.turns;
      acts = off.acts;
      cut = off.cut;
      opened = off.opened;
      text = written;
      ends = is;
      wrote = wrote_then from to_old to_new (taken_report (deeds_of way.first way.parts)) off.text way.wrote off.wrote;
    }

    pub stopped_at : (stop : TurnStop) → (stop ≡ stops.Board → RanAt ends.BoardFault g before log new.server.desk from to_new)
        → RanAt (end_of stop new.server.desk.worn) g before log new.server.desk from to_new
    stopped_at stop failed =
        by_stop (λ end. RanAt end g before log new.server.desk from to_new) stop new.server.desk.worn failed (ran_off ends.WriteFault broken)
        (λ worn. ran_off ends.Worn (broken, law_behind.full worn)) (ran_off ends.NoMemory broken)

-- ---- how it began

module _ (laws : BeginLaws) (g : Given) (before log : List Act) (p : Pump) (law : DeskLaw p.server.desk) (old new : SinkView) where
  pub way_begun : HasBegun begun.Listening g before log p old new → IsUnderWay g before old log p new
  way_begun h = record { first = h.first; parts = []; goes_on = h.is; wrote = h.wrote }

  pub quit_begun : HasBegun begun.Quit g before log p old new → RanAt ends.Done g before log p.server.desk old new
  quit_begun h =
      let run = h.is.running in
      record {
        first = h.first;
        parts = [];
        turns = run.kept.turns;
        acts = run.kept.acts;
        cut = run.cut;
        opened = run.opened;
        text = taken_report h.first;
        ends = record {
          all = run.parts_are;
          ended = h.is.ended;
          rest = h.is.rest;
          text_is = all_told laws.report g before h.first log p.server run.kept law run.told;
        };
        wrote = h.wrote;
      }

  pub refused_begun : (line : ℕ) (kind : ScriptRefusal) → HasBegun (begun.Refused line kind) g before log p old new → RanAt (ends.Script line kind) g before log p.server.desk old new
  refused_begun line kind h =
      let c = h.is.carried in
      record {
        first = h.first;
        parts = [];
        turns = c.kept.turns;
        acts = c.kept.acts;
        cut = c.cut;
        opened = tt;
        text = taken_report h.first;
        ends = (
          record { refused = h.is.refused; only = c.only; text_is = all_told laws.report g before h.first log p.server c.kept law c.told },
          ap (λ (m : State). m.jobs) (state_is g before h.first log p.server c.kept law laws.told) ∙ c.none,
        );
        wrote = h.wrote;
      }

  -- the board failed at its start
  pub failed_begun : (old_board new_board : BoardView) → old_board.log ≡ before → new_board.log ≡ log → FailsAtStart g old_board new_board p old new
      → RanAt ends.BoardFault g before log p.server.desk old new
  failed_begun old_board new_board was is h =
      let c = h.carried in
      let kept : IsKept g before h.first log p.server =
      subst (λ (b : List Act). IsKept g b h.first log p.server) was (subst (λ (l : List Act). IsKept g old_board.log h.first l p.server) is c.kept) in
      record {
        first = h.first;
        parts = [];
        turns = kept.turns;
        acts = kept.acts;
        cut = c.cut;
        opened = tt;
        text = taken_report h.first;
        ends = record {
          stops = record { ahead = tt; last = (c.only.scripted, h.none_refused, c.only.free, inl c.only.not_started); not_ended = h.goes_on };
          told = ap (λ (m : State). m.lines) (state_is g before h.first log p.server kept law laws.told) ∙ c.told;
          text_is = refl;
        };
        wrote = h.wrote;
      }

  module _ (off : BreaksAtFirst g before log p old new) where
    first_off : (end : ServeEnd) → EndsSoFar end g p.server.desk.number off.first [] off.text → RanAt end g before log p.server.desk old new
    first_off end is = record {
      first = off.first;
      parts = [];
      turns = off.turns;
      acts = off.acts;
      cut = off.cut;
      opened = tt;
      text = off.text;
      ends = is;
      wrote = off.wrote;
    }

    first_broken : IsBrokenOff g off.first [] off.text
    first_broken = record { ahead = tt; written = tt; front = off.front }

    pub stopped_begun : (stop : TurnStop) → (stop ≡ stops.Board → RanAt ends.BoardFault g before log p.server.desk old new)
        → RanAt (end_of stop p.server.desk.worn) g before log p.server.desk old new
    stopped_begun stop failed =
        by_stop (λ end. RanAt end g before log p.server.desk old new) stop p.server.desk.worn failed (first_off ends.WriteFault first_broken)
        (λ worn. first_off ends.Worn (first_broken, law.full worn)) (first_off ends.NoMemory first_broken)

-- ---- causes

pub caused_by : (stop : TurnStop) (worn : Bool) (old_board new_board : BoardView) (old new : SinkView) → (stop ≡ stops.Board → BoardFailed old_board new_board)
    → (stop ≢ stops.Board → NoBoardFailed old_board new_board) → (stop ≡ stops.Write → WriteFailed old new) → (stop ≢ stops.Write → NoWriteFailed old new)
    → IsCaused (end_of stop worn) old_board new_board old new
caused_by stops.Board worn old_board new_board old new board spared write no_write =
    record { board = λ e. board refl; spared = λ n. absurd (n refl); writes = record { fault = λ e. absurd (cc); spared = λ n. no_write (λ e. absurd (cc)) } }
caused_by stops.Write worn old_board new_board old new board spared write no_write =
    record { board = λ e. absurd (cc); spared = λ n. spared (λ e. absurd (cc)); writes = record { fault = λ e. write refl; spared = λ n. absurd (n refl) } }
caused_by stops.Stopped true old_board new_board old new board spared write no_write =
    record { board = λ e. absurd (cc); spared = λ n. spared (λ e. absurd (cc)); writes = record { fault = λ e. absurd (cc); spared = λ n. no_write (λ e. absurd (cc)) } }
caused_by stops.Stopped false old_board new_board old new board spared write no_write =
    record { board = λ e. absurd (cc); spared = λ n. spared (λ e. absurd (cc)); writes = record { fault = λ e. absurd (cc); spared = λ n. no_write (λ e. absurd (cc)) } }

-- nothing failed, so an end that isn't for a failure is right
pub caused_well : (end : ServeEnd) (old_board new_board : BoardView) (old new : SinkView) → end ≢ ends.BoardFault → end ≢ ends.WriteFault → NoBoardFailed old_board new_board
    → NoWriteFailed old new → IsCaused end old_board new_board old new
caused_well end old_board new_board old new other another spared no_write =
    record { board = λ e. absurd (other e); spared = λ n. spared; writes = record { fault = λ e. absurd (another e); spared = λ n. no_write } }

-- nothing failed before
pub caused_behind : (end : ServeEnd) (old_board mid_board new_board : BoardView) (old mid new : SinkView) → NoBoardFailed old_board mid_board → NoWriteFailed old mid
    → IsCaused end mid_board new_board mid new → IsCaused end old_board new_board old new
caused_behind end old_board mid_board new_board old mid new spared no_write h = record {
  board = λ e. subst (λ (n : ℕ). HasRisen n new_board.failed) spared (h.board e);
  spared = λ n. h.spared n ∙ spared;
  writes =
      record {
        fault = λ e. subst (λ (n : ℕ). HasRisen n new.failed) no_write (h.writes.fault e);
        spared = λ n. h.writes.spared n ∙ no_write;
      };
}

-- ---- by whether memory sufficed

module _ (g : Given) (desk : DeskView) (old_board new_board : BoardView) (old new : SinkView) where
  -- the same run ended otherwise
  ends_as : (end other : ServeEnd) → (ran : RanAt end g old_board.log new_board.log desk old new) → EndsSoFar other g desk.number ran.first ran.parts ran.text
      → RanAt other g old_board.log new_board.log desk old new
  ends_as end other ran is = record {
    first = ran.first;
    parts = ran.parts;
    turns = ran.turns;
    acts = ran.acts;
    cut = ran.cut;
    opened = ran.opened;
    text = ran.text;
    ends = is;
    wrote = ran.wrote;
  }

  short : NoBoardFailed old_board new_board → NoWriteFailed old new → IsCaused ends.NoMemory old_board new_board old new
  short spared no_write = caused_well ends.NoMemory old_board new_board old new (λ e. absurd (cc)) (λ e. absurd (cc)) spared no_write

  module _ (room : NoneOverflows desk.past) where
    not_whole : IsSmoothFor false desk.past desk.own
    not_whole = record { room = room; memory = λ whole. absurd (cc) }

    pub memory_drove : (end : ServeEnd) (had : Bool) → RanAt end g old_board.log new_board.log desk old new → IsCaused end old_board new_board old new
        → (had ≡ true → HadMemory (calls_of desk.past) desk.own) → DroveAt (with_memory end had) g desk old_board new_board old new
    memory_drove ends.Done true ran caused had = record { ran = ran; smooth = record { room = room; memory = λ whole. had refl }; caused = caused }
    memory_drove ends.Done false ran caused had = record {
      ran = ends_as ends.Done ends.NoMemory ran (done_broken g ran.first ran.parts ran.text ran.ends);
      smooth = not_whole;
      caused = short (caused.spared (λ e. absurd (cc))) (caused.writes.spared (λ e. absurd (cc)));
    }
    memory_drove (ends.Script line kind) true ran caused had = record { ran = ran; smooth = record { room = room; memory = λ whole. had refl }; caused = caused }
    memory_drove (ends.Script line kind) false ran caused had = record {
      ran = ends_as (ends.Script line kind) ends.NoMemory ran (script_broken line kind g ran.first ran.parts ran.text ran.ends.0);
      smooth = not_whole;
      caused = short (caused.spared (λ e. absurd (cc))) (caused.writes.spared (λ e. absurd (cc)));
    }
    memory_drove ends.WriteFault had ran caused memory = record { ran = ran; smooth = not_whole; caused = caused }
    memory_drove ends.BoardFault had ran caused memory = record { ran = ran; smooth = not_whole; caused = caused }
    memory_drove ends.Worn had ran caused memory = record { ran = ran; smooth = not_whole; caused = caused }
    memory_drove ends.NoMemory had ran caused memory = record { ran = ran; smooth = not_whole; caused = caused }

-- ---- ahead of all

pub never_drove : (g : Given) (desk : DeskView) (board : BoardView) (to : SinkView) → desk.past ≡ [] → DroveAt ends.NoMemory g desk board board to to
never_drove g desk board to none = record {
  ran = record {
    first = [];
    parts = [];
    turns = none;
    acts = sym (append-nil board.log);
    cut = refl;
    opened = tt;
    text = [];
    ends = record { ahead = tt; written = tt; front = ([], refl) };
    wrote = wrote_nothing to;
  };
  smooth = record { room = subst NoneOverflows (sym none) tt; memory = λ whole. absurd (cc) };
  caused = caused_well ends.NoMemory board board to to (λ e. absurd (cc)) (λ e. absurd (cc)) refl refl;
}

-- ---- whose hall it is

pub hall_self : (a : Server) → IsSameHall a a
hall_self a = record { hall = record { place = refl; name = refl; start = refl; parts = refl }; crew = same_crew a.crew }

pub hall_then : (a b c : Server) → IsSameHall a b → IsSameHall b c → IsSameHall a c
hall_then a b c h k = record {
  hall =
      record {
        place = k.hall.place ∙ h.hall.place;
        name = k.hall.name ∙ h.hall.name;
        start = k.hall.start ∙ h.hall.start;
        parts = k.hall.parts ∙ h.hall.parts;
      };
  crew = crew_then a.crew b.crew c.crew h.crew k.crew;
}

-- the same hall, and its mark too
pub hall_of : (a b : Server) → IsSame a b → IsSameHall a b
hall_of a b h = record {
  hall =
      record {
        place = ap (λ (f : Footing). f.place) h.footing;
        name = ap (λ (f : Footing). f.name) h.footing;
        start = ap (λ (f : Footing). f.start) h.footing;
        parts = ap (λ (f : Footing). f.parts) h.footing;
      };
  crew = h.crew;
}

-- by its desk, and who works beside it
pub hall_at : (d e : DeskView) (a b : Server) → a.desk ≡ d → e ≡ b.desk → IsSameHall a b → SameHall d.footing e.footing
hall_at d e a b begins ended h = record {
  place = ap (λ (x : DeskView). x.footing.place) ended ∙ h.hall.place ∙ ap (λ (x : DeskView). x.footing.place) begins;
  name = ap (λ (x : DeskView). x.footing.name) ended ∙ h.hall.name ∙ ap (λ (x : DeskView). x.footing.name) begins;
  start = ap (λ (x : DeskView). x.footing.start) ended ∙ h.hall.start ∙ ap (λ (x : DeskView). x.footing.start) begins;
  parts = ap (λ (x : DeskView). x.footing.parts) ended ∙ h.hall.parts ∙ ap (λ (x : DeskView). x.footing.parts) begins;
}

pub crew_at : (c d : Option Crew) (a b : Server) → a.crew ≡ c → d ≡ b.crew → IsSameHall a b → SameCrew c d
crew_at c d a b begins ended h =
    subst (λ (x : Option Crew). SameCrew x d) begins (subst (λ (x : Option Crew). SameCrew a.crew x) (sym ended) h.crew)

-- ---- a new server

pub fresh_at : (d : DeskView) (c : Option Crew) (a b : Server) → b ≡ a → a.desk ≡ d → a.crew ≡ c → a.connections.items ≡ [] → IsOpenedAt d
    → MayHave c d.footing.parts d.now → IsFresh b
fresh_at d c a b same desk crew none opened may = subst IsFresh (sym same) fresh
  where
    opened_there : IsOpenedAt a.desk
    opened_there = subst IsOpenedAt (sym desk) opened

    fresh : IsFresh a
    fresh = record {
      opened = opened_there;
      alone = none;
      crew =
          subst (λ (x : DeskView). MayHave a.crew x.footing.parts x.now) (sym desk)
          (subst (λ (x : Option Crew). MayHave x d.footing.parts d.now) (sym crew) may);
    }
