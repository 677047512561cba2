-- A run breaks off in a turn.
use Rattle.std.proofs.Common.{◌≡◌, ℕ, true, List, [], ◌∷◌, ◌++◌, append-nil, append_assoc, refl, sym, ap, ◌∙◌, subst, inl, inr}
use Rattle.std.specs.List.{flat_map, list_all}
use Rattle.std.proofs.lemmas.Bool.{and_from, and_parts}
use Rattle.maple_io.specs.declared.act.Act.{Act}
use Rattle.maple_io.specs.declared.act.Act.TheVariants as acts
use Rattle.maple_io.specs.declared.board.Turn.{Turn as BoardTurn}
use Rattle.maple_io.specs.Fronts.{IsFront}
use Rattle.maple_io.specs.Views.{SinkView, Wrote}
use Rattle.maple_io.proofs.Pieces.{wrote_nothing}
use Rattle.report_text.specs.Report.{spelled}
use Rattle.machine_desk.specs.Desks.{DeskLaw, Footing, calls_of, turn}
use Rattle.machine_desk.specs.Reports.{ReportsInPart}
use Rattle.machine_steps.specs.declared.entry.Entry.TheVariants as entries
use Rattle.machine_steps.specs.declared.reply.Reply.TheVariants as replies
use Rattle.machine_steps.specs.Histories.{Leads, Turn}
use Rattle.machine_steps.specs.Machine.{State, opening}
use Rattle.serve_steps.specs.Deeds.{Past, acts_of, turn_in, act_in, turns_of}
use Rattle.serve_steps.specs.Deeds.Deed.{Enters, Does}
use Rattle.serve_steps.specs.Laws.{ReportIsTold, entered}
use Rattle.serve_steps.specs.Parts.{Given, Part, deeds_of, is_quiet}
use Rattle.serve_steps.specs.Runs.{report, taken_in, taken_report}
use Rattle.serve_steps.proofs.Entered.{entered_ahead, acts_entered}
use Rattle.serve_steps.proofs.States.{turns_go_on}
use Rattle.serve_channels.specs.declared.server.Server.{Server}
use Rattle.serve_channels.specs.Delivering.{OpensOnce}
use Rattle.serve_channels.specs.Keeping.{IsKept}
use Rattle.serve_channels.specs.Stretches.{IsQuietly}
use Rattle.serve_channels.proofs.Acts.{acts_did, did, turns_did}
use Rattle.serve_channels.proofs.Stretching.{gathered_then}
use Rattle.serve_channels.proofs.Told.{taken_others}
use Rattle.serve_pump.specs.declared.pump.Pump.{Pump}
use Rattle.serve_pump.specs.Running.{BreaksOff, GoesOn}

-- ---- turns and acts, one behind the other

pub quiet_entered : (ts : List Turn) (past : Past) → list_all is_quiet past ≡ true → list_all is_quiet (entered ts past) ≡ true
quiet_entered [] past quiet = quiet
quiet_entered (t ∷ ts) past quiet = quiet_entered ts (Enters t ∷ past) quiet

quiet_did : (more : List Act) (past : Past) → list_all (λ (act : Act). is_quiet (Does act)) more ≡ true → list_all is_quiet past ≡ true
    → list_all is_quiet (did more past) ≡ true
quiet_did [] past all quiet = quiet
quiet_did (a ∷ more) past all quiet =
    let both = and_parts (is_quiet (Does a)) (list_all (λ (act : Act). is_quiet (Does act)) more) all in
    quiet_did more (Does a ∷ past) both.1 (and_from (is_quiet (Does a)) (list_all is_quiet past) both.0 quiet)

-- ---- the front of the report

module _ (told : ReportIsTold) (g : Given) (past : Past) (last : State) (legal : Leads (opening g.policy g.settings) (turns_of past) last) where
  -- a front of what was taken is one of the report
  pub taken_front : (text : List ℕ) → IsFront text (taken_report past) → IsFront text (report past)
  taken_front text front = (
    front.0 ++ flat_map spelled last.lines,
    sym (append_assoc text front.0 (flat_map spelled last.lines)) ∙ ap (λ (xs : List ℕ). xs ++ flat_map spelled last.lines) front.1 ∙ sym (told past g.policy g.settings last legal),
  )

front_then : (first more : Past) (text : List ℕ) → IsFront text (taken_report more) → IsFront (taken_report first ++ text) (taken_report (more ++ first))
front_then first more text front = (
  front.0,
  append_assoc (taken_report first) text front.0 ∙ ap (λ (xs : List ℕ). taken_report first ++ xs) front.1 ∙ sym (gathered_then taken_in first more),
)

-- ---- one more part

module _ (told : ReportIsTold) (g : Given) (before : List Act) (first : Past) (parts : List Part) (old_log : List Act) (p : Pump) (h : GoesOn g before first parts old_log p) where
  abbrev ahead : Past
  ahead = deeds_of first parts

  -- none was begun
  pub breaks_before : (log : List Act) (q : Pump) (to : SinkView) → IsKept g before ahead log q.server → DeskLaw q.server.desk → BreaksOff g before first parts log q to to
  breaks_before log q to kept law = record {
    all = parts;
    more = inl refl;
    turns = kept.turns;
    acts = kept.acts;
    cut = h.running.cut;
    opened = h.running.opened;
    text = [];
    wrote = wrote_nothing to;
    front =
        taken_front told g ahead q.server.desk.now (legal_by kept) (taken_report ahead ++ [])
        ([], append-nil (taken_report ahead ++ []) ∙ append-nil (taken_report ahead));
  }
    where
      legal_by : IsKept g before ahead log q.server → Leads (opening g.policy g.settings) (turns_of ahead) q.server.desk.now
      legal_by kept =
          subst (λ (m : State). Leads m (turns_of ahead) q.server.desk.now) kept.start
          (subst (λ (ts : List Turn). Leads q.server.desk.footing.start ts q.server.desk.now) kept.turns law.legal)

  module _ (t : BoardTurn) (bytes : List ℕ) (once : OpensOnce t ahead) where
    abbrev turned : Past
    turned = Does (acts.Gives t bytes) ∷ ahead

    -- of this turn and these deeds
    pub breaks_with : (done : Past) (log : List Act) (q : Pump) (old new : SinkView) (text : List ℕ) → DeskLaw q.server.desk
        → q.server.desk.footing.start ≡ opening g.policy g.settings → list_all is_quiet done ≡ true → q.server.desk.past ≡ turns_of (done ++ turned)
        → log ≡ before ++ acts_of (done ++ turned) → Wrote old new text → IsFront text (taken_report done) → BreaksOff g before first parts log q old new
    breaks_with done log q old new text law start quiet turns log_is wrote front = record {
      all = record { given = t; bytes = bytes; done = done } ∷ parts;
      more = inr (record { given = t; bytes = bytes; done = done }, refl);
      turns = turns;
      acts = log_is;
      cut = (quiet, h.running.cut);
      opened = (once, h.running.opened);
      text = text;
      wrote = wrote;
      front =
          taken_front told g (done ++ turned) q.server.desk.now
          (subst (λ (m : State). Leads m (turns_of (done ++ turned)) q.server.desk.now) start
          (subst (λ (ts : List Turn). Leads q.server.desk.footing.start ts q.server.desk.now) turns law.legal))
          (taken_report ahead ++ text)
          (subst (λ (xs : List ℕ). IsFront (xs ++ text) (taken_report (done ++ turned))) (append-nil (taken_report ahead)) (front_then turned done text front));
    }

    -- ---- of which only what the desk knows and the log has

    module _ (ts : List Turn) (more : List Act) where
      abbrev since : Past
      since = did more (entered ts [])

      since_turns : turns_of since ≡ ts
      since_turns = turns_did more (entered ts []) ∙ turns_go_on ts []

      since_acts : acts_of since ≡ more
      since_acts = acts_did more (entered ts []) ∙ ap (λ (xs : List Act). xs ++ more) (acts_entered ts [])

    pub breaks_since : (mid_log log : List Act) (mid : Server) (q : Pump) (to : SinkView) → IsKept g before turned mid_log mid → mid.desk.footing.marked ≡ mid.desk.past
        → q.server.desk.footing ≡ mid.desk.footing → IsQuietly mid_log log → DeskLaw q.server.desk → BreaksOff g before first parts log q to to
    breaks_since mid_log log mid q to kept marked footing quietly law =
        let ts = law.begins.0 in
        let more = quietly.acts in
        let done = since ts more in
        breaks_with done log q to to [] law (ap (λ (f : Footing). f.start) footing ∙ kept.start)
        (quiet_did more (entered ts []) quietly.quiet (quiet_entered ts [] refl))
        (law.begins.1 ∙ ap (λ (us : List Turn). us ++ ts) (ap (λ (f : Footing). f.marked) footing ∙ marked ∙ kept.turns)
        ∙ ap (λ (us : List Turn). turns_of turned ++ us) (sym (since_turns ts more)) ∙ sym (gathered_then turn_in turned done))
        (quietly.log ∙ ap (λ (xs : List Act). xs ++ more) kept.acts ∙ append_assoc before (acts_of turned) more
        ∙ ap (λ (xs : List Act). before ++ xs) (ap (λ (xs : List Act). acts_of turned ++ xs) (sym (since_acts ts more)) ∙ sym (gathered_then act_in turned done)))
        (wrote_nothing to) (taken_report done, refl)

    -- ---- as the report was taken, and written in part

    module _ (done : Past) (log : List Act) (a : Server) (q : Pump) (old new : SinkView) (e : ReportsInPart a.desk q.server.desk old new) where
      abbrev this : Turn
      this = turn e.enters.between entries.TakeReport (replies.Lines e.text) q.server.desk.now

      abbrev reporting : Past
      reporting = Enters this ∷ entered e.enters.others done

      reporting_ahead : reporting ++ turned ≡ Enters this ∷ entered e.enters.others (done ++ turned)
      reporting_ahead = ap (λ (ds : Past). Enters this ∷ ds) (entered_ahead e.enters.others done turned)

      pub breaks_reporting : IsKept g before (done ++ turned) log a → list_all is_quiet done ≡ true → taken_report done ≡ [] → DeskLaw q.server.desk
          → BreaksOff g before first parts log q old new
      breaks_reporting kept quiet unread law =
          breaks_with reporting log q old new e.front law (ap (λ (f : Footing). f.start) e.enters.footing ∙ kept.start) (quiet_entered e.enters.others done quiet)
          (e.enters.past ∙ ap (λ (us : List Turn). (us ++ e.enters.others) ++ this ∷ []) kept.turns
          ∙ ap (λ (us : List Turn). us ++ this ∷ []) (sym (turns_go_on e.enters.others (done ++ turned))) ∙ sym (ap turns_of reporting_ahead))
          (kept.acts ∙ ap (λ (xs : List Act). before ++ xs)
          (sym (ap acts_of reporting_ahead ∙ append-nil (acts_of (entered e.enters.others (done ++ turned))) ∙ acts_entered e.enters.others (done ++ turned))))
          e.wrote
          (subst (λ (xs : List ℕ). IsFront e.front xs)
          (sym (ap (λ (xs : List ℕ). xs ++ e.text) (taken_others (calls_of a.desk.past) e.enters.others done e.enters.allowed ∙ unread))) e.is_front)
