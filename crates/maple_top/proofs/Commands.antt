-- What a run of a command says of it under its policy.
use Rattle.std.proofs.Common.{◌≡◌, true, ℕ, List, [], ◌∷◌, ◌++◌, length, None, refl, sym, ap, ◌∙◌, subst}
use Rattle.maple_base.specs.declared.decision.Settings.{Settings}
use Rattle.maple_io.specs.declared.act.Act.{Act}
use Rattle.maple_io.specs.Boards.{BoardFailed, BoardView, NoBoardFailed}
use Rattle.maple_io.specs.Views.{SinkView}
use Rattle.maple_io.proofs.Pieces.{wrote_nothing}
use Rattle.policy_lang.specs.declared.Policy.{Policy}
use Rattle.policy_text.specs.Printed.{policy_text}
use Rattle.device_port.specs.Devices.{Meaning}
use Rattle.gen_script.specs.Summary.{summary_of}
use Rattle.sim_driver.specs.declared.drive.SimEnd.{SimEnd}
use Rattle.sim_driver.specs.declared.drive.SimEnd.TheVariants as sims
use Rattle.sim_driver.specs.Runs.{Ends as SimEnds, Given as SimGiven, HasEnded as HasSimEnded, IsAtRefused as IsAtRefusedLine, given as sim_given, refused_line}
use Rattle.serve_steps.specs.declared.end.ServeEnd.{ServeEnd}
use Rattle.serve_steps.specs.declared.end.ServeEnd.TheVariants as ends
use Rattle.serve_steps.specs.Deeds.{Past}
use Rattle.serve_steps.specs.Parts.{Given as ServeGiven, Part, given as serve_given}
use Rattle.serve_steps.specs.Runs.{AreParts, HasEnded as HasServeEnded, HasRun as HasServed, is_whole}
use Rattle.serve_steps.specs.Texts.{first_refused, script_asks}
use Rattle.command_words.specs.declared.words.Command.TheVariants.{Sim, Check, Gen, Serve}
use Rattle.maple_top.specs.declared.status.Status.{Status}
use Rattle.maple_top.specs.declared.status.Status.TheVariants as status
use Rattle.report_text.specs.declared.line.Line.{Line}
use Rattle.maple_top.specs.Due.{HasNone}
use Rattle.maple_top.specs.Ends.{ClosesBy, Ends, closing}
use Rattle.maple_top.specs.Outcomes.{EndsAtRefused, Switches, end_of, last_of}
use Rattle.maple_top.specs.Running.{EndsOver, EndsPolicy, EndsServing}
use Rattle.maple_top.specs.Refusals.{IsRefusal}
use Rattle.maple_top.specs.Texts.{Texts}
use Rattle.maple_top.proofs.Endings.{closes_written, ends_written}

-- ---- scripts over devices

-- where a script ended, as a run of `serve` would
at_refused : (end : SimEnd) (places first : ℕ) (script : List ℕ) → (end ≡ sims.Done → refused_line places first script ≡ None) → IsAtRefusedLine end (refused_line places first script)
    → EndsAtRefused (end_of end) (refused_line places first script)
at_refused sims.Done places first script none at = none refl
at_refused (sims.Script line kind) places first script none at = at
at_refused end places first script none at = tt

-- it ends by a failed write just where the script did, and never by the board
pub write_end : (end : SimEnd) → end_of end ≡ ends.WriteFault → end ≡ sims.WriteFault
write_end sims.WriteFault e = refl
write_end end e = absurd (cc)

pub no_board_end : (end : SimEnd) → end_of end ≡ ends.BoardFault → ⊥
no_board_end (sims.Script line kind) e = cc
no_board_end end e = cc

-- what a sink took that had taken nothing is the report
pub took_report : (end : SimEnd) (g : SimGiven) (after : List Meaning) (old new : SinkView) → old.took ≡ [] → SimEnds end g after old new → HasSimEnded end g after new.took
took_report end g after old new nothing (report, ended, wrote) =
    subst (HasSimEnded end g after) (sym (wrote.took ∙ ap (λ t. t ++ report) nothing)) ended

module _ (policy : Policy) (settings : Settings) (texts : Texts) (before after : List Meaning) (old new : SinkView) (places : ℕ) (places_are : length before ≡ places)
    (end : SimEnd) (none : end ≡ sims.Done → refused_line places texts.first_line texts.script ≡ None) (at : IsAtRefusedLine end (refused_line places texts.first_line texts.script))
  where
    abbrev Ended : List ℕ → Type 0
    Ended report = HasSimEnded end (sim_given policy settings before texts.script texts.first_line) after report

    at_line : EndsAtRefused (end_of end) (refused_line (length before) texts.first_line texts.script)
    at_line = subst (λ (n : ℕ). EndsAtRefused (end_of end) (refused_line n texts.first_line texts.script)) (sym places_are) (at_refused end places texts.first_line texts.script none at)

    pub simulated : (mid : SinkView) (result : Status) → SimEnds end (sim_given policy settings before texts.script texts.first_line) after old mid → ClosesBy (end_of end) mid new result
        → EndsOver (Sim settings) policy texts before after old new result
    simulated mid result (report, ended, wrote) closes board =
        let (text, written, w) = closes_written old mid new report wrote (end_of end) result closes in (
          text,
          record {
            end = end_of end;
            report = report;
            ran = record { did = record { sim_end = end; end_is = refl; ended = ended; unserved = refl }; refused_at = at_line };
            written = written;
          },
          w,
        )

    -- a report that was kept in memory
    pub summed : (number : ℕ) (result : Status) (report : List ℕ) → Ended report → end ≡ sims.Done → Ends old new status.Done (summary_of report) result
        → EndsOver (Gen number settings) policy texts before after old new result
    summed number result report ended is e board =
        let (text, written, w) = ends_written old old new [] (wrote_nothing old) (summary_of report) status.Done result tt e in (
          text,
          record {
            end = ends.Done;
            report = report;
            ran = record {
              did = record { sim_end = end; end_is = sym (ap end_of is); ended = ended; unserved = refl };
              refused_at = subst (λ (e : ServeEnd). EndsAtRefused e (refused_line (length before) texts.first_line texts.script)) (ap end_of is) at_line;
            };
            written = written;
          },
          w,
        )

    -- one that isn't summed up
    last_is : (number : ℕ) (report : List ℕ) → (end ≡ sims.Done → ⊥) → closing (end_of end) ≡ last_of (Gen number settings) (end_of end) report
    last_is number report other = by end other
      where
        by : (e : SimEnd) → (e ≡ sims.Done → ⊥) → closing (end_of e) ≡ last_of (Gen number settings) (end_of e) report
        by sims.Done other = absurd (other refl)
        by e other = refl

    pub unsummed : (number : ℕ) (result : Status) (report : List ℕ) → Ended report → (end ≡ sims.Done → ⊥) → ClosesBy (end_of end) old new result
        → EndsOver (Gen number settings) policy texts before after old new result
    unsummed number result report ended other closes board =
        let (text, written, w) = closes_written old old new [] (wrote_nothing old) (end_of end) result closes in (
          text,
          record {
            end = end_of end;
            report = report;
            ran = record { did = record { sim_end = end; end_is = refl; ended = ended; unserved = refl }; refused_at = at_line };
            written = rw (last_is number report other) at written;
          },
          w,
        )

-- ---- serving

-- where all parts are whole, no line of the start script is refused
none_refused : (g : ServeGiven) (first : Past) (parts : List Part) → AreParts g first parts → first_refused (script_asks g.first_line g.script) ≡ None
none_refused g first [] h = h.none_refused
none_refused g first (p ∷ ahead) h = none_refused g first ahead h.1

served_at : (end : ServeEnd) (g : ServeGiven) (before after : List Act) (text : List ℕ) → HasServeEnded end g before after text
    → EndsAtRefused end (first_refused (script_asks g.first_line g.script))
served_at ends.Done g before after text h = none_refused g h.run.first h.run.parts h.run.ends.all
served_at (ends.Script line kind) g before after text h = h.run.ends.refused
served_at end g before after text h = tt

pub served : (policy : Policy) (settings : Settings) (listen control : ℕ) (texts : Texts) (before after : BoardView) (old mid new : SinkView) (end : ServeEnd) (result : Status)
    → HasServed end (serve_given policy settings texts.script texts.first_line listen control) before after old mid
    → (end ≡ ends.BoardFault → BoardFailed before after) → (is_whole end ≡ true → NoBoardFailed before after) → ClosesBy end mid new result
    → EndsServing (Serve listen control settings) policy texts before after old new result
served policy settings listen control texts before after old mid new end result (report, ended, wrote) failed spared closes devices =
    let (text, written, w) = closes_written old mid new report wrote end result closes in (
      text,
      record {
        end = end;
        report = report;
        ran = record {
          did = record { ended = ended; board = failed; no_board = spared; uncalled = refl };
          refused_at = served_at end (serve_given policy settings texts.script texts.first_line listen control) before.log after.log report ended;
        };
        written = written;
      },
      w,
    )

-- ---- printing

pub printed : (policy : Policy) (texts : Texts) (same : Switches) (old new : SinkView) (result : Status) → Ends old new status.Done (policy_text policy) result
    → EndsPolicy Check policy texts same same old new result
printed policy texts same old new result e =
    let (text, written, w) = ends_written old old new [] (wrote_nothing old) (policy_text policy) status.Done result tt e in (
      text,
      record {
        end = ends.Done;
        report = policy_text policy;
        ran = record { did = (refl, refl, refl); refused_at = refl };
        written = written;
      },
      w,
    )

-- ---- a policy that is refused

pub none_of : (texts : Texts) (line : Line) → IsRefusal texts.policy line → HasNone texts
none_of texts line (at, column, fault, refused, same) policy has = refused.0 policy has
