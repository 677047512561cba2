-- The report is taken.
use Rattle.std.proofs.Common.{◌≡◌, ℕ, List, [], ◌∷◌, ◌++◌, None, refl, sym, ap, ◌∙◌, subst, ⊎_elim}
use Rattle.std.specs.Prelude.{Err, Ok, OnOk, Result}
use Rattle.maple_io.specs.Views.{SinkView, Wrote}
use Rattle.maple_io.specs.declared.act.Act.{Act}
use Rattle.machine_desk.specs.Desks.{DeskLaw, DeskView, calls_of}
use Rattle.machine_desk.specs.Reports.{Reports as ReportsAtDesk, ReportsBy}
use Rattle.machine_desk.specs.declared.report.ReportStop.{ReportStop}
use Rattle.machine_desk.proofs.Tended.{same_by, ahead, meanwhile_ahead}
use Rattle.machine_steps.specs.declared.entry.Entry.{Entry}
use Rattle.machine_steps.specs.declared.entry.Entry.TheVariants as entries
use Rattle.machine_steps.specs.declared.reply.Reply.{Reply}
use Rattle.machine_steps.specs.declared.reply.Reply.TheVariants as replies
use Rattle.machine_steps.specs.Histories.{Turn}
use Rattle.machine_steps.specs.Machine.{State}
use Rattle.world_steps.specs.Worlds.{messages_for}
use Rattle.serve_steps.specs.Deeds.{Past}
use Rattle.serve_steps.specs.Deeds.Deed.{Enters}
use Rattle.serve_steps.specs.Laws.{entered}
use Rattle.serve_channels.specs.declared.server.Server.{Server}
use Rattle.serve_channels.specs.Delivering.{GoesReporting, IsStill}
use Rattle.serve_channels.specs.Servers.{IsSame, number_of, home}
use Rattle.serve_channels.specs.Serving.{ServingLaws}
use Rattle.serve_channels.proofs.Alike.{aside_turn, spares_another}
use Rattle.serve_channels.proofs.Emptied.{nothing_beside}
use Rattle.serve_channels.proofs.Entering.{at_desk, begins}
use Rattle.serve_channels.proofs.Entries.{entry_jobs, kept_about_none, others_ahead, owes_now, own_turn, unheard}
use Rattle.serve_channels.proofs.Kept.{kept_whole}
use Rattle.serve_channels.proofs.Others.{lawful, meanwhile_others, others_aside}
use Rattle.serve_channels.proofs.Stretching.{aside_nothing}
use Rattle.serve_channels.proofs.Told.{taken_others}

module _ (laws : ServingLaws) (a : Server) (d : DeskView) (old new : SinkView) (law : DeskLaw a.desk) (h : ReportsAtDesk a.desk d old new) where
  abbrev b : Server
  b = at_desk a d

  abbrev e : Entry
  e = entries.TakeReport

  abbrev r : Reply
  r = replies.Lines h.text

  abbrev this : Turn
  this = own_turn a b h.enters

  abbrev others : Past
  others = entered h.enters.others []

  same : IsSame a b
  same = same_by home a b refl h.enters.footing

  pub reported : (log : List Act) → GoesReporting old new a log b log
  reported log g before past kept =
      let u = begins kept (lawful law) in
      let is = unheard a b h.enters None (others ++ past) refl refl refl refl in
      record {
        done = Enters this ∷ others;
        stretch = owes_now laws u b h.enters same is;
        kept = kept_whole (kept_about_none laws u b h.enters same is refl (λ c. refl)) (entry_jobs a b h.enters laws (lawful law) same refl kept.jobs);
        aside = λ c.
            aside_turn c this others (spares_another c this refl)
            (others_aside c h.enters.others [] (meanwhile_others laws (lawful law) (others_ahead a b h.enters).meanwhile) (aside_nothing c));
        wrote = subst (Wrote old new) (sym (ap (λ (text : List ℕ). text ++ h.text) (taken_others (calls_of a.desk.past) h.enters.others [] h.enters.allowed))) h.wrote;
      }

  -- with no packet waiting the machine is as it was, but for the report
  pub still_reported : IsStill a → IsStill b
  still_reported still =
      let same = nothing_beside laws a.desk (ahead h.enters) (lawful law) (meanwhile_ahead h.enters) still.jobs in
      let behind : d.now ≡ record a.desk.now { lines = [] }
      = ⊎_elim (λ taken. taken.1 ∙ ap (λ (m : State). record m { lines = [] }) same) (λ lacks. absurd (cc lacks.0)) h.enters.made.steps in
      record {
        jobs = ap (λ (m : State). m.jobs) behind ∙ still.jobs;
        taken = λ at k there live. ap (messages_for (number_of k)) behind ∙ still.taken at k there live;
      }

-- where all was written
pub where_reported : (result : Result (Unit {0}) ReportStop) (a b : DeskView) (old new : SinkView) → ReportsBy result a b old new → OnOk result (ReportsAtDesk a b old new)
where_reported (Ok done) a b old new h = h
where_reported (Err stop) a b old new h = tt
