-- Along each legal history all that is sent can be offered.
use Rattle.std.proofs.Common.{◌≡◌, ℕ, ◌≤◌, true, List, [], ◌∷◌, refl, sym, ap, ◌∙◌, subst, inl, inr}
use Rattle.std.specs.Prelude.{None}
use Rattle.std.specs.List.{AllByRecursion}
use Rattle.std.proofs.lemmas.Option.{none-some}
use Rattle.maple_base.specs.declared.decision.Settings.{Settings}
use Rattle.policy_meaning.specs.Readings.{outcome_in, items_of, cells_of}
use Rattle.policy_meaning.specs.Meaning.{meaning}
use Rattle.topo_paths.specs.Scenes.{cell_in}
use Rattle.switch_session.specs.declared.told.Heard.{Heard}
use Rattle.switch_session.specs.declared.told.Heard.TheVariants as heard
use Rattle.trace_record.specs.Runs.{Recorded}
use Rattle.machine_steps.specs.declared.entry.Entry.{Entry}
use Rattle.machine_steps.specs.declared.entry.Entry.TheVariants as entries
use Rattle.machine_steps.specs.declared.reply.Reply.{Reply}
use Rattle.machine_steps.specs.Admitting.{Admits, IsOfHistory}
use Rattle.machine_steps.specs.Effects.{job_in, Hearing, Ending, Effect}
use Rattle.machine_steps.specs.Effects.Effect.{RunsOut, Rests, Misses, Outdates, Tells as TellsLines, Reports, OpensSession, TurnsAway, Empties, Moves, Quiets, Ends, Advances, Renews, Accepts, Overflows, Waits, Spends, AnswersJob}
use Rattle.machine_steps.specs.Histories.{Turn, Leads}
use Rattle.machine_steps.specs.Laws.{OpensSound, KeepsSound}
use Rattle.machine_steps.specs.Machine.{Session, State, is_of, opening, in_force}
use Rattle.machine_steps.specs.Running.{IsRunNow, CurrentRunsAreNow}
use Rattle.machine_steps.specs.Sound.{IsServed, IsSound}
use Rattle.machine_steps.specs.Steps.{switch_of, updated, renewed, job_of, asked_now, Commits, Decides, Steps}
use Rattle.machine_steps.proofs.Effects.{effect_of}
use Rattle.machine_steps.proofs.Later.{is_later}
use Rattle.machine_steps.proofs.Running.{current_next}
use Rattle.machine_steps.proofs.Sound.Deciding.{asked_next}
use Rattle.machine_steps.proofs.Sound.Kept.{RunningLaws}
use Rattle.machine_steps.proofs.Sound.Zipped.{all_in, all_weaker}
use Rattle.machine_moves.specs.Sends.{CanBeOffered, SendsLaw}
use Rattle.machine_moves.proofs.Current.{sound_sendable}
use Rattle.machine_moves.proofs.SendEntries.{Offers, with_offers, shuts_offers, found_sends, reaches_offers, opens_offers, takes_offers, joins_offers, taught_offers, waits_offers, concludes_offers}
use Rattle.machine_moves.proofs.SendHearing.{Tells, heard_sends}
use Rattle.machine_moves.proofs.SendSessions.{LowerLaws, Sendable, Sends, ended_sends}

-- what the machine's crates prove
pub record MachineLaws : Type 0 where
  pub opens : OpensSound
  pub keeps : KeepsSound
  pub now : CurrentRunsAreNow
  pub running : RunningLaws

module _ (laws : LowerLaws) (machine : MachineLaws) (n : ℕ) (room : n ≤ 65535) where
  -- ---- runs

  module _ (old : State) (h : IsSound old) (o : Offers n old) (reply : Reply) (new : State) (can : Sendable n new.learned) where
    commits_offers : (number : ℕ) (run : Recorded) → IsOfHistory run old → Commits number run old reply new → Offers n new
    commits_offers number run of (inl (none_such, r, e)) = subst (Offers n) (sym e) o
    commits_offers number run of (inr (inl (j, is, other, r, e))) = subst (Offers n) (sym e) o
    commits_offers number run of (inr (inr (inl (j, c, recorded, current, is, same, stale, r, e)))) = subst (Offers n) (sym e) o
    commits_offers number run of (inr (inr (inr (inl (j, is, same, fresh, concludes))))) =
        concludes_offers laws n room old o reply new j is.there (all_in (IsServed old) old.jobs j h.jobs is.there) run.items run.cells can run.outcome (λ d e. (current_next old j.switch j.key run now d e, refl)) concludes
      where
        now : IsRunNow old j.switch j.key run
        now = let a = machine.now old run of same fresh in record { law = a.law; policy = a.policy; budget = a.budget; switch_is = sym is.switch; key_is = sym is.key; cells = a.cells }
    commits_offers number run of (inr (inr (inr (inr l)))) = subst (Offers n) (sym l.1) o

    decides_offers : (number : ℕ) → Decides number old reply new → Offers n new
    decides_offers number (inl (none_such, r, e)) = subst (Offers n) (sym e) o
    decides_offers number (inr (inl (j, is, concludes))) =
        let served = all_in (IsServed old) old.jobs j h.jobs is.there in
        concludes_offers laws n room old o reply new j is.there served (items_of (asked_now j old) j.key (cell_in old.scene)) (cells_of (asked_now j old) j.key (cell_in old.scene)) can
        (outcome_in (meaning (in_force old).body old.settings.budget j.switch) j.key (cell_in old.scene)) (asked_next machine.running old h.links j served.valid) concludes
    decides_offers number (inr (inr l)) = subst (Offers n) (sym l.1) o

    -- ---- by the effect

    module _ (entry : Entry) (a : Admits old entry) where
      hears : (x : Heard) (t : Session) → Hearing old entry x t → Sends n t × Tells x t
      hears x t from = heard_sends laws n room old h o entry a x t from

      shut : (t : Session) → Ending old entry t → Sends n t
      shut t (inl (c, s, is, found, same)) = subst (Sends n) (sym same) (ended_sends laws n room s (found_sends laws n room old (is_of c) s o found))
      shut t (inr (inl (u, dpid, ports, from, same))) = subst (Sends n) (sym same) (ended_sends laws n room u (hears (heard.Features dpid ports) u from).0)
      shut t (inr (inr (end, from))) = (hears (heard.Ended end) t from).0

      by_effect : old.settings.capacity ≡ n → job_in entry ≡ None → Effect old entry reply new → Offers n new
      by_effect same free (RunsOut l) = subst (Offers n) (sym l.1) o
      by_effect same free (Rests p e) = subst (Offers n) (sym e) o
      by_effect same free (Misses number is r e) = subst (Offers n) (sym e) o
      by_effect same free (Outdates number is differs r more e) = subst (Offers n) (sym e) o
      by_effect same free (TellsLines p more e) = subst (Offers n) (sym e) o
      by_effect same free (Reports is r e) = subst (Offers n) (sym e) o
      by_effect same free (OpensSession c is fresh few r e) = opens_offers laws n room old o reply new c same e
      by_effect same free (TurnsAway c is fresh full r e) = subst (Offers n) (sym e) o
      by_effect same free (Empties c s t bytes is found out r e) = takes_offers laws n room old o reply new c s t bytes found out e
      by_effect same free (Moves x t from still p more e) = subst (Offers n) (sym e) (with_offers laws n room old t o (hears x t from).0)
      by_effect same free (Quiets kind code t from p e) = subst (Offers n) (sym e) (with_offers laws n room old t o (hears (heard.Refused kind code true) t from).0)
      by_effect same free (Ends t end ending r more e) = subst (Offers n) (sym e) (shuts_offers laws n room old t o (shut t ending))
      by_effect same free (Advances u may allowed r b) = reaches_offers laws n room old (updated u old) new b can o
      by_effect same free (Renews p is r b) = reaches_offers laws n room old (renewed p old) new b can o
      by_effect same free (Accepts t dpid ports from r j) = (let f = hears (heard.Features dpid ports) t from in joins_offers laws n room old o reply new can t dpid ports f.1 f.0 j)
      by_effect same free (Overflows t buffer frame k m p many r e) =
          subst (Offers n) (sym e) (taught_offers laws n room old o reply new (switch_of t) k m (subst (λ (x : State). Sendable n x.learned) e can) p.teaches)
      by_effect same free (Waits t buffer frame k m p few r e) =
          waits_offers laws n room old o reply new m (job_of t buffer frame k m) (hears (heard.PacketIn buffer p.in_port frame) t p.hearing).1
          (taught_offers laws n room old o reply new (switch_of t) k m (subst (λ (x : State). Sendable n x.learned) e can) p.teaches) e
      by_effect same free (Spends j run r e) = absurd (none-some run.number (sym free ∙ run.is))
      by_effect same free (AnswersJob j items cells d run b) = absurd (none-some run.number (sym free ∙ run.is))

    entry_offers : old.settings.capacity ≡ n → (entry : Entry) → Admits old entry → Steps old entry reply new → Offers n new
    entry_offers same (entries.Commit number run) a d = commits_offers number run a d
    entry_offers same (entries.Decide number) a d = decides_offers number d
    entry_offers same other a d = by_effect other a same refl (effect_of old reply new other d)

  -- ---- along a history

  along : (ts : List Turn) (m last : State) → IsSound m → m.settings.capacity ≡ n → Offers n m → Leads m ts last → Offers n last
  along [] m last h same o e = subst (Offers n) (sym e) o
  along (t ∷ ts) m last h same o (at, is, rest) =
      let steps = subst (λ (x : State). Steps x t.entry t.reply t.behind) at is.steps in
      let admitted = subst (λ (x : State). Admits x t.entry) at is.admitted in
      let sound = machine.keeps m t.entry t.reply t.behind h admitted steps in
      let settings = ap (λ (s : Settings). s.capacity) (is_later m t.reply t.behind t.entry steps).settings ∙ same in
      along ts t.behind last sound settings
      (entry_offers m h o t.reply t.behind (sound_sendable laws n t.behind sound settings) same t.entry admitted steps) rest

pub sends_law : LowerLaws → MachineLaws → SendsLaw
sends_law laws machine policy settings ts m ranges leads =
    let o = along laws machine settings.capacity ranges.capacity ts (opening policy settings) m (machine.opens policy settings ranges) refl (record { sessions = tt; buffers = tt }) leads in
    all_weaker (Sends settings.capacity) (λ (s : Session). AllByRecursion CanBeOffered s.outbox) (λ s f. f.outbox) m.sessions o.sessions
