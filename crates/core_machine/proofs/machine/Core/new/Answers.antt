use Rattle.std.proofs.Common.{◌≡◌, [], List, map, sym, ap, subst, ◌∙◌}
use Rattle.std.specs.FinSet as set
use Rattle.maple_base.specs.declared.decision.Settings.{Settings}
use Rattle.policy_lang.specs.declared.Policy.{Policy}
use Rattle.env_cells.specs.declared.updates.Update.TheVariants.{Tables}
use Rattle.env_cells.specs.Environment.{Environment, nothing_known}
use Rattle.env_cells.specs.Changes.{applied}
use Rattle.std.specs.Ordering.{nat_cmp}
use Rattle.report_text.specs.declared.line.Line.{Line}
use Rattle.switch_traces.specs.Traces.{Learnings}
use Rattle.machine_steps.specs.declared.job.Job.{Job}
use Rattle.machine_steps.specs.Machine.{PolicyState, Session, opening}
use Rattle.machine_steps.specs.Sound.{IsSound}
use Rattle.machine_parts.specs.Sessions.{session_of}
use Rattle.machine_parts.specs.Seen.{seen_past}
use Rattle.core_machine.proofs.machine.Core.new.Goals as goal

-- a machine without connections, traces and jobs is the opening one
sound_of : {earlier : List Policy} {policy : Policy} {states : List PolicyState} {scene : Environment} {learned : List Learnings} {sessions : List Session} {opened : set.FinSet nat_cmp} {jobs : List Job} {lines : List Line}
    (p : Policy) (s : Settings) → earlier ≡ [] → policy ≡ p → states ≡ [] → scene ≡ applied nothing_known (Tables p.tables) → learned ≡ [] → sessions ≡ [] → opened ≡ set.empty → jobs ≡ [] → lines ≡ []
    → IsSound (opening p s)
    → IsSound (record { settings = s; earlier = earlier; policy = policy; states = states; scene = scene; learned = learned; sessions = sessions; opened = opened; jobs = jobs; job_count = 0; trace_count = 0; lines = lines })
sound_of p s earlier policy states scene learned sessions opened jobs lines h =
    let is : opening p s ≡ _ = λ i. record {
      settings = s;
      earlier = sym earlier i;
      policy = sym policy i;
      states = sym states i;
      scene = sym scene i;
      learned = sym learned i;
      sessions = sym sessions i;
      opened = sym opened i;
      jobs = sym jobs i;
      job_count = 0;
      trace_count = 0;
      lines = sym lines i;
    } in
    subst IsSound is h

pub invariant_of-result : goal.invariant_of-result
invariant_of-result c =
    sound_of c.args.policy c.args.settings (ap (map (λ s. s.value)) c.new-2.ensures.items) c.in_ok-new.ensures.ok (ap (map seen_past) c.new-4.ensures.items) (c.in_ok-declare_tables.ensures ∙ ap (λ e. applied e (Tables c.args.policy.tables)) c.in_ok-scene.ensures) c.new-5.ensures.items (ap (map session_of) c.new-6.ensures.items) c.none.ensures c.new-7.ensures.items
    c.new-8.ensures.items (c.machine_laws.ensures.opens c.args.policy c.args.settings c.requires.ranges)
