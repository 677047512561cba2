-- Facts about a session that is sent a packet, and is led to more rules.
use Rattle.std.proofs.Common.{◌≡◌, ℕ, Bool, true, false, cond, List, ap, ◌∙◌}
use Rattle.std.specs.Prelude.{Some}
use Rattle.maple_base.specs.RuleLists.{Rules}
use Rattle.of10_codec.specs.declared.message.Message.{Message}
use Rattle.trace_tree.specs.declared.node.Trace.{Trace}
use Rattle.switch_traces.specs.Lists.{AreRulesOf}
use Rattle.switch_session.specs.Parts.{Update as Plan, is_nil, packet_out}
use Rattle.switch_session.specs.Sessions.{aimed, put}
use Rattle.switch_session.specs.Calls.{IsUpdate}
use Rattle.machine_steps.specs.declared.job.Job.{Job}
use Rattle.machine_steps.specs.Machine.{Session}
use Rattle.machine_steps.specs.Steps.{HeadsFor}
use Rattle.machine_parts.specs.Answering.{sent}

-- a session that a plan was prepared for is sent a packet, and then it is aimed
pub heads_behind : (traces : List Trace) (rules : Rules) (plan : Plan) (j : Job) (actions : List ℕ) (s t u : Session) → AreRulesOf traces rules → IsUpdate s rules plan
    → t ≡ sent j actions (record s { prepared = Some plan }) → u ≡ aimed plan t → HeadsFor traces (sent j actions s) u
heads_behind traces rules plan j actions s t u are is sends aims = by (is_nil actions) sends
  where
    packet : Message
    packet = packet_out j.buffer j.key.in_port actions j.frame

    by : (b : Bool) → t ≡ cond b (record s { prepared = Some plan }) (put packet (record s { prepared = Some plan })) → HeadsFor traces (cond b s (put packet s)) u
    by true e = record { rules = rules; are_rules = are; plan = plan; is_plan = is; now_is = aims ∙ ap (aimed plan) e }
    by false e = record {
      rules = rules;
      are_rules = are;
      plan = plan;
      is_plan = record { rules = is.rules; parts = is.parts; settled = is.settled };
      now_is = aims ∙ ap (aimed plan) e;
    }
