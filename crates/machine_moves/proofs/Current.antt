-- The rules of the traces of a sound state can be sent, and so can a packet by what is decided of it.
use Rattle.std.proofs.Common.{◌≡◌, ℕ, ◌^◌, ◌<◌, true, List, subst}
use Rattle.std.specs.Prelude.{Contains}
use Rattle.std.proofs.lemmas.Bool.{ltb-true}
use Rattle.maple_base.specs.declared.cells.Cell.{Cell}
use Rattle.maple_base.specs.declared.cells.Value.{Value}
use Rattle.maple_base.specs.declared.decision.Decision.{Decision}
use Rattle.maple_base.specs.declared.decision.Outcome.TheVariants.{Decided}
use Rattle.maple_base.specs.declared.items.Item.{Item}
use Rattle.maple_base.specs.declared.key.Field.TheVariants.{InPort}
use Rattle.maple_base.specs.Decisions.{actions_at}
use Rattle.policy_meaning.proofs.Valid.{domain_of}
use Rattle.topo_paths.specs.Scenes.{cell_in}
use Rattle.priority_plan.specs.Rules.{fact_actions}
use Rattle.of10_codec.specs.Laws.{actions_have_bits}
use Rattle.switch_session.specs.Parts.{packet_out}
use Rattle.trace_tree.specs.declared.node.Trace.{Trace}
use Rattle.machine_steps.specs.declared.job.Job.{Job}
use Rattle.machine_steps.specs.Machine.{State, traces_in}
use Rattle.machine_steps.specs.Sound.{IsCurrent, AreLearned, IsServed, IsSound}
use Rattle.machine_steps.proofs.Sound.Answering.{IsNext}
use Rattle.machine_steps.proofs.Sound.Kept.{learned_in}
use Rattle.machine_steps.proofs.Sound.Zipped.{all_in}
use Rattle.machine_moves.specs.Sends.{CanBeOffered}
use Rattle.machine_moves.proofs.Few.{FewPorts, decides_few}
use Rattle.machine_moves.proofs.Offers.{packet_offered}
use Rattle.machine_moves.proofs.Parts.{CanBeSent, traces_sent}
use Rattle.machine_moves.proofs.SendSessions.{LowerLaws, Sendable}
use Rattle.machine_moves.proofs.Widths.{actions_fit, fact_fits}

-- a current trace decides few ports
current_few : (m : State) (switch : ℕ) (r : Trace) → IsCurrent m switch r → FewPorts (Decided r.decision)
current_few m switch r c =
    subst FewPorts (c.run.law c.key c.run.valid c.run.own (cell_in m.scene) c.cells).outcome (decides_few m.policy m.settings.budget switch c.key (cell_in m.scene))

pub sound_sendable : LowerLaws → (n : ℕ) (m : State) → IsSound m → m.settings.capacity ≡ n → Sendable n m.learned
sound_sendable laws n m h same switch X are = subst (λ c. CanBeSent c X) same (traces_sent laws.normal laws.list m.settings.capacity traces l.fit each X are)
  where
    traces : List Trace
    traces = traces_in m.learned switch

    l : AreLearned m (record { switch = switch; traces = traces })
    l = learned_in laws.none m m.learned h.learned switch

    each : (x : Trace) → Contains traces x → actions_have_bits (fact_actions x.decision) ≡ true
    each x c = let current = all_in (IsCurrent m switch) traces x l.current c in fact_fits x.decision current.ports (current_few m switch x current)

-- ---- packets

-- the answer to a job's packet
pub answer_offered : LowerLaws → (m : State) (j : Job) (items : List Item) (cells : List (Cell × Value)) (d : Decision) → IsServed m j → j.buffer < 2 ^ 32 → IsNext m j items cells d
    → CanBeOffered (packet_out j.buffer j.key.in_port (actions_at d j.switch) j.frame)
answer_offered laws m j items cells d served of_word next =
    packet_offered laws.spells j.buffer j.key.in_port (actions_at d j.switch) j.frame of_word (ltb-true j.key.in_port (2 ^ 16) (domain_of j.key InPort served.valid)) (actions_fit d j.switch next.0.ports (current_few _ j.switch _ next.0)) served.frame
