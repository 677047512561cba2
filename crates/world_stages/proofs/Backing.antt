-- Rules that are backed stay so, and the newest rules of a sound machine are backed now.
use Rattle.std.proofs.Common.{◌≡◌, ℕ, true, false, List, [], ◌∷◌, ◌++◌, length, refl, sym, subst, arith}
use Rattle.std.specs.Prelude.{◌==◌, Option, Some, None, IfSome}
use Rattle.std.specs.List.{AllByRecursion, slice_get}
use Rattle.std.proofs.lemmas.Bool.{and_parts}
use Rattle.maple_base.specs.declared.decision.Settings.{Settings}
use Rattle.maple_base.specs.RuleLists.{Rules}
use Rattle.policy_lang.specs.PolicyTree.{policy_tree}
use Rattle.update_plan.specs.Batches.{no_rules, IsTarget}
use Rattle.switch_session.specs.declared.part.UnderWay.{UnderWay}
use Rattle.switch_session.specs.Parts.{Update}
use Rattle.switch_session.specs.Sessions.{heading, next_rules}
use Rattle.switch_traces.specs.Lists.{AreRulesOf, AreFit}
use Rattle.switch_traces.proofs.Fit.{none_are_fit}
use Rattle.machine_steps.specs.Machine.{PolicyState, Session, State, is_live, is_open, is_of, session_at, state_number, this_state, traces_of}
use Rattle.machine_steps.specs.Steps.{switch_of}
use Rattle.machine_steps.specs.Sound.{IsCurrent, IsEarly, IsSound}
use Rattle.machine_steps.proofs.Sound.Kept.{learned_in}
use Rattle.machine_steps.proofs.Sound.Zipped.{all_weaker, find_passes}
use Rattle.machine_steps.proofs.Running.{policy_last}
use Rattle.machine_moves.specs.MoveLaws.{Grows}
use Rattle.world_stages.specs.Backed.{IsTraceIn, IsBacked, IsBackedSince}
use Rattle.world_stages.specs.Stages.{AreSpanned}
use Rattle.world_stages.proofs.Steady.{backed_target, backed_lasting, in_order}
use Rattle.world_stages.specs.Updates.{IsSteady}

-- ---- what was backed stays so

pub backed_later : (old new : State) (n switch : ℕ) (X : Rules) → Grows old new → IsBacked old n switch X → IsBacked new n switch X
backed_later old new n switch X g b = record {
  traces = b.traces;
  rules = b.rules;
  state = b.state;
  reached = g.states n b.state b.reached;
  policy = b.policy;
  in_force = g.policies b.state.policy b.policy b.in_force;
  each = subst (λ (s : Settings). AllByRecursion (IsTraceIn s.budget (policy_tree b.policy) b.state.scene switch) b.traces) (sym g.settings) b.each;
  apart = b.apart;
  fit = subst (λ (s : Settings). AreFit s.capacity b.traces) (sym g.settings) b.fit;
}

pub since_later : (old new : State) (base switch : ℕ) (X : Rules) → Grows old new → IsBackedSince old base switch X → IsBackedSince new base switch X
since_later old new base switch X g b = record {
  state = b.state;
  since_then = b.since_then;
  until_now = (let before = b.until_now in let more = g.later in omega arith);
  backed = backed_later old new b.state switch X g b.backed;
}

pub spanned_later : (old new : State) (base switch : ℕ) (part : UnderWay) → Grows old new → AreSpanned old base switch part → AreSpanned new base switch part
spanned_later old new base switch part g a =
    record { from = since_later old new base switch part.lists.from g a.from; to = since_later old new base switch part.lists.to g a.to }

-- ---- what is backed now

-- the state of the number now
pub state_last : (ss : List PolicyState) (s : PolicyState) → slice_get (ss ++ s ∷ []) (length ss) ≡ Some s
state_last [] s = refl
state_last (t ∷ ss) s = state_last ss s

-- a list of a sound machine's traces
pub backed_now : (m : State) → IsSound m → (switch : ℕ) (X : Rules) → AreRulesOf (traces_of switch m) X → IsBacked m (state_number m) switch X
backed_now m h switch X are =
    let l = learned_in none_are_fit m m.learned h.learned switch in
    record {
      traces = traces_of switch m;
      rules = are;
      state = this_state m;
      reached = state_last m.states (this_state m);
      policy = m.policy;
      in_force = policy_last m.earlier m.policy;
      each = all_weaker (IsCurrent m switch) (IsTraceIn m.settings.budget (policy_tree m.policy) m.scene switch) (λ r c. record { key = c.key; run = c.run; cells = c.cells; begins = c.begins; ports = c.ports }) (traces_of switch m) l.current;
      apart = l.apart;
      fit = l.fit;
    }

-- and no rules
pub none_backed : (m : State) (switch : ℕ) → IsBacked m (state_number m) switch no_rules
none_backed m switch = record {
  traces = [];
  rules = none_are_fit.rules;
  state = this_state m;
  reached = state_last m.states (this_state m);
  policy = m.policy;
  in_force = policy_last m.earlier m.policy;
  each = tt;
  apart = tt;
  fit = none_are_fit.fit m.settings.capacity;
}

-- ---- what is known of a live session of a sound machine

pub record IsHeaded (m : State) (s : Session) : Type 0 where
  pub capacity : s.capacity ≡ m.settings.capacity
  pub backed : IsBacked m (state_number m) (switch_of s) (heading s)

pub headed : (c : ℕ) (m : State) (s : Session) → IsSound m → session_at c m ≡ Some s → is_live s ≡ true → IsHeaded m s
headed c m s h found live =
    let o = (in_order c m s h found).live live in
    record { capacity = o.capacity; backed = backed_now m h (switch_of s) (heading s) o.rules }

pub is_early : (c : ℕ) (m : State) (s : Session) → IsSound m → session_at c m ≡ Some s → is_live s ≡ false → IsEarly m s
is_early c m s h found early = (in_order c m s h found).early (and_parts (s.connection == c) (is_open s) (find_passes (is_of c) m.sessions s found)).1 early

-- a session may be led to rules that are backed
pub steady_for : (m : State) (s : Session) (n switch : ℕ) (X : Rules) → s.capacity ≡ m.settings.capacity → IsBacked m n switch X → IsSteady s.capacity X
steady_for m s n switch X e b = record { target = subst (λ c. IsTarget c X) (sym e) (backed_target b); lasting = backed_lasting b }

-- also to those of an update that waits
pub steady_next : (capacity : ℕ) (later : Option Update) (target : Rules) → IsSteady capacity (next_rules later target) → IfSome later (λ (u : Update). IsSteady capacity u.rules)
steady_next capacity None target h = tt
steady_next capacity (Some u) target h = h
