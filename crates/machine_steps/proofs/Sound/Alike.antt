-- What the parts of a sound state read of the state.
use Rattle.std.proofs.Common.{◌≡◌, ℕ, ◌≤◌, true, List, [], ◌∷◌, sym, ap, ◌∙◌, subst, arith}
use Rattle.std.specs.Prelude.{◌==◌}
use Rattle.std.specs.List.{AllByRecursion, list_any}
use Rattle.std.proofs.lemmas.Bool.{cond_both}
use Rattle.maple_base.specs.declared.decision.Outcome.TheVariants.{Decided}
use Rattle.policy_lang.specs.PolicyTree.{policy_tree}
use Rattle.policy_meaning.specs.Meaning.{meaning}
use Rattle.policy_meaning.specs.Cells.{Gives}
use Rattle.policy_meaning.specs.QuestionLaws.{IsTrace}
use Rattle.env_cells.specs.Environment.{knows}
use Rattle.topo_paths.specs.Scenes.{cell_in}
use Rattle.priority_plan.specs.Rules.{levels_of}
use Rattle.switch_session.specs.Sessions.{heading}
use Rattle.trace_tree.specs.declared.node.Trace.{Trace}
use Rattle.trace_tree.specs.Growth.{scratch}
use Rattle.switch_traces.specs.Traces.{Learnings}
use Rattle.switch_traces.specs.Lists.{AreRulesOf, AreFit}
use Rattle.switch_traces.specs.Laws.{NoneAreFit}
use Rattle.machine_steps.specs.Machine.{Session, State, was_opened, traces_in}
use Rattle.machine_steps.specs.Steps.{switch_of}
use Rattle.machine_steps.specs.Sound.{IsCurrent, AreLearned, HeadsRight, IsEarly, IsInOrder}

-- the second state has the first one's settings and policy, and as many traces were learned or more
pub record IsUnder (m n : State) : Type 0 where
  pub settings : n.settings ≡ m.settings
  pub policy : n.policy ≡ m.policy
  pub count : m.trace_count ≤ n.trace_count

module _ (m n : State) (under : IsUnder m n) where
  pub current_under : (s : ℕ) (r : Trace) → Gives (cell_in n.scene) r.cells → IsCurrent m s r → IsCurrent n s r
  current_under s r cells c = record {
    key = c.key;
    run = subst (λ p. IsTrace (meaning (policy_tree p).body n.settings.budget s) c.key r.items r.cells (Decided r.decision)) (sym under.policy)
        (subst (λ t. IsTrace (meaning (policy_tree m.policy).body t.budget s) c.key r.items r.cells (Decided r.decision)) (sym under.settings) c.run);
    cells = cells;
    begins = c.begins;
    ports = c.ports;
    number = let a = c.number in let b = under.count in omega (arith, a, b);
  }

  pub all_current : n.scene ≡ m.scene → (s : ℕ) (rs : List Trace) → AllByRecursion (IsCurrent m s) rs → AllByRecursion (IsCurrent n s) rs
  all_current same s [] h = tt
  all_current same s (r ∷ rs) h = (current_under s r (subst (λ e. Gives (cell_in e) r.cells) (sym same) h.0.cells) h.0, all_current same s rs h.1)

  pub learned_under : n.scene ≡ m.scene → (l : Learnings) → AreLearned m l → AreLearned n l
  learned_under same l h = record {
    current = all_current same l.switch l.traces h.current;
    apart = h.apart;
    fit = subst (λ t. AreFit t.capacity l.traces) (sym under.settings) h.fit;
    levels = subst (λ t. levels_of (scratch l.traces) ≤ t.levels) (sym under.settings) h.levels;
  }

-- what a session reads of the state is the same, and what was opened is still
pub record IsAlike (m n : State) (s : Session) : Type 0 where
  pub settings : n.settings ≡ m.settings
  pub scene : n.scene ≡ m.scene
  pub traces : traces_in n.learned (switch_of s) ≡ traces_in m.learned (switch_of s)
  pub listed : list_any (λ (l : Learnings). l.switch == switch_of s) m.learned ≡ true → list_any (λ (l : Learnings). l.switch == switch_of s) n.learned ≡ true
  pub opened : was_opened s.connection m ≡ true → was_opened s.connection n ≡ true

module _ (m n : State) where
  pub heads_alike : (s : Session) → IsAlike m n s → HeadsRight m s → HeadsRight n s
  heads_alike s alike h = record {
    rules = subst (λ rs. AreRulesOf rs (heading s)) (sym alike.traces) h.rules;
    quiet = λ q. alike.traces ∙ h.quiet q;
    number = h.number;
    known = ap (λ e. knows e (switch_of s)) alike.scene ∙ h.known;
    listed = alike.listed h.listed;
    capacity = h.capacity ∙ ap (λ t. t.capacity) (sym alike.settings);
  }

  pub early_alike : (s : Session) → n.settings ≡ m.settings → IsEarly m s → IsEarly n s
  early_alike s same h = record {
    capacity = h.capacity ∙ ap (λ t. t.capacity) (sym same);
    ready = h.ready;
    under_way = h.under_way;
    quiet = h.quiet;
    target = h.target;
    next = h.next;
    number = h.number;
  }

  pub order_alike : (s : Session) → IsAlike m n s → IsInOrder m s → IsInOrder n s
  order_alike s alike h = record {
    live = λ l. heads_alike s alike (h.live l);
    early = λ o l. early_alike s alike.settings (h.early o l);
    idle = h.idle;
    opened = alike.opened h.opened;
  }

-- the traces of a switch fit, also where it has no list
pub fit_in : NoneAreFit → (m : State) (ls : List Learnings) → AllByRecursion (AreLearned m) ls → (switch : ℕ) → AreFit m.settings.capacity (traces_in ls switch)
fit_in law m [] h switch = law.fit m.settings.capacity
fit_in law m (l ∷ ls) h switch = cond_both (l.switch == switch) l.traces (traces_in ls switch) (AreFit m.settings.capacity) (λ e. h.0.fit) (λ e. fit_in law m ls h.1 switch)
