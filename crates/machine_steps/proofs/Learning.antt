-- What a switch's traces can take, where no trace is found for its key.
use Rattle.std.proofs.Common.{◌≡◌, ℕ, ◌+◌, ◌<◌, ◌≤◌, true, false, cond, List, [], ◌∷◌, ◌++◌, length, get_or, Some, None, refl, sym, ap, ◌∙◌, subst, ⊎_elim, arith}
use Rattle.std.specs.List.{AllByRecursion, list_all}
use Rattle.std.proofs.lemmas.Bool.{cases_Bool, eq-eqb, and_parts, and_from}
use Rattle.std.proofs.lemmas.List.Elements.{All-from_recursion}
use Rattle.maple_base.specs.declared.items.Item.{Item}
use Rattle.maple_base.specs.declared.items.Item.TheVariants.{Read, Test}
use Rattle.maple_base.specs.declared.decision.Decision.{Decision}
use Rattle.maple_base.specs.declared.decision.Decision.TheVariants.{Drop, Out, Flood, Path}
use Rattle.maple_base.specs.declared.decision.Outcome.TheVariants.{Decided}
use Rattle.maple_base.specs.Decisions.{hop_actions}
use Rattle.maple_base.specs.Keys.{in_domain}
use Rattle.maple_base.specs.Limits.{most_items}
use Rattle.maple_base.specs.Ports.{is_port, controller_port}
use Rattle.maple_base.specs.Questions.{meets, clash, within_domain}
use Rattle.policy_meaning.specs.Cells.{Gives}
use Rattle.policy_meaning.specs.Readings.{items_of}
use Rattle.policy_meaning.specs.Through.{through, nothing}
use Rattle.policy_meaning.specs.Meaning.{meaning}
use Rattle.policy_meaning.specs.PolicyLaws.{decides_ports}
use Rattle.topo_paths.specs.Scenes.{cell_in}
use Rattle.trace_tree.specs.declared.node.Trace.{Trace}
use Rattle.trace_tree.specs.Shape.{Shape, Branches, Empty, Ends, Reads, Tests, NoBranch, Branch}
use Rattle.trace_tree.specs.Bounds.{items_within}
use Rattle.trace_tree.specs.Growth.{found, scratch, admits, leaves_of, leaves_in, AreAdmitted, AllAskOnce}
use Rattle.trace_tree.proofs.Stands.{stands_push}
use Rattle.priority_plan.specs.Counts.{count_of, count_in}
use Rattle.priority_plan.specs.Rules.{fact_actions, level_limit, levels_of, rules_needed}
use Rattle.priority_plan.proofs.Counted.{needed_count}
use Rattle.priority_plan.proofs.Spans.{barrier_least}
use Rattle.rule_builder.specs.Laws.{AsksNormally, IsToController}
use Rattle.switch_traces.specs.Learning.{CanTake}
use Rattle.switch_traces.specs.Lists.{AreFit}
use Rattle.machine_steps.specs.Machine.{State, in_force, traces_of}
use Rattle.machine_steps.specs.Sound.{IsCurrent, IsSound}
use Rattle.machine_steps.proofs.Sound.Zipped.{all_weaker, all_in, all_push}
use Rattle.machine_steps.proofs.Sound.Alike.{IsUnder, all_current, fit_in}
use Rattle.machine_steps.proofs.Sound.Kept.{TakingLaws, learned_in}

-- no more leaves than rules
mutual
  leaves_counted : (t : Shape) → leaves_of t ≤ count_of t
  leaves_counted Empty = omega arith
  leaves_counted (Ends l) = omega arith
  leaves_counted (Reads f bs) = leaves_counted_in bs
  leaves_counted (Tests f v n y) = let a = leaves_counted n in let b = leaves_counted y in let c = barrier_least (count_of n) in omega (arith, a, b, c)

  leaves_counted_in : (bs : Branches) → leaves_in bs ≤ count_in bs
  leaves_counted_in NoBranch = omega arith
  leaves_counted_in (Branch v t bs) = let a = leaves_counted t in let b = leaves_counted_in bs in omega (arith, a, b)

few_leaves : (t : Shape) → leaves_of t ≤ rules_needed t
few_leaves t = let a = leaves_counted t in let b = needed_count t in omega (arith, a, b)

within_items : (is : List Item) → list_all within_domain is ≡ true → items_within is ≡ true
within_items [] h = refl
within_items (Read f v ∷ is) h = let b = and_parts (in_domain f v) (list_all within_domain is) h in and_from (in_domain f v) (items_within is) b.0 (within_items is b.1)
within_items (Test f v a ∷ is) h = let b = and_parts (in_domain f v) (list_all within_domain is) h in and_from (in_domain f v) (items_within is) b.0 (within_items is b.1)

-- what decides physical ports sends to the controller by none
not_controller : (d : Decision) → decides_ports (Decided d) ≡ true → fact_actions d ≡ controller_port ∷ [] → ⊥
not_controller Drop h e = absurd (cc)
not_controller (Out ps) h e = let f : false ≡ true = sym (ap (list_all is_port) e) ∙ h in absurd (cc)
not_controller Flood h e = let f = ap (λ l. get_or l 0 0) e in omega (arith, f)
not_controller (Path []) h e = absurd (cc)
not_controller (Path (p ∷ ps)) h e =
    let own : p.port ∷ [] ≡ controller_port ∷ [] = sym (ap (λ b. cond b (p.port ∷ []) (hop_actions ps p.switch)) (eq-eqb p.switch p.switch refl)) ∙ e in
    let f : is_port p.port ≡ false = ap (λ l. is_port (get_or l 0 0)) own in
    let g = (and_parts (is_port p.port) (list_all (λ hop. is_port hop.port) ps) h).0 in absurd (cc)

-- ---- current traces

module _ (m : State) (switch : ℕ) where
  all_once : (rs : List Trace) → AllByRecursion (IsCurrent m switch) rs → AllAskOnce rs
  all_once [] h = tt
  all_once (x ∷ xs) h = (h.0.run.once, all_once xs h.1)

  -- to the rules of current traces a switch can be led that has room for them
  current_fit : (capacity : ℕ) (rs : List Trace) → AllByRecursion (IsCurrent m switch) rs → AreAdmitted Empty rs → levels_of (scratch rs) ≤ level_limit → rules_needed (scratch rs) ≤ capacity → AreFit capacity rs
  current_fit capacity rs h admitted levels rules = record {
    admitted = admitted;
    once = all_once rs h;
    normal = All-from_recursion AsksNormally rs (all_weaker (IsCurrent m switch) AsksNormally (λ x c. c.run.normal) rs h);
    elsewhere = λ x i. all_in (λ x. IsToController x → ⊥) rs x (all_weaker (IsCurrent m switch) (λ x. IsToController x → ⊥) (λ x c. not_controller x.decision c.ports) rs h) i;
    levels = levels;
    rules = rules;
  }

-- ---- one trace more

-- one trace more was learned
abbrev pub counted : State → State
counted m = record m { trace_count = m.trace_count + 1 }

pub under_counted : (m : State) → IsUnder m (counted m)
under_counted m = record { settings = refl; policy = refl; count = omega arith }

module _ (laws : TakingLaws) (m : State) (h : IsSound m) (switch : ℕ) (r : Trace) (current : IsCurrent (counted m) switch r) (unfound : found (traces_of switch m) current.key ≡ None) where
  abbrev traces : List Trace
  traces = traces_of switch m

  all_now : AllByRecursion (IsCurrent m switch) traces
  all_now = (learned_in laws.nil m m.learned h.learned switch).current

  fits : AreFit m.settings.capacity traces
  fits = fit_in laws.nil m m.learned h.learned switch

  -- no current trace clashes with it, where its key meets none
  free_of : (x : Trace) → IsCurrent m switch x → meets current.key x.items ≡ false → clash r.items x.items ≡ false
  free_of x c apart =
      let asked = through (meaning (in_force m).body m.settings.budget switch) nothing in
      let env = cell_in m.scene in
      let o = c.run.law c.key c.run.valid c.run.own env c.cells in
      let q = current.run.law current.key current.run.valid current.run.own env current.cells in
      let p = laws.clash asked c.key current.key env env env
      (subst (Gives env) (sym o.cells) c.cells) (subst (Gives env) (sym q.cells) current.cells) (ap (meets current.key) o.items ∙ apart) in
      ap (λ is. clash is x.items) (sym q.items) ∙ ap (λ is. clash (items_of asked current.key env) is) (sym o.items) ∙ p.1

  free_of_all : (rs : List Trace) → AllByRecursion (IsCurrent m switch) rs → found rs current.key ≡ None → AllByRecursion (λ x. clash r.items x.items ≡ false) rs
  free_of_all [] c e = tt
  free_of_all (x ∷ xs) c e =
      ⊎_elim
      (λ met. let f = sym (ap (λ b. cond b (Some x) (found xs current.key)) met) ∙ e in absurd (cc))
      (λ met. (free_of x c.0 met, free_of_all xs c.1 (sym (ap (λ b. cond b (Some x) (found xs current.key)) met) ∙ e)))
      (cases_Bool (meets current.key x.items))

  admitted : admits r.items (scratch traces) ≡ true
  admitted = laws.free traces r (laws.only traces fits.admitted) (free_of_all traces all_now unfound)

  pub all_more : AllByRecursion (IsCurrent (counted m) switch) (traces ++ r ∷ [])
  all_more = all_push (IsCurrent (counted m) switch) traces r (all_current m (counted m) (under_counted m) refl switch traces all_now) current

  -- a switch can be led to the rules of all, where they keep to the settings
  pub fit_more : levels_of (scratch (traces ++ r ∷ [])) ≤ m.settings.levels → rules_needed (scratch (traces ++ r ∷ [])) ≤ m.settings.capacity → AreFit m.settings.capacity (traces ++ r ∷ [])
  fit_more levels rules =
      let limit = h.ranges.levels in
      current_fit (counted m) switch m.settings.capacity (traces ++ r ∷ []) all_more (stands_push (scratch traces) traces r (record { admitted = fits.admitted; made = refl }) admitted).admitted (omega (arith, levels, limit)) rules

  -- the switch's traces can take it
  pub takes_one : length r.items ≤ most_items → r.number ≡ m.trace_count + 1 → CanTake traces r
  takes_one short number = record {
    admitted = admitted;
    within = within_items r.items current.run.within;
    once = current.run.once;
    short = short;
    room = let a = few_leaves (scratch traces) in let b = fits.rules in let c = h.ranges.capacity in let e = laws.leaves traces fits.admitted in omega (arith, a, b, c, e);
    above = all_weaker (IsCurrent m switch) (λ x. x.number < r.number) (λ x c. let n = c.number in omega (arith, n, number)) traces all_now;
  }
