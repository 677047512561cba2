-- A session can be led to rules that are backed, and none of them goes by itself; nor does a rule of the tables that such rules leave.
use Rattle.std.proofs.Common.{◌≡◌, ℕ, Bool, true, false, List, ◌∷◌, refl, sym, ap, ◌∙◌, subst, inl, inr, ⊎_elim, arith}
use Rattle.std.specs.Prelude.{Contains, Some, None, if◌then◌else◌}
use Rattle.std.specs.List.Sorted.{IsPermutation}
use Rattle.std.proofs.lemmas.List.Sorted.{IsPermutation-sym, IsPermutation-append, Contains-permutation, length_permutation}
use Rattle.std.proofs.lemmas.List.Elements.{Contains-append_cases, Contains-append_left, Contains-append_right}
use Rattle.maple_base.specs.declared.decision.Rule.{Rule}
use Rattle.maple_base.specs.declared.decision.TableMod.{TableMod}
use Rattle.maple_base.specs.Keys.{anything}
use Rattle.maple_base.specs.RuleLists.{Rules}
use Rattle.of10_codec.specs.RuleOrder.{AreInOrder}
use Rattle.trace_tree.specs.declared.node.Trace.{Trace}
use Rattle.trace_tree.specs.Shape.{Shape}
use Rattle.trace_tree.specs.Growth.{scratch}
use Rattle.priority_plan.specs.declared.rows.Row.{Row}
use Rattle.priority_plan.specs.Rules.{facts_of, barriers_of, rules_of as tree_rules}
use Rattle.priority_plan.specs.Standing.{rule_of}
use Rattle.priority_plan.proofs.Listed.{rule_stands}
use Rattle.rule_builder.proofs.Paths.{along_any, of_each}
use Rattle.update_plan.specs.Batches.{rules_of, no_rules, is_over, origin, between, first_adds, first_deletes, second_adds, second_deletes, IsTarget}
use Rattle.update_plan.specs.Laws.{IsDuring, InFirst, InSecond}
use Rattle.update_plan.proofs.Members.{here}
use Rattle.update_plan.proofs.Distinct.{distinct_permutation}
use Rattle.update_plan.proofs.During.{none_at, at_none}
use Rattle.update_plan.proofs.Shielded.{Sort, in_lacking, between_rest}
use Rattle.update_plan.proofs.Safe.{no_target, shield_law, sent_law, step_law}
use Rattle.switch_session.specs.Parts.{Update, is_nil, leads_nowhere}
use Rattle.switch_session.specs.Sessions.{heading}
use Rattle.switch_session.proofs.Planned.{nowhere}
use Rattle.switch_session.proofs.Settled.{settled_law}
use Rattle.switch_traces.specs.Lists.{AreRulesOf}
use Rattle.switch_traces.proofs.Fit.{rules_are_list, none_are_fit}
use Rattle.machine_steps.specs.Machine.{Session, State, is_of, is_live, session_at, traces_of}
use Rattle.machine_steps.specs.Steps.{switch_of}
use Rattle.machine_steps.specs.Sound.{HeadsRight, IsInOrder, IsSound}
use Rattle.machine_steps.proofs.Sound.Aims.{settled_rules}
use Rattle.machine_steps.proofs.Sound.Alike.{fit_in}
use Rattle.machine_steps.proofs.Sound.Zipped.{all_from, all_in, find_all}
use Rattle.world_steps.specs.Since.{heads_for_target}
use Rattle.world_stages.specs.Flights.{StaysOrLoses}
use Rattle.world_stages.specs.Backed.{IsBacked}
use Rattle.world_stages.specs.Stages.{AreLasting, IsGuarded, IsPlanned}

-- ---- rules that don't go by themselves

pub lasting_from : (rules : List Rule) → ((r : Rule) → Contains rules r → r.idle ≡ 0) → AreLasting rules
lasting_from rules h = all_from (λ (r : Rule). r.idle ≡ 0) rules h

pub lasting_in : (rules : List Rule) (r : Rule) → AreLasting rules → Contains rules r → r.idle ≡ 0
lasting_in rules r h c = all_in (λ (q : Rule). q.idle ≡ 0) rules r h c

pub moved_lasting : (rules others : List Rule) → IsPermutation rules others → AreLasting rules → AreLasting others
moved_lasting rules others moves h = lasting_from others (λ r c. lasting_in rules r h (Contains-permutation others rules r (IsPermutation-sym rules others moves) c))

-- a table of such rules stays
pub lasting_stays : (old new : List Rule) → AreLasting old → StaysOrLoses old new → IsPermutation old new
lasting_stays old new h (inl moves) = moves
lasting_stays old new h (inr loses) =
    absurd (loses.idle (lasting_in old loses.gone h (Contains-permutation (loses.gone ∷ new) old loses.gone loses.there (here loses.gone new))))

-- ---- rules of traces

tree_lasting : (t : Shape) (r : Rule) → Contains (tree_rules t) r → r.idle ≡ 0
tree_lasting t r c =
    let s = rule_stands r t anything 0 c in
    let none = along_any (λ is l. Unit {0}) (λ is l. tt) t in
    subst (λ (q : Rule). q.idle ≡ 0) s.is
    (of_each (λ m is l. Unit {0}) (λ (x : Row). (rule_of x).idle ≡ 0) (λ m i is l e. tt) (λ m b l e. refl) (λ m f v a is l p e. refl) s.row t anything 0 none s.stands)

pub traces_lasting : (traces : List Trace) (X : Rules) → AreRulesOf traces X → AreLasting (rules_of X)
traces_lasting traces X are =
    let t = scratch traces in
    let whole = IsPermutation-append (facts_of t anything 0) X.facts (barriers_of t anything 0) X.barriers are.facts are.barriers in
    moved_lasting (tree_rules t) (rules_of X) whole (lasting_from (tree_rules t) (tree_lasting t))

module _ {m : State} {n switch : ℕ} {X : Rules} (h : IsBacked m n switch X) where
  pub backed_target : IsTarget m.settings.capacity X
  backed_target = (rules_are_list m.settings.capacity h.traces X h.fit h.rules).target

  pub backed_lasting : AreLasting (rules_of X)
  backed_lasting = traces_lasting h.traces X h.rules

-- ---- where a session heads for its target

pub heads_alone : (s : Session) → s.next ≡ None → heads_for_target s ≡ true
heads_alone s none = rw none

-- or an update waits that changes nothing, to the rules of the same traces
planned_rules : (traces : List Trace) (s : Session) (u : Update) → IsTarget s.capacity s.target → IsTarget s.capacity u.rules → IsPlanned s u → is_nil u.parts ≡ true
    → AreInOrder s.target.facts → AreInOrder s.target.barriers → AreRulesOf traces u.rules → AreRulesOf traces s.target
planned_rules traces s u a b planned none facts barriers are =
    let nowhere_so : leads_nowhere s.capacity s.target u.rules ≡ true =
    sym (nowhere s.capacity s.target u.rules planned.first planned.second sent_law planned.is_first planned.is_second) ∙ ap is_nil (sym planned.is) ∙ none in
    settled_rules (settled_law shield_law) traces (record s { next = None }) u.rules (record u { settled = true }) a b
    (record { rules = refl; parts = planned; settled = sym nowhere_so }) refl facts barriers are

-- where those are backed, so is the target
pub backed_alike : (m : State) (n k switch : ℕ) (s : Session) (u : Update) → s.capacity ≡ m.settings.capacity → IsPlanned s u → is_nil u.parts ≡ true
    → IsBacked m k switch s.target → IsBacked m n switch u.rules → IsBacked m n switch s.target
backed_alike m n k switch s u room planned none was b = record {
  traces = b.traces;
  rules = planned_rules b.traces s u (subst (λ c. IsTarget c s.target) (sym room) (backed_target was)) (subst (λ c. IsTarget c u.rules) (sym room) (backed_target b)) planned none
      was.rules.facts_order was.rules.barriers_order b.rules;
  state = b.state;
  reached = b.reached;
  policy = b.policy;
  in_force = b.in_force;
  each = b.each;
  apart = b.apart;
  fit = b.fit;
}

-- ---- tables that such rules leave

-- where a table puts its rules tells nothing
pub during_stays : (start adds deletes : List Rule) (done : List TableMod) (table new : List Rule) → IsPermutation table new → IsDuring start adds deletes done table → IsDuring start adds deletes done new
during_stays start adds deletes done table new moves h = record {
  distinct = distinct_permutation table new moves h.distinct;
  came = λ r c. h.came r (back r c);
  kept = λ r c e. Contains-permutation table new r moves (h.kept r c e);
  added = λ r c e. Contains-permutation table new r moves (h.added r c e);
  deleted = λ r c e. at_none r new (λ q d s. none_at r q table (h.deleted r c e) (back q d) s);
}
  where
    back : (r : Rule) → Contains new r → Contains table r
    back r c = Contains-permutation new table r (IsPermutation-sym table new moves) c

during_lasting : (start adds deletes : List Rule) (done : List TableMod) (table : List Rule) → AreLasting start → AreLasting adds → IsDuring start adds deletes done table → AreLasting table
during_lasting start adds deletes done table h k during =
    lasting_from table (λ r c. ⊎_elim (λ d. lasting_in start r h d) (λ d. lasting_in adds r k d) (during.came r c))

module _ (capacity : ℕ) (X : Rules) where
  pub guarded_stays : (table new : List Rule) → IsPermutation table new → IsGuarded capacity X table → IsGuarded capacity X new
  guarded_stays table new moves h =
      let same = length_permutation table new moves in
      let few = h.safe.room in
      record {
        safe = record {
          shielded = record {
            barriers = λ r c. Contains-permutation table new r moves (h.safe.shielded.barriers r c);
            rest = λ r c. h.safe.shielded.rest r (Contains-permutation new table r (IsPermutation-sym table new moves) c);
          };
          room = omega (arith, same, few);
        };
        lasting = moved_lasting table new moves h.lasting;
      }

  -- the rules themselves, in any order
  pub rules_guard : (table : List Rule) → IsTarget capacity X → AreLasting (rules_of X) → IsPermutation (rules_of X) table → IsGuarded capacity X table
  rules_guard table target lasting moves = guarded_stays (rules_of X) table moves record {
    safe = record {
      shielded = record {
        barriers = λ r c. Contains-append_right X.facts X.barriers r c;
        rest = λ r c. ⊎_elim (λ d. inr d) (λ d. inl (target.barrier r d)) (Contains-append_cases X.facts X.barriers r c);
      };
      room = target.room;
    };
    lasting = lasting;
  }

-- ---- the batches of an update

-- either none, or the rules from which it leads
of_origin : (P : Rules → Type 0) (capacity : ℕ) (A B : Rules) → P no_rules → P A → P (origin capacity A B)
of_origin P capacity A B none own = step (is_over capacity A B)
  where
    step : (over : Bool) → P (if over then no_rules else A)
    step true = none
    step false = own

module _ (capacity : ℕ) (A B : Rules) (a : IsTarget capacity A) (b : IsTarget capacity B) (lasting_a : AreLasting (rules_of A)) (lasting_b : AreLasting (rules_of B)) where
  pub start_target : IsTarget capacity (origin capacity A B)
  start_target = of_origin (IsTarget capacity) capacity A B (no_target capacity B b) a

  pub start_lasting : AreLasting (rules_of (origin capacity A B))
  start_lasting = of_origin (λ X. AreLasting (rules_of X)) capacity A B tt lasting_a

  facts_lasting : (r : Rule) → Contains B.facts r → r.idle ≡ 0
  facts_lasting r c = lasting_in (rules_of B) r lasting_b (Contains-append_left B.facts B.barriers r c)

  barriers_lasting : (r : Rule) → Contains B.barriers r → r.idle ≡ 0
  barriers_lasting r c = lasting_in (rules_of B) r lasting_b (Contains-append_right B.facts B.barriers r c)

  first_lasting : (done : List TableMod) (table : List Rule) → InFirst (origin capacity A B) B done table → AreLasting table
  first_lasting done table h =
      let O = origin capacity A B in
      during_lasting (rules_of O) (first_adds O B) (first_deletes O B) done table start_lasting
      (lasting_from (first_adds O B) (λ r c. barriers_lasting r (in_lacking O B.barriers r c).0)) h

  between_lasting : AreLasting (between (origin capacity A B) B)
  between_lasting = lasting_from (between O B) (λ r c. each r (between_rest capacity O B start_target b r c))
    where
      O : Rules
      O = origin capacity A B

      each : (r : Rule) → Sort capacity O B start_target b r → r.idle ≡ 0
      each r (inl (inl d)) = lasting_in (rules_of O) r start_lasting (Contains-append_right O.facts O.barriers r d)
      each r (inl (inr d)) = barriers_lasting r d
      each r (inr d) = facts_lasting r d.1

  second_lasting : (done : List TableMod) (table : List Rule) → InSecond (origin capacity A B) B done table → AreLasting table
  second_lasting done table h =
      let O = origin capacity A B in
      during_lasting (between O B) (second_adds O B) (second_deletes O B) done table between_lasting
      (lasting_from (second_adds O B) (λ r c. facts_lasting r (in_lacking O B.facts r c).0)) h

  pub first_guarded : (done : List TableMod) (table : List Rule) → InFirst (origin capacity A B) B done table → IsGuarded capacity (origin capacity A B) table
  first_guarded done table h = record { safe = (step_law capacity A B a b).first_safe done table h; lasting = first_lasting done table h }

  pub second_guarded : (done : List TableMod) (table : List Rule) → InSecond (origin capacity A B) B done table → IsGuarded capacity B table
  second_guarded done table h = record { safe = (step_law capacity A B a b).second_safe done table h; lasting = second_lasting done table h }

-- ---- sessions of a sound machine

pub in_order : (c : ℕ) (m : State) (s : Session) → IsSound m → session_at c m ≡ Some s → IsInOrder m s
in_order c m s sound there = find_all (IsInOrder m) (is_of c) m.sessions s sound.sessions there

pub live_capacity : (c : ℕ) (m : State) (s : Session) → IsSound m → session_at c m ≡ Some s → is_live s ≡ true → s.capacity ≡ m.settings.capacity
live_capacity c m s sound there live = ((in_order c m s sound there).live live).capacity

-- what a live session heads for: a switch with its room can be led to it, and none of it goes by itself
module _ (c : ℕ) (m : State) (s : Session) (sound : IsSound m) (there : session_at c m ≡ Some s) (live : is_live s ≡ true) where
  heads : HeadsRight m s
  heads = (in_order c m s sound there).live live

  pub heading_target : IsTarget s.capacity (heading s)
  heading_target =
      let fits = fit_in none_are_fit m m.learned sound.learned (switch_of s) in
      subst (λ n. IsTarget n (heading s)) (sym heads.capacity) (rules_are_list m.settings.capacity (traces_of (switch_of s) m) (heading s) fits heads.rules).target

  pub heading_lasting : AreLasting (rules_of (heading s))
  heading_lasting = traces_lasting (traces_of (switch_of s) m) (heading s) heads.rules
