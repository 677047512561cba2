-- A session that is accepted leaves a sound state.
use Rattle.std.proofs.Common.{◌≡◌, ◌≢◌, ◌⊎◌, ℕ, Bool, true, false, List, [], refl, sym, ap, ap₂, ◌∙◌, subst, subst₂, inl, inr, ⊎_elim, le_refl, arith}
use Rattle.std.specs.Prelude.{◌==◌, ◌&&◌, not, map, find, if◌then◌else◌, option_map, unwrap_or, Some, None}
use Rattle.std.specs.List.{AllByRecursion, AllZip}
use Rattle.std.proofs.lemmas.Bool.{both_ways, and_from, cases_eq, eq-eqb, ne_eqb}
use Rattle.maple_base.specs.declared.cells.Port.{Port}
use Rattle.maple_base.specs.RuleLists.{Rules}
use Rattle.of10_codec.specs.RuleOrder.{AreInOrder}
use Rattle.env_cells.specs.declared.updates.Update.{Update}
use Rattle.env_cells.specs.declared.updates.Update.TheVariants.{Switch}
use Rattle.env_cells.specs.Environment.{knows}
use Rattle.env_cells.specs.Changes.{applied}
use Rattle.topo_paths.specs.Scenes.{cell_in}
use Rattle.report_text.specs.declared.line.Line.{Line}
use Rattle.trace_tree.specs.declared.node.Trace.{Trace}
use Rattle.trace_tree.specs.declared.node.Leaf.{Leaf}
use Rattle.tree_prune.specs.Current.{is_current}
use Rattle.update_plan.specs.Batches.{IsTarget, no_rules}
use Rattle.switch_session.specs.declared.told.Phase.TheVariants as phases
use Rattle.switch_session.specs.Calls.{is_live as is_live_phase, IsUpdate}
use Rattle.switch_session.specs.Parts.{Update as Plan}
use Rattle.switch_session.specs.Sessions.{heading, next_rules, accepted}
use Rattle.switch_traces.specs.Traces.{Learnings, those}
use Rattle.switch_traces.specs.Lists.{AreRulesOf, AreFit}
use Rattle.machine_steps.specs.Machine.{Session, State, has_ended, is_live, is_open, has_switch, is_served, with_session, with_traces, traces_in, traces_of, put_traces}
use Rattle.machine_steps.specs.Steps.{switch_of, AimsBy, AimsOne, AimsAll, updated}
use Rattle.machine_steps.specs.Sound.{IsCurrent, AreLearned, IsEarly, IsInOrder, AreOthers, IsServed, IsSound}
use Rattle.machine_steps.proofs.Sound.Zipped.{pairs_to, pairs_from, all_weaker, all_two, all_from, none_passes, find_all, zip_all, zip_few, zip_map, zip_pairs, zip_then, zip_weaker, zip_with}
use Rattle.machine_steps.proofs.Sound.Alike.{fit_in}
use Rattle.machine_steps.proofs.Sound.Following.{Stays, Serves, Put, stays_serves, stays_others, others_turn, put_zip, same_switch, serves_still}
use Rattle.machine_steps.proofs.Sound.Aims.{settled_rules}
use Rattle.machine_steps.proofs.Sound.Kept.{LowerLaws, traces_kept, traces_own, listed_kept, listed_put, listed_still, all_put, pairs_put, learned_in, current_stay, all_kept, pairs_kept, switches_kept}
use Rattle.machine_steps.proofs.Sound.Known.{knows_still, knows_new}
use Rattle.machine_steps.proofs.Sound.Reached.{IsPruned, aim_order, aims_zip, aims_connection, fit_left}

-- one of this connection is this session now
abbrev PutAt : Session → Session → Session → Type 0
PutAt a x y = ((x.connection ≡ a.connection) × (y ≡ a)) ⊎ ((x.connection ≢ a.connection) × (y ≡ x))

put_at : (a : Session) (xs : List Session) → AllZip (PutAt a) xs (map (λ (x : Session). if x.connection == a.connection then a else x) xs)
put_at a xs = zip_map (PutAt a) (λ (x : Session). if x.connection == a.connection then a else x) xs (all_from (λ x. PutAt a x (if x.connection == a.connection then a else x)) xs (λ x c. one x))
  where
    one : (x : Session) → PutAt a x (if x.connection == a.connection then a else x)
    one x =
        ⊎_elim (λ e. inl (e, ap (λ b. if b then a else x) (eq-eqb x.connection a.connection e))) (λ e. inr (e, ap (λ b. if b then a else x) (ne_eqb x.connection a.connection e)))
        (cases_eq x.connection a.connection)

module _ (laws : LowerLaws) (m : State) (h : IsSound m) (p : Session → Bool) (s : Session) (found : find p m.sessions ≡ Some s) (second : s.phase ≡ phases.Second) (dpid : ℕ) (ports : List Port)
    (unserved : is_served dpid m ≡ false) (told : List Line) (sessions : List Session) (plan : Plan) where
  abbrev t : Session
  t = record s { dpid = Some dpid }

  abbrev u : Update
  u = Switch dpid ports

  abbrev now : Leaf → Bool
  now = is_current (cell_in (applied m.scene u))

  abbrev own : List Trace
  own = traces_in m.learned dpid

  abbrev a : Session
  a = accepted plan t

  -- the state before the session is accepted, and behind it
  abbrev pub met : State
  met = record (updated u (with_traces dpid own (with_session t m))) { sessions = sessions; lines = told }

  abbrev pub joined : State
  joined = with_session a met

  order_before : IsInOrder m s
  order_before = find_all (IsInOrder m) p m.sessions s h.sessions found

  dead : is_live s ≡ false
  dead = ap is_live_phase second

  opened : is_open s ≡ true
  opened = ap (λ q. not (has_ended q)) second

  early : IsEarly m s
  early = order_before.early opened dead

  pruned : IsPruned now m joined
  pruned = record {
    settings = refl;
    traces = λ q. traces_kept now (put_traces dpid own m.learned) q ∙ ap (those now) (traces_own dpid m.learned q);
    listed = λ q e. listed_kept now (put_traces dpid own m.learned) q ∙ listed_still dpid own q m.learned e;
    known = knows_still m.scene u;
    opened = λ c o. o;
    fit = fit_in laws.nil m m.learned h.learned;
  }

  -- ---- which session comes from which

  abbrev Between : Session → Session → Type 0
  Between x z = ((x ≡ s) × (z ≡ t)) ⊎ (AreOthers x s × AimsOne joined.learned x z)

  abbrev Becomes : Session → Session → Type 0
  Becomes x y = ((x ≡ s) × (y ≡ a)) ⊎ (AreOthers x s × AimsOne joined.learned x y)

  first : (x y z : Session) → Put s t x y → AimsOne joined.learned y z → Between x z
  first x y z (inl e) g = inl (e.0, subst (λ b. AimsBy (b && not t.quiet) joined.learned t z) dead (subst (λ w. AimsOne joined.learned w z) e.1 g))
  first x y z (inr e) g = inr (e.0, subst (λ w. AimsOne joined.learned w z) e.1 g)

  last : (x z w : Session) → Between x z → PutAt a z w → Becomes x w
  last x z w (inl e) (inl f) = inl (e.0, f.1)
  last x z w (inl e) (inr f) = absurd (f.0 (ap (λ (v : Session). v.connection) e.1))
  last x z w (inr e) (inl f) = absurd (e.0.connections (sym (aims_connection joined.learned x z e.1) ∙ f.0))
  last x z w (inr e) (inr f) = inr (e.0, subst (AimsOne joined.learned x) (sym f.1) e.1)

  -- no live session has this switch
  abbrev IsApart : Session → Type 0
  IsApart x = IsInOrder m x × (is_live x ≡ true → switch_of x ≢ dpid)

  apart : (x : Session) → IsInOrder m x × ((is_live x && has_switch dpid x) ≡ false) → IsApart x
  apart x (o, e) = (o, λ l g. both_ways (is_live x && has_switch dpid x) e (and_from (is_live x) (has_switch dpid x) l (ap (λ d. unwrap_or (option_map (λ k. k == dpid) d) false) (o.live l).number ∙ eq-eqb (switch_of x) dpid g)))

  abbrev Moves : Session → Session → Type 0
  Moves x y = IsApart x × Becomes x y

  module _ (aims : AimsAll joined.learned (with_session t m).sessions sessions) where
    zip : AllZip Moves m.sessions joined.sessions
    zip =
        zip_with IsApart Becomes m.sessions joined.sessions
        (all_weaker (λ x. IsInOrder m x × ((is_live x && has_switch dpid x) ≡ false)) IsApart apart m.sessions
        (all_two (IsInOrder m) (λ x. (is_live x && has_switch dpid x) ≡ false) m.sessions h.sessions (none_passes (λ x. is_live x && has_switch dpid x) m.sessions unserved)))
        (zip_then Between (PutAt a) Becomes last m.sessions sessions joined.sessions
        (zip_then (Put s t) (AimsOne joined.learned) Between first m.sessions (with_session t m).sessions sessions (put_zip p m.sessions s t refl h.others found) (aims_zip joined.learned (with_session t m).sessions sessions aims))
        (put_at a sessions))

    moved : (x y : Session) → IsApart x → AimsOne joined.learned x y → Stays x y × IsInOrder joined y
    moved x y o g = aim_order laws now m joined pruned x y o.0 g

    -- ---- the session that is accepted

    module _ (rules : Rules) (are : AreRulesOf (traces_of dpid met) rules) (is : IsUpdate t rules plan) where
      same_capacity : s.capacity ≡ m.settings.capacity
      same_capacity = early.capacity

      fits : AreFit s.capacity (traces_of dpid met)
      fits = subst (λ c. AreFit c (traces_of dpid met)) (sym early.capacity) (fit_left laws now m joined pruned dpid)

      heads_for_none : heading t ≡ no_rules
      heads_for_none = ap₂ next_rules early.next early.target

      none_target : IsTarget s.capacity (heading t)
      none_target = subst (IsTarget s.capacity) (sym heads_for_none) (laws.list s.capacity [] no_rules (laws.nil.fit s.capacity) laws.nil.rules).target

      heads : (b : Bool) → plan.settled ≡ b → AreRulesOf (traces_of dpid met) (next_rules (if b then None else Some plan) s.target)
      heads true e =
          subst (AreRulesOf (traces_of dpid met)) (ap (λ o. next_rules o s.target) early.next)
          (settled_rules laws.settled (traces_of dpid met) t rules plan none_target (laws.list s.capacity (traces_of dpid met) rules fits are).target is e
          (subst (λ (X : Rules). AreInOrder X.facts) (sym heads_for_none) laws.nil.rules.facts_order) (subst (λ (X : Rules). AreInOrder X.barriers) (sym heads_for_none) laws.nil.rules.barriers_order) are)
      heads false e = subst (AreRulesOf (traces_of dpid met)) (sym is.rules) are

      order_accepted : IsInOrder joined a
      order_accepted = record {
        live = λ l. record {
          rules = heads plan.settled refl;
          quiet = λ q. (let f = early.quiet in absurd (cc));
          number = refl;
          known = knows_new m.scene dpid ports;
          listed = listed_kept now (put_traces dpid own m.learned) dpid ∙ listed_put dpid own m.learned;
          capacity = early.capacity;
        };
        early = λ b l. absurd (cc);
        idle = refl;
        opened = order_before.opened;
      }

      -- another session is not of its connection, and no live one of its switch
      beside_accepted : (x y : Session) → IsApart x → AreOthers x s → Stays x y → AreOthers y a
      beside_accepted x y o r stays = record {
        connections = λ g. r.connections (sym stays.connection ∙ g);
        switches = λ l k g. o.1 (sym stays.live_too ∙ l) (sym (same_switch x y stays.dpid) ∙ g);
      }

      order : (x y : Session) → Moves x y → IsInOrder m x → IsInOrder joined y
      order x y (o, inl e) before = subst (IsInOrder joined) (sym e.1) order_accepted
      order x y (o, inr e) before = (moved x y o e.1).1

      others : (x y z w : Session) → Moves x y → Moves z w → AreOthers x z → AreOthers y w
      others x y z w (o, inl e) (q, inl f) r = absurd (r.connections (ap (λ (v : Session). v.connection) (e.0 ∙ sym f.0)))
      others x y z w (o, inl e) (q, inr f) r = subst (λ v. AreOthers v w) (sym e.1) (others_turn w a (beside_accepted z w q f.0 (moved z w q f.1).0))
      others x y z w (o, inr e) (q, inl f) r = subst (AreOthers y) (sym f.1) (beside_accepted x y o e.0 (moved x y o e.1).0)
      others x y z w (o, inr e) (q, inr f) r = stays_others x y z w (moved x y o e.1).0 (moved z w q f.1).0 r

      opens : (x y : Session) → Moves x y → is_open y ≡ true → is_open x ≡ true
      opens x y (o, inl e) g = ap is_open e.0 ∙ opened
      opens x y (o, inr e) g = sym (moved x y o e.1).0.open_too ∙ g

      serves : (c : ℕ) (x y : Session) → Moves x y → Serves c x y
      serves c x y (o, inl e) =
          subst₂ (Serves c) (sym e.0) (sym e.1) (record { of = ap (λ b. s.connection == c && b) (sym opened); live_too = λ g l. (let d = dead in absurd (cc)); switch = λ g l. (let d = dead in absurd (cc)) })
      serves c x y (o, inr e) = stays_serves c x y (moved x y o e.1).0

      pub sound_joined : IsSound joined
      sound_joined = record {
        ranges = h.ranges;
        learned = all_kept laws now m joined refl current (put_traces dpid own m.learned) (all_put dpid own (AreLearned m) (learned_in laws.nil m m.learned h.learned dpid) m.learned h.learned);
        lists = pairs_from (λ (k l : Learnings). k.switch ≢ l.switch) joined.learned
            (pairs_kept now (put_traces dpid own m.learned) (pairs_put dpid own m.learned (pairs_to (λ (k l : Learnings). k.switch ≢ l.switch) m.learned h.lists)));
        switches = switches_kept (λ q. knows joined.scene q ≡ true) now (put_traces dpid own m.learned)
            (all_put dpid own (λ (l : Learnings). knows joined.scene l.switch ≡ true) (knows_new m.scene dpid ports) m.learned
            (all_weaker (λ (l : Learnings). knows m.scene l.switch ≡ true) (λ (l : Learnings). knows joined.scene l.switch ≡ true) (λ l k. knows_still m.scene u l.switch k) m.learned h.switches));
        links = h.links;
        sessions = zip_all Moves (IsInOrder m) (IsInOrder joined) order m.sessions joined.sessions zip h.sessions;
        others = pairs_from AreOthers joined.sessions (zip_pairs Moves AreOthers AreOthers others m.sessions joined.sessions zip (pairs_to AreOthers m.sessions h.others));
        few_sessions = let b = zip_few Moves is_open opens m.sessions joined.sessions zip in let c = h.few_sessions in omega (arith, b, c);
        jobs = all_weaker (IsServed m) (IsServed joined)
            (λ j v. serves_still m joined (le_refl m.job_count) j (zip_weaker Moves (Serves j.connection) (serves j.connection) m.sessions joined.sessions zip) v) m.jobs h.jobs;
        numbers = h.numbers;
        few_jobs = h.few_jobs;
      }
        where
          current : (l : Learnings) → AreLearned m l → AllByRecursion (IsCurrent joined l.switch) (those now l.traces)
          current l r = current_stay laws.same m joined (record { settings = refl; policy = refl; count = le_refl m.trace_count }) l r
