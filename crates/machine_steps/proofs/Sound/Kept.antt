-- The traces that are left of each switch.
use Rattle.std.proofs.Common.{◌≡◌, ◌≢◌, ℕ, ◌≤◌, Bool, true, false, cond, List, [], ◌∷◌, refl, sym, ap, ◌∙◌, subst, ⊎_elim, arith}
use Rattle.std.specs.Prelude.{◌==◌, ◌||◌}
use Rattle.std.specs.List.{AllByRecursion, AllZip, list_any}
use Rattle.std.proofs.lemmas.Bool.{and_parts, or_cases, or_left, or_right, cases_eq, eqb-true, eqb-false, eq-eqb, ne_eqb}
use Rattle.maple_base.specs.declared.cells.Cell.{Cell}
use Rattle.maple_base.specs.declared.cells.Value.{Value}
use Rattle.policy_meaning.specs.Cells.{Gives}
use Rattle.policy_meaning.specs.QuestionLaws.{OwnTrace, NoClash, LawOfTraces, TracesEndSo}
use Rattle.policy_meaning.specs.PolicyLaws.{BeginsHere, DecidesPorts}
use Rattle.topo_paths.specs.Scenes.{cell_in}
use Rattle.priority_plan.specs.Rules.{levels_of}
use Rattle.priority_plan.specs.Laws.{KeptHasNoMore}
use Rattle.trace_tree.specs.declared.node.Trace.{Trace}
use Rattle.trace_tree.specs.declared.node.Leaf.{Leaf}
use Rattle.trace_tree.specs.Growth.{scratch}
use Rattle.trace_tree.specs.Laws.{ApartIsAdmitted, OnlyApartIsAdmitted, FreeIsAdmitted, LeavesAreTraces, FewerAreAdmitted, KeptIsScratch}
use Rattle.trace_tree.specs.Stands.{of_leaf}
use Rattle.tree_prune.specs.Current.{same_value, are_current, is_current}
use Rattle.tree_prune.specs.Laws.{SameIsEqual}
use Rattle.switch_session.specs.Laws.{SettledLaw}
use Rattle.switch_traces.specs.Traces.{Learnings, those, with_those}
use Rattle.switch_traces.specs.Lists.{AreFit}
use Rattle.switch_traces.specs.Laws.{RulesAreList, FewerAreFit, NoneAreFit}
use Rattle.machine_steps.specs.Machine.{State, traces_in, put_traces, kept_of}
use Rattle.machine_steps.specs.Sound.{IsCurrent, AreLearned}
use Rattle.machine_steps.proofs.Sound.Zipped.{Pairs, all_weaker, all_passing, all_from, zip_all, zip_pairs}
use Rattle.machine_steps.proofs.Sound.Alike.{IsUnder, current_under}

-- what the lower crates prove of the traces that are put into a tree
pub record TakingLaws : Type 0 where
  pub nil : NoneAreFit
  pub only : OnlyApartIsAdmitted
  pub free : FreeIsAdmitted
  pub leaves : LeavesAreTraces
  pub clash : NoClash

-- of the runs of each policy
pub record RunningLaws : Type 0 where
  pub own : OwnTrace
  pub traces : LawOfTraces
  pub ends : TracesEndSo
  pub begins : BeginsHere
  pub ports : DecidesPorts

-- and of all that a step of the machine does
pub record LowerLaws : Type 0 where
  pub taking : TakingLaws
  pub running : RunningLaws
  pub list : RulesAreList
  pub fewer : FewerAreFit
  pub nil : NoneAreFit
  pub settled : SettledLaw
  pub same : SameIsEqual
  pub apart : ApartIsAdmitted
  pub only : OnlyApartIsAdmitted
  pub admitted : FewerAreAdmitted
  pub kept : KeptIsScratch
  pub lower : KeptHasNoMore

-- each list of traces with those of which p holds
abbrev pub IsKept : (Leaf → Bool) → Learnings → Learnings → Type 0
IsKept p k l = l ≡ with_those (those p k.traces) k

pub kept_zip : (p : Leaf → Bool) (ls : List Learnings) → AllZip (IsKept p) ls (kept_of p ls)
kept_zip p [] = tt
kept_zip p (l ∷ ls) = (refl, kept_zip p ls)

pub traces_kept : (p : Leaf → Bool) (ls : List Learnings) (switch : ℕ) → traces_in (kept_of p ls) switch ≡ those p (traces_in ls switch)
traces_kept p [] switch = refl
traces_kept p (l ∷ ls) switch = step (l.switch == switch) (traces_kept p ls switch)
  where
    step : (b : Bool) → traces_in (kept_of p ls) switch ≡ those p (traces_in ls switch) → cond b (those p l.traces) (traces_in (kept_of p ls) switch) ≡ those p (cond b l.traces (traces_in ls switch))
    step true later = refl
    step false later = later

-- a switch has a list of traces
abbrev pub is_listed : ℕ → List Learnings → Bool
is_listed switch ls = list_any (λ (l : Learnings). l.switch == switch) ls

pub listed_kept : (p : Leaf → Bool) (ls : List Learnings) (switch : ℕ) → is_listed switch (kept_of p ls) ≡ is_listed switch ls
listed_kept p [] switch = refl
listed_kept p (l ∷ ls) switch = ap (λ b. l.switch == switch || b) (listed_kept p ls switch)

-- ---- a list of traces in a switch's place

module _ (switch : ℕ) (traces : List Trace) where
  abbrev here : Learnings
  here = record { switch = switch; traces = traces }

  pub traces_put : (ls : List Learnings) → traces_in (put_traces switch traces ls) switch ≡ traces
  traces_put [] = ap (λ b. cond b traces []) (eq-eqb switch switch refl)
  traces_put (l ∷ ls) = step (l.switch == switch) refl (traces_put ls)
    where
      step : (b : Bool) → (l.switch == switch) ≡ b → traces_in (put_traces switch traces ls) switch ≡ traces → traces_in (cond b (here ∷ ls) (l ∷ put_traces switch traces ls)) switch ≡ traces
      step true e later = ap (λ b. cond b traces (traces_in ls switch)) (eq-eqb switch switch refl)
      step false e later = ap (λ b. cond b l.traces (traces_in (put_traces switch traces ls) switch)) e ∙ later

  pub traces_beside : (q : ℕ) → q ≢ switch → (ls : List Learnings) → traces_in (put_traces switch traces ls) q ≡ traces_in ls q
  traces_beside q other [] = ap (λ b. cond b traces []) (ne_eqb switch q (λ e. other (sym e)))
  traces_beside q other (l ∷ ls) = step (l.switch == switch) refl (traces_beside q other ls)
    where
      step : (b : Bool) → (l.switch == switch) ≡ b → traces_in (put_traces switch traces ls) q ≡ traces_in ls q
          → traces_in (cond b (here ∷ ls) (l ∷ put_traces switch traces ls)) q ≡ traces_in (l ∷ ls) q
      step true e later =
          ap (λ b. cond b traces (traces_in ls q)) (ne_eqb switch q (λ f. other (sym f)))
          ∙ sym (ap (λ b. cond b l.traces (traces_in ls q)) (ne_eqb l.switch q (λ f. other (sym f ∙ eqb-true l.switch switch e))))
      step false e later = ap (cond (l.switch == q) l.traces) later

  pub listed_put : (ls : List Learnings) → is_listed switch (put_traces switch traces ls) ≡ true
  listed_put [] = or_left (switch == switch) false (eq-eqb switch switch refl)
  listed_put (l ∷ ls) = step (l.switch == switch) (listed_put ls)
    where
      step : (b : Bool) → is_listed switch (put_traces switch traces ls) ≡ true → is_listed switch (cond b (here ∷ ls) (l ∷ put_traces switch traces ls)) ≡ true
      step true later = or_left (switch == switch) (is_listed switch ls) (eq-eqb switch switch refl)
      step false later = or_right (l.switch == switch) (is_listed switch (put_traces switch traces ls)) later

  pub listed_still : (q : ℕ) (ls : List Learnings) → is_listed q ls ≡ true → is_listed q (put_traces switch traces ls) ≡ true
  listed_still q [] h = absurd (cc)
  listed_still q (l ∷ ls) h = step (l.switch == switch) refl (listed_still q ls)
    where
      step : (b : Bool) → (l.switch == switch) ≡ b → (is_listed q ls ≡ true → is_listed q (put_traces switch traces ls) ≡ true)
          → is_listed q (cond b (here ∷ ls) (l ∷ put_traces switch traces ls)) ≡ true
      step true e later = ap (λ n. n == q || is_listed q ls) (sym (eqb-true l.switch switch e)) ∙ h
      step false e later =
          ⊎_elim (λ first. or_left (l.switch == q) (is_listed q (put_traces switch traces ls)) first) (λ rest. or_right (l.switch == q) (is_listed q (put_traces switch traces ls)) (later rest))
          (or_cases (l.switch == q) (is_listed q ls) h)

  pub all_put : (P : Learnings → Type 0) → P here → (ls : List Learnings) → AllByRecursion P ls → AllByRecursion P (put_traces switch traces ls)
  all_put P one [] h = (one, tt)
  all_put P one (l ∷ ls) h = step (l.switch == switch) (all_put P one ls h.1)
    where
      step : (b : Bool) → AllByRecursion P (put_traces switch traces ls) → AllByRecursion P (cond b (here ∷ ls) (l ∷ put_traces switch traces ls))
      step true later = (one, h.1)
      step false later = (h.0, later)

  pub pairs_put : (ls : List Learnings) → Pairs (λ k l. k.switch ≢ l.switch) ls → Pairs (λ k l. k.switch ≢ l.switch) (put_traces switch traces ls)
  pairs_put [] h = (tt, tt)
  pairs_put (l ∷ ls) h = step (l.switch == switch) refl (pairs_put ls h.1)
    where
      step : (b : Bool) → (l.switch == switch) ≡ b → Pairs (λ k l. k.switch ≢ l.switch) (put_traces switch traces ls)
          → Pairs (λ k l. k.switch ≢ l.switch) (cond b (here ∷ ls) (l ∷ put_traces switch traces ls))
      step true e later = (subst (λ n. AllByRecursion (λ (k : Learnings). n ≢ k.switch) ls) (eqb-true l.switch switch e) h.0, h.1)
      step false e later = (all_put (λ k. l.switch ≢ k.switch) (eqb-false l.switch switch e) ls h.0, later)

-- a switch's own traces in their place, or no traces behind all others
pub traces_own : (switch : ℕ) (ls : List Learnings) (q : ℕ) → traces_in (put_traces switch (traces_in ls switch) ls) q ≡ traces_in ls q
traces_own switch ls q =
    ⊎_elim
    (λ e. subst (λ n. traces_in (put_traces switch (traces_in ls switch) ls) n ≡ traces_in ls n) (sym e) (traces_put switch (traces_in ls switch) ls))
    (λ other. traces_beside switch (traces_in ls switch) q other ls)
    (cases_eq q switch)

-- ---- what is left is as learned

pub gives_of : (same : SameIsEqual) (env : Cell → Value) (cs : List (Cell × Value)) → are_current env cs ≡ true → Gives env cs
gives_of same env [] h = tt
gives_of same env (c ∷ cs) h =
    let b = and_parts (same_value (env c.0) c.1) (are_current env cs) h in
    ((same (env c.0) c.1).0 b.0, gives_of same env cs b.1)

-- in the second state those are current of which each cell has its value there
pub current_stay : SameIsEqual → (m n : State) → IsUnder m n → (l : Learnings) → AreLearned m l → AllByRecursion (IsCurrent n l.switch) (those (is_current (cell_in n.scene)) l.traces)
current_stay same m n under l h =
    all_passing (IsCurrent n l.switch) (of_leaf (is_current (cell_in n.scene))) l.traces
    (all_weaker (IsCurrent m l.switch) (λ r. of_leaf (is_current (cell_in n.scene)) r ≡ true → IsCurrent n l.switch r)
    (λ r c e. current_under m n under l.switch r (gives_of same (cell_in n.scene) r.cells e) c) l.traces h.current)

-- and where none is left, all are
pub none_stay : (n : State) (switch : ℕ) (rs : List Trace) → AllByRecursion (IsCurrent n switch) (those (λ (l : Leaf). false) rs)
none_stay n switch rs = all_passing (IsCurrent n switch) (of_leaf (λ (l : Leaf). false)) rs (all_from (λ r. false ≡ true → IsCurrent n switch r) rs (λ r c e. absurd (cc)))

module _ (laws : LowerLaws) (p : Leaf → Bool) (m n : State) (settings : n.settings ≡ m.settings) where
  pub learned_kept : (l : Learnings) → AreLearned m l → AllByRecursion (IsCurrent n l.switch) (those p l.traces) → AreLearned n (with_those (those p l.traces) l)
  learned_kept l h current =
      let admitted = laws.apart l.traces h.apart in
      let less = subst (λ t. levels_of t ≤ levels_of (scratch l.traces)) (laws.kept l.traces p admitted) (laws.lower p (scratch l.traces)).levels in
      record {
        current = current;
        apart = laws.only (those p l.traces) (laws.admitted l.traces (of_leaf p) admitted);
        fit = subst (λ t. AreFit t.capacity (those p l.traces)) (sym settings) (laws.fewer m.settings.capacity p l.traces h.fit);
        levels = let a = h.levels in let e = ap (λ t. t.levels) settings in omega (arith, less, a, e);
      }

  pub all_kept : ((l : Learnings) → AreLearned m l → AllByRecursion (IsCurrent n l.switch) (those p l.traces)) → (ls : List Learnings) → AllByRecursion (AreLearned m) ls → AllByRecursion (AreLearned n) (kept_of p ls)
  all_kept current ls h = zip_all (IsKept p) (AreLearned m) (AreLearned n) (λ k l e a. subst (AreLearned n) (sym e) (learned_kept k a (current k a))) ls (kept_of p ls) (kept_zip p ls) h

-- no traces are as learned
pub learned_nil : NoneAreFit → (m : State) (switch : ℕ) → AreLearned m (record { switch = switch; traces = [] })
learned_nil law m switch = record { current = tt; apart = tt; fit = law.fit m.settings.capacity; levels = omega arith }

-- and so are those in the place of a switch
pub learned_in : NoneAreFit → (m : State) (ls : List Learnings) → AllByRecursion (AreLearned m) ls → (switch : ℕ) → AreLearned m (record { switch = switch; traces = traces_in ls switch })
learned_in law m [] h switch = learned_nil law m switch
learned_in law m (l ∷ ls) h switch = step (l.switch == switch) refl (learned_in law m ls h.1 switch)
  where
    step : (b : Bool) → (l.switch == switch) ≡ b → AreLearned m (record { switch = switch; traces = traces_in ls switch }) → AreLearned m (record { switch = switch; traces = cond b l.traces (traces_in ls switch) })
    step true e later = subst (λ q. AreLearned m (record { switch = q; traces = l.traces })) (eqb-true l.switch switch e) h.0
    step false e later = later

-- the switches of the lists stay
pub pairs_kept : (p : Leaf → Bool) (ls : List Learnings) → Pairs (λ k l. k.switch ≢ l.switch) ls → Pairs (λ k l. k.switch ≢ l.switch) (kept_of p ls)
pairs_kept p ls h =
    zip_pairs (IsKept p) (λ k l. k.switch ≢ l.switch) (λ k l. k.switch ≢ l.switch)
    (λ k l q r e f other. λ g. other (sym (ap (λ (t : Learnings). t.switch) e) ∙ g ∙ ap (λ (t : Learnings). t.switch) f)) ls (kept_of p ls) (kept_zip p ls) h

pub switches_kept : (P : ℕ → Type 0) (p : Leaf → Bool) (ls : List Learnings) → AllByRecursion (λ (l : Learnings). P l.switch) ls → AllByRecursion (λ (l : Learnings). P l.switch) (kept_of p ls)
switches_kept P p ls h = zip_all (IsKept p) (λ (l : Learnings). P l.switch) (λ (l : Learnings). P l.switch) (λ k l e q. subst (λ (t : Learnings). P t.switch) (sym e) q) ls (kept_of p ls) (kept_zip p ls) h
