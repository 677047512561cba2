-- What holds along a history: each state is sound, the lists of traces are the live ones, and each open job was opened in it.
use Rattle.std.proofs.Common.{◌≡◌, ◌⊎◌, ℕ, ◌+◌, Bool, true, false, List, [], ◌∷◌, ◌++◌, length, append-nil, append_assoc, refl, sym, ap, ap₂, ◌∙◌, subst, inl, inr, ⊎_elim}
use Rattle.std.proofs.Math.Bool.{and-false, and-true}
use Rattle.std.specs.Prelude.{◌==◌, ◌&&◌, not, map, filter, Contains}
use Rattle.std.specs.List.{list_all}
use Rattle.std.proofs.lemmas.Bool.{and_parts, eqb-true}
use Rattle.std.proofs.lemmas.List.Elements.{filter-append, filter_agree}
use Rattle.update_plan.proofs.Members.{here, there}
use Rattle.topo_paths.specs.Scenes.{cell_in}
use Rattle.tree_prune.specs.Current.{is_current}
use Rattle.trace_tree.specs.declared.node.Trace.{Trace}
use Rattle.trace_tree.specs.Growth.{leaf_of}
use Rattle.machine_steps.specs.declared.job.Job.{Job}
use Rattle.machine_steps.specs.Machine.{State, opening, policy_number, traces_of}
use Rattle.machine_steps.specs.Histories.{Turn, IsTurn, Leads}
use Rattle.machine_steps.specs.Laws.{OpensSound, KeepsSound}
use Rattle.machine_steps.specs.Sound.{IsSound}
use Rattle.machine_steps.proofs.Sound.Zipped.{all_from}
use Rattle.machine_history.specs.Live.{Learning, learned_at, quiets, learned_count}
use Rattle.machine_history.specs.Jobs.{WasOpened}
use Rattle.machine_history.specs.Laws.{ListsAreLive}
use Rattle.machine_history.proofs.Answering.{Laws}
use Rattle.machine_history.proofs.Entries.{goes_turn}
use Rattle.machine_history.proofs.Filters.{filter_all, filter_both, filter_map_is, and_agree}
use Rattle.machine_history.proofs.Lasting.{holds, outlasts, lasts, lasting, of_switch, of_append, live_lasts}
use Rattle.machine_history.proofs.Learning.{still, put_now, Goes}

-- ---- lists

-- the trace of a switch outlasts these turns, where it was learned under the policy of this number
abbrev stays : ℕ → ℕ → List Turn → Trace → Bool
stays switch policy ts r = list_all (outlasts (record { switch = switch; policy = policy; trace = r })) ts

-- what outlasts a turn was learned under the policy that is in force behind it
same_policy : (t : Turn) (l : Learning) → holds l t ≡ true → l.policy ≡ policy_number t.behind
same_policy t l e = sym (eqb-true (policy_number t.behind) l.policy (and_parts (policy_number t.behind == l.policy) (is_current (cell_in t.behind.scene) (leaf_of l.trace)) e).0)

-- of the traces that were there
old_stay : (t : Turn) (ts : List Turn) (switch : ℕ) (rs : List Trace) → filter (stays switch (policy_number t.behind) ts) (filter (still switch t) rs) ≡ filter (stays switch (policy_number t.before) (t ∷ ts)) rs
old_stay t ts switch rs =
    filter_both (stays switch (policy_number t.behind) ts) (still switch t) rs
    ∙ filter_agree (λ r. still switch t r && stays switch (policy_number t.behind) ts r) (stays switch (policy_number t.before) (t ∷ ts))
    (λ r. and_agree (still switch t r) (stays switch (policy_number t.behind) ts r) (stays switch (policy_number t.before) ts r)
    (λ e. ap (λ n. stays switch n ts r) (sym (same_policy t (record { switch = switch; policy = policy_number t.before; trace = r }) (and_parts (not (quiets switch t)) (holds (record { switch = switch; policy = policy_number t.before; trace = r }) t) e).1)))) rs

-- and of those that were learned
new_stay : (t : Turn) (ts : List Turn) (switch : ℕ) (ls : List Learning) → filter (stays switch (policy_number t.behind) ts) (put_now switch t ls) ≡ of_switch switch (filter (lasts t ts) ls)
new_stay t ts switch ls =
    filter_map_is (λ (l : Learning). l.trace) (stays switch (policy_number t.behind) ts) (filter (λ (l : Learning). l.switch == switch && holds l t) ls)
    ∙ ap (map (λ (l : Learning). l.trace))
    (filter_both (λ (l : Learning). stays switch (policy_number t.behind) ts l.trace) (λ (l : Learning). l.switch == switch && holds l t) ls
    ∙ filter_agree (λ (l : Learning). (l.switch == switch && holds l t) && stays switch (policy_number t.behind) ts l.trace) (λ (l : Learning). lasts t ts l && l.switch == switch) one ls
    ∙ sym (filter_both (λ (l : Learning). l.switch == switch) (lasts t ts) ls))
  where
    one : (l : Learning) → ((l.switch == switch && holds l t) && stays switch (policy_number t.behind) ts l.trace) ≡ (lasts t ts l && l.switch == switch)
    one l = go (l.switch == switch) (holds l t) refl refl
      where
        go : (a b : Bool) → (l.switch == switch) ≡ a → holds l t ≡ b → ((a && b) && stays switch (policy_number t.behind) ts l.trace) ≡ ((b && list_all (outlasts l) ts) && a)
        go true true e f = ap₂ (λ s p. stays s p ts l.trace) (sym (eqb-true l.switch switch e)) (sym (same_policy t l f)) ∙ sym (and-true (list_all (outlasts l) ts))
        go true false e f = refl
        go false true e f = sym (and-false (list_all (outlasts l) ts))
        go false false e f = refl

-- a state is sound behind each turn of a history
module _ (keeps : KeepsSound) (laws : Laws) where
  sound_behind : (t : Turn) → IsSound t.before → IsTurn t → IsSound t.behind
  sound_behind t h is = keeps t.before t.entry t.reply t.behind h is.admitted is.steps

  pub sound_last : (m : State) (ts : List Turn) (last : State) → Leads m ts last → IsSound m → IsSound last
  sound_last m [] last e h = subst IsSound (sym e) h
  sound_last m (t ∷ ts) last (e, is, rest) h = sound_last t.behind ts last rest (sound_behind t (subst IsSound (sym e) h) is)

  -- the traces of a switch are those of its first traces and of the learned ones that outlast the turns
  pub lists_along : (m : State) (ts : List Turn) (last : State) → Leads m ts last → IsSound m → (switch : ℕ)
      → traces_of switch last ≡ filter (stays switch (policy_number m) ts) (traces_of switch m) ++ of_switch switch (lasting m.trace_count ts)
  lists_along m [] last e h switch =
      ap (traces_of switch) e ∙ sym (filter_all (stays switch (policy_number m) []) (traces_of switch m) (all_from (λ (r : Trace). true ≡ true) (traces_of switch m) (λ r c. refl)))
      ∙ sym (append-nil (filter (stays switch (policy_number m) []) (traces_of switch m)))
  lists_along m (t ∷ ts) last (e, is, rest) h switch =
      subst (λ (n : State). traces_of switch last ≡ filter (stays switch (policy_number n) (t ∷ ts)) (traces_of switch n) ++ of_switch switch (lasting n.trace_count (t ∷ ts))) e
      (let before = subst IsSound (sym e) h in
      let g = goes_turn laws t before is in
      step g (lists_along t.behind ts last rest (sound_behind t before is) switch))
    where
      step : Goes t → traces_of switch last ≡ filter (stays switch (policy_number t.behind) ts) (traces_of switch t.behind) ++ of_switch switch (lasting t.behind.trace_count ts)
          → traces_of switch last ≡ filter (stays switch (policy_number t.before) (t ∷ ts)) (traces_of switch t.before) ++ of_switch switch (lasting t.before.trace_count (t ∷ ts))
      step g later =
          later
          ∙ ap₂ (λ rs n. filter (stays switch (policy_number t.behind) ts) rs ++ of_switch switch (lasting n ts)) (g.lists switch) g.count
          ∙ ap (λ rs. rs ++ behind) (filter-append (stays switch (policy_number t.behind) ts) (filter (still switch t) (traces_of switch t.before)) (put_now switch t now))
          ∙ append_assoc (filter (stays switch (policy_number t.behind) ts) (filter (still switch t) (traces_of switch t.before))) (filter (stays switch (policy_number t.behind) ts) (put_now switch t now)) behind
          ∙ ap₂ (λ rs qs. rs ++ (qs ++ behind)) (old_stay t ts switch (traces_of switch t.before)) (new_stay t ts switch now)
          ∙ ap (λ qs. filter (stays switch (policy_number t.before) (t ∷ ts)) (traces_of switch t.before) ++ qs) (sym (of_append switch (filter (lasts t ts) now) (lasting (t.before.trace_count + length now) ts)))
        where
          now : List Learning
          now = learned_at t.before.trace_count t

          behind : List Trace
          behind = of_switch switch (lasting (t.before.trace_count + length now) ts)

  pub counted_along : (m : State) (ts : List Turn) (last : State) → Leads m ts last → IsSound m → learned_count m.trace_count ts ≡ last.trace_count
  counted_along m [] last e h = ap (λ (n : State). n.trace_count) (sym e)
  counted_along m (t ∷ ts) last (e, is, rest) h =
      let before = subst IsSound (sym e) h in
      ap (λ (n : State). learned_count n.trace_count (t ∷ ts)) (sym e) ∙ ap (λ n. learned_count n ts) (sym (goes_turn laws t before is).count) ∙ counted_along t.behind ts last rest (sound_behind t before is)

  -- each open job was open at first, or was opened in one of the turns
  pub jobs_along : (m : State) (ts : List Turn) (last : State) → Leads m ts last → IsSound m → (j : Job) → Contains last.jobs j → Contains m.jobs j ⊎ WasOpened ts j.number j.switch j.key
  jobs_along m [] last e h j c = inl (subst (λ (n : State). Contains n.jobs j) e c)
  jobs_along m (t ∷ ts) last (e, is, rest) h j c =
      let before = subst IsSound (sym e) h in
      ⊎_elim (λ d. ⊎_elim (λ f. inl (subst (λ (n : State). Contains n.jobs j) e f)) (λ r. inr (record { turn = t; among = here t ts; opened = r })) ((goes_turn laws t before is).jobs j d))
      (λ w. inr (record { turn = w.turn; among = there t ts w.turn w.among; opened = w.opened }))
      (jobs_along t.behind ts last rest (sound_behind t before is) j c)

  module _ (opens : OpensSound) where
    pub lists_live : ListsAreLive
    lists_live ts m legal switch = lists_along (opening legal.policy legal.settings) ts m legal.leads (opens legal.policy legal.settings legal.ranges) switch ∙ sym (live_lasts ts switch)
