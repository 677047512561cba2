-- The live traces are those that last: told of each learning by the turns behind it.
use Rattle.std.proofs.Common.{◌≡◌, ℕ, ◌+◌, Bool, true, false, cond, List, [], ◌∷◌, ◌++◌, length, refl, sym, ap, ap₂, ◌∙◌}
use Rattle.std.specs.Prelude.{◌==◌, ◌&&◌, not, map, filter, if◌then◌else◌}
use Rattle.std.specs.List.{list_all}
use Rattle.std.proofs.lemmas.Bool.{eqb-true}
use Rattle.std.proofs.lemmas.List.{map-append}
use Rattle.std.proofs.lemmas.List.Elements.{filter-append}
use Rattle.topo_paths.specs.Scenes.{cell_in}
use Rattle.trace_tree.specs.declared.node.Trace.{Trace}
use Rattle.tree_prune.specs.Live.{State as LiveState, Event, Learned, AllRetired, outlives, lives, live_from, live as living}
use Rattle.machine_steps.specs.Machine.{policy_number}
use Rattle.machine_steps.specs.Histories.{Turn}
use Rattle.machine_history.specs.Live.{Learning, learned_at, quiets, reached, learned_for, events_at, events, live}
use Rattle.machine_history.proofs.Filters.{and_agree}

-- in the state behind a turn its policy is in force, and each recorded cell has its recorded value
abbrev pub holds : Learning → Turn → Bool
holds l t = outlives l.policy l.trace (reached t)

-- it is not retired in the turn, and holds behind it
abbrev pub outlasts : Learning → Turn → Bool
outlasts l t = not (quiets l.switch t) && holds l t

-- learned at the first of these turns, it holds from then on to the last
abbrev pub lasts : Turn → List Turn → Learning → Bool
lasts t later l = holds l t && list_all (outlasts l) later

-- those that do, where so many were learned before these turns
abbrev pub lasting : ℕ → List Turn → List Learning
lasting n [] = []
lasting n (t ∷ later) = filter (lasts t later) (learned_at n t) ++ lasting (n + length (learned_at n t)) later

abbrev own : ℕ → List Learning → List Learning
own switch ls = filter (λ (l : Learning). l.switch == switch) ls

-- what was learned for the switch
abbrev pub of_switch : ℕ → List Learning → List Trace
of_switch switch ls = map (λ (l : Learning). l.trace) (own switch ls)

pub of_append : (switch : ℕ) (ls ks : List Learning) → of_switch switch (ls ++ ks) ≡ of_switch switch ls ++ of_switch switch ks
of_append switch ls ks =
    ap (map (λ (l : Learning). l.trace)) (filter-append (λ (l : Learning). l.switch == switch) ls ks) ∙ map-append (λ (l : Learning). l.trace) (own switch ls) (own switch ks)

-- ---- a trace outlives the events of the turns that it outlasts

module _ (policy : ℕ) (r : Trace) (switch : ℕ) where
  -- it outlives each learning
  outlives_learned : (ls : List Learning) (es : List Event) → list_all (outlives policy r) (learned_for switch ls ++ es) ≡ list_all (outlives policy r) es
  outlives_learned [] es = refl
  outlives_learned (l ∷ ls) es = step (l.switch == switch) (outlives_learned ls es)
    where
      step : (b : Bool) → list_all (outlives policy r) (learned_for switch ls ++ es) ≡ list_all (outlives policy r) es
          → list_all (outlives policy r) (map (λ (k : Learning). Learned k.policy k.trace) (cond b (l ∷ own switch ls) (own switch ls)) ++ es)
          ≡ list_all (outlives policy r) es
      step true later = later
      step false later = later

  abbrev its : Learning
  its = record { switch = switch; policy = policy; trace = r }

  outlives_turn : (n : ℕ) (t : Turn) (es : List Event) → list_all (outlives policy r) (events_at switch n t ++ es) ≡ (outlasts its t && list_all (outlives policy r) es)
  outlives_turn n t es = step (quiets switch t)
    where
      step : (b : Bool) → list_all (outlives policy r) (((if b then AllRetired ∷ [] else []) ++ reached t ∷ learned_for switch (learned_at n t)) ++ es)
          ≡ ((not b && holds its t) && list_all (outlives policy r) es)
      step true = refl
      step false = ap (λ c. holds its t && c) (outlives_learned (learned_at n t) es)

  outlives_turns : (n : ℕ) (ts : List Turn) → list_all (outlives policy r) (events switch n ts) ≡ list_all (outlasts its) ts
  outlives_turns n [] = refl
  outlives_turns n (t ∷ ts) =
      outlives_turn n t (events switch (n + length (learned_at n t)) ts) ∙ ap (λ b. outlasts its t && b) (outlives_turns (n + length (learned_at n t)) ts)

-- ---- those that live are those that last

abbrev behind : Turn → LiveState
behind t = record { policy = policy_number t.behind; has = cell_in t.behind.scene }

module _ (switch : ℕ) where
  -- a learning of the switch lives through the turns behind it where it lasts
  lives_lasts : (t : Turn) (ts : List Turn) (n : ℕ) (l : Learning) (ls : List Learning) → l.switch ≡ switch
      → lives (behind t) l.policy l.trace (learned_for switch ls ++ events switch n ts) ≡ lasts t ts l
  lives_lasts t ts n l ls same =
      ap (λ b. holds l t && b)
      (outlives_learned l.policy l.trace switch ls (events switch n ts) ∙ outlives_turns l.policy l.trace switch n ts
      ∙ ap (λ s. list_all (outlasts (record { switch = s; policy = l.policy; trace = l.trace })) ts) (sym same))

  -- one more is learned: it is there if it is of the switch and lives
  more_live : (s : LiveState) (l : Learning) (ls : List Learning) (es : List Event) → let rs = live_from s (learned_for switch ls ++ es) in
      live_from s (learned_for switch (l ∷ ls) ++ es) ≡ cond (l.switch == switch && lives s l.policy l.trace (learned_for switch ls ++ es)) (l.trace ∷ rs) rs
  more_live s l ls es = step (l.switch == switch)
    where
      step : (b : Bool) → live_from s (map (λ (k : Learning). Learned k.policy k.trace) (cond b (l ∷ own switch ls) (own switch ls)) ++ es)
          ≡ cond (b && lives s l.policy l.trace (learned_for switch ls ++ es)) (l.trace ∷ live_from s (learned_for switch ls ++ es)) (live_from s (learned_for switch ls ++ es))
      step true = refl
      step false = refl

  -- one more is learned: it is there if it is of the switch and lasts
  more_last : (l : Learning) (ls : List Learning) (a b : Bool) → (l.switch == switch) ≡ a → (rs : List Trace)
      → of_switch switch (cond b (l ∷ ls) ls) ++ rs ≡ cond (a && b) (l.trace ∷ of_switch switch ls ++ rs) (of_switch switch ls ++ rs)
  more_last l ls true true e rs = ap (λ c. map (λ (k : Learning). k.trace) (cond c (l ∷ own switch ls) (own switch ls)) ++ rs) e
  more_last l ls false true e rs = ap (λ c. map (λ (k : Learning). k.trace) (cond c (l ∷ own switch ls) (own switch ls)) ++ rs) e
  more_last l ls true false e rs = refl
  more_last l ls false false e rs = refl

  -- of those that are learned in one state those live that last
  learned_live : (t : Turn) (ts : List Turn) (n : ℕ) (ls : List Learning)
      → live_from (behind t) (learned_for switch ls ++ events switch n ts) ≡ of_switch switch (filter (lasts t ts) ls) ++ live_from (behind t) (events switch n ts)
  learned_live t ts n [] = refl
  learned_live t ts n (l ∷ ls) =
      let es = events switch n ts in
      let rs = live_from (behind t) es in
      more_live (behind t) l ls es
      ∙ ap₂ (λ b qs. cond b (l.trace ∷ qs) qs)
      (and_agree (l.switch == switch) (lives (behind t) l.policy l.trace (learned_for switch ls ++ es)) (lasts t ts l) (λ e. lives_lasts t ts n l ls (eqb-true l.switch switch e)))
      (learned_live t ts n ls)
      ∙ sym (more_last l (filter (lasts t ts) ls) (l.switch == switch) (lasts t ts l) refl rs)

  -- a turn's state is reached, whatever the state before it
  from_turn : (s : LiveState) (n : ℕ) (t : Turn) (es : List Event) → live_from s (events_at switch n t ++ es) ≡ live_from (behind t) (learned_for switch (learned_at n t) ++ es)
  from_turn s n t es = step (quiets switch t)
    where
      step : (b : Bool) → live_from s (((if b then AllRetired ∷ [] else []) ++ reached t ∷ learned_for switch (learned_at n t)) ++ es)
          ≡ live_from (behind t) (learned_for switch (learned_at n t) ++ es)
      step true = refl
      step false = refl

  -- the traces that live behind these turns are those that last
  live_lasting : (s : LiveState) (n : ℕ) (ts : List Turn) → live_from s (events switch n ts) ≡ of_switch switch (lasting n ts)
  live_lasting s n [] = refl
  live_lasting s n (t ∷ ts) =
      let m = n + length (learned_at n t) in
      from_turn s n t (events switch m ts) ∙ learned_live t ts m (learned_at n t) ∙ ap (λ rs. of_switch switch (filter (lasts t ts) (learned_at n t)) ++ rs) (live_lasting (behind t) m ts)
      ∙ sym (of_append switch (filter (lasts t ts) (learned_at n t)) (lasting m ts))

  -- nothing is learned before the first state
  first_turn : (n : ℕ) (t : Turn) (es : List Event) → living (events_at switch n t ++ es) ≡ live_from (behind t) (events_at switch n t ++ es)
  first_turn n t es = step (quiets switch t)
    where
      step : (b : Bool) → living (((if b then AllRetired ∷ [] else []) ++ reached t ∷ learned_for switch (learned_at n t)) ++ es)
          ≡ live_from (behind t) (((if b then AllRetired ∷ [] else []) ++ reached t ∷ learned_for switch (learned_at n t)) ++ es)
      step true = refl
      step false = refl

-- the live traces of a switch are those of its learnings that last
pub live_lasts : (ts : List Turn) (switch : ℕ) → live ts switch ≡ of_switch switch (lasting 0 ts)
live_lasts [] switch = refl
live_lasts (t ∷ ts) switch = first_turn switch 0 t (events switch (0 + length (learned_at 0 t)) ts) ∙ live_lasting switch (behind t) 0 (t ∷ ts)
