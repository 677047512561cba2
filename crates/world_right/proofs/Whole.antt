-- Along a run the state of what a session acknowledged whole last is never past since.
use Rattle.std.proofs.Common.{◌≡◌, ℕ, ◌≤◌, List, [], ◌∷◌, ◌++◌, refl, sym, ap, ◌∙◌, subst, arith}
use Rattle.std.specs.Prelude.{Option, Some, None}
use Rattle.std.proofs.lemmas.Option.{same_Some, none-some}
use Rattle.switch_session.specs.declared.part.UnderWay.{UnderWay}
use Rattle.machine_moves.specs.MoveLaws.{StatesGrow}
use Rattle.machine_steps.specs.declared.entry.Entry.{Entry}
use Rattle.machine_steps.specs.declared.reply.Reply.{Reply}
use Rattle.machine_steps.specs.Histories.{Turn}
use Rattle.machine_steps.specs.Machine.{Session, State, session_at, state_number}
use Rattle.world_steps.specs.Runs.{Event, Runs, turn_in, turns_of}
use Rattle.world_steps.specs.Since.{Marks, marked, marked_all, marked_by, marks_of, no_marks, whole_by, whole_of, wholes}
use Rattle.world_steps.specs.Worlds.{EntersWorld, Goes, World, WorldStep, opening_world}
use Rattle.world_steps.specs.Worlds.WorldStep.{Enters, Acts}
use Rattle.world_right.specs.Laws.{IsSinceWhole, SinceIsWhole}
use Rattle.world_right.proofs.Along.{AreLinked, StageLaws, opening_linked, placed, run_linked}
use Rattle.world_right.proofs.Marked.{AreOrdered, ordered, since_at_rest, whole_below, whole_stays}
use Rattle.world_right.proofs.Runs.{RunLaws, linked}

-- the marks of an open session of which a part is under way are in order
pub linked_ordered : (marks : ℕ → Marks) (w : World) → AreLinked marks w → (c : ℕ) (s : Session) → session_at c w.machine ≡ Some s → (part : UnderWay) → s.under_way ≡ Some part
    → AreOrdered (state_number w.machine) (marks c) s
linked_ordered marks w are c s there part running =
    let h = are.sessions c s there in ordered c w.machine (marks c) s h.link part (placed marks w are c s h.link there h.there) running

-- the state of what was acknowledged whole last isn't past now, nor past the base where a part is under way
pub record IsBehind (c : ℕ) (m : State) (marks : Marks) (whole : ℕ) : Type 0 where
  pub until_now : whole ≤ state_number m
  pub running : (s : Session) → session_at c m ≡ Some s → (part : UnderWay) → s.under_way ≡ Some part → whole ≤ marks.base

module _ (laws : StageLaws) (grow : StatesGrow) (c : ℕ) where
  -- ---- an entry

  module _ (marks : ℕ → Marks) (whole : ℕ) (entry : Entry) (reply : Reply) (w v : World) (are : AreLinked marks w) (enters : EntersWorld entry reply w v)
      (behind : IsBehind c w.machine (marks c) whole) where
    later : state_number w.machine ≤ state_number v.machine
    later = (grow w.machine entry reply v.machine enters.steps).later

    still : whole ≤ state_number v.machine
    still = let before = behind.until_now in let grows = later in omega arith

    abbrev IsSo : Option Session → Option Session → Type 0
    IsSo before now = IsBehind c v.machine (marked_by before now (state_number w.machine) (state_number v.machine) (marks c)) (whole_by before now (marks c) whole)

    enters_behind : IsSo (session_at c w.machine) (session_at c v.machine)
    enters_behind = go (session_at c w.machine) (session_at c v.machine) refl refl
      where
        go : (before now : Option Session) → session_at c w.machine ≡ before → session_at c v.machine ≡ now → IsSo before now
        go None None was is = record { until_now = still; running = λ s there part e. absurd (none-some s (sym is ∙ there)) }
        go None (Some t) was is = record {
          until_now = still;
          running = λ s there part e.
              let new = (laws.sessions w.machine entry reply v.machine are.sound enters.steps c s was there).session in absurd (none-some part (ap (λ (x : Session). x.under_way) (sym new) ∙ e));
        }
        go (Some s) None was is = record { until_now = still; running = λ t there part e. absurd (none-some t (sym is ∙ there)) }
        go (Some s) (Some t) was is =
            let order = linked_ordered marks w are c s was in
            record {
              until_now = whole_stays s t (state_number w.machine) (state_number v.machine) (marks c) later order whole behind.until_now;
              running = λ x there part e.
                  whole_below s t (state_number w.machine) (state_number v.machine) (marks c) later order whole behind.until_now (behind.running s was) part
                  (ap (λ (y : Session). y.under_way) (same_Some t x (sym is ∙ there)) ∙ e);
            }

  -- ---- a run

  -- behind one step
  linked_behind : (marks : ℕ → Marks) (w v : World) (step : WorldStep) → AreLinked marks w → Goes w step v → AreLinked (λ d. marked_all d (turns_of (record { before = w; step = step; behind = v } ∷ [])) (marks d)) v
  linked_behind marks w v step are goes = run_linked laws marks w (record { before = w; step = step; behind = v } ∷ []) v are (refl, goes, refl)

  step_behind : (marks : ℕ → Marks) (whole : ℕ) (w v : World) (ts : List Turn) (last : World) (step : WorldStep) → AreLinked marks w → IsBehind c w.machine (marks c) whole → Goes w step v
      → ((next : ℕ → Marks) (kept : ℕ) → AreLinked next v → IsBehind c v.machine (next c) kept → IsBehind c last.machine (marked_all c ts (next c)) (wholes c ts (next c) kept))
      → IsBehind c last.machine (marked_all c (turn_in step w.machine v.machine ++ ts) (marks c)) (wholes c (turn_in step w.machine v.machine ++ ts) (marks c) whole)
  step_behind marks whole w v ts last (Enters entry reply) are behind enters rest =
      rest (λ d. marked d (record { before = w.machine; entry = entry; reply = reply; behind = v.machine }) (marks d)) (whole_by (session_at c w.machine) (session_at c v.machine) (marks c) whole)
      (linked_behind marks w v (Enters entry reply) are enters) (enters_behind marks whole entry reply w v are enters behind)
  step_behind marks whole w v ts last (Acts d step) are behind acts rest =
      rest marks whole (linked_behind marks w v (Acts d step) are acts) (subst (λ (u : World). IsBehind c u.machine (marks c) whole) (sym acts.now_is) behind)

  run_behind : (marks : ℕ → Marks) (whole : ℕ) (w : World) (es : List Event) (last : World) → AreLinked marks w → IsBehind c w.machine (marks c) whole → Runs w es last
      → IsBehind c last.machine (marked_all c (turns_of es) (marks c)) (wholes c (turns_of es) (marks c) whole)
  run_behind marks whole w [] last are behind e = subst (λ (u : World). IsBehind c u.machine (marks c) whole) (sym e) behind
  run_behind marks whole w (e ∷ es) last are behind (same, happens, rest) =
      step_behind marks whole e.before e.behind (turns_of es) last e.step (subst (AreLinked marks) (sym same) are) (subst (λ (u : World). IsBehind c u.machine (marks c) whole) (sym same) behind) happens
      (λ next kept linked now. run_behind next kept e.behind es last linked now rest)

pub since_is_whole : RunLaws → StatesGrow → SinceIsWhole
since_is_whole laws grow policy settings es w run c s there ready = go s.under_way refl
  where
    behind : IsBehind c w.machine (marks_of c (turns_of es)) (whole_of c (turns_of es))
    behind = run_behind laws.stages grow c (λ d. no_marks) 0 (opening_world policy settings) es w (opening_linked laws.stages policy settings run.ranges)
        (record { until_now = omega arith; running = λ t e part way. absurd (none-some t e) }) run.runs

    go : (way : Option UnderWay) → s.under_way ≡ way → IsSinceWhole c (turns_of es) w.machine s
    go None rest = let now = since_at_rest s (state_number w.machine) (marks_of c (turns_of es)) rest in let before = behind.until_now in
        record { until_now = omega arith; whole = omega arith; at_rest = λ e. now }
    go (Some part) running =
        let order = linked_ordered (λ d. marks_of d (turns_of es)) w (linked laws policy settings es w run) c s there part running in
        let below = behind.running s there part running in
        record { until_now = grind arith; whole = grind arith; at_rest = λ e. absurd (none-some part (sym e ∙ running)) }
