-- While a session is ready, the oldest state that a hit at it may show never falls.
use Rattle.std.proofs.Common.{◌≡◌, ℕ, ◌≤◌, List, [], ◌∷◌, ◌++◌, refl, sym, ap, ◌∙◌, subst, subst₂, arith}
use Rattle.std.specs.Prelude.{Some}
use Rattle.std.proofs.lemmas.Grind.{flat_map-append}
use Rattle.std.proofs.lemmas.Option.{same_Some}
use Rattle.machine_moves.specs.MoveLaws.{StatesGrow}
use Rattle.machine_steps.specs.Histories.{Turn}
use Rattle.machine_steps.specs.Machine.{Session, State, session_at, state_number}
use Rattle.world_steps.specs.Runs.{Event, Runs, turn_in, turns_of}
use Rattle.world_steps.specs.Since.{Marks, marked_all, marked_by, marks_of, no_marks, since_by}
use Rattle.world_steps.specs.Worlds.{Goes, World, WorldStep, opening_world}
use Rattle.world_steps.specs.Worlds.WorldStep.{Enters, Acts}
use Rattle.world_steps.proofs.Runs.{GoesTo, runs_to}
use Rattle.world_right.specs.Laws.{SinceNeverFalls}
use Rattle.world_right.proofs.Along.{AreLinked}
use Rattle.world_right.proofs.Marked.{since_stays}
use Rattle.world_right.proofs.Runs.{RunLaws, linked}
use Rattle.world_right.proofs.Whole.{linked_ordered}

marked_append : (c : ℕ) (ts us : List Turn) (marks : Marks) → marked_all c (ts ++ us) marks ≡ marked_all c us (marked_all c ts marks)
marked_append c [] us marks = refl
marked_append c (t ∷ ts) us marks = marked_append c ts us _

-- a run's last world is the one behind its last event
last_is : (w : World) (es : List Event) (e : Event) (last : World) → Runs w (es ++ e ∷ []) last → last ≡ e.behind
last_is w [] e last (same, happens, is) = is
last_is w (first ∷ es) e last (same, happens, rest) = last_is first.behind es e last rest

module _ (grow : StatesGrow) (c : ℕ) (marks : ℕ → Marks) (w v : World) (are : AreLinked marks w) (s t : Session) (before : session_at c w.machine ≡ Some s) (now : session_at c v.machine ≡ Some t) where
  step_stays : (step : WorldStep) → Goes w step v
      → since_by s (state_number w.machine) (marks c) ≤ since_by t (state_number v.machine) (marked_all c (turn_in step w.machine v.machine ++ []) (marks c))
  step_stays (Enters entry reply) enters =
      subst₂ (λ x y. since_by s (state_number w.machine) (marks c) ≤ since_by t (state_number v.machine) (marked_by x y (state_number w.machine) (state_number v.machine) (marks c))) (sym before) (sym now)
      (since_stays s t (state_number w.machine) (state_number v.machine) (marks c) (grow w.machine entry reply v.machine enters.steps).later (linked_ordered marks w are c s before))
  step_stays (Acts d step) acts =
      let same = ap (λ (u : World). u.machine) acts.now_is in
      let session = same_Some s t (sym before ∙ ap (session_at c) (sym same) ∙ now) in
      subst₂ (λ x (m : State). since_by s (state_number w.machine) (marks c) ≤ since_by x (state_number m) (marks c)) session (sym same) (omega arith)

pub since_never_falls : RunLaws → StatesGrow → SinceNeverFalls
since_never_falls laws grow policy settings es e w run c s t before ready now ready_still =
    subst₂ (λ marks (u : World). since_by s (state_number e.before.machine) (marks_of c (turns_of es)) ≤ since_by t (state_number u.machine) marks) (sym marks_are) (sym is)
    (step_stays grow c (λ d. marks_of d (turns_of es)) e.before e.behind (linked laws policy settings es e.before (record { ranges = run.ranges; runs = to.ahead })) s t before
    (subst (λ (u : World). session_at c u.machine ≡ Some t) is now) e.step to.happens)
  where
    to : GoesTo (opening_world policy settings) es e
    to = runs_to (opening_world policy settings) es e [] w run.runs

    is : w ≡ e.behind
    is = last_is (opening_world policy settings) es e w run.runs

    marks_are : marks_of c (turns_of (es ++ e ∷ [])) ≡ marked_all c (turns_of (e ∷ [])) (marks_of c (turns_of es))
    marks_are =
        ap (λ ts. marked_all c ts no_marks) (flat_map-append (λ (x : Event). turn_in x.step x.before.machine x.behind.machine) es (e ∷ []))
        ∙ marked_append c (turns_of es) (turns_of (e ∷ [])) no_marks
