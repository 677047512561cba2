-- Every run of the world is right, and tables at rest are complete.
use Rattle.std.proofs.Common.{◌≡◌, ℕ, List, [], ◌∷◌, ◌++◌, sym, ◌∙◌, subst}
use Rattle.std.specs.Prelude.{Some, None}
use Rattle.std.specs.List.Sorted.{IsPermutation}
use Rattle.std.proofs.lemmas.Grind.{flat_map-append}
use Rattle.std.proofs.lemmas.Option.{same_Some}
use Rattle.maple_base.specs.declared.decision.Rule.{Rule}
use Rattle.maple_base.specs.declared.decision.Settings.{Settings}
use Rattle.maple_base.specs.declared.key.Key.{Key}
use Rattle.maple_base.specs.Choice.{MayChoose}
use Rattle.policy_lang.specs.declared.Policy.{Policy}
use Rattle.priority_plan.specs.Rules.{rules_of}
use Rattle.trace_tree.specs.Growth.{scratch}
use Rattle.device_port.specs.Switches.Step.{Look}
use Rattle.machine_history.specs.Laws.{AnswersAreEvaluation, IsLegal, ListsAreLive}
use Rattle.machine_history.specs.Live.{live}
use Rattle.machine_steps.specs.Histories.{Turn}
use Rattle.machine_steps.specs.Machine.{Session, State, state_number}
use Rattle.machine_steps.specs.Steps.{switch_of}
use Rattle.world_steps.specs.Right.{AreRightAnswers, HasRoom, IsReadyAt, IsRightEvent, IsRightHit, IsRightLook}
use Rattle.world_steps.specs.Runs.{Event, HistoryLaw, IsWorldRun, Runs, turn_in, turns_of}
use Rattle.world_steps.specs.Since.{marks_of, no_marks, since_by}
use Rattle.world_steps.specs.Worlds.{ActsAt, Goes, Link, World, WorldStep, opening_world}
use Rattle.world_steps.specs.Worlds.WorldStep.{Enters, Acts}
use Rattle.world_steps.proofs.Runs.{GoesTo, runs_to}
use Rattle.world_stages.specs.StageLaws.{IsPlaced}
use Rattle.world_right.specs.Hits.{HitsAreRight, TablesHaveRoom, RestIsNewest}
use Rattle.world_right.specs.Laws.{EveryRunIsRight, SessionsArePlaced, TablesAreComplete}
use Rattle.world_right.proofs.Along.{AreLinked, StageLaws, opening_linked, placed, run_linked}
use Rattle.world_right.proofs.Tables.{ready_is_live}

-- what other crates prove, and what this one does of stages
pub record RunLaws : Type 0 where
  pub stages : StageLaws
  pub history : HistoryLaw
  pub live : ListsAreLive
  pub answers : AnswersAreEvaluation
  pub hits : HitsAreRight
  pub room : TablesHaveRoom
  pub rest : RestIsNewest

module _ (laws : RunLaws) (policy : Policy) (settings : Settings) where
  -- ---- behind a run

  module _ (es : List Event) (w : World) (run : IsWorldRun policy settings es w) where
    pub linked : AreLinked (λ c. marks_of c (turns_of es)) w
    linked = run_linked laws.stages (λ c. no_marks) (opening_world policy settings) es w (opening_linked laws.stages policy settings run.ranges) run.runs

    pub legal : IsLegal (turns_of es) w.machine
    legal = record { policy = policy; settings = settings; ranges = run.ranges; leads = laws.history policy settings es w run }

    pub ready_placed : (c : ℕ) (s : Session) (l : Link) → IsReadyAt c w s l → IsPlaced c w.machine (marks_of c (turns_of es)) s l
    ready_placed c s l ready = placed (λ d. marks_of d (turns_of es)) w linked c s l ready.session ready.link

    has_room : HasRoom w
    has_room c s l ready = laws.room c w.machine (marks_of c (turns_of es)) s l (ready_placed c s l ready) ready.ready

    -- a look-up at the switch of a ready session
    look_right : (c : ℕ) (k : Key) (r : Rule) (v : World) → ActsAt c (Look k (Some r)) w v → (s : Session) (l : Link) → IsReadyAt c w s l
        → IsRightHit w.machine (since_by s (state_number w.machine) (marks_of c (turns_of es))) l.switch.dpid k r
    look_right c k r v acts s l ready =
        let (t, looks, same) = acts.does in
        laws.hits c w.machine (marks_of c (turns_of es)) s l (ready_placed c s l ready) ready.ready k r looks.valid
        (subst (λ (x : Link). MayChoose x.switch.table k r) (same_Some acts.link l (sym acts.there ∙ ready.link)) looks.chosen)

    hits_right : (step : WorldStep) (v : World) → Goes w step v → IsRightLook (turns_of es) step w
    hits_right (Acts c (Look k (Some r))) v acts = look_right c k r v acts
    hits_right step v goes = tt

    complete : (c : ℕ) (s : Session) (l : Link) → IsReadyAt c w s l → s.under_way ≡ None → IsPermutation (rules_of (scratch (live (turns_of es) l.switch.dpid))) l.switch.table
    complete c s l ready none =
        let p = ready_placed c s l ready in
        subst (λ switch. IsPermutation (rules_of (scratch (live (turns_of es) switch))) l.switch.table) (sym (p.linked.live (ready_is_live c w.machine s p.sound p.there ready.ready)).dpid)
        (subst (λ traces. IsPermutation (rules_of (scratch traces)) l.switch.table) (laws.live (turns_of es) w.machine legal (switch_of s))
        (laws.rest c w.machine (marks_of c (turns_of es)) s l p ready.ready none))

  -- ---- at an event

  answers_right : (ts : List Turn) (step : WorldStep) (m n : State) → IsLegal (ts ++ (turn_in step m n ++ [])) n → AreRightAnswers ts (turn_in step m n ++ [])
  answers_right ts (Enters entry reply) m n is_legal = laws.answers ts (record { before = m; entry = entry; reply = reply; behind = n }) n is_legal
  answers_right ts (Acts c step) m n is_legal = tt

  right_at : (es before later : List Event) (e : Event) (w : World) → IsWorldRun policy settings es w → es ≡ before ++ e ∷ later → IsRightEvent before e
  right_at es before later e w run same = record {
    hits = hits_right before e.before ahead e.step e.behind to.happens;
    answers = answers_right (turns_of before) e.step e.before.machine e.behind.machine
        (subst (λ ts. IsLegal ts e.behind.machine) (flat_map-append (λ (x : Event). turn_in x.step x.before.machine x.behind.machine) before (e ∷ [])) (legal (before ++ e ∷ []) e.behind behind));
    room = has_room (before ++ e ∷ []) e.behind behind;
  }
    where
      to : GoesTo (opening_world policy settings) before e
      to = runs_to (opening_world policy settings) before e later w (subst (λ (xs : List Event). Runs (opening_world policy settings) xs w) same run.runs)

      ahead : IsWorldRun policy settings before e.before
      ahead = record { ranges = run.ranges; runs = to.ahead }

      behind : IsWorldRun policy settings (before ++ e ∷ []) e.behind
      behind = record { ranges = run.ranges; runs = to.behind }

pub every_run_is_right : RunLaws → EveryRunIsRight
every_run_is_right laws policy settings es w run before later e same = right_at laws policy settings es before later e w run same

pub tables_are_complete : RunLaws → TablesAreComplete
tables_are_complete laws policy settings es w run c s l ready none = complete laws policy settings es w run c s l ready none

pub sessions_are_placed : RunLaws → SessionsArePlaced
sessions_are_placed laws policy settings es w run c s there =
    let h = (linked laws policy settings es w run).sessions c s there in
    record {
      link = h.link;
      there = h.there;
      placed = placed (λ d. marks_of d (turns_of es)) w (linked laws policy settings es w run) c s h.link there h.there;
    }
