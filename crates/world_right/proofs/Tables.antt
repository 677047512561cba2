-- In each stage of a ready session the switch's table is shielded by rules that are backed in a state from since to now, or by none, and it has room.
use Rattle.std.proofs.Common.{◌≡◌, ◌⊎◌, ℕ, ◌≤◌, Bool, true, false, List, [], length, sym, ap, subst, inl, inr, ⊎_elim, arith}
use Rattle.std.specs.Prelude.{Contains, Option, Some, None, ◌==◌, is_some, if◌then◌else◌}
use Rattle.std.specs.List.Sorted.{IsPermutation}
use Rattle.std.proofs.lemmas.Bool.{cases_Bool, and_parts}
use Rattle.maple_base.specs.declared.decision.Rule.{Rule}
use Rattle.maple_base.specs.RuleLists.{Rules}
use Rattle.flow_table.specs.Shielding.{IsShieldedBy}
use Rattle.update_plan.specs.Batches.{rules_of, no_rules, is_over, IsTarget}
use Rattle.update_plan.specs.Laws.{IsSafe, StepsKeep, StepLaw}
use Rattle.update_plan.proofs.Members.{none_in}
use Rattle.switch_session.specs.declared.part.UnderWay.{UnderWay}
use Rattle.switch_traces.proofs.Fit.{rules_are_list, none_are_fit}
use Rattle.machine_steps.specs.Machine.{Session, State, is_live, is_of, is_open, session_at, state_number}
use Rattle.machine_steps.specs.Sound.{HeadsRight, IsInOrder, IsSound}
use Rattle.machine_steps.specs.Steps.{switch_of}
use Rattle.machine_steps.proofs.Sound.Zipped.{find_passes}
use Rattle.world_steps.specs.Since.{Marks, since_by}
use Rattle.world_steps.specs.Worlds.{Link}
use Rattle.world_stages.specs.Backed.{IsBackedSince}
use Rattle.world_stages.specs.StageLaws.{IsPlaced}
use Rattle.world_stages.specs.Stages.{IsGuarded, IsGuardedByEither, IsClearing, IsFirstClearing, IsAtRest, IsInPart, IsWiping, AreSpanned, IsInStage, IsLiveRight, start_of}
use Rattle.world_stages.proofs.Steady.{backed_lasting, backed_target, heads_alone, in_order, rules_guard}

-- which list shields the table, which has room
pub record IsHeld (m : State) (since switch : ℕ) (table : List Rule) : Type 0 where
  pub shielded : ((X : Rules) × IsBackedSince m since switch X × IsShieldedBy X table) ⊎ IsShieldedBy no_rules table
  pub room : length table ≤ m.settings.capacity

-- an open session of a sound machine that is ready is live
module _ (c : ℕ) (m : State) (s : Session) (sound : IsSound m) (there : session_at c m ≡ Some s) where
  order : IsInOrder m s
  order = in_order c m s sound there

  pub ready_is_live : s.ready ≡ true → is_live s ≡ true
  ready_is_live ready = ⊎_elim (λ e. e) (λ e. let early = (order.early opened e).ready in absurd (cc)) (cases_Bool (is_live s))
    where
      opened : is_open s ≡ true
      opened = (and_parts (s.connection == c) (is_open s) (find_passes (is_of c) m.sessions s there)).1

  pub heads_right : s.ready ≡ true → HeadsRight m s
  heads_right ready = order.live (ready_is_live ready)

module _ (step : StepLaw) (m : State) where
  -- ---- tables that are held

  module _ (since switch : ℕ) (table : List Rule) where
    held : (X : Rules) → IsBackedSince m since switch X → IsSafe m.settings.capacity X table → IsHeld m since switch table
    held X b safe = record { shielded = inl (X, b, safe.shielded); room = safe.room }

    held_bare : IsSafe m.settings.capacity no_rules table → IsHeld m since switch table
    held_bare safe = record { shielded = inr safe.shielded; room = safe.room }

    held_empty : table ≡ [] → IsHeld m since switch table
    held_empty e = record { shielded = inr (record { barriers = λ b c. absurd (none_in b c); rest = λ r c. absurd (none_in r (subst (λ t. Contains t r) e c)) }); room = omega (arith, ap length e) }

  -- ---- rest

  module _ (marks : Marks) (s : Session) (l : Link) (same : s.capacity ≡ m.settings.capacity) where
    rest_held : IsLiveRight m marks s l → IsAtRest s l → IsHeld m (state_number m) (switch_of s) l.switch.table
    rest_held right rest = ⊎_elim hushed noisy (cases_Bool s.quiet)
      where
        hushed : s.quiet ≡ true → IsHeld m (state_number m) (switch_of s) l.switch.table
        hushed e =
            held_bare (state_number m) (switch_of s) l.switch.table
            (rules_guard m.settings.capacity no_rules l.switch.table (rules_are_list m.settings.capacity [] no_rules (none_are_fit.fit m.settings.capacity) none_are_fit.rules).target tt
            (subst (λ (X : Rules). IsPermutation (rules_of X) l.switch.table) (rest.hushed e) rest.table)).safe

        noisy : s.quiet ≡ false → IsHeld m (state_number m) (switch_of s) l.switch.table
        noisy e =
            let aimed = right.aimed e in
            let now : marks.aimed ≡ state_number m = aimed.fresh (heads_alone s rest.next) in
            held (state_number m) (switch_of s) l.switch.table s.target
            (record { state = marks.aimed; since_then = omega (arith, now); until_now = aimed.until_now; backed = aimed.backed })
            (rules_guard m.settings.capacity s.target l.switch.table (backed_target aimed.backed) (backed_lasting aimed.backed) rest.table).safe

    -- ---- a part of an update

    module _ (part : UnderWay) (spans : AreSpanned m marks.base (switch_of s) part) where
      abbrev Held : List Rule → Type 0
      Held table = IsHeld m marks.base (switch_of s) table

      steps : StepsKeep s.capacity (start_of s.capacity part) part.lists.to
      steps = step s.capacity part.lists.from part.lists.to (own part.lists.from spans.from) (own part.lists.to spans.to)
        where
          own : (X : Rules) → IsBackedSince m marks.base (switch_of s) X → IsTarget s.capacity X
          own X b = subst (λ capacity. IsTarget capacity X) (sym same) (backed_target b.backed)

      held_by : (X : Rules) → IsBackedSince m marks.base (switch_of s) X → (table : List Rule) → IsSafe s.capacity X table → Held table
      held_by X b table safe = held marks.base (switch_of s) table X b (subst (λ capacity. IsSafe capacity X table) same safe)

      held_by_start : (table : List Rule) → IsSafe s.capacity (start_of s.capacity part) table → Held table
      held_by_start table safe = go (is_over s.capacity part.lists.from part.lists.to) safe
        where
          go : (over : Bool) → IsSafe s.capacity (if over then no_rules else part.lists.from) table → Held table
          go true h = held_bare marks.base (switch_of s) table (subst (λ capacity. IsSafe capacity no_rules table) same h)
          go false h = held_by part.lists.from spans.from table h

      -- a table that is cleared
      clearing_held : (Before : List Rule → Type 0) → ((table : List Rule) → Before table → Held table) → IsClearing Before part s l → Held l.switch.table
      clearing_held Before before clearing = ⊎_elim (before l.switch.table) (held_empty marks.base (switch_of s) l.switch.table) clearing.table

      either_held : (table : List Rule) → IsGuardedByEither s.capacity part table → Held table
      either_held table (inl h) = held_by_start table h.safe
      either_held table (inr h) = held_by part.lists.to spans.to table h.safe

      part_held : IsInPart part s l → Held l.switch.table
      part_held (inl h) = clearing_held (IsGuarded s.capacity part.lists.from) (λ table guarded. held_by part.lists.from spans.from table guarded.safe) h.clearing
      part_held (inr (inl h)) = held_by_start l.switch.table (steps.first_safe h.done l.switch.table h.table)
      part_held (inr (inr h)) = held_by part.lists.to spans.to l.switch.table (steps.second_safe h.done l.switch.table h.table)

      under_way_held : s.ready ≡ true → IsFirstClearing part s l ⊎ (IsInPart part s l ⊎ IsWiping part s l) → Held l.switch.table
      under_way_held ready (inl h) = let e = h.ready in absurd (cc)
      under_way_held ready (inr (inl h)) = part_held h
      under_way_held ready (inr (inr h)) = clearing_held (IsGuardedByEither s.capacity part) either_held h.clearing

    stage_held : (way : Option UnderWay) → s.ready ≡ true → IsLiveRight m marks s l → IsInStage way m marks s l
        → IsHeld m (if is_some way then marks.base else state_number m) (switch_of s) l.switch.table
    stage_held None ready right rest = rest_held right rest
    stage_held (Some part) ready right stage = under_way_held part stage.0 ready stage.1

  pub placed_held : (c : ℕ) (marks : Marks) (s : Session) (l : Link) → IsPlaced c m marks s l → s.ready ≡ true
      → IsHeld m (since_by s (state_number m) marks) (switch_of s) l.switch.table
  placed_held c marks s l placed ready =
      let right = placed.linked.live (ready_is_live c m s placed.sound placed.there ready) in
      stage_held marks s l (heads_right c m s placed.sound placed.there ready).capacity s.under_way ready right right.stage
