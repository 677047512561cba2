-- What a turn does to the numbers that are marked at a session.
use Rattle.std.proofs.Common.{◌≡◌, ℕ, ◌≤◌, true, false, refl, subst, ⊎_elim, arith}
use Rattle.std.specs.Prelude.{Option, Some, None, ◌==◌}
use Rattle.std.proofs.lemmas.Bool.{and_parts, cases_Bool}
use Rattle.switch_session.specs.declared.part.UnderWay.{UnderWay}
use Rattle.machine_steps.specs.Machine.{Session, State, is_live, is_of, is_open, state_number}
use Rattle.machine_steps.specs.Steps.{switch_of}
use Rattle.machine_steps.proofs.Sound.Zipped.{find_passes}
use Rattle.world_steps.specs.Since.{Marks, base_behind, marked_by, since_by, whole_behind}
use Rattle.world_steps.specs.Worlds.{Link}
use Rattle.world_stages.specs.StageLaws.{IsPlaced}
use Rattle.world_stages.specs.Stages.{AreSpanned, IsInStage, IsLiveRight}
use Rattle.world_stages.proofs.Steady.{in_order}

-- of a session of which a part is under way the base, the state of the last aim and the one now stand in this order
pub record AreOrdered (now : ℕ) (marks : Marks) (s : Session) : Type 0 where
  pub until_now : marks.base ≤ now
  pub base : s.quiet ≡ false → marks.base ≤ marks.aimed
  pub aimed : s.quiet ≡ false → marks.aimed ≤ now
  pub hushed : s.quiet ≡ true → s.next ≡ None

pub ordered : (c : ℕ) (m : State) (marks : Marks) (s : Session) (l : Link) (part : UnderWay) → IsPlaced c m marks s l → s.under_way ≡ Some part → AreOrdered (state_number m) marks s
ordered c m marks s l part placed way = record {
  until_now = (let after = spanned.from.since_then in let before = spanned.from.until_now in omega arith);
  base = λ noisy. (right.aimed noisy).base;
  aimed = λ noisy. (right.aimed noisy).until_now;
  hushed = right.hushed;
}
  where
    opened : is_open s ≡ true
    opened = (and_parts (s.connection == c) (is_open s) (find_passes (is_of c) m.sessions s placed.there)).1

    live : is_live s ≡ true
    live = ⊎_elim (λ e. e) (λ e. let early = ((in_order c m s placed.sound placed.there).early opened e).under_way in absurd (cc)) (cases_Bool (is_live s))

    right : IsLiveRight m marks s l
    right = placed.linked.live live

    spanned : AreSpanned m marks.base (switch_of s) part
    spanned = (subst (λ way. IsInStage way m marks s l) way right.stage).0

-- where nothing is under way since is now
pub since_at_rest : (s : Session) (now : ℕ) (marks : Marks) → s.under_way ≡ None → since_by s now marks ≡ now
since_at_rest s now marks rest = rw rest

-- ---- a turn of one session, in which s became t

module _ (s t : Session) (old new : ℕ) (marks : Marks) (later : old ≤ new) (are : (part : UnderWay) → s.under_way ≡ Some part → AreOrdered old marks s) where
  -- an update that starts at rest has the state before it as base, and while a part is under way the base doesn't fall
  rest_base : s.under_way ≡ None → old ≤ base_behind s t old new marks
  rest_base rest = grind arith

  base_stays : (part : UnderWay) → s.under_way ≡ Some part → marks.base ≤ base_behind s t old new marks
  base_stays part running = let order = are part running in grind arith

  -- nor does since
  pub since_stays : since_by s old marks ≤ since_by t new (marked_by (Some s) (Some t) old new marks)
  since_stays = go s.under_way refl
    where
      go : (way : Option UnderWay) → s.under_way ≡ way → since_by s old marks ≤ since_by t new (marked_by (Some s) (Some t) old new marks)
      go None rest = let base = rest_base rest in grind arith
      go (Some part) running = let base = base_stays part running in let order = are part running in grind arith

  -- the state of what was acknowledged whole last isn't past now, nor past the base of a part that is under way then
  module _ (whole : ℕ) (before : whole ≤ old) where
    pub whole_stays : whole_behind s t marks whole ≤ new
    whole_stays = go s.under_way refl
      where
        go : (way : Option UnderWay) → s.under_way ≡ way → whole_behind s t marks whole ≤ new
        go None rest = grind arith
        go (Some part) running = let order = are part running in grind arith

    pub whole_below : ((part : UnderWay) → s.under_way ≡ Some part → whole ≤ marks.base) → (next : UnderWay) → t.under_way ≡ Some next
        → whole_behind s t marks whole ≤ base_behind s t old new marks
    whole_below below next runs = go s.under_way refl
      where
        go : (way : Option UnderWay) → s.under_way ≡ way → whole_behind s t marks whole ≤ base_behind s t old new marks
        go None rest = let base = rest_base rest in grind arith
        go (Some part) running = let base = base_stays part running in let under = below part running in grind arith
