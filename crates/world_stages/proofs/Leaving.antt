-- A part of an update leaves, where nothing is under way: in which stage the session is then.
use Rattle.std.proofs.Common.{◌≡◌, ◌⊎◌, ◌+◌, Bool, true, false, List, [], ◌∷◌, ◌++◌, refl, sym, subst, inl, inr}
use Rattle.std.specs.Prelude.{None, if◌then◌else◌}
use Rattle.std.specs.List.Sorted.{IsPermutation}
use Rattle.maple_base.specs.declared.decision.Rule.{Rule}
use Rattle.maple_base.specs.declared.decision.TableMod.{TableMod}
use Rattle.maple_base.specs.declared.decision.TableMod.TheVariants.{DeleteAll}
use Rattle.maple_base.specs.RuleLists.{Rules}
use Rattle.update_plan.specs.Batches.{rules_of, no_rules, is_over, origin, first_adds, first_deletes, second_adds, second_deletes, IsFirst, IsSecond}
use Rattle.update_plan.specs.Laws.{InFirst, InSecond, StepsKeep, StepLaw, SentLaw}
use Rattle.update_plan.proofs.Members.{none_in}
use Rattle.switch_session.specs.declared.part.Part.{Part}
use Rattle.switch_session.specs.declared.part.Part.TheVariants.{Clearing, Batch}
use Rattle.switch_session.specs.declared.part.UnderWay.{UnderWay}
use Rattle.switch_session.specs.Lists.{Lists}
use Rattle.switch_session.specs.Parts.{Update, is_clearing, barrier_of, batch_part, parts_of}
use Rattle.switch_session.specs.Sessions.{leaves, starts}
use Rattle.machine_steps.specs.Machine.{Session}
use Rattle.world_steps.specs.Worlds.{Link}
use Rattle.world_stages.specs.Flights.{IsClear}
use Rattle.world_stages.specs.FlightLaws.{PartsDepart}
use Rattle.world_stages.specs.Stages.{IsGuarded, IsGuardedByEither, IsClearing, GoesOn, IsInPart, IsWiping}
use Rattle.world_stages.proofs.Steady.{rules_guard}
use Rattle.world_stages.specs.Updates.{IsSteady, HasStarted, CanStart, UpdatesStart}
use Rattle.world_stages.proofs.Batches.{none_done}
use Rattle.world_stages.proofs.Moved.{clear_moved, numbered_moved}

-- what is known of plans and of sending
pub record AreKnown : Type 0 where
  pub step : StepLaw
  pub sent : SentLaw
  pub departs : PartsDepart

-- the part that is under way once it left
abbrev pub under : Lists → Part → Session → UnderWay
under lists part s = record { clears = is_clearing part; barrier = barrier_of s.used part; lists = lists }

-- these parts lead on: the first one leaves into a stage, or there is none, and the table has the rules at which the update aims
abbrev pub LeadOn : List Part → Lists → Session → Link → Type 0
LeadOn [] lists s l = IsPermutation (rules_of lists.to) l.switch.table
LeadOn (part ∷ parts) lists s l = IsInPart (under lists part s) (leaves lists (part ∷ parts) s) l

goes_noisy : (quiet : Bool) (parts : List Part) (part : UnderWay) (s : Session) → quiet ≡ false → s.to_come ≡ parts → s.target ≡ part.lists.to → GoesOn quiet parts part s
goes_noisy false parts part s e to_come target = (to_come, target)
goes_noisy true parts part s e to_come target = absurd (cc)

-- a clearing leaves, of a table of which this holds
pub clearing_departs : PartsDepart → (Before : List Rule → Type 0) (lists : Lists) (parts : List Part) (s : Session) (l : Link) → IsClear s l → Before l.switch.table
    → IsClearing Before (under lists Clearing s) (leaves lists (Clearing ∷ parts) s) l
clearing_departs departs Before lists parts s l clear before = record {
  clears = refl;
  first = s.used + 1;
  numbers = refl;
  done = [];
  flight = (departs lists Clearing parts false s l clear).flight;
  table = inl before;
  before = λ e. before;
  cleared = λ c. absurd (none_in DeleteAll c);
}

-- the session sends an update between these lists, and nothing of it is under way
pub record IsFree (s : Session) (l : Link) (lists : Lists) : Type 0 where
  pub ready : s.ready ≡ true
  pub noisy : s.quiet ≡ false
  pub target : s.target ≡ lists.to
  pub clear : IsClear s l
  pub from : IsSteady s.capacity lists.from
  pub to : IsSteady s.capacity lists.to

abbrev pub origin_of : Session → Lists → Rules
origin_of s lists = origin s.capacity lists.from lists.to

module _ (known : AreKnown) (s : Session) (l : Link) (lists : Lists) (free : IsFree s l lists) where
  keeps : StepsKeep s.capacity (origin_of s lists) lists.to
  keeps = known.step s.capacity lists.from lists.to free.from.target free.to.target

  -- the second half: its second batch, if there is one
  pub second_leads : (second : List TableMod) → IsSecond (origin_of s lists) lists.to second → InSecond (origin_of s lists) lists.to [] l.switch.table → LeadOn (batch_part second) lists s l
  second_leads [] is_second table =
      keeps.ends [] l.switch.table (none_done known.sent (second_adds (origin_of s lists) lists.to) (second_deletes (origin_of s lists) lists.to) is_second) table
  second_leads (m ∷ ms) is_second table = inr (inr (record {
    ready = free.ready;
    clears = refl;
    changes = m ∷ ms;
    is_second = is_second;
    goes_on = goes_noisy s.quiet [] (under lists (Batch (m ∷ ms)) s) (leaves lists (Batch (m ∷ ms) ∷ []) s) free.noisy refl free.target;
    first = s.used + 1;
    done = [];
    flight = (known.departs lists (Batch (m ∷ ms)) [] s.quiet s l free.clear).flight;
    table = table;
  }))

  -- both batches, or what there is of them
  pub batches_lead : (first second : List TableMod) → IsFirst (origin_of s lists) lists.to first → IsSecond (origin_of s lists) lists.to second → InFirst (origin_of s lists) lists.to [] l.switch.table
      → LeadOn (batch_part first ++ batch_part second) lists s l
  batches_lead [] second is_first is_second table =
      second_leads second is_second
      (keeps.second_begins [] l.switch.table (none_done known.sent (first_adds (origin_of s lists) lists.to) (first_deletes (origin_of s lists) lists.to) is_first) table)
  batches_lead (m ∷ ms) second is_first is_second table = inr (inl (record {
    ready = free.ready;
    clears = refl;
    changes = m ∷ ms;
    second = second;
    is_first = is_first;
    is_second = is_second;
    goes_on = goes_noisy s.quiet (batch_part second) (under lists (Batch (m ∷ ms)) s) (leaves lists (Batch (m ∷ ms) ∷ batch_part second) s) free.noisy refl free.target;
    first = s.used + 1;
    done = [];
    flight = (known.departs lists (Batch (m ∷ ms)) (batch_part second) s.quiet s l free.clear).flight;
    table = table;
  }))

  -- ahead of them a clearing, where there is no room
  pub clearing_leads : is_over s.capacity lists.from lists.to ≡ true → (first second : List TableMod) → IsFirst no_rules lists.to first → IsSecond no_rules lists.to second
      → IsPermutation (rules_of lists.from) l.switch.table → LeadOn (Clearing ∷ (batch_part first ++ batch_part second)) lists s l
  clearing_leads over first second is_first is_second table = inl (record {
    ready = free.ready;
    quiet = free.noisy;
    over = over;
    first = first;
    second = second;
    is_first = is_first;
    is_second = is_second;
    goes_on = (refl, free.target);
    clearing =
        clearing_departs known.departs (IsGuarded s.capacity lists.from) lists (batch_part first ++ batch_part second) s l free.clear
        (rules_guard s.capacity lists.from l.switch.table free.from.target free.from.lasting table);
  })

  -- the parts of an update, where the table has the rules from which it leads
  pub parts_lead : (first second : List TableMod) → IsFirst (origin_of s lists) lists.to first → IsSecond (origin_of s lists) lists.to second → IsPermutation (rules_of lists.from) l.switch.table
      → LeadOn (parts_of (is_over s.capacity lists.from lists.to) first second) lists s l
  parts_lead first second is_first is_second table = go (is_over s.capacity lists.from lists.to) refl
    where
      go : (over : Bool) → is_over s.capacity lists.from lists.to ≡ over → LeadOn (parts_of over first second) lists s l
      go true e =
          clearing_leads e first second
          (subst (λ b. IsFirst (if b then no_rules else lists.from) lists.to first) e is_first)
          (subst (λ b. IsSecond (if b then no_rules else lists.from) lists.to second) e is_second) table
      go false e =
          batches_lead first second is_first is_second
          (keeps.first_begins l.switch.table (subst (λ b. IsPermutation (rules_of (if b then no_rules else lists.from)) l.switch.table) (sym e) table))

-- the clearing behind an error
pub wiping_leads : PartsDepart → (s : Session) (l : Link) (lists : Lists) → s.ready ≡ true → s.quiet ≡ true → s.target ≡ no_rules → IsClear s l
    → IsGuarded s.capacity (origin_of s lists) l.switch.table ⊎ IsGuarded s.capacity lists.to l.switch.table → IsWiping (under lists Clearing s) (leaves lists (Clearing ∷ []) s) l
wiping_leads departs s l lists ready quiet target clear guarded = record {
  ready = ready;
  quiet = quiet;
  target = target;
  to_come = refl;
  clearing = clearing_departs departs (IsGuardedByEither s.capacity (under lists Clearing s)) lists [] s l clear guarded;
}

-- ---- an update starts

-- the session once an update to these rules starts, ahead of its parts
abbrev pub aiming : Rules → Session → Session
aiming X s = record s { target = X; next = None }

abbrev lists_of : Session → Update → Lists
lists_of s u = record { from = s.target; to = u.rules }

module _ (known : AreKnown) (s : Session) (l : Link) (u : Update) (can : CanStart s l u) where
  clear : IsClear (aiming u.rules s) l
  clear = clear_moved s (aiming u.rules s) l refl can.clear

  lead : LeadOn u.parts (lists_of s u) (aiming u.rules s) l
  lead =
      subst (λ parts. LeadOn parts (lists_of s u) (aiming u.rules s) l) (sym can.planned.is)
      (parts_lead known (aiming u.rules s) l (lists_of s u) free can.planned.first can.planned.second can.planned.is_first can.planned.is_second can.table)
    where
      free : IsFree (aiming u.rules s) l (lists_of s u)
      free = record { ready = can.ready; noisy = can.noisy; target = refl; clear = clear; from = can.from; to = can.to }

  -- its parts, if there are any
  started : (parts : List Part) → LeadOn parts (lists_of s u) (aiming u.rules s) l
      → HasStarted s.target u.rules (leaves (lists_of s u) parts (aiming u.rules s)) l
  started [] table = record {
    stage = record {
      ready = can.ready;
      way = clear_moved s (record (aiming u.rules s) { under_way = None; to_come = [] }) l refl can.clear;
      to_come = refl;
      next = refl;
      hushed = λ e. let noisy = can.noisy in absurd (cc);
      table = table;
    };
    numbered = numbered_moved s (record (aiming u.rules s) { under_way = None; to_come = [] }) l refl refl refl can.numbered;
    target = refl;
    next = refl;
  }
  started (part ∷ parts) led = record {
    stage = (refl, led);
    numbered = (known.departs (lists_of s u) part parts s.quiet (aiming u.rules s) l clear).numbered (numbered_moved s (aiming u.rules s) l refl refl refl can.numbered);
    target = refl;
    next = refl;
  }

  pub update_starts : HasStarted s.target u.rules (starts u s) l
  update_starts = started u.parts lead

pub updates_start : AreKnown → UpdatesStart
updates_start known s l u can = update_starts known s l u can
