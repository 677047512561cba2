-- The four stages of a live session: what its switch's table may be while what is under way.
use Rattle.std.specs.Prelude.{◌≡◌, ◌⊎◌, ℕ, ◌+◌, ◌≤◌, Bool, true, false, List, [], ◌∷◌, ◌++◌, Option, Some, None, IfSome, Contains}
use Rattle.std.specs.List.{AllByRecursion}
use Rattle.std.specs.List.Sorted.{IsPermutation}
use Rattle.maple_base.specs.declared.decision.Rule.{Rule}
use Rattle.maple_base.specs.declared.decision.TableMod.{TableMod}
use Rattle.maple_base.specs.declared.decision.TableMod.TheVariants.{DeleteAll}
use Rattle.maple_base.specs.RuleLists.{Rules}
use Rattle.update_plan.specs.Batches.{rules_of, no_rules, is_over, origin, IsFirst, IsSecond}
use Rattle.update_plan.specs.Laws.{IsSafe, InFirst, InSecond}
use Rattle.switch_session.specs.declared.part.Part.{Part}
use Rattle.switch_session.specs.declared.part.Part.TheVariants.{Clearing}
use Rattle.switch_session.specs.declared.part.UnderWay.{UnderWay}
use Rattle.switch_session.specs.Parts.{Update, AreParts, batch_part}
use Rattle.machine_steps.specs.Machine.{Session, State, is_live, state_number}
use Rattle.machine_steps.specs.Steps.{switch_of}
use Rattle.world_steps.specs.Worlds.{Link}
use Rattle.world_steps.specs.Since.{Marks, heads_for_target}
use Rattle.world_stages.specs.Flights.{line_of, back_of, AreNumbered, TellsItself, IsClear, IsInFlight}
use Rattle.world_stages.specs.Backed.{IsBacked, IsBackedSince}

-- ---- tables

abbrev pub Anything : List Rule → Type 0
Anything table = Unit {0}

-- no rule goes where no packet comes for a time
abbrev pub AreLasting : List Rule → Type 0
AreLasting rules = AllByRecursion (λ (r : Rule). r.idle ≡ 0) rules

-- the table has the barriers of a list, of facts only such of the list, and no more rules than there is room for
pub record IsGuarded (capacity : ℕ) (X : Rules) (table : List Rule) : Type 0 where
  pub safe : IsSafe capacity X table
  pub lasting : AreLasting table

-- from which list the batches of an update start: the empty one where the table is cleared first
abbrev pub start_of : ℕ → UnderWay → Rules
start_of capacity part = origin capacity part.lists.from part.lists.to

-- either of the lists of an update that was broken off guards the table
abbrev pub IsGuardedByEither : ℕ → UnderWay → List Rule → Type 0
IsGuardedByEither capacity part table = IsGuarded capacity (start_of capacity part) table ⊎ IsGuarded capacity part.lists.to table

-- ---- parts

-- a clearing: its DELETE and its barrier have numbers that follow each other; once the DELETE was carried out the table is empty, and until then, also where it
-- was refused, it is as it was before
pub record IsClearing (Before : List Rule → Type 0) (part : UnderWay) (s : Session) (l : Link) : Type 0 where
  pub clears : part.clears ≡ true
  pub first : ℕ
  pub numbers : first + 1 ≡ part.barrier
  pub done : List TableMod
  pub flight : IsInFlight first part.barrier (DeleteAll ∷ []) false done (line_of s l) (back_of l)
  pub table : Before l.switch.table ⊎ (l.switch.table ≡ [])
  pub before : done ≡ [] → Before l.switch.table
  pub cleared : Contains done DeleteAll → l.switch.table ≡ []

-- what is to leave behind a part, and where the session heads for; behind an error that is a clearing, and no rules
abbrev pub GoesOn : Bool → List Part → UnderWay → Session → Type 0
GoesOn false parts part s = (s.to_come ≡ parts) × (s.target ≡ part.lists.to)
GoesOn true parts part s = (s.to_come ≡ Clearing ∷ []) × (s.target ≡ no_rules)

-- ---- the stages

-- the first clearing: the session isn't ready, and the table is any one until it was cleared
pub record IsFirstClearing (part : UnderWay) (s : Session) (l : Link) : Type 0 where
  pub ready : s.ready ≡ false
  pub quiet : s.quiet ≡ false
  pub target : s.target ≡ no_rules
  pub to_come : s.to_come ≡ []
  pub clearing : IsClearing Anything part s l

-- rest: nothing is under way, and the table is what the session was led to
pub record IsAtRest (s : Session) (l : Link) : Type 0 where
  pub ready : s.ready ≡ true
  pub way : IsClear s l
  pub to_come : s.to_come ≡ []
  pub next : s.next ≡ None
  pub hushed : s.quiet ≡ true → s.target ≡ no_rules
  pub table : IsPermutation (rules_of s.target) l.switch.table

-- an update's own clearing, where the switch has no room for its batches: these lead from the empty list
pub record IsUpdateClearing (part : UnderWay) (s : Session) (l : Link) : Type 0 where
  pub ready : s.ready ≡ true
  pub quiet : s.quiet ≡ false
  pub over : is_over s.capacity part.lists.from part.lists.to ≡ true
  pub first : List TableMod
  pub second : List TableMod
  pub is_first : IsFirst no_rules part.lists.to first
  pub is_second : IsSecond no_rules part.lists.to second
  pub goes_on : GoesOn false (batch_part first ++ batch_part second) part s
  pub clearing : IsClearing (IsGuarded s.capacity part.lists.from) part s l

-- the first batch of an update: the table is what these changes of it leave
pub record IsInFirst (part : UnderWay) (s : Session) (l : Link) : Type 0 where
  pub ready : s.ready ≡ true
  pub clears : part.clears ≡ false
  pub changes : List TableMod
  pub second : List TableMod
  pub is_first : IsFirst (start_of s.capacity part) part.lists.to changes
  pub is_second : IsSecond (start_of s.capacity part) part.lists.to second
  pub goes_on : GoesOn s.quiet (batch_part second) part s
  pub first : ℕ
  pub done : List TableMod
  pub flight : IsInFlight first part.barrier changes s.quiet done (line_of s l) (back_of l)
  pub table : InFirst (start_of s.capacity part) part.lists.to done l.switch.table

-- its second batch
pub record IsInSecond (part : UnderWay) (s : Session) (l : Link) : Type 0 where
  pub ready : s.ready ≡ true
  pub clears : part.clears ≡ false
  pub changes : List TableMod
  pub is_second : IsSecond (start_of s.capacity part) part.lists.to changes
  pub goes_on : GoesOn s.quiet [] part s
  pub first : ℕ
  pub done : List TableMod
  pub flight : IsInFlight first part.barrier changes s.quiet done (line_of s l) (back_of l)
  pub table : InSecond (start_of s.capacity part) part.lists.to done l.switch.table

-- a part of an update
abbrev pub IsInPart : UnderWay → Session → Link → Type 0
IsInPart part s l = IsUpdateClearing part s l ⊎ (IsInFirst part s l ⊎ IsInSecond part s l)

-- the clearing behind an error: the session is quiet, and until the table was cleared it is guarded by one of the lists of the update that was broken off
pub record IsWiping (part : UnderWay) (s : Session) (l : Link) : Type 0 where
  pub ready : s.ready ≡ true
  pub quiet : s.quiet ≡ true
  pub target : s.target ≡ no_rules
  pub to_come : s.to_come ≡ []
  pub clearing : IsClearing (IsGuardedByEither s.capacity part) part s l

-- the lists from and to which the running update leads are each backed in a state from its base to now
pub record AreSpanned (m : State) (base switch : ℕ) (part : UnderWay) : Type 0 where
  pub from : IsBackedSince m base switch part.lists.from
  pub to : IsBackedSince m base switch part.lists.to

-- the stage of a live session of which this part is under way, or none
abbrev pub IsInStage : Option UnderWay → State → Marks → Session → Link → Type 0
IsInStage None m marks s l = IsAtRest s l
IsInStage (Some part) m marks s l = AreSpanned m marks.base (switch_of s) part × (IsFirstClearing part s l ⊎ (IsInPart part s l ⊎ IsWiping part s l))

-- ---- sessions

-- an update that waits was planned from the list that the running one leads to
abbrev pub IsPlanned : Session → Update → Type 0
IsPlanned s u = AreParts s.capacity s.target u.rules u.parts

-- the list that the running update leads to is backed in the last state in which the session was aimed at it; where the session heads for it, that is now
pub record IsAimed (m : State) (marks : Marks) (s : Session) : Type 0 where
  pub base : marks.base ≤ marks.aimed
  pub until_now : marks.aimed ≤ state_number m
  pub backed : IsBacked m marks.aimed (switch_of s) s.target
  pub fresh : heads_for_target s ≡ true → marks.aimed ≡ state_number m

pub record IsLiveRight (m : State) (marks : Marks) (s : Session) (l : Link) : Type 0 where
  pub dpid : l.switch.dpid ≡ switch_of s
  pub stage : IsInStage s.under_way m marks s l
  pub next : IfSome s.next (IsPlanned s)
  pub hushed : s.quiet ≡ true → s.next ≡ None
  pub aimed : s.quiet ≡ false → IsAimed m marks s

-- an open session that isn't live yet: nothing of an update was sent
pub record IsGreeting (s : Session) (l : Link) : Type 0 where
  pub way : IsClear s l
  pub to_come : s.to_come ≡ []

-- an open session and its link
pub record IsLinked (m : State) (marks : Marks) (s : Session) (l : Link) : Type 0 where
  pub numbered : AreNumbered s l
  pub tells : TellsItself l
  pub live : is_live s ≡ true → IsLiveRight m marks s l
  pub early : is_live s ≡ false → IsGreeting s l
