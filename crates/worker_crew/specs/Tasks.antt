-- What a worker did: the items that it took, what came of each, and the calls that it made for it.
use Rattle.std.specs.Prelude.{◌≡◌, ◌≤◌, ◌^◌, List, [], ◌∷◌, ◌++◌, Result, Ok, Err}
use Rattle.std.specs.Result.{result_and}
use Rattle.history_lock.specs.declared.view.Event.{Event}
use Rattle.history_lock.specs.declared.view.Known.{Known}
use Rattle.history_lock.specs.Histories.{Did}
use Rattle.worker_crew.specs.declared.gave_up.GaveUp.{GaveUp}
use Rattle.worker_crew.specs.declared.gave_up.GaveUp.TheVariants.{Worn}
use Rattle.worker_crew.specs.declared.rule.Account.{Account}
use Rattle.worker_crew.specs.Accounts.{Took}

-- an item was worked, or the worker gave up at it
abbrev pub Worked : Type 0
Worked = Result (Unit {0}) GaveUp

-- an item, what came of it, and the calls that were made for it
pub record Task (M E R T : Type 0) : Type 0 where
  pub item : T
  pub worked : Worked
  pub calls : List (Event M E R)

module _ {M E R T : Type 0} where
  abbrev pub items_in : List (Task M E R T) → List T
  items_in [] = []
  items_in (t ∷ ts) = t.item ∷ items_in ts

  abbrev pub calls_in : List (Task M E R T) → List (Event M E R)
  calls_in [] = []
  calls_in (t ∷ ts) = t.calls ++ calls_in ts

  -- the first failure, if there is one
  abbrev pub told_by : List (Task M E R T) → Worked
  told_by [] = Ok tt
  told_by (t ∷ ts) = result_and t.worked (told_by ts)

  abbrev pub AllMade : (T → Worked → List (Event M E R) → Type 0) → List (Task M E R T) → Type 0
  AllMade makes [] = Unit {0}
  AllMade makes (t ∷ ts) = makes t.item t.worked t.calls × AllMade makes ts

  -- since `old` the pass made the calls of one item
  pub record OneWork (makes : T → Worked → List (Event M E R) → Type 0) (item : T) (worked : Worked) (old new : Known M E R) : Type 0 where
    pub calls : List (Event M E R)
    pub did : Did old calls new
    pub made : makes item worked calls

  -- from u and v to x and w: the pass of the queue took the items of some tasks and no others, and the pass of the hall made the calls
  -- of these and no others. The outcome is the first failure; at a worn hall the number tells so
  pub record Toiled (makes : T → Worked → List (Event M E R) → Type 0) (u : Known M E R) (v : Account T) (outcome : Worked) (x : Known M E R) (w : Account T) : Type 0 where
    pub tasks : List (Task M E R T)
    pub did : Did u (calls_in tasks) x
    pub took : Took v (items_in tasks) w
    pub made : AllMade makes tasks
    pub told : outcome ≡ told_by tasks
    pub worn : outcome ≡ Err Worn → 2 ^ 62 ≤ x.number
