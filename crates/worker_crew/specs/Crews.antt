-- What a driver and its crew did.
use Rattle.std.specs.Prelude.{◌≡◌, ◌≤◌, ℕ, ◌+◌, max, List, ◌++◌, IsTrue}
use Rattle.history_lock.specs.declared.view.Event.{Event}
use Rattle.history_lock.specs.declared.view.Known.{Known}
use Rattle.history_lock.specs.Histories.{IsAllowedSince, StartsWith}
use Rattle.worker_crew.specs.declared.rule.Account.{Account}
use Rattle.worker_crew.specs.Tasks.{Toiled, Worked}

module _ {M E R : Type 0} where
  -- a pass behind so many splits of a part: it knows the same, and has so many parts fewer
  pub record IsShareOf (count : ℕ) (u k : Known M E R) : Type 0 where
    pub opening : k.opening ≡ u.opening
    pub seen : k.seen ≡ u.seen
    pub own : k.own ≡ u.own
    pub number : k.number ≡ u.number
    pub leads : k.leads ≡ u.leads
    pub parts : k.parts + count ≡ u.parts

  -- a pass took in another, that doesn't lead
  pub record TakesIn (allows : List (Event M E R) → E → Type 0) (mine theirs both : Known M E R) : Type 0 where
    pub begins : StartsWith both.seen mine.seen
    pub begins_too : StartsWith both.seen theirs.seen
    pub own : both.own ≡ mine.own ++ theirs.own
    pub number : both.number ≡ max mine.number theirs.number
    pub led : IsTrue mine.leads → IsAllowedSince allows both.seen mine.seen

-- a pass of the queue behind so many splits: it knows the same, and has so many parts fewer
pub record IsLentOf {T : Type 0} (count : ℕ) (v a : Account T) : Type 0 where
  pub seen : a.seen ≡ v.seen
  pub offered : a.offered ≡ v.offered
  pub taken : a.taken ≡ v.taken
  pub parts : a.parts + count ≡ v.parts

module _ {M E R T : Type 0} where
  -- the driver may begin with each share of the passes, beside so many workers
  abbrev pub IsReady : ℕ → (Known M E R → Account T → Type 0) → Known M E R → Account T → Type 0
  IsReady count ready u v = (k : Known M E R) (a : Account T) → IsShareOf count u k → IsLentOf count v a → ready k a

  -- from u and v to x and w: beside so many workers the driver drove, by a share of the passes. Then they took in what workers toiled, and their
  -- outcome. Where the pass leads, all that it hadn't seen until then was allowed
  pub record Crewed (makes : T → Worked → List (Event M E R) → Type 0) (allows : List (Event M E R) → E → Type 0) (drives : Known M E R → Account T → Known M E R → Account T → Type 0)
      (count : ℕ) (u : Known M E R) (v : Account T) (outcome : Worked) (x : Known M E R) (w : Account T) : Type 0 where
    pub begun : Known M E R
    pub started : Account T
    pub share : IsShareOf count u begun
    pub lent : IsLentOf count v started
    pub mine : Known M E R
    pub account : Account T
    pub drove : drives begun started mine account
    pub toiled : Toiled makes mine account outcome x w
    pub number : mine.number ≤ x.number
    pub led : IsTrue u.leads → IsAllowedSince allows x.seen mine.seen

  -- the same, of both passes before and behind
  abbrev pub CrewedFrom : (T → Worked → List (Event M E R) → Type 0) → (List (Event M E R) → E → Type 0) → (Known M E R → Account T → Known M E R → Account T → Type 0) → ℕ
      → Known M E R × Account T → Worked → Known M E R × Account T → Type 0
  CrewedFrom makes allows drives count before outcome behind = Crewed makes allows drives count before.0 before.1 outcome behind.0 behind.1
