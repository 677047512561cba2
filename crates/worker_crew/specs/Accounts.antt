-- The line of all offers to a queue, and what its passes know of it.
use Rattle.std.specs.Prelude.{◌≡◌, ℕ, ◌+◌, ◌-◌, ◌≤◌, List, [], ◌∷◌, ◌++◌, if◌then◌else◌, length, nat_lt, slice_get, Some}
use mathlib.Core.Option.{some}
use lib.ListN.{get_elem?}
use Rattle.history_lock.specs.Histories.{AllAt, AreAllPositions, StartsWith, longer, once_below, times}
use Rattle.history_lock.specs.Rule.{total}
use Rattle.worker_crew.specs.declared.rule.Account.{Account}
use Rattle.worker_crew.specs.declared.rule.View.{View}

-- no position stands there twice
abbrev pub AreOnce : List ℕ → Type 0
AreOnce positions = (x : ℕ) → times x positions ≤ 1

module _ {T : Type 0} where
  -- of a pass with so many parts, that offered and took nothing
  abbrev pub fresh : ℕ → Account T
  fresh parts = record { seen = []; offered = []; taken = []; parts = parts }

  abbrev pub blank : ℕ → View T
  blank parts = record { account = fresh parts; told = [] }

  -- a part was given away
  abbrev pub less_one : Account T → Account T
  less_one v = record v { parts = v.parts - 1 }

  abbrev pub lent : View T → View T
  lent v = record v { account = less_one v.account }

  -- what two passes know together
  abbrev pub joined : Account T → Account T → Account T
  joined v w = record { seen = longer v.seen w.seen; offered = v.offered ++ w.offered; taken = v.taken ++ w.taken; parts = v.parts + w.parts }

  abbrev pub shorter : List T → List T → List T
  shorter a b = if nat_lt (length a) (length b) then a else b

  abbrev pub glued : View T → View T → View T
  glued v w = record { account = joined v.account w.account; told = shorter v.account.seen w.account.seen }

  -- of the two beginnings that were joined the longer begins with the shorter
  abbrev pub IsTold : View T → Type 0
  IsTold v = length v.told ≤ length v.account.seen → StartsWith v.account.seen v.told

  -- what a pass learns behind a join: how its two beginnings stand, and that it took no position twice
  abbrev pub IsLearned : View T → Type 0
  IsLearned v = IsTold v × AreOnce v.account.taken

  -- a pass has seen a beginning of the line, in which its own offers stand; without a part it has neither offered nor taken
  pub record Fits (line : List T) (v : View T) : Type 0 where
    pub seen : StartsWith line v.account.seen
    pub told : StartsWith line v.told
    pub within : (x : ℕ) → length v.account.seen ≤ x → times x v.account.offered ≡ 0
    pub idle : v.account.parts ≡ 0 → (v.account.offered ≡ []) × (v.account.taken ≡ [])

  -- what is gone, and then what the queue holds, is the line of all offers. Each position of the line was offered by one pass, once,
  -- and each that is gone was taken by one pass, once. The parts of all passes sum to 1,024
  pub record Lined (items : List T) (views : List (View T)) : Type 0 where
    pub gone : List T
    pub each : (port : ℕ) (v : View T) → get_elem? views port ≡ some v → Fits (gone ++ items) v
    pub offers : (x : ℕ) → total (λ v. times x v.account.offered) views ≡ once_below x (length (gone ++ items))
    pub takes : (x : ℕ) → total (λ v. times x v.account.taken) views ≡ once_below x (length gone)
    pub parts : total (λ v. v.account.parts) views ≡ 1024

  -- the rule allows a queue that holds this, of which a pass has this account
  pub record Stood (account : Account T) (items : List T) : Type 0 where
    pub views : List (View T)
    pub port : ℕ
    pub view : View T
    pub there : get_elem? views port ≡ some view
    pub known : view.account ≡ account
    pub lined : Lined items views

  -- the positions that were offered are all of the line, each once, and those that were taken are all of these but the last n, each once
  pub record HasLeft (n : ℕ) (v : Account T) : Type 0 where
    pub offered : AreAllPositions (length v.seen) v.offered
    pub left : n ≤ length v.seen
    pub taken : AreAllPositions (length v.seen - n) v.taken

  -- the item went to the end of the line, which begins with all that the pass had seen. None of its offers stands there or behind
  pub record OffersOne (v : Account T) (item : T) (w : Account T) : Type 0 where
    pub line : List T
    pub later : StartsWith line v.seen
    pub fresh : (x : ℕ) → length line ≤ x → times x v.offered ≡ 0
    pub after : w ≡ record { seen = line ++ item ∷ []; offered = v.offered ++ length line ∷ []; taken = v.taken; parts = v.parts }

  -- the item stands in the line, which begins with all that the pass had seen, behind all that the pass had taken
  pub record TakesOne (v : Account T) (item : T) (w : Account T) : Type 0 where
    pub line : List T
    pub later : StartsWith line v.seen
    pub position : ℕ
    pub there : slice_get line position ≡ Some item
    pub fresh : (x : ℕ) → position ≤ x → times x v.taken ≡ 0
    pub after : w ≡ record { seen = line; offered = v.offered; taken = v.taken ++ position ∷ []; parts = v.parts }

  -- since then the pass took these items, in this order, and offered none. They stand in the line at the positions that it took
  pub record Took (v : Account T) (items : List T) (w : Account T) : Type 0 where
    pub positions : List ℕ
    pub taken : w.taken ≡ v.taken ++ positions
    pub offered : w.offered ≡ v.offered
    pub later : StartsWith w.seen v.seen
    pub at : AllAt w.seen positions items
