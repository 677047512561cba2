-- Histories: lists of events, which are entries with their replies and the machines behind them, and positions in such a list.
use Rattle.std.specs.Prelude.{◌≡◌, ℕ, ◌+◌, ◌^◌, ◌<◌, ◌≤◌, ◌==◌, if◌then◌else◌, nat_lt, List, [], ◌∷◌, ◌++◌, length, slice_get, IsFalse, IsTrue, Some}
use Rattle.history_lock.specs.declared.view.Event.{Event}
use Rattle.history_lock.specs.declared.view.Known.{Known}

-- the log begins with what was seen
abbrev pub StartsWith : {X : Type 0} → List X → List X → Type 0
StartsWith {X} log seen = (rest : List X) × (log ≡ seen ++ rest)

abbrev pub longer : {X : Type 0} → List X → List X → List X
longer a b = if nat_lt (length a) (length b) then b else a

-- how often x stands in the list
abbrev pub times : ℕ → List ℕ → ℕ
times x [] = 0
times x (y ∷ ys) = (if y == x then 1 else 0) + times x ys

-- how often x stands among the numbers below n
abbrev pub once_below : ℕ → ℕ → ℕ
once_below x n = if nat_lt x n then 1 else 0

-- they are positions in a list of n, each once
abbrev pub ArePositions : ℕ → List ℕ → Type 0
ArePositions n own = (x : ℕ) → times x own ≤ once_below x n

-- they are all positions of a list of n, each once
abbrev pub AreAllPositions : ℕ → List ℕ → Type 0
AreAllPositions n own = (x : ℕ) → times x own ≡ once_below x n

module _ {M E R : Type 0} where
  abbrev pub event : E → R → M → Event M E R
  event e r m = record { entry = e; reply = r; behind = m }

  -- the machine behind events
  abbrev pub state_behind : M → List (Event M E R) → M
  state_behind m [] = m
  state_behind m (e ∷ es) = state_behind e.behind es

module _ {M E R : Type 0} (steps : M → E → R → M → Type 0) where
  -- the events lead from one state to the other, by way of those behind them
  abbrev pub Replays : M → List (Event M E R) → M → Type 0
  Replays m [] m' = m' ≡ m
  Replays m (e ∷ es) m' = steps m e.entry e.reply e.behind × Replays e.behind es m'

  -- a legal history of the machine m
  abbrev pub IsLegal : M → List (Event M E R) → Type 0
  IsLegal m log = (m' : M) × Replays m log m'

  -- the history that was seen leads from the opening machine to this one
  abbrev pub LeadsTo : Known M E R → M → Type 0
  LeadsTo known m = (opening : M) × (known.opening ≡ Some opening) × Replays opening known.seen m

  -- what was seen is a legal history of the opening machine
  abbrev pub HasSeenLegal : Known M E R → Type 0
  HasSeenLegal known = (m : M) × LeadsTo known m

module _ {M E R : Type 0} (allows : List (Event M E R) → E → Type 0) where
  -- each of the events was allowed behind the history and the events ahead of it
  abbrev pub AreAllowed : List (Event M E R) → List (Event M E R) → Type 0
  AreAllowed log [] = Unit {0}
  AreAllowed log (e ∷ es) = allows log e.entry × AreAllowed (log ++ e ∷ []) es

  -- the log begins with what was seen, and each event since was allowed
  abbrev pub IsAllowedSince : List (Event M E R) → List (Event M E R) → Type 0
  IsAllowedSince log seen = (rest : List (Event M E R)) × (log ≡ seen ++ rest) × AreAllowed seen rest

  -- the leading pass was joined into one that doesn't lead: what this one now knows was allowed since what the leading one had seen
  abbrev pub IsLedByOther : Known M E R → Known M E R → Known M E R → Type 0
  IsLedByOther old other new = IsFalse old.leads → IsTrue other.leads → IsAllowedSince new.seen other.seen

module _ {M E R : Type 0} (steps : M → E → R → M → Type 0) (allows : List (Event M E R) → E → Type 0) where
  -- the condition of the entry holds after every legal history that begins with what was seen: of a pass that leads, after each in which all since was allowed;
  -- of one that has all parts, after what was seen
  abbrev pub IsAdmitted : (M → E → Type 0) → Known M E R → E → Type 0
  IsAdmitted admits known entry =
      (opening m : M) (log : List (Event M E R)) → known.opening ≡ Some opening → StartsWith log known.seen → Replays steps opening log m
      → (IsTrue known.leads → IsAllowedSince allows log known.seen) → (known.parts ≡ 1024 → log ≡ known.seen) → admits m entry

  -- a pass that doesn't lead may enter it behind every legal history that begins with what was seen
  abbrev pub IsAllowed : Known M E R → E → Type 0
  IsAllowed known entry =
      IsFalse known.leads → (opening m : M) (log : List (Event M E R)) → known.opening ≡ Some opening → StartsWith log known.seen → Replays steps opening log m
      → allows log entry

  -- what a call that was answered did to what its pass knows. `log` is the history that it came behind. What is later in it than what was seen, which others did,
  -- led from the machine behind that to `before`, and the call to `behind`. Where the pass leads, all of it was allowed; where it has all parts, there is none
  pub record Calls (old : Known M E R) (entry : E) (reply : R) (new : Known M E R) : Type 0 where
    pub opening : M
    pub opens : new.opening ≡ Some opening
    pub log : List (Event M E R)
    pub later : StartsWith log old.seen
    pub before : M
    pub behind : M
    pub replays : Replays steps opening log before
    pub meanwhile : Replays steps (state_behind opening old.seen) later.0 before
    pub led : IsTrue old.leads → AreAllowed allows old.seen later.0
    pub alone : old.parts ≡ 1024 → log ≡ old.seen
    pub step : steps before entry reply behind
    pub seen : new.seen ≡ log ++ event entry reply behind ∷ []
    pub legal : IsLegal steps opening new.seen
    pub now : state_behind opening new.seen ≡ behind
    pub own : new.own ≡ old.own ++ length log ∷ []
    pub small : new.number < 2 ^ 62

-- the calls stand at these positions of the list
abbrev pub AllAt : {X : Type 0} → List X → List ℕ → List X → Type 0
AllAt seen [] [] = Unit {0}
AllAt seen [] (c ∷ cs) = ⊥
AllAt seen (p ∷ ps) [] = ⊥
AllAt seen (p ∷ ps) (c ∷ cs) = (slice_get seen p ≡ Some c) × AllAt seen ps cs

-- what a pass did: its calls since `old` are these, in order, and they stand at its new own positions of a history that begins with what it had seen
pub record Did {M E R : Type 0} (old : Known M E R) (calls : List (Event M E R)) (new : Known M E R) : Type 0 where
  pub positions : List ℕ
  pub own : new.own ≡ old.own ++ positions
  pub later : StartsWith new.seen old.seen
  pub at : AllAt new.seen positions calls
