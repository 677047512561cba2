-- What holds of every tree of questions.
use Rattle.std.specs.Prelude.{◌≡◌, ◌↔◌, ℕ, ◌+◌, ◌-◌, ◌≤◌, Bool, true, false, not, ◌&&◌, ◌||◌, List, [], ◌∷◌, ◌++◌, length, is_some}
use Rattle.std.specs.List.{list_all}
use Rattle.maple_base.specs.declared.key.Key.{Key}
use Rattle.maple_base.specs.declared.key.Match.{Match}
use Rattle.maple_base.specs.declared.cells.Cell.{Cell}
use Rattle.maple_base.specs.declared.cells.Value.{Value}
use Rattle.maple_base.specs.declared.items.Item.{Item}
use Rattle.maple_base.specs.declared.items.Item.TheVariants.{Read, Test}
use Rattle.maple_base.specs.declared.decision.Outcome.{Outcome}
use Rattle.maple_base.specs.Kinds.{of_kind}
use Rattle.maple_base.specs.Keys.{in_domain, valid_key, fix, anything, match_normal}
use Rattle.maple_base.specs.Questions.{meets, clash, known, excluded, asks_once, within_domain}
use Rattle.policy_meaning.specs.Asking.{Asking, Done, AsksField, AsksTest, AsksCell}
use Rattle.policy_meaning.specs.Cells.{Gives, SomeGives, is_of_kind, reads_once}
use Rattle.policy_meaning.specs.Readings.{outcome_in, items_of, cells_of}
use Rattle.policy_meaning.specs.Through.{Seen, through, nothing}
use Rattle.policy_meaning.specs.Leads.{Leads}
use Rattle.policy_meaning.specs.Notes.{Truly, Notes}

-- a key and an environment meet their own trace
pub record Owns {A : Type 0} (c : Asking A) (k : Key) (env : Cell → Value) : Type 0 where
  pub items : meets k (items_of c k env) ≡ true
  pub cells : Gives env (cells_of c k env)

abbrev pub OwnTrace : Type 0
OwnTrace = (c : Asking Outcome) (k : Key) (env : Cell → Value) → Owns c k env

-- two keys, each in an environment, are asked the same and end the same
pub record GoAlike {A : Type 0} (c : Asking A) (k : Key) (env : Cell → Value) (l : Key) (other : Cell → Value) : Type 0 where
  pub items : items_of c l other ≡ items_of c k env
  pub cells : cells_of c l other ≡ cells_of c k env
  pub outcome : outcome_in c l other ≡ outcome_in c k env

-- a key and an environment that meet a trace have it
abbrev pub SameTrace : Type 0
SameTrace =
    (c : Asking Outcome) (k l : Key) (env other : Cell → Value)
    → meets l (items_of c k env) ≡ true → Gives other (cells_of c k env) → GoAlike c k env l other

-- an environment that gives the cells that were asked changes nothing
abbrev pub OnlyItsCells : Type 0
OnlyItsCells = (c : Asking Outcome) (k : Key) (env other : Cell → Value) → Gives other (cells_of c k env) → GoAlike c k env k other

-- two traces of one tree, the cells of one of which the other's environment gives too, are equal or do not clash
abbrev pub OnePath : Type 0
OnePath =
    (c : Asking Outcome) (k l : Key) (env other : Cell → Value)
    → Gives other (cells_of c k env) → clash (items_of c k env) (items_of c l other) ≡ true → GoAlike c k env l other

-- two traces of one tree, the cells of both of which have their values in one environment, do not clash, where the key of one does not meet the other's items
abbrev pub NoClash : Type 0
NoClash =
    (c : Asking Outcome) (k l : Key) (env other now : Cell → Value)
    → Gives now (cells_of c k env) → Gives now (cells_of c l other) → meets l (items_of c k env) ≡ false
    → (clash (items_of c k env) (items_of c l other) ≡ false) × (clash (items_of c l other) (items_of c k env) ≡ false)

-- without the settled questions the outcome is that of plain evaluation
abbrev pub AsEvaluated : Type 0
AsEvaluated = (c : Asking Outcome) (k : Key) (env : Cell → Value) → valid_key k ≡ true → outcome_in (through c nothing) k env ≡ outcome_in c k env

-- on each way the packet is asked at most so many questions
abbrev pub AsksAtMost : {A : Type 0} → ℕ → Asking A → Type 0
AsksAtMost n (Done a) = Unit {0}
AsksAtMost n (AsksField f by) = (1 ≤ n) × ((v : ℕ) → AsksAtMost (n - 1) (by v))
AsksAtMost n (AsksTest f v by) = (1 ≤ n) × ((b : Bool) → AsksAtMost (n - 1) (by b))
AsksAtMost n (AsksCell c by) = (v : Value) → AsksAtMost n (by v)

-- of such a tree a trace has at most two items more: the type and the protocol are each read once for the questions of other fields
abbrev pub AsksFew : Type 0
AsksFew =
    (c : Asking Outcome) (n : ℕ) (k : Key) (env : Cell → Value) → AsksAtMost n c → valid_key k ≡ true
    → length (items_of (through c nothing) k env) ≤ n + 2

-- where each cell has a value of its kind, each end is one of these
abbrev pub EndsWithin : (Outcome → Bool) → Asking Outcome → Type 0
EndsWithin such (Done o) = such o ≡ true
EndsWithin such (AsksField f by) = (v : ℕ) → EndsWithin such (by v)
EndsWithin such (AsksTest f v by) = (b : Bool) → EndsWithin such (by b)
EndsWithin such (AsksCell c by) = (v : Value) → of_kind c v ≡ true → EndsWithin such (by v)

-- of such a tree each trace whose cells have values of their kinds ends so
abbrev pub TracesEndSo : Type 0
TracesEndSo =
    (such : Outcome → Bool) (c : Asking Outcome) (k : Key) (env : Cell → Value) → EndsWithin such c → valid_key k ≡ true
    → list_all is_of_kind (cells_of (through c nothing) k env) ≡ true → such (outcome_in c k env) ≡ true

-- each value that the tree asks a test for is in its field's domain
abbrev pub TestsWithin : {A : Type 0} → Asking A → Type 0
TestsWithin (Done a) = Unit {0}
TestsWithin (AsksField f by) = (v : ℕ) → TestsWithin (by v)
TestsWithin (AsksTest f v by) = (in_domain f v ≡ true) × ((b : Bool) → TestsWithin (by b))
TestsWithin (AsksCell c by) = (v : Value) → TestsWithin (by v)

-- of such a tree each item of a valid key's trace is in its field's domain
abbrev pub ValuesWithin : Type 0
ValuesWithin =
    (c : Asking Outcome) (k : Key) (env : Cell → Value) → TestsWithin c → valid_key k ≡ true
    → list_all within_domain (items_of c k env) ≡ true

-- behind what this match fixes, and what the items before an item do, the match that fixes the item's value too is normal
abbrev pub asks_normally : Match → List Item → Bool
asks_normally m [] = true
asks_normally m (Read f v ∷ is) = match_normal (fix f v m) && asks_normally (fix f v m) is
asks_normally m (Test f v true ∷ is) = match_normal (fix f v m) && asks_normally (fix f v m) is
asks_normally m (Test f v false ∷ is) = match_normal (fix f v m) && asks_normally m is

-- the items before settle an item's question: they fix its field, or exclude the value that it tests
abbrev pub settles : List Item → Item → Bool
settles seen (Read f v) = is_some (known f seen)
settles seen (Test f v answer) = is_some (known f seen) || excluded f v seen

-- behind these items, no item's question is settled
abbrev pub asks_unsettled : List Item → List Item → Bool
asks_unsettled seen [] = true
asks_unsettled seen (i ∷ is) = not (settles seen i) && asks_unsettled (seen ++ i ∷ []) is

-- this is the trace of a key in an environment, and the outcome is plain evaluation's
pub record IsTraceOf (c : Asking Outcome) (k : Key) (env : Cell → Value) (is : List Item) (cs : List (Cell × Value)) (o : Outcome) : Type 0 where
  pub items : items_of (through c nothing) k env ≡ is
  pub cells : cells_of (through c nothing) k env ≡ cs
  pub outcome : outcome_in c k env ≡ o

-- what a trace of a key's run is
pub record IsTrace (c : Asking Outcome) (k : Key) (is : List Item) (cs : List (Cell × Value)) (o : Outcome) : Type 0 where
  -- each valid key that meets its items has, in each environment that gives its cells, exactly this trace
  pub law : (l : Key) → valid_key l ≡ true → meets l is ≡ true → (env : Cell → Value) → Gives env cs → IsTraceOf c l env is cs o
  -- the key is valid and meets its items, and an environment gives its cells
  pub valid : valid_key k ≡ true
  pub own : meets k is ≡ true
  pub some : SomeGives cs
  -- each value is in its field's domain, and each field was asked under its condition
  pub within : list_all within_domain is ≡ true
  pub normal : asks_normally anything is ≡ true
  -- nothing is asked that the items before settle, so no field once it is fixed, and no cell is read again
  pub unsettled : asks_unsettled [] is ≡ true
  pub once : asks_once [] is ≡ true
  pub cells : reads_once [] cs ≡ true

-- the law of traces: what is asked of a valid key in an environment, without the settled questions, is a trace
abbrev pub LawOfTraces : Type 0
LawOfTraces =
    (c : Asking Outcome) (k : Key) (env : Cell → Value) → valid_key k ≡ true
    → IsTrace c k (items_of (through c nothing) k env) (cells_of (through c nothing) k env) (outcome_in c k env)

-- the answers that are true of a key and an environment lead to the outcome of plain evaluation, and to no other
abbrev pub TrueAnswers : Type 0
TrueAnswers =
    (c : Asking Outcome) (k : Key) (env : Cell → Value) (o : Outcome)
    → Leads (λ (u : Unit {0}) a v. Truly k env a) tt c tt o ↔ (outcome_in c k env ≡ o)

-- answers that were noted by the rules for settled questions lead to a trace
abbrev pub NotedTrace : Type 0
NotedTrace = (c : Asking Outcome) (k : Key) (t : Seen) (o : Outcome) → valid_key k ≡ true → Leads (Notes k) nothing c t o → IsTrace c k t.items t.cells o
