-- What becomes of the live traces, and of their tree, at one more event.
use Rattle.std.specs.Prelude.{◌≡◌, ℕ, false, ◌==◌, ◌↔◌, All, Contains, filter, List, [], ◌∷◌, ◌++◌, Some, None, IsTrue}
use Rattle.maple_base.specs.declared.cells.Value.{Value}
use Rattle.trace_tree.specs.declared.node.Trace.{Trace}
use Rattle.trace_tree.specs.declared.node.Leaf.{Leaf}
use Rattle.trace_tree.specs.Shape.{Shape}
use Rattle.trace_tree.specs.Stands.{StandsFor, StandsForRest, of_leaf, has_other_number}
use Rattle.trace_tree.specs.Numbers.{HaveOwnNumbers}
use Rattle.tree_prune.specs.Current.{same_value, is_current}
use Rattle.tree_prune.specs.Live.{State, Event, Learned, Retired, AllRetired, Reached, agrees, live, state_of, learned}

-- two values are the same exactly where they are equal
abbrev pub SameIsEqual : Type 0
SameIsEqual = (v w : Value) → IsTrue (same_value v w) ↔ (v ≡ w)

-- before the first state, and in it, no trace lives
abbrev pub NoneBeforeStates : Type 0
NoneBeforeStates = (es : List Event) (s : State) → state_of es ≡ None → (live es ≡ []) × (live (es ++ Reached s ∷ []) ≡ [])

-- a trace that agrees with the state in which it is learned comes behind the live ones
abbrev pub LearnedComesLast : Type 0
LearnedComesLast =
    (es : List Event) (s : State) (policy : ℕ) (r : Trace) → state_of es ≡ Some s → IsTrue (agrees s policy r)
    → live (es ++ Learned policy r ∷ []) ≡ live es ++ r ∷ []

-- one that does not agree with it changes nothing
abbrev pub OthersAreNotLearned : Type 0
OthersAreNotLearned =
    (es : List Event) (s : State) (policy : ℕ) (r : Trace) → state_of es ≡ Some s → agrees s policy r ≡ false
    → live (es ++ Learned policy r ∷ []) ≡ live es

-- the others stay where one is retired
abbrev pub RetiredGoes : Type 0
RetiredGoes = (es : List Event) (n : ℕ) → live (es ++ Retired n ∷ []) ≡ filter (of_leaf (has_other_number n)) (live es)

abbrev pub AllRetiredGo : Type 0
AllRetiredGo = (es : List Event) → live (es ++ AllRetired ∷ []) ≡ []

-- in a further state of the same policy those are left that are current there
abbrev pub CurrentStay : Type 0
CurrentStay =
    (es : List Event) (s t : State) → state_of es ≡ Some s → IsTrue (s.policy == t.policy)
    → live (es ++ Reached t ∷ []) ≡ filter (of_leaf (is_current t.has)) (live es)

-- in a state of another policy none is left
abbrev pub OldPolicyGoes : Type 0
OldPolicyGoes = (es : List Event) (s t : State) → state_of es ≡ Some s → s.policy == t.policy ≡ false → live (es ++ Reached t ∷ []) ≡ []

-- a tree that stands for the live traces does so in a further state of the same policy, once the leaves that are not current there are gone
abbrev pub PrunedStands : Type 0
PrunedStands =
    (es : List Event) (s t : State) (before after : Shape) → state_of es ≡ Some s → IsTrue (s.policy == t.policy)
    → StandsFor before (live es) → StandsForRest (is_current t.has) before after → StandsFor after (live (es ++ Reached t ∷ []))

-- and in a state of another policy, once all its leaves are gone
abbrev pub EmptiedStands : Type 0
EmptiedStands =
    (es : List Event) (s t : State) (before after : Shape) → state_of es ≡ Some s → s.policy == t.policy ≡ false
    → StandsFor before (live es) → StandsForRest (λ (l : Leaf). false) before after → StandsFor after (live (es ++ Reached t ∷ []))

-- a trace that was learned of the state's policy, and that is current in the state
pub record IsOf (es : List Event) (s : State) (r : Trace) : Type 0 where
  pub learned : Contains es (Learned s.policy r)
  pub current : IsTrue (of_leaf (is_current s.has) r)

-- each live trace is so in the state that was reached last
abbrev pub LiveAreOfNow : Type 0
LiveAreOfNow = (es : List Event) (s : State) → state_of es ≡ Some s → All (IsOf es s) (live es)

-- where no two learned traces have one number, no two live ones have
abbrev pub LiveHaveOwnNumbers : Type 0
LiveHaveOwnNumbers = (es : List Event) → HaveOwnNumbers (learned es) → HaveOwnNumbers (live es)
