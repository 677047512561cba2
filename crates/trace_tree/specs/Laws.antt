-- What holds of the tree that a list of traces makes.
use Rattle.std.specs.Prelude.{◌≡◌, Bool, filter, List, [], ◌∷◌, ◌++◌, length, IsTrue, false}
use Rattle.std.specs.List.{AllByRecursion}
use Rattle.std.specs.Option.{option_map}
use Rattle.maple_base.specs.declared.key.Key.{Key}
use Rattle.maple_base.specs.Questions.{clash}
use Rattle.trace_tree.specs.declared.node.Trace.{Trace}
use Rattle.trace_tree.specs.declared.node.Leaf.{Leaf}
use Rattle.trace_tree.specs.Shape.{Empty}
use Rattle.trace_tree.specs.Growth.{insert, leaf_of, scratch, found, search_of, admits, AreAdmitted, AllAskOnce, leaves_of}
use Rattle.trace_tree.specs.Apart.{AreApart}
use Rattle.trace_tree.specs.Kept.{kept}
use Rattle.trace_tree.specs.Stands.{StandsFor, of_leaf}
use Rattle.trace_tree.specs.Numbers.{HaveOwnNumbers, IsNewNumber}

-- traces of which no two clash are admitted one after the other
abbrev pub ApartIsAdmitted : Type 0
ApartIsAdmitted = (rs : List Trace) → AreApart rs → AreAdmitted Empty rs

-- and no others are
abbrev pub OnlyApartIsAdmitted : Type 0
OnlyApartIsAdmitted = (rs : List Trace) → AreAdmitted Empty rs → AreApart rs

-- a trace that clashes with none of these is admitted by their tree
abbrev pub FreeIsAdmitted : Type 0
FreeIsAdmitted = (rs : List Trace) (r : Trace) → AreApart rs → AllByRecursion (λ x. clash r.items x.items ≡ false) rs → IsTrue (admits r.items (scratch rs))

-- the empty tree stands for no trace
abbrev pub EmptyStandsForNone : Type 0
EmptyStandsForNone = StandsFor Empty []

-- one more trace is one more insertion
abbrev pub GrowsByInsertion : Type 0
GrowsByInsertion = (rs : List Trace) (r : Trace) → scratch (rs ++ r ∷ []) ≡ insert r.items (leaf_of r) (scratch rs)

-- each key's search in the tree finds the leaf of the trace that the key meets, or no leaf where it meets none
abbrev pub SearchIsFound : Type 0
SearchIsFound = (rs : List Trace) (k : Key) → AreAdmitted Empty rs → search_of (scratch rs) k ≡ option_map leaf_of (found rs k)

-- a leaf for each trace
abbrev pub LeavesAreTraces : Type 0
LeavesAreTraces = (rs : List Trace) → AreAdmitted Empty rs → leaves_of (scratch rs) ≡ length rs

-- traces that are admitted one after the other still are when some of them go
abbrev pub FewerAreAdmitted : Type 0
FewerAreAdmitted = (rs : List Trace) (q : Trace → Bool) → AreAdmitted Empty rs → AreAdmitted Empty (filter q rs)

-- the tree without the leaves of some traces is the tree of the others
abbrev pub KeptIsScratch : Type 0
KeptIsScratch = (rs : List Trace) (p : Leaf → Bool) → AreAdmitted Empty rs → kept p (scratch rs) ≡ scratch (filter (of_leaf p) rs)

-- traces that ask of a fixed field no more still do not when some of them go
abbrev pub FewerAskOnce : Type 0
FewerAskOnce = (rs : List Trace) (q : Trace → Bool) → AllAskOnce rs → AllAskOnce (filter q rs)

-- a trace of a new number behind traces that their numbers tell apart
abbrev pub NewNumberIsOwn : Type 0
NewNumberIsOwn = (rs : List Trace) (r : Trace) → HaveOwnNumbers rs → IsNewNumber r.number rs → HaveOwnNumbers (rs ++ r ∷ [])

-- traces that their numbers tell apart still are so when some of them go
abbrev pub FewerHaveOwnNumbers : Type 0
FewerHaveOwnNumbers = (rs : List Trace) (q : Trace → Bool) → HaveOwnNumbers rs → HaveOwnNumbers (filter q rs)
