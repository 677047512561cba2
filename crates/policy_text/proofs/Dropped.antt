-- With any pair of its parentheses dropped the grammar does not have what is written of an expression.
use Rattle.std.proofs.Common.{ℕ, ◌≤◌, arith}
use Rattle.std.specs.Prelude.{nat_lt, map, List, ◌++◌, All}
use Rattle.std.proofs.lemmas.Bool.{cond_both, ltb-true}
use Rattle.std.proofs.lemmas.List.Elements.{All-nil, All-cons, All-append, All-weaker, All-map}
use Rattle.maple_base.specs.declared.operator.Operator.{Operator}
use Rattle.maple_base.specs.declared.operator.Operator.TheVariants.{Or, And, Equal, NotEqual, Less, LessEqual, Add, Sub}
use Rattle.maple_base.specs.Operators.{left_level, right_level}
use Rattle.policy_grammar.specs.Grammar as written
use Rattle.policy_grammar.specs.Grammar.{Phrase, Group, Negation, IsPhrase}
use Rattle.policy_lang.specs.Nodes.{level_of}
use Rattle.policy_lang.specs.Tree.{Term, Single, Call, Is, Not, Pair}
use Rattle.policy_text.specs.Parentheses.{dropped}
use Rattle.policy_text.specs.Written.{callee_written, in_group, phrase_of}
use Rattle.policy_text.specs.PrintLaws.{NoneCanBeDropped}
use Rattle.policy_text.proofs.Levels.{within}

-- the grammar does not have this at a place of this least level
abbrev Fails : ℕ → Phrase → Type 0
Fails least a = ¬ (IsPhrase least a)

-- nor anything that drops a pair of its parentheses
abbrev Needed : ℕ → Phrase → Type 0
Needed least a = All (Fails least) (dropped a)

-- what fails in a part fails in the whole
through : (least inner : ℕ) (f : Phrase → Phrase) (as_ : List Phrase) → ((a : Phrase) → IsPhrase least (f a) → IsPhrase inner a) → All (Fails inner) as_ → All (Fails least) (map f as_)
through least inner f as_ leads h = All-map (Fails least) f as_ (All-weaker (Fails inner) (λ a. Fails least (f a)) (λ a fails held. fails (leads a held)) as_ h)

of_two : (f : Phrase → Phrase → Phrase) (a b : Phrase) (least left right : ℕ)
    → ((x y : Phrase) → IsPhrase least (f x y) → IsPhrase left x × IsPhrase right y) → Needed left a → Needed right b
    → All (Fails least) (map (λ x. f x b) (dropped a) ++ map (λ y. f a y) (dropped b))
of_two f a b least left right leads l r =
    All-append (Fails least) (map (λ x. f x b) (dropped a)) (map (λ y. f a y) (dropped b))
    (through least left (λ x. f x b) (dropped a) (λ x h. (leads x b h).0) l)
    (through least right (λ y. f a y) (dropped b) (λ y h. (leads a y h).1) r)

-- in parentheses, an expression whose level is too low for its place
of_group : (least : ℕ) (a : Phrase) → Fails least a → Needed 0 a → Needed least (Group a)
of_group least a fails h = All-cons (Fails least) a (map (λ x. Group x) (dropped a)) fails (through least 0 (λ x. Group x) (dropped a) (λ x held. held) h)

-- an expression at its place
placed : (e : Term) (least : ℕ) → least ≤ 5 → ((level : ℕ) → Needed level (phrase_of e)) → Needed least (in_group least (level_of e) (phrase_of e))
placed e least le h =
    cond_both (nat_lt (level_of e) least) (Group (phrase_of e)) (phrase_of e) (Needed least)
    (λ low. of_group least (phrase_of e) (λ held. omega (arith, within e least le held, ltb-true (level_of e) least low)) (h 0))
    (λ _. h least)

few_levels : (o : Operator) → (left_level o ≤ 5) × (right_level o ≤ 5)
few_levels Or = (omega arith, omega arith)
few_levels And = (omega arith, omega arith)
few_levels Equal = (omega arith, omega arith)
few_levels NotEqual = (omega arith, omega arith)
few_levels Less = (omega arith, omega arith)
few_levels LessEqual = (omega arith, omega arith)
few_levels Add = (omega arith, omega arith)
few_levels Sub = (omega arith, omega arith)

needed : (e : Term) (least : ℕ) → Needed least (phrase_of e)
needed (Single a) least = All-nil (Fails least)
needed (Call c l r) least = of_two (λ x y. written.Call (callee_written c) x y) (phrase_of l) (phrase_of r) least 0 0 (λ x y h. h) (needed l 0) (needed r 0)
needed (Is f e) least =
    through least 4 (λ x. written.Test f x) (dropped (in_group 4 (level_of e) (phrase_of e))) (λ x held. held.1) (placed e 4 (omega arith) (needed e))
needed (Not e) least =
    through least 2 (λ x. Negation x) (dropped (in_group 2 (level_of e) (phrase_of e))) (λ x held. held.1) (placed e 2 (omega arith) (needed e))
needed (Pair o l r) least =
    of_two (λ x y. written.Pair o x y) (in_group (left_level o) (level_of l) (phrase_of l)) (in_group (right_level o) (level_of r) (phrase_of r)) least (left_level o) (right_level o)
    (λ x y h. (h.1, h.2)) (placed l (left_level o) (few_levels o).0 (needed l)) (placed r (right_level o) (few_levels o).1 (needed r))

pub none_can_be_dropped : NoneCanBeDropped
none_can_be_dropped e least le = placed e least le (needed e)
