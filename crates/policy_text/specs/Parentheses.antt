-- One pair of an expression's parentheses dropped.
use Rattle.std.specs.Prelude.{map, List, [], ◌∷◌, ◌++◌}
use Rattle.policy_grammar.specs.Grammar.{Phrase, Single, Call, Group, Negation, Test, Pair}

-- an expression with one of its pairs dropped, in each way
abbrev pub dropped : Phrase → List Phrase
dropped (Single t) = []
dropped (Call c a b) = map (λ x. Call c x b) (dropped a) ++ map (λ x. Call c a x) (dropped b)
dropped (Group a) = a ∷ map (λ x. Group x) (dropped a)
dropped (Negation a) = map (λ x. Negation x) (dropped a)
dropped (Test f a) = map (λ x. Test f x) (dropped a)
dropped (Pair o a b) = map (λ x. Pair o x b) (dropped a) ++ map (λ x. Pair o a x) (dropped b)
