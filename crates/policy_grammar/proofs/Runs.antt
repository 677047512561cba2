-- Reading tokens, one part after the other.
use Rattle.std.proofs.Common.{◌≡◌, List, [], ◌∷◌, ◌++◌, Option, Some, None, refl}
use Rattle.std.specs.Option.{option_and_then}
use Rattle.policy_tokens.specs.declared.token.Token.{Token}
use Rattle.policy_grammar.specs.Automaton.{State, step, run}

behind_step : (ts us : List Token) → ((n : State) → run n (ts ++ us) ≡ option_and_then (λ m. run m us) (run n ts)) → (o : Option State)
    → option_and_then (λ n. run n (ts ++ us)) o ≡ option_and_then (λ m. run m us) (option_and_then (λ n. run n ts) o)
behind_step ts us h None = refl
behind_step ts us h (Some n) = h n

-- tokens are read as the first of them, and then the others
pub run_append : (s : State) (ts us : List Token) → run s (ts ++ us) ≡ option_and_then (λ n. run n us) (run s ts)
run_append s [] us = refl
run_append s (t ∷ ts) us = behind_step ts us (λ n. run_append n ts us) (step s t)
