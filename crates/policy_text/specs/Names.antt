-- The names that a policy declares, and where they stand in its text.
use Rattle.std.specs.Prelude.{◌≡◌, ℕ, ◌+◌, List, [], ◌∷◌, ◌++◌, All, Some}
use Rattle.std.specs.List.{slice_get}
use Rattle.policy_lang.specs.Faults.{AtName}
use Rattle.policy_lang.specs.Sizes.{size_of, ask_size, act_size, acts_size}
use Rattle.policy_lang.specs.Tree.{Ask, Binds, Holds, Act, Acts, Drop, Flood, Out, Route, Let, Assign, If, IfElse, While, Done, Then}
use Rattle.policy_tokens.specs.declared.token.Token.TheVariants.{Name as name}
use Rattle.policy_grammar.specs.Grammar.{File, file_tokens}
use Rattle.policy_outline.specs.FileNodes.{site_token}
use Rattle.policy_tree.specs.Trees.{statements_acts}

-- the name that a head binds, with the number of the head's node
abbrev pub ask_names : Ask → ℕ → List (ℕ × List ℕ)
ask_names (Binds s e x) n = (n, x) ∷ []
ask_names (Holds e) n = []

-- the names that statements declare, by `let` and by heads that bind one, each with the number of its node, where the first node has this number
abbrev mutual
  pub act_names : Act → ℕ → List (ℕ × List ℕ)
  act_names Drop n = []
  act_names Flood n = []
  act_names (Out es) n = []
  act_names (Route e) n = []
  act_names (Let x e) n = (n, x) ∷ []
  act_names (Assign x e) n = []
  act_names (If q b) n = ask_names q (n + 1) ++ acts_names b (n + 1 + ask_size q)
  act_names (IfElse q b c) n = ask_names q (n + 1) ++ acts_names b (n + 1 + ask_size q) ++ acts_names c (n + 1 + ask_size q + acts_size b)
  act_names (While e b) n = acts_names b (n + 1 + size_of e)

  pub acts_names : Acts → ℕ → List (ℕ × List ℕ)
  acts_names Done n = []
  acts_names (Then s rest) n = act_names s n ++ acts_names rest (n + act_size s)

-- each name that a file declares stands at the token that is told for it
abbrev pub NamesStandThere : Type 0
NamesStandThere = (f : File) → All (λ d. slice_get (file_tokens f) (site_token f (AtName d.0)) ≡ Some (name d.1)) (acts_names (statements_acts f.body) 1)
