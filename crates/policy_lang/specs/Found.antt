-- What the walk over a tree's names and types finds.
use Rattle.std.specs.Prelude.{◌≡◌, ℕ, ◌+◌, Bool, true, ◌&&◌, List, [], ◌++◌, Option, Some, None}
use Rattle.policy_lang.specs.declared.faults.Fault.{Fault as CodeFault}
use Rattle.policy_lang.specs.declared.types.Found.{Found}
use Rattle.std.specs.Option.{option_map}
use Rattle.policy_lang.specs.declared.Head.{Head}
use Rattle.policy_lang.specs.declared.Block.{Block}
use Rattle.policy_lang.specs.TreeOf.{ask_of, tree_of}
use Rattle.policy_lang.specs.Tree.{Term, Ask, Act, Acts}
use Rattle.policy_lang.specs.Sizes.{size_of, ask_size, act_size, acts_size, else_size}
use Rattle.policy_lang.specs.Faults.{Fault, Site, Names, Type_, NumberType, TruthType, meaning_of, parts_faults, expr_faults, operand_faults, declared_faults, assigned_faults, ask_faults, names_behind, act_faults, acts_faults, first_by}
use Rattle.policy_lang.specs.Sound.{sound_ask, sound_acts}
use Rattle.policy_lang.specs.Walks.{told}

-- the first of these faults, wherever their sites lie
abbrev pub IsFirstAnywhere : Option CodeFault → List Fault → Type 0
IsFirstAnywhere fault faults = (place : Site → ℕ) → told fault ≡ first_by place faults

-- the first of these faults, where each site has its place, and the number behind the nodes
pub record IsFound (place : Site → ℕ) (found : Found) (faults : List Fault) (after : ℕ) : Type 0 where
  pub fault : told found.fault ≡ first_by place faults
  pub next : found.next ≡ after

-- the names at the end of a block are those ahead of it, with those that it declares behind them
pub record IsInner (inner outer : Names) : Type 0 where
  pub declared : Names
  pub is : inner ≡ outer ++ declared

-- what is wrong in the second block of an `if`, if there is one
abbrev pub else_faults : Option Acts → Names → ℕ → List Fault
else_faults None names n = []
else_faults (Some b) names n = acts_faults b names n

-- what is wrong in an `if` whose head has this number
abbrev pub if_faults : Ask → Acts → Option Acts → Names → ℕ → List Fault
if_faults q b o names n = ask_faults q names n ++ acts_faults b (names_behind q names) (n + ask_size q) ++ else_faults o names (n + ask_size q + acts_size b)

-- what is found in two expressions that are to be of a type, of which the first has this number
abbrev pub AreTwoFound : (Site → ℕ) → Found → Type_ → Term → Term → Names → ℕ → Type 0
AreTwoFound place found wanted l r names n = IsFound place found (parts_faults wanted (expr_faults l names) (expr_faults r names) l r names n) (n + size_of l + size_of r)

-- in the expression and the name of a head of this number
abbrev pub IsBindingFound : (Site → ℕ) → Found → Term → List ℕ → Names → ℕ → Type 0
IsBindingFound place found e x names n = IsFound place found (operand_faults NumberType e names (n + 1) ++ declared_faults x names n) (n + (1 + size_of e))

-- in a `let` of this number
abbrev pub IsLetFound : (Site → ℕ) → Found → List ℕ → Term → Names → ℕ → Type 0
IsLetFound place found x e names n = IsFound place found (declared_faults x names n ++ expr_faults e names (n + 1)) (n + (1 + size_of e))

-- in an assignment of this number
abbrev pub IsAssignFound : (Site → ℕ) → Found → List ℕ → Term → Names → ℕ → Type 0
IsAssignFound place found x e names n = IsFound place found (assigned_faults (meaning_of x names) e names n) (n + (1 + size_of e))

-- in a statement of this number
abbrev pub IsActFound : (Site → ℕ) → Found → Act → Names → ℕ → Type 0
IsActFound place found s names n = IsFound place found (act_faults s names n) (n + act_size s)

-- in what an `if` asks, which has this number, and its blocks
abbrev pub IsIfFound : (Site → ℕ) → Found → Ask → Acts → Option Acts → Names → ℕ → Type 0
IsIfFound place found q b o names n = IsFound place found (if_faults q b o names n) (n + ask_size q + acts_size b + else_size o)

-- in what a `while` asks, which has this number, and its block
abbrev pub IsWhileFound : (Site → ℕ) → Found → Term → Acts → Names → ℕ → Type 0
IsWhileFound place found e b names n = IsFound place found (operand_faults TruthType e names n ++ acts_faults b names (n + size_of e)) (n + size_of e + acts_size b)

-- in the second block of an `if`, if there is one, from this number on
abbrev pub IsElseFound : (Site → ℕ) → Found → Option Acts → Names → ℕ → Type 0
IsElseFound place found o names n = IsFound place found (else_faults o names n) (n + else_size o)

-- in the statements of a block, from this number on
abbrev pub AreActsFound : (Site → ℕ) → Found → Acts → Names → ℕ → Type 0
AreActsFound place found b names n = IsFound place found (acts_faults b names n) (n + acts_size b)

-- in an expression of this number that is to be of a type
abbrev pub IsOperandFound : (Site → ℕ) → Found → Type_ → Term → Names → ℕ → Type 0
IsOperandFound place found wanted e names n = IsFound place found (operand_faults wanted e names n) (n + size_of e)

abbrev pub IfFound : (Site → ℕ) → Found → Head → Block → Option Block → Names → ℕ → Type 0
IfFound place found h b o names n = IsIfFound place found (ask_of h) (tree_of b) (option_map tree_of o) names n

-- what the types keep of the second block of an `if`, if there is one, and of all that an `if` has
abbrev pub sound_else : Option Acts → Bool
sound_else None = true
sound_else (Some b) = sound_acts b

abbrev pub sound_if : Ask → Acts → Option Acts → Bool
sound_if q b o = sound_ask q && sound_acts b && sound_else o
