-- What stands for what is written so far.
use Rattle.std.specs.Prelude.{◌≡◌, Bool, true, List, [], ◌∷◌, Option, Some, None}
use Rattle.policy_grammar.specs.Grammar.{Statements}
use Rattle.policy_lang.specs.declared.Block.{Block}
use Rattle.policy_lang.specs.TreeOf.{tree_of}
use Rattle.policy_tree.specs.declared.state.Builder.{Builder}
use Rattle.policy_tree.specs.Trees.{IsExpr, IsHead, AreTrees, statements_acts}
use Rattle.policy_tree.specs.Machine.{State}

-- one of one
abbrev pub Each : {A B : Type 0} → (A → B → Type 0) → List A → List B → Type 0
Each R [] [] = Unit {0}
Each R (a ∷ as_) (b ∷ bs) = R a b × Each R as_ bs
Each R as_ bs = ⊥

abbrev pub Same : {A : Type 0} → A → A → Type 0
Same a b = b ≡ a

abbrev pub IsBlock : Statements → Block → Type 0
IsBlock ss b = tree_of b ≡ statements_acts ss

-- the builder has this
pub record Stands (w : State) (b : Builder) : Type 0 where
  pub tables : b.tables.items ≡ w.tables
  pub learning : b.learning ≡ w.learning
  pub exprs : Each IsExpr w.exprs b.exprs
  pub callees : Each Same w.callees b.callees
  pub asks : Each Same w.asks b.asks
  pub names : Each Same w.names b.names
  pub heads : Each IsHead w.heads b.heads
  pub blocks : Each IsBlock w.blocks b.blocks
  pub outer : Each (λ ss list. AreTrees ss list.items) w.outer b.outer
  pub body : AreTrees w.body b.list.items

-- where something is made, that was done, and it has the property
abbrev pub Fits : {A : Type 0} → (A → Type 0) → Bool → Option A → Type 0
Fits P fits None = Unit {0}
Fits P fits (Some a) = (fits ≡ true) × P a

-- the builder goes on as what is written does
abbrev pub Makes : (State → Option State) → Builder → Builder → Bool → Type 0
Makes make old new fits = (w : State) → Stands w old → Fits (λ v. Stands v new) fits (make w)
