-- The plain tree of a policy: what its expressions, heads and statements are, without the places in memory at which they lie.
use Rattle.std.specs.Prelude.{ℕ, List}
use Rattle.maple_base.specs.declared.key.Field.{Field}
use Rattle.maple_base.specs.declared.operator.Operator.{Operator}

-- an expression without parts
pub data Atom : Type 0 where
  Number : ℕ → Atom
  Var : List ℕ → Atom
  SwitchOf : List ℕ → Atom
  PortOf : List ℕ → Atom
  PacketSwitch : Atom
  Packet : Field → Atom

-- the calls with two parts
pub data Callee : Type 0 where
  Up : Callee
  At : Callee

-- an expression
pub data Term : Type 0 where
  Single : Atom → Term
  Call : Callee → Term → Term → Term
  Is : Field → Term → Term
  Not : Term → Term
  Pair : Operator → Term → Term → Term

-- what a head that binds a name reads
pub data Source : Type 0 where
  Host : Source
  Hop : Source
  Table : List ℕ → Source

-- what an `if` asks
pub data Ask : Type 0 where
  Binds : Source → Term → List ℕ → Ask
  Holds : Term → Ask

-- a statement, and statements one after the other
mutual
  pub data Act : Type 0 where
    Drop : Act
    Flood : Act
    Out : List Term → Act
    Route : Term → Act
    Let : List ℕ → Term → Act
    Assign : List ℕ → Term → Act
    If : Ask → Acts → Act
    IfElse : Ask → Acts → Acts → Act
    While : Term → Acts → Act

  pub data Acts : Type 0 where
    Done : Acts
    Then : Act → Acts → Acts
