-- Which rule of a table a switch may choose for a packet (OpenFlow Switch Specification 1.0.0, 3.4).
use Rattle.std.specs.Prelude.{◌≡◌, Bool, true, false, not, ◌&&◌, ◌||◌, nat_lt, List, Contains}
use Rattle.maple_base.specs.declared.key.Key.{Key}
use Rattle.maple_base.specs.declared.decision.Rule.{Rule}
use Rattle.maple_base.specs.Keys.{match_fits, match_exact}

-- an exact match wins over one that is not; between two that are not, the greater priority
abbrev pub stands_above : Rule → Rule → Bool
stands_above r q = not (match_exact q.of) && (match_exact r.of || nat_lt q.priority r.priority)

abbrev pub fits : Rule → Key → Bool
fits r k = match_fits r.of k

-- a switch with this table may choose this rule for the key: it is in the table, it fits, and no fitting rule of the table stands above it
pub record MayChoose (table : List Rule) (k : Key) (r : Rule) : Type 0 where
  pub there : Contains table r
  pub fitting : fits r k ≡ true
  pub top : (q : Rule) → Contains table q → fits q k ≡ true → stands_above q r ≡ false

-- two rules differ in match or in priority
abbrev pub Differ : Rule → Rule → Type 0
Differ r q = r.of ≡ q.of → r.priority ≡ q.priority → ⊥
