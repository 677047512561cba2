-- What expressions give, what operators and heads make of it, what names stand for, and which ports an `out` names.
use Rattle.std.specs.Prelude.{ℕ, ◌+◌, ◌-◌, ◌^◌, min, Bool, true, false, not, ◌&&◌, ◌||◌, ◌==◌, nat_lt, nat_le, filter, if◌then◌else◌, List, [], ◌∷◌, Option, Some, None}
use Rattle.std.specs.Str.{bytes_eq}
use Rattle.maple_base.specs.Ports.{is_port}
use Rattle.maple_base.specs.declared.cells.Place.{Place}
use Rattle.maple_base.specs.declared.cells.Cell.{Cell}
use Rattle.maple_base.specs.declared.cells.Cell.TheVariants as cell
use Rattle.maple_base.specs.declared.cells.Value.{Value}
use Rattle.maple_base.specs.declared.cells.Value.TheVariants.{At, Number as Counted, Flag}
use Rattle.maple_base.specs.declared.decision.Decision.{Decision}
use Rattle.maple_base.specs.declared.decision.Decision.TheVariants.{Drop as Dropped, Out as SentOut}
use Rattle.maple_base.specs.declared.operator.Operator.{Operator}
use Rattle.maple_base.specs.declared.operator.Operator.TheVariants as operator
use Rattle.policy_lang.specs.Tree.{Source, Host, Hop, Table}

-- a number, a truth or a place
pub data Datum : Type 0 where
  Numeral : ℕ → Datum
  Truth : Bool → Datum
  Located : Place → Datum

abbrev pub number_in : Datum → ℕ
number_in (Numeral n) = n
number_in (Truth b) = 0
number_in (Located p) = 0

abbrev pub truth_in : Datum → Bool
truth_in (Numeral n) = false
truth_in (Truth b) = b
truth_in (Located p) = false

abbrev pub nowhere : Place
nowhere = record { switch = 0; port = 0 }

abbrev pub place_in : Datum → Place
place_in (Numeral n) = nowhere
place_in (Truth b) = nowhere
place_in (Located p) = p

-- what the environment tells of a host, of a next hop, of a table's number and of a port
abbrev pub place_of_host : Value → Option Datum
place_of_host (At p) = Some (Located p)
place_of_host v = None

abbrev pub port_of_hop : Value → Option Datum
port_of_hop (At p) = Some (Numeral p.port)
port_of_hop v = None

abbrev pub number_in_table : Value → Option Datum
number_in_table (Counted n) = Some (Numeral n)
number_in_table v = None

abbrev pub flag_in : Value → Bool
flag_in (Flag b) = b
flag_in v = false

-- the names in force with what they stand for, the last declared first
abbrev pub Scope : Type 0
Scope = List (List ℕ × Datum)

-- what a name stands for
abbrev pub named : List ℕ → Scope → Datum
named x [] = Numeral 0
named x ((y, d) ∷ scope) = if bytes_eq y x then d else named x scope

-- a name stands for another value
abbrev pub assigned : List ℕ → Datum → Scope → Scope
assigned x d [] = []
assigned x d ((y, e) ∷ scope) = if bytes_eq y x then (y, d) ∷ scope else (y, e) ∷ assigned x d scope

-- the ports among these numbers, without repeats
abbrev pub ports_among : List ℕ → List ℕ
ports_among [] = []
ports_among (n ∷ ns) = if is_port n then n ∷ filter (λ m. not (m == n)) (ports_among ns) else ports_among ns

-- what is decided by an `out` of these ports
abbrev pub sent_out : List ℕ → Decision
sent_out [] = Dropped
sent_out (p ∷ ps) = SentOut (p ∷ ps)

abbrev pub opposite : Datum → Datum
opposite d = Truth (not (truth_in d))

-- sums stop at 2^64 - 1, and differences at 0
abbrev pub sum_of : Datum → Datum → Datum
sum_of d e = Numeral (min (number_in d + number_in e) (2 ^ 64 - 1))

abbrev pub difference_of : Datum → Datum → Datum
difference_of d e = Numeral (number_in d - number_in e)

abbrev pub are_equal : Datum → Datum → Datum
are_equal d e = Truth (number_in d == number_in e)

abbrev pub are_unequal : Datum → Datum → Datum
are_unequal d e = Truth (not (number_in d == number_in e))

abbrev pub is_less : Datum → Datum → Datum
is_less d e = Truth (nat_lt (number_in d) (number_in e))

abbrev pub is_at_most : Datum → Datum → Datum
is_at_most d e = Truth (nat_le (number_in d) (number_in e))

abbrev pub place_at : Datum → Datum → Datum
place_at d e = Located (record { switch = number_in d; port = number_in e })

-- what an operator makes of what two expressions give, where both are evaluated
abbrev pub applied : Operator → Datum → Datum → Datum
applied operator.Or d e = Truth (truth_in d || truth_in e)
applied operator.And d e = Truth (truth_in d && truth_in e)
applied operator.Equal d e = are_equal d e
applied operator.NotEqual d e = are_unequal d e
applied operator.Less d e = is_less d e
applied operator.LessEqual d e = is_at_most d e
applied operator.Add d e = sum_of d e
applied operator.Sub d e = difference_of d e

-- the truth of a left part that settles an operator: false settles `and`, true settles `or`
abbrev pub settling : Operator → Option Bool
settling operator.Or = Some true
settling operator.And = Some false
settling o = None

-- the cell that a head reads by a number, and what it tells
abbrev pub source_cell : Source → ℕ → ℕ → Cell
source_cell Host switch n = cell.Host n
source_cell Hop switch n = cell.Hop switch n
source_cell (Table t) switch n = cell.Num t n

abbrev pub source_told : Source → Value → Option Datum
source_told Host = place_of_host
source_told Hop = port_of_hop
source_told (Table t) = number_in_table

abbrev pub hop_at : ℕ → ℕ → Place
hop_at switch port = record { switch = switch; port = port }
