-- The two batches of changes that lead from one list of rules to another.
use Rattle.std.specs.Prelude.{◌≡◌, ◌≤◌, ℕ, Bool, not, ◌&&◌, ◌||◌, ◌==◌, nat_eq, nat_lt, if◌then◌else◌, length, filter, map, List, [], ◌++◌, Contains}
use Rattle.std.specs.List.{AllPairs, list_any}
use lib.Pointwise.{pointwise}
use Rattle.maple_base.specs.declared.decision.Rule.{Rule}
use Rattle.maple_base.specs.declared.decision.TableMod.{TableMod}
use Rattle.maple_base.specs.declared.decision.TableMod.TheVariants.{Add, DeleteStrict}
use Rattle.maple_base.specs.RuleLists.{Rules}
use Rattle.maple_base.specs.Choice.{Differ}
use Rattle.of10_codec.specs.RuleOrder.{ArePut}
use Rattle.flow_table.specs.Effects.{is_at, has_at, after}
use Rattle.flow_table.specs.Shielding.{IsBarrier}

-- all rules of a list
abbrev pub rules_of : Rules → List Rule
rules_of X = X.facts ++ X.barriers

abbrev pub no_rules : Rules
no_rules = record { facts = []; barriers = [] }

-- a list of rules for a switch that has room for so many
pub record IsTarget (capacity : ℕ) (X : Rules) : Type 0 where
  pub room : length (rules_of X) ≤ capacity
  -- no two rules agree in match and priority
  pub distinct : AllPairs Differ (rules_of X)
  -- just the barriers send to the controller and nowhere else
  pub fact : (r : Rule) → Contains X.facts r → IsBarrier r → ⊥
  pub barrier : (r : Rule) → Contains X.barriers r → IsBarrier r
  -- a barrier has cookie 0 and idle time 0, so that its match and its priority tell the whole rule
  pub plain : (r : Rule) → Contains X.barriers r → (r.cookie ≡ 0) × (r.idle ≡ 0)

-- two rules are equal: in match, priority, actions, cookie and idle time
abbrev pub same_rule : Rule → Rule → Bool
same_rule r q = is_at r.of r.priority q && pointwise nat_eq q.actions r.actions && q.cookie == r.cookie && q.idle == r.idle

-- the list has this very rule
abbrev pub has_rule : Rules → Rule → Bool
has_rule X r = list_any (same_rule r) (rules_of X)

-- the rules among these that the list hasn't
abbrev pub lacking : Rules → List Rule → List Rule
lacking X rules = filter (λ r. not (has_rule X r)) rules

-- the rules among these that aren't in the list, but for those whose match and priority a rule of the second list takes
abbrev pub leaving : Rules → List Rule → List Rule → List Rule
leaving X takers rules = filter (λ r. not (has_rule X r) && not (has_at r.of r.priority takers)) rules

-- the first batch from A to B adds the barriers of B that A hasn't, and deletes the facts of A that aren't in B, unless one of the barriers just added takes their place
abbrev pub first_adds : Rules → Rules → List Rule
first_adds A B = lacking A B.barriers

abbrev pub first_deletes : Rules → Rules → List Rule
first_deletes A B = leaving B (first_adds A B) A.facts

-- the second batch adds the facts of B that A hasn't, and deletes the barriers of A that aren't in B, unless a fact of B takes their place
abbrev pub second_adds : Rules → Rules → List Rule
second_adds A B = lacking A B.facts

abbrev pub second_deletes : Rules → Rules → List Rule
second_deletes A B = leaving B B.facts A.barriers

abbrev pub deletion : Rule → TableMod
deletion r = DeleteStrict r.of r.priority

-- the additions, and behind them the deletions
abbrev pub batch : List Rule → List Rule → List TableMod
batch adds deletes = map Add adds ++ map deletion deletes

abbrev pub first_batch : Rules → Rules → List TableMod
first_batch A B = batch (first_adds A B) (first_deletes A B)

abbrev pub second_batch : Rules → Rules → List TableMod
second_batch A B = batch (second_adds A B) (second_deletes A B)

-- a batch as it is sent: its additions in the order of rules, and behind them its deletions in the order of rules
pub record IsSent (adds deletes : List Rule) (mods : List TableMod) : Type 0 where
  pub first : List Rule
  pub rest : List Rule
  pub adds_put : ArePut adds first
  pub deletes_put : ArePut deletes rest
  pub is : mods ≡ batch first rest

abbrev pub IsFirst : Rules → Rules → List TableMod → Type 0
IsFirst A B mods = IsSent (first_adds A B) (first_deletes A B) mods

abbrev pub IsSecond : Rules → Rules → List TableMod → Type 0
IsSecond A B mods = IsSent (second_adds A B) (second_deletes A B) mods

-- how many pairs of match and priority A and the first additions have together
abbrev pub peak_one : Rules → Rules → ℕ
peak_one A B = length (after (map Add (first_adds A B)) (rules_of A))

-- the table behind the first batch
abbrev pub between : Rules → Rules → List Rule
between A B = after (first_batch A B) (rules_of A)

-- how many pairs that table and the second additions have together
abbrev pub peak_two : Rules → Rules → ℕ
peak_two A B = length (after (map Add (second_adds A B)) (between A B))

-- a switch that has room for so many rules has none for the batches from A to B
abbrev pub is_over : ℕ → Rules → Rules → Bool
is_over capacity A B = nat_lt capacity (peak_one A B) || nat_lt capacity (peak_two A B)

-- the list from which the batches lead: A, or where there is no room for that the empty list, and then the table is cleared first
abbrev pub origin : ℕ → Rules → Rules → Rules
origin capacity A B = if is_over capacity A B then no_rules else A
