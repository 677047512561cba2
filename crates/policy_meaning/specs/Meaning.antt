-- What a policy means: a run as a tree of questions. Running a statement and evaluating an expression or a head that binds a name count one step each, ahead of their parts; each next hop that a `route` reads counts one more.
use Rattle.std.specs.Prelude.{ℕ, zero, suc, ◌-◌, Bool, true, false, ◌==◌, if◌then◌else◌, List, [], ◌∷◌, length, drop, Option, Some, None}
use Rattle.maple_base.specs.declared.key.Key.{Key}
use Rattle.maple_base.specs.declared.cells.Place.{Place}
use Rattle.maple_base.specs.declared.cells.Cell.{Cell}
use Rattle.maple_base.specs.declared.cells.Cell.TheVariants as cells
use Rattle.maple_base.specs.declared.cells.Value.{Value}
use Rattle.maple_base.specs.declared.cells.Value.TheVariants as value
use Rattle.maple_base.specs.declared.decision.Decision.TheVariants.{Drop as Dropped, Flood as Flooded, Path as Along}
use Rattle.maple_base.specs.declared.decision.Outcome.{Outcome}
use Rattle.maple_base.specs.declared.decision.Outcome.TheVariants.{Decided, Spent}
use Rattle.maple_base.specs.declared.operator.Operator.{Operator}
use Rattle.maple_base.specs.Ports.{is_port}
use Rattle.maple_base.specs.Questions.{same_bool}
use Rattle.policy_lang.specs.Tree.{Atom, Number, Var, SwitchOf, PortOf, PacketSwitch, Packet, Callee, Up, At, Term, Single, Call, Is, Not, Pair, Ask, Binds, Holds, Act, Acts, Drop, Flood, Out, Route, Let, Assign, If, IfElse, While, Done, Then}
use Rattle.policy_meaning.specs.Values.{Datum, Numeral, Truth, Scope, number_in, truth_in, place_in, flag_in, named, assigned, ports_among, sent_out, opposite, place_at, applied, settling, hop_at, source_cell, source_told}
use Rattle.policy_meaning.specs.Readings.{outcome_in}
use Rattle.policy_meaning.specs.Asking.{Asking, Run, gives, ends, ◌>>=◌, field, test, cell, count, whole}

-- a part of a run that gives something: with so many steps left, it gives this and how many are left then
abbrev pub Giving : Type 0 → Type 0
Giving A = ℕ → Run (A × ℕ)

-- an expression without parts, at a switch, where these names are in force
abbrev pub atom_of : Atom → ℕ → Scope → Run Datum
atom_of (Number n) switch s = gives (Numeral n)
atom_of (Var x) switch s = gives (named x s)
atom_of (SwitchOf x) switch s = gives (Numeral (place_in (named x s)).switch)
atom_of (PortOf x) switch s = gives (Numeral (place_in (named x s)).port)
atom_of PacketSwitch switch s = gives (Numeral switch)
atom_of (Packet f) switch s = do
  n ← field f
  gives (Numeral n)

-- whether a port is up is asked of the environment; `at` makes a place
abbrev pub called : Callee → Datum → Datum → Run Datum
called Up d e = do
  v ← cell (cells.Up (number_in d) (number_in e))
  gives (Truth (flag_in v))
called At d e = gives (place_at d e)

-- behind the left part: one whose truth settles `and` or `or` is the answer, and else the right part is; the other operators are applied to both
abbrev pub behind_left : Option Bool → Operator → Datum → Giving Datum → Giving Datum
behind_left (Some b) o d right left = if same_bool (truth_in d) b then gives (Truth b, left) else right left
behind_left None o d right left = do
  (e, left) ← right left
  gives (applied o d e, left)

-- an expression, at a switch, where these names are in force
abbrev pub value_of : Term → ℕ → Scope → Giving Datum
value_of (Single x) switch s left = do
  left ← count left
  d ← atom_of x switch s
  gives (d, left)
value_of (Call c l r) switch s left = do
  left ← count left
  (d, left) ← value_of l switch s left
  (e, left) ← value_of r switch s left
  v ← called c d e
  gives (v, left)
value_of (Is f e) switch s left = do
  left ← count left
  (d, left) ← value_of e switch s left
  b ← test f (number_in d)
  gives (Truth b, left)
value_of (Not e) switch s left = do
  left ← count left
  (d, left) ← value_of e switch s left
  gives (opposite d, left)
value_of (Pair o l r) switch s left = do
  left ← count left
  (d, left) ← value_of l switch s left
  behind_left (settling o) o d (value_of r switch s) left

-- the numbers of expressions, from left to right
abbrev pub numbers_of : List Term → ℕ → Scope → Giving (List ℕ)
numbers_of [] switch s left = gives ([], left)
numbers_of (e ∷ es) switch s left = do
  (d, left) ← value_of e switch s left
  (ns, left) ← numbers_of es switch s left
  gives (number_in d ∷ ns, left)

-- a name is bound to what a cell tells, and the head fails where it tells nothing
abbrev pub bound : List ℕ → Scope → Option Datum → Option Scope
bound x s None = None
bound x s (Some d) = Some ((x, d) ∷ s)

-- an expression binds no name: where it is true, those in force stay
abbrev pub where_true : Scope → Datum → Option Scope
where_true s d = if truth_in d then Some s else None

-- what an `if` asks: where it holds, it gives the names in force there
abbrev pub head_of : Ask → ℕ → Scope → Giving (Option Scope)
head_of (Binds t e x) switch s left = do
  left ← count left
  (d, left) ← value_of e switch s left
  v ← cell (source_cell t switch (number_in d))
  gives (bound x s (source_told t v), left)
head_of (Holds e) switch s left = do
  (d, left) ← value_of e switch s left
  gives (where_true s d, left)

-- behind a next hop: at its switch the way ends, or the hop is followed, and the way goes on from the switch at which the hop ends
abbrev pub behind_hop : ℕ → Place → (ℕ → Run (List Place)) → Value → Run (List Place)
behind_hop from to next (value.At p) = do
  ps ← if p.switch == to.switch then gives (to ∷ []) else next p.switch
  gives (hop_at from p.port ∷ ps)
behind_hop from to next v = ends (Decided Dropped)

-- the way from a switch to a place, of so many next hops at most: its places, each a switch and the port by which it is left; where there is none, the packet is dropped
abbrev pub way : ℕ → Place → ℕ → ℕ → Run (List Place)
way zero to left from = ends (Decided Dropped)
way (suc more) to left from = do
  left ← count left
  v ← cell (cells.Hop from to.switch)
  behind_hop from to (way more to left) v

-- the way from the packet's switch to a place; at that switch itself it is the place, and no hop is read
abbrev pub way_to : ℕ → Place → ℕ → Run (List Place)
way_to switch to left =
    if is_port to.port then (if switch == to.switch then gives (to ∷ []) else way 63 to left switch) else ends (Decided Dropped)

-- a part of a policy, where these names are in force: it gives those that are in force behind it
abbrev pub Running : Type 0
Running = Scope → Giving Scope

-- behind a part only the names that were in force ahead of it are
abbrev pub leaving : Scope → Run (Scope × ℕ) → Run (Scope × ℕ)
leaving outer run = do
  (s, left) ← run
  gives (drop (length s - length outer) s, left)

-- a block: its statements, and behind them the names from ahead of it
abbrev pub in_block : Running → Running
in_block block s left = leaving s (block s left)

-- the packet goes out of these ports
abbrev pub out_of : List Term → ℕ → Running
out_of es switch s left = do
  (ns, left) ← numbers_of es switch s left
  ends (Decided (sent_out (ports_among ns)))

-- the packet goes along the way to this place
abbrev pub route_of : Term → ℕ → Running
route_of e switch s left = do
  (d, left) ← value_of e switch s left
  ps ← way_to switch (place_in d) left
  ends (Decided (Along ps))

-- a name is declared
abbrev pub let_of : List ℕ → Term → ℕ → Running
let_of x e switch s left = do
  (d, left) ← value_of e switch s left
  gives ((x, d) ∷ s, left)

-- a name gets another value
abbrev pub assign_of : List ℕ → Term → ℕ → Running
assign_of x e switch s left = do
  (d, left) ← value_of e switch s left
  gives (assigned x d s, left)

-- an `if` without a second block
abbrev pub nothing_done : Running
nothing_done s left = gives (s, left)

-- the first block, with the names of a head that holds, or else the second
abbrev pub chosen : Option Scope → Running → Running → Running
chosen (Some inner) first second s left = leaving s (first inner left)
chosen None first second s left = second s left

abbrev pub if_of : Ask → Running → Running → ℕ → Running
if_of q first second switch s left = do
  (held, left) ← head_of q switch s left
  chosen held first second s left

-- one round of a loop, where its expression holds: its block, and then what follows
abbrev pub round : Bool → Running → Running → Running
round true body next s left = do
  (s, left) ← body s left
  next s left
round false body next s left = gives (s, left)

-- a block is run as long as an expression holds, for so many rounds at most; each round takes a step
abbrev pub rounds : ℕ → Term → Running → ℕ → Running
rounds zero e body switch s left = ends Spent
rounds (suc more) e body switch s left = do
  (d, left) ← value_of e switch s left
  round (truth_in d) body (rounds more e body switch) s left

-- a loop has no more rounds than there are steps
abbrev pub while_of : Term → Running → ℕ → Running
while_of e body switch s left = rounds (suc left) e body switch s left

abbrev mutual
  -- a statement behind its own step
  pub act_of : Act → ℕ → Running
  act_of Drop switch s left = ends (Decided Dropped)
  act_of Flood switch s left = ends (Decided Flooded)
  act_of (Out es) switch s left = out_of es switch s left
  act_of (Route e) switch s left = route_of e switch s left
  act_of (Let x e) switch s left = let_of x e switch s left
  act_of (Assign x e) switch s left = assign_of x e switch s left
  act_of (If q b) switch s left = if_of q (in_block (acts_of b switch)) nothing_done switch s left
  act_of (IfElse q b c) switch s left = if_of q (in_block (acts_of b switch)) (in_block (acts_of c switch)) switch s left
  act_of (While e b) switch s left = while_of e (in_block (acts_of b switch)) switch s left

  -- statements one after the other, each counted
  pub acts_of : Acts → ℕ → Running
  acts_of Done switch s left = gives (s, left)
  acts_of (Then st rest) switch s left = do
    left ← count left
    (s, left) ← act_of st switch s left
    acts_of rest switch s left

-- what the statements of a policy do of a packet at a switch, in at most so many steps; their end without a decision is a drop
abbrev pub meaning : Acts → ℕ → ℕ → Asking Outcome
meaning body budget switch = whole (Decided Dropped) (in_block (acts_of body switch) [] budget)

-- plain evaluation: the end of the answers that a key and an environment give
abbrev pub eval_of : Acts → ℕ → (Cell → Value) → ℕ → Key → Outcome
eval_of body budget env switch k = outcome_in (meaning body budget switch) k env
