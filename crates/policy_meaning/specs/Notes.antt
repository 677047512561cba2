-- How an asker's notes lead through a tree without the settled questions.
use Rattle.std.specs.Prelude.{◌≡◌, ◌==◌, List, ◌++◌}
use Rattle.maple_base.specs.declared.key.Key.{Key}
use Rattle.maple_base.specs.declared.cells.Cell.{Cell}
use Rattle.maple_base.specs.declared.cells.Value.{Value}
use Rattle.maple_base.specs.declared.items.Item.{Item}
use Rattle.maple_base.specs.declared.decision.Outcome.{Outcome}
use Rattle.maple_base.specs.Keys.{field_of}
use Rattle.policy_meaning.specs.Cells.{Gives, SomeGives}
use Rattle.policy_meaning.specs.Asking.{Asking}
use Rattle.policy_meaning.specs.Readings.{outcome_in, items_of, cells_of}
use Rattle.policy_meaning.specs.Through.{Seen, Onward, ask_field, ask_test, ask_cell}
use Rattle.policy_meaning.specs.Leads.{Answer, FieldIs, TestIs, CellIs, Saying}

-- the answers of a key and an environment
abbrev pub Truly : Key → (Cell → Value) → Answer → Type 0
Truly k env (FieldIs f v) = v ≡ field_of k f
Truly k env (TestIs f v b) = b ≡ (field_of k f == v)
Truly k env (CellIs c v) = v ≡ env c

-- behind the answers so far a tree goes on as another does behind more answers: the whole trace and the outcome are the same
pub record Same {A : Type 0} (k : Key) (env : Cell → Value) (s : Seen) (c : Asking A) (t : Seen) (d : Asking A) : Type 0 where
  pub items : s.items ++ items_of c k env ≡ t.items ++ items_of d k env
  pub cells : s.cells ++ cells_of c k env ≡ t.cells ++ cells_of d k env
  pub outcome : outcome_in c k env ≡ outcome_in d k env

abbrev pub seen : List Item → List (Cell × Value) → Seen
seen is cs = record { items = is; cells = cs }

-- a question, asked behind the answers so far and ahead of what follows
abbrev pub Question : Type 0 → Type 0
Question V = Seen → Onward V Outcome → Asking Outcome

-- a question to the key leads to what follows its answer, whatever follows
abbrev pub Asked : {V : Type 0} → Key → List Item → Question V → List Item → V → Type 0
Asked k is ask js v =
    (cs : List (Cell × Value)) (env : Cell → Value) (next : Onward _ Outcome)
    → Same k env (seen is cs) (ask (seen is cs) next) (seen js cs) (next v (seen js cs))

-- a question to the environment does so where the environment gives the cells
pub record Looked (k : Key) (s : Seen) (c : Cell) (t : Seen) (v : Value) : Type 0 where
  pub some : SomeGives s.cells → SomeGives t.cells
  pub kept : (env : Cell → Value) → Gives env t.cells → Gives env s.cells
  pub same : (env : Cell → Value) → Gives env t.cells → (next : Onward Value Outcome) → Same k env s (ask_cell c s next) t (next v t)

-- one to the key does so, and reads no cell
pub record AskedKey {V : Type 0} (k : Key) (s : Seen) (ask : Question V) (t : Seen) (v : V) : Type 0 where
  pub items : Asked k s.items ask t.items v
  pub cells : s.cells ≡ t.cells

-- the key's answers, noted where they were not settled
abbrev pub Notes : Key → Saying Seen
Notes k s (FieldIs f v) t = AskedKey k s (ask_field f) t v
Notes k s (TestIs f v b) t = AskedKey k s (ask_test f v) t b
Notes k s (CellIs c v) t = Looked k s c t v
