-- What the answers of heads, ways and statements say.
use Rattle.std.specs.Prelude.{ℕ, ◌==◌, Bool, List, [], ◌∷◌, if◌then◌else◌, Result, Option, Some, None}
use Rattle.maple_base.specs.declared.cells.Place.{Place}
use Rattle.std.specs.declared.vec.Vec.{Vec}
use Rattle.std.specs.Global.{Global}
use Rattle.policy_meaning.specs.Asking.{Run, gives}
use Rattle.policy_meaning.specs.Leads.{Saying}
use Rattle.policy_lang.specs.Tree.{Source, Binds}
use Rattle.policy_lang.specs.Tree as tree
use Rattle.policy_lang.specs.declared.Expr.{Expr}
use Rattle.policy_lang.specs.declared.Head.{Head}
use Rattle.policy_lang.specs.declared.Statement.{Statement}
use Rattle.policy_lang.specs.declared.Block.{Block}
use Rattle.policy_lang.specs.TreeOf as plain
use Rattle.policy_meaning.specs.Values.{Scope}
use Rattle.policy_meaning.specs.Meaning.{Running, act_of, acts_of, in_block, nothing_done, way, head_of, if_of, while_of}
use Rattle.policy_eval.specs.declared.asker.Stop.{Stop}
use Rattle.policy_eval.specs.Walked.{InScope, Walked, told}
use Rattle.policy_eval.specs.declared.expression_walk.Walk.{Walk}
use Rattle.policy_eval.specs.declared.statements.Runner.{Runner}
use Rattle.policy_eval.specs.declared.heads.Source.{Source as Kept}
use Rattle.policy_eval.specs.declared.heads.Source.TheVariants as kept

-- what a head that binds a name reads
abbrev pub source_of : Kept → Source
source_of kept.Host = tree.Host
source_of kept.Hop = tree.Hop
source_of (kept.Table t) = tree.Table t

-- the names in force where a head holds
abbrev pub names_where : Bool → Scope → Option Scope
names_where held s = if held then Some s else None

-- of a head: whether it holds, with the names that are then in force and the steps that are left
abbrev pub GivesHead : {S : Type 0} → Saying S → Runner S → InScope (Option Scope) → Result Bool Stop → Runner S → Type 0
GivesHead said old m r new =
    Walked said old.walk.asker (m old.local.switch old.local.scope old.walk.steps) new.walk.asker (told (λ held. (names_where held new.local.scope, new.walk.steps)) r)

-- what a head asks that binds a name
abbrev pub binds_of : Kept → Expr → List ℕ → InScope (Option Scope)
binds_of source e x = head_of (Binds (source_of source) (plain.term_of e) x)

-- of a way: its places, in a list or as a path
abbrev pub GivesWay : {S : Type 0} → Saying S → Walk S → Run (List Place) → Result (Vec Place Global) Stop → Walk S → Type 0
GivesWay said old m r new = Walked said old.asker m new.asker (told (λ v. v.items) r)

abbrev pub GivesPath : {S : Type 0} → Saying S → Walk S → Run (List Place) → Result (List Place) Stop → Walk S → Type 0
GivesPath said old m r new = Walked said old.asker m new.asker (told (λ ps. ps) r)

-- the way from a switch, which may be the place's own, of so many next hops at most
abbrev pub way_from : ℕ → Place → ℕ → ℕ → Run (List Place)
way_from more to left from = if from == to.switch then gives (to ∷ []) else way more to left from

-- of a part without a value: it goes on with these names in force and so many steps left
abbrev pub GoesOn : {S U : Type 0} → Saying S → Runner S → InScope Scope → Result U Stop → Runner S → Type 0
GoesOn said old m r new =
    Walked said old.walk.asker (m old.local.switch old.local.scope old.walk.steps) new.walk.asker (told (λ u. (new.local.scope, new.walk.steps)) r)

-- what statements do, one after the other
abbrev pub runs_of : List Statement → ℕ → Running
runs_of sts switch = acts_of (plain.acts_of sts) switch

-- what a block does
abbrev pub block_runs : Block → ℕ → Running
block_runs b switch = in_block (acts_of (plain.tree_of b) switch)

-- what the second block of an `if` does, if there is one
abbrev pub second_runs : Option Block → ℕ → Running
second_runs None switch = nothing_done
second_runs (Some b) switch = block_runs b switch

-- what an `if` does
abbrev pub branch_runs : Head → Block → Option Block → ℕ → Running
branch_runs q first second switch = if_of (plain.ask_of q) (block_runs first switch) (second_runs second switch) switch

-- what a `while` does
unfoldable pub repeat_runs : Expr → Block → ℕ → Running
repeat_runs e body switch = while_of (plain.term_of e) (block_runs body switch) switch

-- what a statement does
abbrev pub statement_runs : Statement → ℕ → Running
statement_runs st switch = act_of (plain.act_of st) switch
