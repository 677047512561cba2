-- The policy of the text.
use Rattle.std.proofs.Common.{rules, ◌≡◌, ◌<◌, ◌^◌, false, List, [], ◌∷◌, length, None, refl, sym, ap, subst, arith}
use Rattle.std.specs.Prelude.{codes}
use Rattle.std.specs.Global.{Global}
use Rattle.std.specs.declared.vec.Vec.{Vec}
use denote.RawPtr.{null_ptr}
use Rattle.maple_base.specs.declared.key.Field.TheVariants.{DlType, DlDst, NwSrc}
use Rattle.policy_lang.specs.declared.Policy.{Policy}
use Rattle.policy_lang.specs.declared.Block.{Block}
use Rattle.policy_lang.specs.declared.Head.{Head}
use Rattle.policy_lang.specs.declared.Head.TheVariants as head
use Rattle.policy_lang.specs.declared.Expr.TheVariants as expr
use Rattle.policy_lang.specs.declared.Statement.{Statement}
use Rattle.policy_lang.specs.declared.Statement.TheVariants as stmt
use Rattle.policy_lang.specs.declared.Statement.TheFolds.{the_lemmas}
use Rattle.policy_lang.specs.Faults.{IsWellFormed}
use Rattle.policy_lang.specs.PolicyTree.{policy_tree}
use Rattle.policy_lang.specs.Sound.{IsSound}
use Rattle.policy_lang.specs.Tree.{Acts}
use Rattle.policy_lang.specs.TreeOf.{acts_of, tree_of}
use Rattle.policy_tokens.specs.Faults.{faults}
use Rattle.policy_tokens.specs.Tokens.{tokens_of}
use Rattle.policy_tokens.specs.declared.token.Token.TheVariants.{Name as name, Field as field, Number as number}
use Rattle.policy_grammar.specs.Grammar.{File, Single, Test, Plain, If, Nothing, Holds, Lookup, Host, Drop, Flood, Route, file_tokens}
use Rattle.policy_outline.specs.Limits.{IsFree}
use Rattle.policy_tree.specs.Trees.{file_tree}
use Rattle.policy_text.specs.Texts.{IsFileOf, plain, file_faults}
use Rattle.gen_script.specs.Policy.{gen_policy}
use Rattle.gen_laws.specs.Laws.{IsPolicy}

-- ---- what is written

file : File
file =
    record {
      tables = codes "blocked" ∷ [];
      learning = false;
      body =
          If (Holds (Test DlType (Single (number 0x0806)))) (Plain Flood Nothing)
          (If (Lookup (codes "blocked") (Single (field NwSrc)) (codes "b")) (Plain Drop Nothing)
          (If (Host (Single (field DlDst)) (codes "h")) (Plain (Route (Single (name (codes "h")))) Nothing)
          (Plain Drop Nothing)));
    }

faultless : faults gen_policy ≡ []
unfolding gen_policy
faultless = refl

tokens : plain (tokens_of gen_policy) ≡ file_tokens file
unfolding gen_policy file
tokens = refl

free : IsFree file
unfolding file
free = record { nodes = record { shallow = refl; few = omega arith }; parentheses = refl; tables = omega arith }

is_file : IsFileOf file (plain (tokens_of gen_policy))
unfolding file
is_file = record { body = ((omega arith, refl), (tt, tt), (refl, (tt, tt), (refl, (refl, tt), (tt, tt)))); same = tokens; free = free }

named : file_faults file ≡ []
unfolding file
named = refl

-- ---- its tree

heap : Global
heap = record { memory = record { seal = tt } }

listed : {X : Type 0} → (items : List X) → length items < 2 ^ 63 → Vec X Global
listed items small = record { ptr = null_ptr; len = length items; cap = length items; alloc = heap; items = items; ok = (refl, omega arith); small = small }

block_of : (items : List Statement) → length items < 2 ^ 63 → Block
block_of items small = record { list = listed items small }

block_tree : (items : List Statement) (small : length items < 2 ^ 63) → tree_of (block_of items small) ≡ acts_of items
unfolding block_of listed
block_tree items small = search (rules, the_lemmas)

drop_block : Block
drop_block = block_of (stmt.Drop ∷ []) (omega arith)

flood_block : Block
flood_block = block_of (stmt.Flood ∷ []) (omega arith)

route_block : Block
route_block = block_of (stmt.Route (expr.Var (codes "h")) ∷ []) (omega arith)

arp : Head
arp = head.Test (expr.Is' DlType (record { ptr = null_ptr; alloc = heap; value = tt }) (expr.Number 0x0806))

statements : List Statement
statements =
    stmt.If arp flood_block None
    ∷ stmt.If (head.Lookup (codes "blocked") (expr.Packet NwSrc) (codes "b")) drop_block None
    ∷ stmt.If (head.Host (expr.Packet DlDst) (codes "h")) route_block None
    ∷ stmt.Drop ∷ []

body : Block
unfolding statements
body = block_of statements (omega arith)

body_tree : tree_of body ≡ (file_tree file).body
unfolding file body statements flood_block drop_block route_block arp block_of listed
body_tree = search (rules, the_lemmas)

written : Acts
unfolding file
written = (file_tree file).body

well_formed : IsWellFormed (codes "blocked" ∷ []) written
unfolding written file
well_formed = record { free = record { shallow = refl; few = omega arith }; named = refl }

sound : IsSound (codes "blocked" ∷ []) written
unfolding written file
sound = record { named = refl; parts = refl }

policy : Policy
unfolding written
policy =
    record {
      tables = codes "blocked" ∷ [];
      learning = false;
      body = body;
      few = omega arith;
      formed = subst (IsWellFormed (codes "blocked" ∷ [])) (sym body_tree) well_formed;
      sound = subst (IsSound (codes "blocked" ∷ [])) (sym body_tree) sound;
    }

same_tree : policy_tree policy ≡ file_tree file
unfolding policy file
same_tree = ap (λ (acts : Acts). record { tables = codes "blocked" ∷ []; learning = false; body = acts }) body_tree

pub is_policy : IsPolicy
is_policy =
    (policy, record { faultless = faultless; is_policy = record { file = file; is_file = is_file; tree = same_tree; named = named } })
