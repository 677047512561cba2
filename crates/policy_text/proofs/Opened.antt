-- Where no node of a tree is too deep, no parenthesis of what is written is: each node has one pair round it at most.
use Rattle.std.proofs.Common.{◌≡◌, ℕ, ◌+◌, ◌≤◌, Bool, true, false, List, [], ◌∷◌, ◌++◌, map, refl, sym, ◌∙◌, arith}
use Rattle.std.specs.Prelude.{nat_lt, nat_le, if◌then◌else◌}
use Rattle.std.specs.List.{list_all}
use Rattle.std.proofs.lemmas.Bool.{and_parts, and_from, le-leb, leb-true}
use Rattle.std.proofs.lemmas.List.Folds.{list_all-append}
use Rattle.maple_base.specs.Operators.{left_level, right_level}
use Rattle.maple_base.specs.PolicyLimits.{deepest, most_parentheses}
use Rattle.policy_grammar.specs.Grammar as written
use Rattle.policy_grammar.specs.Grammar.{Phrase, Group, Question, Statements, Plain}
use Rattle.policy_lang.specs.declared.nodes.Node.{Node}
use Rattle.policy_lang.specs.Nodes.{level_of, term_nodes, nodes_from, terms_nodes, ask_nodes, act_nodes, acts_nodes, are_shallow}
use Rattle.policy_lang.specs.Tree.{Term, Single, Call, Is, Not, Pair, Host, Hop, Table, Ask, Binds, Holds, Act, Acts, Drop, Flood, Out, Route, Let, Assign, If, IfElse, While, Done, Then}
use Rattle.policy_outline.specs.FileNodes.{phrase_length, question_length, action_length, statements_length, if_length, Parenthesis, phrase_parentheses, more_parentheses, question_parentheses, action_parentheses, statements_parentheses}
use Rattle.policy_text.specs.Written.{in_group, phrase_of, question_of, out_of, put, statements_of}

abbrev is_within : Parenthesis → Bool
is_within p = nat_le p.depth most_parentheses

record Within (ps : List Parenthesis) : Type 0 where
  pub all : list_all is_within ps ≡ true

record Shallow (xs : List Node) : Type 0 where
  all : are_shallow xs ≡ true

nothing : Within []
nothing = record { all = refl }

both : {ps qs : List Parenthesis} → Within ps → Within qs → Within (ps ++ qs)
both {ps} {qs} h g = record { all = list_all-append is_within ps qs ∙ and_from (list_all is_within ps) (list_all is_within qs) h.all g.all }

own : {x : Node} {xs : List Node} → Shallow (x ∷ xs) → x.depth ≤ 32
own {x} {xs} h = leb-true x.depth deepest (and_parts (nat_le x.depth deepest) (are_shallow xs) h.all).0

inner : {x : Node} {xs : List Node} → Shallow (x ∷ xs) → Shallow xs
inner {x} {xs} h = record { all = (and_parts (nat_le x.depth deepest) (are_shallow xs) h.all).1 }

parts : {xs ys : List Node} → Shallow (xs ++ ys) → Shallow xs × Shallow ys
parts {xs} {ys} h =
    let split = and_parts (are_shallow xs) (are_shallow ys) (sym (list_all-append (λ x. nat_le x.depth deepest) xs ys) ∙ h.all) in
    (record { all = split.0 }, record { all = split.1 })

-- ---- expressions

-- an expression inside no more parentheses than its depth
abbrev IsWithin : Term → Type 0
IsWithin e = (w i d n j : ℕ) → n ≤ d → Shallow (term_nodes e w i d) → Within (phrase_parentheses j (phrase_of e) n)

group_within : (v : Bool) (e : Term) → IsWithin e → (w i d n j : ℕ) → n ≤ d → d ≤ 32 → Shallow (term_nodes e w i (d + 1)) → Within (phrase_parentheses j (if v then Group (phrase_of e) else phrase_of e) n)
group_within true e h w i d n j le few s =
    record {
      all = and_from (nat_le (n + 1) most_parentheses) (list_all is_within (phrase_parentheses (j + 1) (phrase_of e) (n + 1)))
          (le-leb (n + 1) most_parentheses (omega (arith, le, few))) (h w i (d + 1) (n + 1) (j + 1) (omega (arith, le)) s).all;
    }
group_within false e h w i d n j le few s = h w i (d + 1) n j (omega (arith, le)) s

placed : (least : ℕ) (e : Term) → IsWithin e → (w i d n j : ℕ) → n ≤ d → d ≤ 32 → Shallow (term_nodes e w i (d + 1)) → Within (phrase_parentheses j (in_group least (level_of e) (phrase_of e)) n)
placed least e = group_within (nat_lt (level_of e) least) e

term_within : (e : Term) → IsWithin e
term_within (Single a) w i d n j le s = nothing
term_within (Call c l r) w i d n j le s =
    let p = parts (inner s) in
    both (term_within l _ _ (d + 1) n (j + 2) (omega (arith, le)) p.0) (term_within r _ _ (d + 1) n (j + 3 + phrase_length (phrase_of l)) (omega (arith, le)) p.1)
term_within (Is f e) w i d n j le s = placed 4 e (term_within e) _ _ d n (j + 2) le (own s) (inner s)
term_within (Not e) w i d n j le s = placed 2 e (term_within e) _ _ d n (j + 1) le (own s) (inner s)
term_within (Pair o l r) w i d n j le s =
    let p = parts (inner s) in
    let k : ℕ = j + phrase_length (in_group (left_level o) (level_of l) (phrase_of l)) + 1 in
    both (placed (left_level o) l (term_within l) _ _ d n j le (own s) p.0) (placed (right_level o) r (term_within r) _ _ d n k le (own s) p.1)

from_within : (e : Term) (i d j : ℕ) → Shallow (nodes_from i e d) → Within (phrase_parentheses j (phrase_of e) 0)
from_within e i d j s = term_within e i i d 0 j (omega arith) s

-- ---- statements

more_within : (es : List Term) (i d j : ℕ) → Shallow (terms_nodes es i d) → Within (more_parentheses j (map phrase_of es))
more_within [] i d j s = nothing
more_within (e ∷ es) i d j s = both (from_within e _ d (j + 1) (parts s).0) (more_within es _ d (j + 1 + phrase_length (phrase_of e)) (parts s).1)

out_within : (es : List Term) (i d j : ℕ) → Shallow (terms_nodes es i d) → Within (action_parentheses j (out_of es))
out_within [] i d j s = nothing
out_within (e ∷ es) i d j s = more_within (e ∷ es) i d j s

ask_within : (q : Ask) (i d j : ℕ) → Shallow (ask_nodes q i d) → Within (question_parentheses j (question_of q))
ask_within (Binds Host e x) i d j s = from_within e _ (d + 1) (j + 2) (inner s)
ask_within (Binds Hop e x) i d j s = from_within e _ (d + 1) (j + 2) (inner s)
ask_within (Binds (Table t) e x) i d j s = from_within e _ (d + 1) (j + 2) (inner s)
ask_within (Holds e) i d j s = from_within e i d j s

-- statements, wherever they begin
abbrev AreWithin : Statements → Type 0
AreWithin ss = (j : ℕ) → Within (statements_parentheses j ss)

plain_within : (a : written.Action) (rest : Statements) (j : ℕ) → Within (action_parentheses j a) → AreWithin rest → Within (statements_parentheses j (Plain a rest))
plain_within a rest j x h = both x (h (j + action_length a))

mutual
  act_within : (s : Act) (i d : ℕ) → Shallow (act_nodes s i d) → (rest : Statements) → AreWithin rest → AreWithin (put s rest)
  act_within Drop i d s rest h j = plain_within written.Drop rest j nothing h
  act_within Flood i d s rest h j = plain_within written.Flood rest j nothing h
  act_within (Out es) i d s rest h j = plain_within (out_of es) rest j (out_within es _ (d + 1) j (inner s)) h
  act_within (Route e) i d s rest h j = plain_within (written.Route (phrase_of e)) rest j (from_within e _ (d + 1) (j + 1) (inner s)) h
  act_within (Let x e) i d s rest h j = plain_within (written.Let x (phrase_of e)) rest j (from_within e _ (d + 1) (j + 3) (inner s)) h
  act_within (Assign x e) i d s rest h j = plain_within (written.Assign x (phrase_of e)) rest j (from_within e _ (d + 1) (j + 2) (inner s)) h
  act_within (If q b) i d s rest h j =
      let r : Question = question_of q in
      let p = parts (inner s) in
      both (ask_within q _ (d + 1) (j + 1) p.0) (both (acts_within b _ (d + 1) p.1 (j + 2 + question_length r)) (h (j + if_length r (statements_of b))))
  act_within (IfElse q b c) i d s rest h j =
      let r : Question = question_of q in
      let k : ℕ = j + if_length r (statements_of b) in
      let p = parts (inner s) in
      let blocks = parts p.1 in
      both (ask_within q _ (d + 1) (j + 1) p.0)
      (both (acts_within b _ (d + 1) blocks.0 (j + 2 + question_length r)) (both (acts_within c _ (d + 1) blocks.1 (k + 2)) (h (k + 3 + statements_length (statements_of c)))))
  act_within (While e b) i d s rest h j =
      let k : ℕ = phrase_length (phrase_of e) in
      let p = parts (inner s) in
      both (from_within e _ (d + 1) (j + 1) p.0) (both (acts_within b _ (d + 1) p.1 (j + 2 + k)) (h (j + 3 + k + statements_length (statements_of b))))

  acts_within : (b : Acts) (i d : ℕ) → Shallow (acts_nodes b i d) → AreWithin (statements_of b)
  acts_within Done i d s j = nothing
  acts_within (Then t b) i d s j = act_within t i d (parts s).0 (statements_of b) (acts_within b _ d (parts s).1) j

pub few_open : (b : Acts) (i d j : ℕ) → are_shallow (acts_nodes b i d) ≡ true → list_all (λ p. nat_le p.depth most_parentheses) (statements_parentheses j (statements_of b)) ≡ true
few_open b i d j h = (acts_within b i d (record { all = h }) j).all
