-- There are as many nodes in the list as there are.
use Rattle.std.proofs.Common.{◌≡◌, ℕ, suc, ◌+◌, List, [], ◌∷◌, ◌++◌, length, length-append, refl, ap, ◌∙◌, arith}
use Rattle.policy_lang.specs.Tree.{Term, Single, Call, Is, Not, Pair, Ask, Binds, Holds, Act, Acts, Drop, Flood, Out, Route, Let, Assign, If, IfElse, While, Done, Then}
use Rattle.policy_lang.specs.declared.nodes.Node.{Node}
use Rattle.policy_lang.specs.Sizes.{size_of, sizes_of, ask_size, act_size, acts_size}
use Rattle.policy_lang.specs.Nodes.{term_nodes, nodes_from, terms_nodes, ask_nodes, act_nodes, acts_nodes, nodes_of, length_of, opens, part_length, ask_length, act_length, acts_length}
use Rattle.maple_base.specs.Operators.{left_level, right_level}

two : (xs ys : List Node) (a b : ℕ) → length xs ≡ a → length ys ≡ b → length (xs ++ ys) ≡ a + b
two xs ys a b p q = length-append xs ys ∙ ap (λ n. n + length ys) p ∙ ap (λ n. a + n) q

one_more : (n m : ℕ) → n ≡ m → suc n ≡ 1 + m
one_more n m h = omega (arith, h)

both_more : (n a b : ℕ) → n ≡ a + b → suc n ≡ 1 + a + b
both_more n a b h = omega (arith, h)

pub term_count : (e : Term) (w i d : ℕ) → length (term_nodes e w i d) ≡ size_of e
term_count (Single a) w i d = refl
term_count (Call c l r) w i d =
    both_more _ (size_of l) (size_of r) (two (term_nodes l (i + 2) (i + 2) (d + 1)) (term_nodes r (i + 2 + length_of l + 1) (i + 2 + length_of l + 1) (d + 1)) (size_of l) (size_of r)
    (term_count l (i + 2) (i + 2) (d + 1)) (term_count r (i + 2 + length_of l + 1) (i + 2 + length_of l + 1) (d + 1)))
term_count (Is f e) w i d = one_more _ (size_of e) (term_count e (i + 2) (i + 2 + opens 4 e) (d + 1))
term_count (Not e) w i d = one_more _ (size_of e) (term_count e (i + 1) (i + 1 + opens 2 e) (d + 1))
term_count (Pair o l r) w i d =
    let j : ℕ = i + part_length (left_level o) l + 1 in
    both_more _ (size_of l) (size_of r) (two (term_nodes l i (i + opens (left_level o) l) (d + 1)) (term_nodes r j (j + opens (right_level o) r) (d + 1)) (size_of l) (size_of r)
    (term_count l i (i + opens (left_level o) l) (d + 1)) (term_count r j (j + opens (right_level o) r) (d + 1)))

terms_count : (es : List Term) (i d : ℕ) → length (terms_nodes es i d) ≡ sizes_of es
terms_count [] i d = refl
terms_count (e ∷ es) i d = two (nodes_from i e d) (terms_nodes es (i + length_of e + 1) d) (size_of e) (sizes_of es) (term_count e i i d) (terms_count es (i + length_of e + 1) d)

ask_count : (q : Ask) (i d : ℕ) → length (ask_nodes q i d) ≡ ask_size q
ask_count (Binds s e x) i d = one_more _ (size_of e) (term_count e (i + 2) (i + 2) (d + 1))
ask_count (Holds e) i d = term_count e i i d

mutual
  act_count : (s : Act) (i d : ℕ) → length (act_nodes s i d) ≡ act_size s
  act_count Drop i d = refl
  act_count Flood i d = refl
  act_count (Out es) i d = one_more _ (sizes_of es) (terms_count es (i + 1) (d + 1))
  act_count (Route e) i d = one_more _ (size_of e) (term_count e (i + 1) (i + 1) (d + 1))
  act_count (Let x e) i d = one_more _ (size_of e) (term_count e (i + 3) (i + 3) (d + 1))
  act_count (Assign x e) i d = one_more _ (size_of e) (term_count e (i + 2) (i + 2) (d + 1))
  act_count (If q b) i d =
      both_more _ (ask_size q) (acts_size b) (two (ask_nodes q (i + 1) (d + 1)) (acts_nodes b (i + 1 + ask_length q + 1) (d + 1)) (ask_size q) (acts_size b)
      (ask_count q (i + 1) (d + 1)) (acts_count b (i + 1 + ask_length q + 1) (d + 1)))
  act_count (IfElse q b c) i d =
      let j : ℕ = i + 1 + ask_length q + 1 in
      let k : ℕ = j + acts_length b + 3 in
      let h = two (ask_nodes q (i + 1) (d + 1)) (acts_nodes b j (d + 1) ++ acts_nodes c k (d + 1)) (ask_size q) (acts_size b + acts_size c) (ask_count q (i + 1) (d + 1))
      (two (acts_nodes b j (d + 1)) (acts_nodes c k (d + 1)) (acts_size b) (acts_size c) (acts_count b j (d + 1)) (acts_count c k (d + 1))) in
      omega (arith, h)
  act_count (While e b) i d =
      both_more _ (size_of e) (acts_size b) (two (nodes_from (i + 1) e (d + 1)) (acts_nodes b (i + 1 + length_of e + 1) (d + 1)) (size_of e) (acts_size b)
      (term_count e (i + 1) (i + 1) (d + 1)) (acts_count b (i + 1 + length_of e + 1) (d + 1)))

  acts_count : (b : Acts) (i d : ℕ) → length (acts_nodes b i d) ≡ acts_size b
  acts_count Done i d = refl
  acts_count (Then s b) i d = two (act_nodes s i d) (acts_nodes b (i + act_length s) d) (act_size s) (acts_size b) (act_count s i d) (acts_count b (i + act_length s) d)

pub body_size : (b : Acts) → length (nodes_of b) ≡ acts_size b
body_size b = acts_count b 1 1
