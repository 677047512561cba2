-- How deep the nodes of a tree are does not depend on where it begins.
use Rattle.std.proofs.Common.{◌≡◌, ℕ, ◌+◌, ◌≤◌, List, [], ◌∷◌, ◌++◌, map, length, refl, sym, ap, ◌∙◌, subst}
use Rattle.std.specs.Prelude.{◌&&◌, nat_le}
use Rattle.std.specs.List.{list_all}
use Rattle.std.proofs.lemmas.List.{length-map}
use Rattle.maple_base.specs.Operators.{left_level, right_level}
use Rattle.maple_base.specs.PolicyLimits.{most_nodes, deepest}
use Rattle.policy_lang.specs.declared.nodes.Node.{Node}
use Rattle.policy_lang.specs.Nodes.{opens, length_of, part_length, term_nodes, nodes_from, terms_nodes, ask_length, ask_nodes, act_length, act_nodes, acts_length, acts_nodes, are_shallow, AreFree}
use Rattle.policy_lang.specs.Tree.{Term, Single, Call, Is, Not, Pair, Ask, Binds, Holds, Act, Acts, Drop, Flood, Out, Route, Let, Assign, If, IfElse, While, Done, Then}

abbrev depths : List Node → List ℕ
depths xs = map (λ x. x.depth) xs

record Like (xs ys : List Node) : Type 0 where
  same : depths xs ≡ depths ys

depths_append : (xs ys : List Node) → depths (xs ++ ys) ≡ depths xs ++ depths ys
depths_append [] ys = refl
depths_append (x ∷ xs) ys = ap (λ ds. x.depth ∷ ds) (depths_append xs ys)

like : (xs : List Node) → Like xs xs
like xs = record { same = refl }

behind : {xs us : List Node} {x y : Node} → x.depth ≡ y.depth → Like xs us → Like (x ∷ xs) (y ∷ us)
behind {xs} {us} {x} {y} p h = record { same = ap (λ d. d ∷ depths xs) p ∙ ap (λ ds. y.depth ∷ ds) h.same }

both : {xs us ys vs : List Node} → Like xs us → Like ys vs → Like (xs ++ ys) (us ++ vs)
both {xs} {us} {ys} {vs} p q =
    record { same = depths_append xs ys ∙ ap (λ ds. ds ++ depths ys) p.same ∙ ap (λ ds. depths us ++ ds) q.same ∙ sym (depths_append us vs) }

term_like : (e : Term) (w i v j d : ℕ) → Like (term_nodes e w i d) (term_nodes e v j d)
term_like (Single a) w i v j d = record { same = refl }
term_like (Call c l r) w i v j d =
    let m : ℕ = i + 2 + length_of l + 1 in
    let n : ℕ = j + 2 + length_of l + 1 in
    behind refl (both (term_like l (i + 2) (i + 2) (j + 2) (j + 2) (d + 1)) (term_like r m m n n (d + 1)))
term_like (Is f e) w i v j d = behind refl (term_like e (i + 2) (i + 2 + opens 4 e) (j + 2) (j + 2 + opens 4 e) (d + 1))
term_like (Not e) w i v j d = behind refl (term_like e (i + 1) (i + 1 + opens 2 e) (j + 1) (j + 1 + opens 2 e) (d + 1))
term_like (Pair o l r) w i v j d =
    let a : ℕ = opens (left_level o) l in
    let b : ℕ = opens (right_level o) r in
    let m : ℕ = i + part_length (left_level o) l + 1 in
    let n : ℕ = j + part_length (left_level o) l + 1 in
    behind refl (both (term_like l i (i + a) j (j + a) (d + 1)) (term_like r m (m + b) n (n + b) (d + 1)))

from_like : (e : Term) (i j d : ℕ) → Like (nodes_from i e d) (nodes_from j e d)
from_like e i j d = term_like e i i j j d

terms_like : (es : List Term) (i j d : ℕ) → Like (terms_nodes es i d) (terms_nodes es j d)
terms_like [] i j d = like []
terms_like (e ∷ es) i j d = both (from_like e i j d) (terms_like es (i + length_of e + 1) (j + length_of e + 1) d)

ask_like : (q : Ask) (i j d : ℕ) → Like (ask_nodes q i d) (ask_nodes q j d)
ask_like (Binds s e x) i j d = behind refl (from_like e (i + 2) (j + 2) (d + 1))
ask_like (Holds e) i j d = from_like e i j d

mutual
  act_like : (s : Act) (i j d : ℕ) → Like (act_nodes s i d) (act_nodes s j d)
  act_like Drop i j d = record { same = refl }
  act_like Flood i j d = record { same = refl }
  act_like (Out es) i j d = behind refl (terms_like es (i + 1) (j + 1) (d + 1))
  act_like (Route e) i j d = behind refl (from_like e (i + 1) (j + 1) (d + 1))
  act_like (Let x e) i j d = behind refl (from_like e (i + 3) (j + 3) (d + 1))
  act_like (Assign x e) i j d = behind refl (from_like e (i + 2) (j + 2) (d + 1))
  act_like (If q b) i j d =
      behind refl (both (ask_like q (i + 1) (j + 1) (d + 1)) (acts_like b (i + 1 + ask_length q + 1) (j + 1 + ask_length q + 1) (d + 1)))
  act_like (IfElse q b c) i j d =
      let m : ℕ = i + 1 + ask_length q + 1 in
      let n : ℕ = j + 1 + ask_length q + 1 in
      behind refl (both (ask_like q (i + 1) (j + 1) (d + 1)) (both (acts_like b m n (d + 1)) (acts_like c (m + acts_length b + 3) (n + acts_length b + 3) (d + 1))))
  act_like (While e b) i j d =
      behind refl (both (from_like e (i + 1) (j + 1) (d + 1)) (acts_like b (i + 1 + length_of e + 1) (j + 1 + length_of e + 1) (d + 1)))

  acts_like : (b : Acts) (i j d : ℕ) → Like (acts_nodes b i d) (acts_nodes b j d)
  acts_like Done i j d = like []
  acts_like (Then s b) i j d = both (act_like s i j d) (acts_like b (i + act_length s) (j + act_length s) d)

shallow_by : (xs : List Node) → are_shallow xs ≡ list_all (λ d. nat_le d deepest) (depths xs)
shallow_by [] = refl
shallow_by (x ∷ xs) = ap (λ v. nat_le x.depth deepest && v) (shallow_by xs)

-- so limits are free of it too
pub free_anywhere : (b : Acts) (i j d : ℕ) → AreFree (acts_nodes b i d) → AreFree (acts_nodes b j d)
free_anywhere b i j d h =
    let xs = acts_nodes b i d in
    let ys = acts_nodes b j d in
    record {
      shallow = shallow_by ys ∙ ap (λ ds. list_all (λ d. nat_le d deepest) ds) (acts_like b j i d).same ∙ sym (shallow_by xs) ∙ h.shallow;
      few = subst (λ n. n ≤ most_nodes) (sym (length-map xs (λ x. x.depth)) ∙ ap length (acts_like b i j d).same ∙ length-map ys (λ x. x.depth)) h.few;
    }
