-- The nodes of a text are as many and as deep as those of its tree.
use Rattle.std.proofs.Common.{◌≡◌, ℕ, ◌+◌, List, [], ◌∷◌, ◌++◌, map, length, refl, sym, ap, ◌∙◌, subst, append_assoc}
use Rattle.std.specs.Prelude.{◌≤◌, nat_le, ◌&&◌}
use Rattle.std.specs.List.{list_all}
use Rattle.std.proofs.lemmas.List.{map-append, length-map}
use Rattle.policy_lang.specs.declared.nodes.Node.{Node}
use Rattle.policy_lang.specs.Nodes.{node, term_nodes, terms_nodes, ask_nodes, act_nodes, acts_nodes, nodes_of, are_shallow, AreFree}
use Rattle.policy_grammar.specs.Grammar.{Phrase, Single, Call, Group, Negation, Test, Pair, Question, Host, Hop, Lookup, Holds, Action, Drop, Flood, Out, Route, Let, Assign, Statements, Nothing, Plain, If, IfElse, While, File}
use Rattle.policy_outline.specs.FileNodes.{phrase_nodes, more_nodes, question_nodes, parts_nodes, statements_nodes, file_nodes, body_first}
use Rattle.policy_tree.specs.Trees.{phrase_term, question_ask, action_act, statements_acts}
use Rattle.policy_text.specs.TextLaws.{NodesAgree}

-- ---- lists of nodes that are as deep, one by one

abbrev depths : List Node → List ℕ
depths nodes = map (λ x. x.depth) nodes

pub record Alike (xs ys : List Node) : Type 0 where
  pub same : depths xs ≡ depths ys

pub as_many : {xs ys : List Node} → Alike xs ys → length xs ≡ length ys
as_many {xs} {ys} h = sym (length-map xs (λ x. x.depth)) ∙ ap length h.same ∙ length-map ys (λ x. x.depth)

none : Alike [] []
none = record { same = refl }

more : {xs ys : List Node} (w i n v j m d : ℕ) → Alike xs ys → Alike (node w i n d ∷ xs) (node v j m d ∷ ys)
more w i n v j m d h = record { same = ap (λ l. d ∷ l) h.same }

two : {xs ys zs ws : List Node} → Alike xs ys → Alike zs ws → Alike (xs ++ zs) (ys ++ ws)
two {xs} {ys} {zs} {ws} h k = record {
  same = map-append (λ x. x.depth) xs zs ∙ ap (λ l. l ++ depths zs) h.same ∙ ap (λ l. depths ys ++ l) k.same ∙ sym (map-append (λ x. x.depth) ys ws);
}

-- the same lists, put together from the left
three : {xs ys zs ws us vs : List Node} → Alike xs ys → Alike zs ws → Alike us vs → Alike (xs ++ (zs ++ us)) ((ys ++ ws) ++ vs)
three {ys = ys} {ws = ws} {vs = vs} h k l = record { same = (two h (two k l)).same ∙ ap depths (sym (append_assoc ys ws vs)) }

four : {xs ys zs ws us vs ss ts : List Node} → Alike xs ys → Alike zs ws → Alike us vs → Alike ss ts → Alike (xs ++ (zs ++ (us ++ ss))) ((ys ++ (ws ++ vs)) ++ ts)
four {ys = ys} {ws = ws} {vs = vs} {ts = ts} h k l m = record { same = (two h (three k l m)).same ∙ ap depths (sym (append_assoc ys (ws ++ vs) ts)) }

-- ---- expressions

pub phrase_alike : (a : Phrase) (w i v j d : ℕ) → Alike (phrase_nodes a w i d) (term_nodes (phrase_term a) v j d)
phrase_alike (Single t) w i v j d = more w i i v j j d none
phrase_alike (Call c a b) w i v j d = more w i i v j j d (two (phrase_alike a _ _ _ _ (d + 1)) (phrase_alike b _ _ _ _ (d + 1)))
phrase_alike (Group a) w i v j d = phrase_alike a w (i + 1) v j d
phrase_alike (Negation a) w i v j d = more w i i v j j d (phrase_alike a _ _ _ _ (d + 1))
phrase_alike (Test f a) w i v j d = more w i i v j j d (phrase_alike a _ _ _ _ (d + 1))
phrase_alike (Pair o a b) w i v j d = more w i i v j j d (two (phrase_alike a _ _ _ _ (d + 1)) (phrase_alike b _ _ _ _ (d + 1)))

pub more_alike : (as_ : List Phrase) (i j d : ℕ) → Alike (more_nodes i as_ d) (terms_nodes (map phrase_term as_) j d)
more_alike [] i j d = none
more_alike (a ∷ as_) i j d = two (phrase_alike a _ _ j j d) (more_alike as_ _ _ d)

-- ---- statements

question_alike : (q : Question) (i j d : ℕ) → Alike (question_nodes i q d) (ask_nodes (question_ask q) j d)
question_alike (Host a x) i j d = more i i _ j j _ d (phrase_alike a _ _ _ _ (d + 1))
question_alike (Hop a x) i j d = more i i _ j j _ d (phrase_alike a _ _ _ _ (d + 1))
question_alike (Lookup t a x) i j d = more i i _ j j _ d (phrase_alike a _ _ _ _ (d + 1))
question_alike (Holds a) i j d = phrase_alike a i i j j d

action_alike : (s : Action) (i j d : ℕ) → Alike (node i i (i + 1) d ∷ parts_nodes i s (d + 1)) (act_nodes (action_act s) j d)
action_alike Drop i j d = more i i _ j j _ d none
action_alike Flood i j d = more i i _ j j _ d none
action_alike (Out a as_) i j d = more i i _ j j _ d (two (phrase_alike a _ _ _ _ (d + 1)) (more_alike as_ _ _ (d + 1)))
action_alike (Route a) i j d = more i i _ j j _ d (phrase_alike a _ _ _ _ (d + 1))
action_alike (Let x a) i j d = more i i _ j j _ d (phrase_alike a _ _ _ _ (d + 1))
action_alike (Assign x a) i j d = more i i _ j j _ d (phrase_alike a _ _ _ _ (d + 1))

statements_alike : (ss : Statements) (i j d : ℕ) → Alike (statements_nodes i ss d) (acts_nodes (statements_acts ss) j d)
statements_alike Nothing i j d = none
statements_alike (Plain s rest) i j d = two (action_alike s i j d) (statements_alike rest _ _ d)
statements_alike (If q first rest) i j d =
    more i i _ j j _ d (three (question_alike q _ _ (d + 1)) (statements_alike first _ _ (d + 1)) (statements_alike rest _ _ d))
statements_alike (IfElse q first second rest) i j d =
    more i i _ j j _ d (four (question_alike q _ _ (d + 1)) (statements_alike first _ _ (d + 1)) (statements_alike second _ _ (d + 1)) (statements_alike rest _ _ d))
statements_alike (While a body rest) i j d =
    more i i _ j j _ d (three (phrase_alike a _ _ _ _ (d + 1)) (statements_alike body _ _ (d + 1)) (statements_alike rest _ _ d))

pub nodes_agree : NodesAgree
nodes_agree f = (statements_alike f.body (body_first f) 1 1).same

-- ---- limits

shallow_by : (xs : List Node) → are_shallow xs ≡ list_all (λ n. nat_le n 32) (depths xs)
shallow_by [] = refl
shallow_by (x ∷ xs) = ap (λ b. nat_le x.depth 32 && b) (shallow_by xs)

free_alike : (xs ys : List Node) → depths xs ≡ depths ys → AreFree xs → AreFree ys
free_alike xs ys h free = record {
  shallow = shallow_by ys ∙ ap (list_all (λ n. nat_le n 32)) (sym h) ∙ sym (shallow_by xs) ∙ free.shallow;
  few = subst (λ n. n ≤ 4096) (sym (length-map xs (λ x. x.depth)) ∙ ap length h ∙ length-map ys (λ x. x.depth)) free.few;
}

-- a tree passes no limit on nodes where its text passes none
pub tree_free : (f : File) → AreFree (file_nodes f) → AreFree (nodes_of (statements_acts f.body))
tree_free f free = free_alike (file_nodes f) (nodes_of (statements_acts f.body)) (nodes_agree f) free
