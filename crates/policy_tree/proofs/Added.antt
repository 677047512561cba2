-- One more statement behind others.
use Rattle.std.proofs.Common.{◌≡◌, ℕ, List, [], ◌∷◌, ◌++◌, Some, None, refl, sym, ap, ◌∙◌, rules}
use Rattle.policy_grammar.specs.Grammar as written
use Rattle.policy_grammar.specs.Grammar.{Phrase, Question, Statements, Nothing, Plain, If, IfElse, While}
use Rattle.policy_lang.specs.declared.Expr.{Expr}
use Rattle.policy_lang.specs.declared.Head.{Head}
use Rattle.policy_lang.specs.declared.Block.{Block}
use Rattle.policy_lang.specs.declared.Statement.{Statement}
use Rattle.policy_lang.specs.declared.Statement.TheVariants as tree
use Rattle.policy_lang.specs.declared.Statement.TheFolds.{the_lemmas}
use Rattle.policy_lang.specs.Tree as lang
use Rattle.policy_lang.specs.Tree.{Act, Acts, Done, Then}
use Rattle.policy_lang.specs.TreeOf.{term_of, act_of, acts_of, tree_of}
use Rattle.policy_lang.proofs.Rolls.{if_tree, while_tree as while_is, out_tree as out_is}
use Rattle.policy_tree.specs.Trees.{phrase_term, question_ask, IsExpr, AreExprs, IsHead, AreTrees, action_act, statements_acts}
use Rattle.policy_tree.specs.Machine.{behind}

abbrev follow : Acts → Acts → Acts
follow Done b = b
follow (Then s rest) b = Then s (follow rest b)

list_follow : (ts us : List Statement) → acts_of (ts ++ us) ≡ follow (acts_of ts) (acts_of us)
list_follow [] us = refl
list_follow (t ∷ ts) us = ap (Then (act_of t)) (list_follow ts us)

written_follow : (ss more : Statements) → statements_acts (behind ss more) ≡ follow (statements_acts ss) (statements_acts more)
written_follow Nothing more = refl
written_follow (Plain s rest) more = ap (Then (action_act s)) (written_follow rest more)
written_follow (If q first rest) more = ap (Then (lang.If (question_ask q) (statements_acts first))) (written_follow rest more)
written_follow (IfElse q first second rest) more = ap (Then (lang.IfElse (question_ask q) (statements_acts first) (statements_acts second))) (written_follow rest more)
written_follow (While a body rest) more = ap (Then (lang.While (phrase_term a) (statements_acts body))) (written_follow rest more)

one : (t : Statement) (s : Act) → act_of t ≡ s → acts_of (t ∷ []) ≡ Then s Done
one t s h = ap (λ s. Then s Done) h

pub drop_tree : AreTrees (Plain written.Drop Nothing) (tree.Drop ∷ [])
drop_tree = one tree.Drop lang.Drop (search (rules, the_lemmas))

pub flood_tree : AreTrees (Plain written.Flood Nothing) (tree.Flood ∷ [])
flood_tree = one tree.Flood lang.Flood (search (rules, the_lemmas))

pub out_tree : (a : Phrase) (more : List Phrase) (es : List Expr) → AreExprs (a ∷ more) es → AreTrees (Plain (written.Out a more) Nothing) (tree.Out es ∷ [])
out_tree a more es h = one (tree.Out es) (action_act (written.Out a more)) (sym (out_is (tree.Out es) es refl) ∙ ap lang.Out h)

route_is : (e : Expr) → act_of (tree.Route e) ≡ lang.Route (term_of e)
route_is e = search (rules, the_lemmas)

pub route_tree : (a : Phrase) (e : Expr) → IsExpr a e → AreTrees (Plain (written.Route a) Nothing) (tree.Route e ∷ [])
route_tree a e h = one (tree.Route e) (lang.Route (phrase_term a)) (route_is e ∙ ap lang.Route h)

let_is : (x : List ℕ) (e : Expr) → act_of (tree.Let x e) ≡ lang.Let x (term_of e)
let_is x e = search (rules, the_lemmas)

pub let_tree : (x : List ℕ) (a : Phrase) (e : Expr) → IsExpr a e → AreTrees (Plain (written.Let x a) Nothing) (tree.Let x e ∷ [])
let_tree x a e h = one (tree.Let x e) (lang.Let x (phrase_term a)) (let_is x e ∙ ap (lang.Let x) h)

assign_is : (x : List ℕ) (e : Expr) → act_of (tree.Assign x e) ≡ lang.Assign x (term_of e)
assign_is x e = search (rules, the_lemmas)

pub assign_tree : (x : List ℕ) (a : Phrase) (e : Expr) → IsExpr a e → AreTrees (Plain (written.Assign x a) Nothing) (tree.Assign x e ∷ [])
assign_tree x a e h = one (tree.Assign x e) (lang.Assign x (phrase_term a)) (assign_is x e ∙ ap (lang.Assign x) h)

if_tree_of : (q : Question) (first : Statements) (h : Head) (b : Block) → IsHead q h → tree_of b ≡ statements_acts first → AreTrees (If q first Nothing) (tree.If h b None ∷ [])
if_tree_of q first h b p f =
    one (tree.If h b None) (lang.If (question_ask q) (statements_acts first)) (sym (if_tree (tree.If h b None) h b None refl) ∙ ap (λ x. lang.If x (tree_of b)) p ∙ ap (lang.If (question_ask q)) f)

if_else_tree : (q : Question) (first second : Statements) (h : Head) (b c : Block) → IsHead q h → tree_of b ≡ statements_acts first → tree_of c ≡ statements_acts second
    → AreTrees (IfElse q first second Nothing) (tree.If h b (Some c) ∷ [])
if_else_tree q first second h b c p f s =
    one (tree.If h b (Some c)) (lang.IfElse (question_ask q) (statements_acts first) (statements_acts second))
    (sym (if_tree (tree.If h b (Some c)) h b (Some c) refl) ∙ ap (λ x. lang.IfElse x (tree_of b) (tree_of c)) p ∙ ap (λ x. lang.IfElse (question_ask q) x (tree_of c)) f ∙ ap (lang.IfElse (question_ask q) (statements_acts first)) s)

pub while_tree : (a : Phrase) (body : Statements) (e : Expr) (b : Block) → IsExpr a e → tree_of b ≡ statements_acts body → AreTrees (While a body Nothing) (tree.While e b ∷ [])
while_tree a body e b p f =
    one (tree.While e b) (lang.While (phrase_term a) (statements_acts body)) (sym (while_is (tree.While e b) e b refl) ∙ ap (λ x. lang.While x (tree_of b)) p ∙ ap (λ x. lang.While (phrase_term a) x) f)

pub added : (ss : Statements) (ts : List Statement) (more : Statements) (t : Statement) (us : List Statement) → us ≡ ts ++ t ∷ [] → AreTrees ss ts → AreTrees more (t ∷ []) → AreTrees (behind ss more) us
added ss ts more t us is h g =
    ap acts_of is ∙ list_follow ts (t ∷ []) ∙ ap (λ b. follow b (acts_of (t ∷ []))) h ∙ ap (follow (statements_acts ss)) g ∙ sym (written_follow ss more)

pub if_added : (ss : Statements) (ts : List Statement) (q : Question) (first : Statements) (h : Head) (b : Block) (us : List Statement) → us ≡ ts ++ tree.If h b None ∷ [] → AreTrees ss ts → IsHead q h → tree_of b ≡ statements_acts first
    → AreTrees (behind ss (If q first Nothing)) us
if_added ss ts q first h b us is g p f = added ss ts (If q first Nothing) (tree.If h b None) us is g (if_tree_of q first h b p f)

pub if_else_added : (ss : Statements) (ts : List Statement) (q : Question) (first second : Statements) (h : Head) (b c : Block) (us : List Statement) → us ≡ ts ++ tree.If h b (Some c) ∷ [] → AreTrees ss ts → IsHead q h
    → tree_of b ≡ statements_acts first → tree_of c ≡ statements_acts second → AreTrees (behind ss (IfElse q first second Nothing)) us
if_else_added ss ts q first second h b c us is g p f s = added ss ts (IfElse q first second Nothing) (tree.If h b (Some c)) us is g (if_else_tree q first second h b c p f s)

pub ruleset parts = (drop_tree, flood_tree, route_tree, let_tree, assign_tree, while_tree, added)
