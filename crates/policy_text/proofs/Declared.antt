-- Each name that a file declares stands at the token that is told for it.
use Rattle.std.proofs.Common.{◌≡◌, ℕ, ◌+◌, ◌-◌, List, [], ◌∷◌, ◌++◌, map, length, slice_get, Some, unwrap_or, refl, sym, ap, ◌∙◌, arith, append_assoc, append-nil, length-append}
use Rattle.std.specs.Prelude.{All}
use Rattle.std.proofs.lemmas.List.Elements.{All-nil, All-cons, All-append}
use Rattle.policy_lang.specs.declared.nodes.Node.{Node}
use Rattle.policy_lang.specs.Faults.{numbered}
use Rattle.policy_lang.specs.Nodes.{node}
use Rattle.policy_lang.specs.Sizes.{size_of, sizes_of, ask_size, act_size, acts_size}
use Rattle.policy_lang.proofs.NodeCounts.{term_count}
use Rattle.policy_tokens.specs.declared.token.Token.{Token}
use Rattle.policy_tokens.specs.declared.token.Token.TheVariants.{Keyword as keyword, Name as name, Sign as sign}
use Rattle.policy_tokens.specs.declared.token.Keyword.TheVariants as word
use Rattle.policy_tokens.specs.declared.token.Sign.TheVariants as mark
use Rattle.policy_grammar.specs.Grammar.{Phrase, phrase_tokens, Question, Host, Hop, Lookup, Holds, question_tokens, Action, Drop, Flood, Out, Route, Let, Assign, action_tokens, in_braces, if_tokens, while_tokens, Statements, Nothing, Plain, If, IfElse, While, statements_tokens, tables_tokens, learning_tokens, file_tokens}
use Rattle.policy_outline.specs.FileNodes.{question_length, if_length, body_first, nodes_from, more_nodes, binding_nodes, question_nodes, statement_node, parts_nodes, statements_nodes, file_nodes}
use Rattle.policy_tree.specs.Trees.{phrase_term, question_ask, action_act, statements_acts}
use Rattle.policy_text.specs.Names.{ask_names, act_names, acts_names, NamesStandThere}
use Rattle.policy_text.proofs.TextDepths.{phrase_alike, as_many}

-- ---- as many nodes are written as the tree has

phrase_count : (a : Phrase) (i d : ℕ) → length (nodes_from i a d) ≡ size_of (phrase_term a)
phrase_count a i d = as_many (phrase_alike a i i i i d) ∙ term_count (phrase_term a) i i d

more_count : (as_ : List Phrase) (i d : ℕ) → length (more_nodes i as_ d) ≡ sizes_of (map phrase_term as_)
more_count [] i d = refl
more_count (a ∷ as_) i d = omega (arith, length-append {A = Node}, phrase_count a, more_count as_)

question_count : (q : Question) (i d : ℕ) → length (question_nodes i q d) ≡ ask_size (question_ask q)
question_count (Host a x) i d = omega (arith, phrase_count a)
question_count (Hop a x) i d = omega (arith, phrase_count a)
question_count (Lookup t a x) i d = omega (arith, phrase_count a)
question_count (Holds a) i d = phrase_count a i d

parts_count : (s : Action) (i d : ℕ) → 1 + length (parts_nodes i s d) ≡ act_size (action_act s)
parts_count Drop i d = refl
parts_count Flood i d = refl
parts_count (Out a as_) i d = omega (arith, length-append {A = Node}, phrase_count a, more_count as_)
parts_count (Route a) i d = omega (arith, phrase_count a)
parts_count (Let x a) i d = omega (arith, phrase_count a)
parts_count (Assign x a) i d = omega (arith, phrase_count a)

statements_count : (ss : Statements) (i d : ℕ) → length (statements_nodes i ss d) ≡ acts_size (statements_acts ss)
statements_count Nothing i d = refl
statements_count (Plain s rest) i d = omega (arith, length-append {A = Node}, parts_count s, statements_count rest)
statements_count (If q first rest) i d = omega (arith, length-append {A = Node}, question_count q, statements_count first, statements_count rest)
statements_count (IfElse q first second rest) i d =
    omega (arith, length-append {A = Node}, question_count q, statements_count first, statements_count second, statements_count rest)
statements_count (While a body rest) i d = omega (arith, length-append {A = Node}, phrase_count a, statements_count body, statements_count rest)

-- ---- parts of a list

-- these elements stand in the whole, the first of them with this number, where numbers begin with o
record Part {A : Type 0} (o : ℕ) (whole : List A) (n : ℕ) (xs : List A) : Type 0 where
  pub before : List A
  pub behind : List A
  pub same : whole ≡ before ++ (xs ++ behind)
  pub at : length before + o ≡ n

behind_all : {A : Type 0} (xs ys : List A) (x : A) → slice_get (xs ++ x ∷ ys) (length xs) ≡ Some x
behind_all [] ys x = refl
behind_all (y ∷ xs) ys x = behind_all xs ys x

first_is : {A : Type 0} {o n : ℕ} {w : List A} (j : ℕ) (x : A) (xs : List A) → j + o ≡ n → Part o w n (x ∷ xs) → slice_get w j ≡ Some x
first_is {w = w} j x xs e p =
    let there : j ≡ length p.before = omega (arith, e, p.at) in
    ap (slice_get w) there ∙ ap (λ l. slice_get l (length p.before)) p.same ∙ behind_all p.before (xs ++ p.behind) x

entire : {A : Type 0} (o : ℕ) (w : List A) → Part o w o w
entire o w = record { before = []; behind = []; same = sym (append-nil w); at = omega arith }

left : {A : Type 0} {o n : ℕ} {w xs : List A} (ys : List A) → Part o w n (xs ++ ys) → Part o w n xs
left {xs = xs} ys p = record { before = p.before; behind = ys ++ p.behind; same = p.same ∙ ap (λ l. p.before ++ l) (append_assoc xs ys p.behind); at = p.at }

right : {A : Type 0} {o n m : ℕ} {w ys : List A} (xs : List A) → n + length xs ≡ m → Part o w n (xs ++ ys) → Part o w m ys
right {ys = ys} xs e p = record {
  before = p.before ++ xs;
  behind = p.behind;
  same = p.same ∙ ap (λ l. p.before ++ l) (append_assoc xs ys p.behind) ∙ sym (append_assoc p.before xs (ys ++ p.behind));
  at = omega (arith, length-append p.before xs, p.at, e);
}

next : {A : Type 0} {o n : ℕ} {w xs : List A} {x : A} → Part o w n (x ∷ xs) → Part o w (n + 1) xs
next {x = x} p = right (x ∷ []) refl p

braced : {n m : ℕ} {w ts : List Token} → n + 1 ≡ m → Part 0 w n (in_braces ts) → Part 0 w m ts
braced e p = left (sign mark.CloseBrace ∷ []) (right (sign mark.OpenBrace ∷ []) e p)

-- ---- names

module _ (nodes : List Node) (tokens : List Token) where
  abbrev Stands : ℕ × List ℕ → Type 0
  Stands d = slice_get tokens (numbered nodes d.0).named ≡ Some (name d.1)

  declared : (n w f j d : ℕ) (x : List ℕ) (xs : List Node) (ts : List Token) → Part 1 nodes n (node w f j d ∷ xs) → Part 0 tokens j (name x ∷ ts) → All Stands ((n, x) ∷ [])
  declared n w f j d x xs ts p q =
      let at : n - 1 + 1 ≡ n = omega (arith, p.at) in
      let there = ap (λ o. (unwrap_or o (node 0 0 0 0)).named) (first_is (n - 1) (node w f j d) xs at p) in
      All-cons Stands (n, x) [] (ap (slice_get tokens) there ∙ first_is j (name x) ts (omega arith) q) (All-nil Stands)

  bound : (t u v k : Token) (a : Phrase) (x : List ℕ) (n i d : ℕ) → Part 1 nodes n (binding_nodes i a d) → Part 0 tokens i (t ∷ u ∷ (phrase_tokens a ++ v ∷ k ∷ name x ∷ []))
      → All Stands ((n, x) ∷ [])
  bound t u v k a x n i d p q =
      declared n i i _ d x (nodes_from (i + 2) a (d + 1)) [] p (right (v ∷ k ∷ []) (omega arith) (right (phrase_tokens a) refl (next (next q))))

  question_named : (q : Question) (n i d : ℕ) → Part 1 nodes n (question_nodes i q d) → Part 0 tokens i (question_tokens q) → All Stands (ask_names (question_ask q) n)
  question_named (Host a x) n i d = bound (keyword word.Host) (sign mark.OpenParenthesis) (sign mark.CloseParenthesis) (keyword word.As) a x n i d
  question_named (Hop a x) n i d = bound (keyword word.Hop) (sign mark.OpenParenthesis) (sign mark.CloseParenthesis) (keyword word.As) a x n i d
  question_named (Lookup t a x) n i d = bound (name t) (sign mark.OpenBracket) (sign mark.CloseBracket) (keyword word.As) a x n i d
  question_named (Holds a) n i d = λ p q. All-nil Stands

  action_named : (s : Action) (n i d : ℕ) → Part 1 nodes n (statement_node i d ∷ parts_nodes i s (d + 1)) → Part 0 tokens i (action_tokens s) → All Stands (act_names (action_act s) n)
  action_named (Let x a) n i d p q = declared n i i (i + 1) d x _ _ p (next q)
  action_named s n i d p q = All-nil Stands

  both : (xs ys : List (ℕ × List ℕ)) → All Stands xs → All Stands ys → All Stands (xs ++ ys)
  both xs ys = All-append Stands xs ys

  -- what an `if` asks, and where the nodes behind it and the tokens of its first block stand
  if_opens : (q : Question) (xs : List Node) (ts : List Token) (n i d : ℕ) → Part 1 nodes n (statement_node i d ∷ (question_nodes (i + 1) q (d + 1) ++ xs)) → Part 0 tokens i (if_tokens q ts)
      → All Stands (ask_names (question_ask q) (n + 1)) × Part 1 nodes (n + 1 + ask_size (question_ask q)) xs × Part 0 tokens (i + 2 + question_length q) ts
  if_opens q xs ts n i d p t =
      let block = right (question_tokens q) refl (next t) in
      (question_named q (n + 1) (i + 1) (d + 1) (left _ (next p)) (left _ (next t)), right _ (omega (arith, question_count q)) (next p), braced (omega arith) block)

  statements_named : (ss : Statements) (n i d : ℕ) → Part 1 nodes n (statements_nodes i ss d) → Part 0 tokens i (statements_tokens ss) → All Stands (acts_names (statements_acts ss) n)
  statements_named Nothing n i d p t = All-nil Stands
  statements_named (Plain s rest) n i d p t =
      let own = statement_node i d ∷ parts_nodes i s (d + 1) in
      both _ _ (action_named s n i d (left {xs = own} _ p) (left {xs = action_tokens s} _ t)) (statements_named rest _ _ d (right own (omega (arith, parts_count s)) p) (right (action_tokens s) refl t))
  statements_named (If q first rest) n i d p t =
      let head = if_tokens q (statements_tokens first) in
      let o = if_opens q _ (statements_tokens first) n i d p (left {xs = head} _ t) in
      both _ _ (both _ _ o.0 (statements_named first _ _ (d + 1) (left _ o.1) o.2))
      (statements_named rest _ _ d (right _ (omega (arith, statements_count first)) o.1) (right head (omega (arith, length-append {A = Token})) t))
  statements_named (IfElse q first second rest) n i d p t =
      let head = if_tokens q (statements_tokens first) in
      let other = keyword word.Else ∷ in_braces (statements_tokens second) in
      let m : ℕ = n + 1 + ask_size (question_ask q) in
      let eh : i + length head ≡ i + if_length q first = omega (arith, length-append {A = Token}) in
      let ts = left {xs = head ++ other} _ t in
      let o = if_opens q _ (statements_tokens first) n i d p (left {xs = head} _ ts) in
      let behind = right _ (ap (λ k. m + k) (statements_count first (i + 2 + question_length q) (d + 1))) o.1 in
      both _ _ (both _ _ (both _ _ o.0 (statements_named first _ _ (d + 1) (left _ o.1) o.2))
      (statements_named second _ _ (d + 1) (left _ behind) (braced (omega arith) (next (right head eh ts)))))
      (statements_named rest _ _ d (right _ (omega (arith, statements_count second)) behind) (right (head ++ other) (omega (arith, length-append head other, eh, length-append {A = Token})) t))
  statements_named (While a body rest) n i d p t =
      let head = while_tokens a (statements_tokens body) in
      let inner = right _ (ap (λ k. n + 1 + k) (phrase_count a (i + 1) (d + 1))) (next p) in
      let block = right (phrase_tokens a) refl (next (left {xs = head} _ t)) in
      both _ _ (statements_named body _ _ (d + 1) (left _ inner) (braced (omega arith) block))
      (statements_named rest _ _ d (right _ (omega (arith, statements_count body)) inner) (right head (omega (arith, length-append {A = Token})) t))

-- ---- files

pub names_stand_there : NamesStandThere
names_stand_there f =
    let tables = tables_tokens f.tables in
    let learned = learning_tokens f.learning in
    let e : 0 + length tables ≡ length tables = omega arith in
    statements_named (file_nodes f) (file_tokens f) f.body 1 (body_first f) 1 (entire 1 (file_nodes f)) (braced refl (right learned refl (next (right tables e (entire 0 (file_tokens f))))))
