-- The nodes of what is written are those of the tree.
use Rattle.std.proofs.Common.{◌≡◌, ℕ, ◌+◌, Bool, true, false, List, [], ◌∷◌, ◌++◌, map, refl, sym, ap, ◌∙◌, arith, append_assoc}
use Rattle.std.specs.Prelude.{◌&&◌, nat_lt, if◌then◌else◌}
use Rattle.std.proofs.lemmas.Bool.{false≢true, and_parts}
use Rattle.maple_base.specs.Operators.{left_level, right_level}
use Rattle.policy_grammar.specs.Grammar as written
use Rattle.policy_grammar.specs.Grammar.{Phrase, Group, Question, Statements, Plain}
use Rattle.policy_lang.specs.declared.nodes.Node.{Node}
use Rattle.policy_lang.specs.Nodes.{level_of, opens, node, length_of, part_length, term_nodes, nodes_from, terms_nodes, ask_length, ask_nodes, act_length, act_nodes, acts_length, acts_nodes}
use Rattle.policy_lang.specs.Sound.{sound_term, sound_ask, sound_act, sound_acts}
use Rattle.policy_lang.specs.Tree.{Term, Single, Call, Is, Not, Pair, Host, Hop, Table, Ask, Binds, Holds, Act, Acts, Drop, Flood, Out, Route, Let, Assign, If, IfElse, While, Done, Then}
use Rattle.policy_outline.specs.FileNodes as text
use Rattle.policy_outline.specs.FileNodes.{phrase_length, question_length, statements_length, action_length, if_length, phrase_nodes, more_nodes, question_nodes, statements_nodes}
use Rattle.policy_text.specs.Written.{in_group, phrase_of, question_of, put, statements_of}
use Rattle.policy_text.proofs.Lengths.{term_length, written_length, outs_length, route_length, let_length, assign_length, asked_length, body_length}

both : {xs us ys vs : List Node} → xs ≡ us → ys ≡ vs → xs ++ ys ≡ us ++ vs
both {xs} {us} {ys} {vs} p q = ap (λ zs. zs ++ ys) p ∙ ap (λ zs. us ++ zs) q

behind : {xs us : List Node} (n : Node) → xs ≡ us → n ∷ xs ≡ n ∷ us
behind {xs} {us} n p = ap (λ zs. n ∷ zs) p

-- ---- expressions

group_same : (v : Bool) (a : Phrase) (w i d : ℕ) → phrase_nodes (if v then Group a else a) w i d ≡ phrase_nodes a w (i + (if v then 1 else 0)) d
group_same true a w i d = refl
group_same false a w i d = let j : i ≡ i + 0 = omega arith in ap (λ j. phrase_nodes a w j d) j

-- an expression, wherever it begins
abbrev IsSame : Term → Type 0
IsSame e = (w i d : ℕ) → phrase_nodes (phrase_of e) w i d ≡ term_nodes e w i d

placed_same : (least : ℕ) (e : Term) → IsSame e → (w i d : ℕ) → phrase_nodes (in_group least (level_of e) (phrase_of e)) w i d ≡ term_nodes e w (i + opens least e) d
placed_same least e h w i d = group_same (nat_lt (level_of e) least) (phrase_of e) w i d ∙ h w (i + opens least e) d

-- one that begins at a token which is counted in another way
shifted : (e : Term) → IsSame e → (i j d : ℕ) → i ≡ j → phrase_nodes (phrase_of e) i i d ≡ nodes_from j e d
shifted e h i j d p = h i i d ∙ ap (λ k. nodes_from k e d) p

placed_shifted : (least : ℕ) (e : Term) → IsSame e → (i j d : ℕ) → i ≡ j → phrase_nodes (in_group least (level_of e) (phrase_of e)) i i d ≡ term_nodes e j (j + opens least e) d
placed_shifted least e h i j d p = placed_same least e h i i d ∙ ap (λ k. term_nodes e k (k + opens least e) d) p

term_same : (e : Term) → IsSame e
term_same (Single a) w i d = refl
term_same (Call c l r) w i d =
    let p : i + 3 + phrase_length (phrase_of l) ≡ i + 2 + length_of l + 1 = omega (arith, term_length l) in
    behind (node w i i d) (both (term_same l (i + 2) (i + 2) (d + 1)) (shifted r (term_same r) (i + 3 + phrase_length (phrase_of l)) (i + 2 + length_of l + 1) (d + 1) p))
term_same (Is f e) w i d = behind (node w i i d) (placed_same 4 e (term_same e) (i + 2) (i + 2) (d + 1))
term_same (Not e) w i d = behind (node w i i d) (placed_same 2 e (term_same e) (i + 1) (i + 1) (d + 1))
term_same (Pair o l r) w i d =
    let j : ℕ = i + phrase_length (in_group (left_level o) (level_of l) (phrase_of l)) + 1 in
    let k : ℕ = i + part_length (left_level o) l + 1 in
    let p : j ≡ k = omega (arith, written_length (left_level o) l) in
    behind (node w i i d) (both (placed_same (left_level o) l (term_same l) i i (d + 1)) (placed_shifted (right_level o) r (term_same r) j k (d + 1) p))

-- ---- statements

-- the expressions of an `out`
terms_same : (e : Term) (es : List Term) (i j d : ℕ) → i ≡ j → text.nodes_from i (phrase_of e) d ++ more_nodes (i + phrase_length (phrase_of e)) (map phrase_of es) d ≡ terms_nodes (e ∷ es) j d
terms_same e [] i j d p = both (shifted e (term_same e) i j d p) refl
terms_same e (f ∷ fs) i j d p =
    let m : ℕ = i + phrase_length (phrase_of e) + 1 in
    let k : ℕ = j + length_of e + 1 in
    let q : m ≡ k = omega (arith, term_length e, p) in
    both (shifted e (term_same e) i j d p) (terms_same f fs m k d q)

binding_same : (e : Term) (i d : ℕ) → text.binding_nodes i (phrase_of e) d ≡ node i i (i + 4 + length_of e) d ∷ nodes_from (i + 2) e (d + 1)
binding_same e i d =
    ap (λ n. node i i (i + 4 + n) d ∷ text.nodes_from (i + 2) (phrase_of e) (d + 1)) (term_length e)
    ∙ ap (λ xs. node i i (i + 4 + length_of e) d ∷ xs) (term_same e (i + 2) (i + 2) (d + 1))

ask_same : (q : Ask) (i d : ℕ) → question_nodes i (question_of q) d ≡ ask_nodes q i d
ask_same (Binds Host e x) i d = binding_same e i d
ask_same (Binds Hop e x) i d = binding_same e i d
ask_same (Binds (Table t) e x) i d = binding_same e i d
ask_same (Holds e) i d = term_same e i i d

-- statements have the nodes of the tree, wherever they begin
abbrev Goes : Statements → Acts → Type 0
Goes ss b = (i d : ℕ) → statements_nodes i ss d ≡ acts_nodes b i d

moved : (ss : Statements) (b : Acts) → Goes ss b → (i j d : ℕ) → i ≡ j → statements_nodes i ss d ≡ acts_nodes b j d
moved ss b h i j d p = h i d ∙ ap (λ k. acts_nodes b k d) p

-- a statement without a block, and those behind it
plain_goes : (a : written.Action) (s : Act) (inner : ℕ → ℕ → List Node) → ((i d : ℕ) → node i i (i + 1) d ∷ inner i (d + 1) ≡ act_nodes s i d) → action_length a ≡ act_length s
    → ((i d : ℕ) → text.parts_nodes i a d ≡ inner i d) → (rest : Statements) (b : Acts) → Goes rest b → Goes (Plain a rest) (Then s b)
plain_goes a s inner split len same rest b h i d =
    behind (node i i (i + 1) d) (both (same i (d + 1)) (moved rest b h (i + action_length a) (i + act_length s) d (ap (λ n. i + n) len)))
    ∙ ap (λ xs. xs ++ acts_nodes b (i + act_length s) d) (split i d)

-- a statement with a block
block_goes : {xs us : List Node} {m j n k : ℕ} (own : Node) (first rest : Statements) (b c : Acts) (d : ℕ) → xs ≡ us → m ≡ j → n ≡ k → Goes first b → Goes rest c
    → own ∷ (xs ++ (statements_nodes m first (d + 1) ++ statements_nodes n rest d)) ≡ own ∷ ((us ++ acts_nodes b j (d + 1)) ++ acts_nodes c k d)
block_goes {xs} {us} {m} {j} {n} {k} own first rest b c d x p q f g =
    behind own (both x (both (moved first b f m j (d + 1) p) (moved rest c g n k d q)) ∙ sym (append_assoc us (acts_nodes b j (d + 1)) (acts_nodes c k d)))

-- and one with two
blocks_go : {xs us : List Node} {m j n k o l : ℕ} (own : Node) (first second rest : Statements) (b c e : Acts) (d : ℕ) → xs ≡ us → m ≡ j → n ≡ k → o ≡ l → Goes first b → Goes second c → Goes rest e
    → own ∷ (xs ++ (statements_nodes m first (d + 1) ++ (statements_nodes n second (d + 1) ++ statements_nodes o rest d))) ≡ own ∷ ((us ++ (acts_nodes b j (d + 1) ++ acts_nodes c k (d + 1))) ++ acts_nodes e l d)
blocks_go {xs} {us} {m} {j} {n} {k} {o} {l} own first second rest b c e d x p q t f g h =
    behind own
    (both x (both (moved first b f m j (d + 1) p) (both (moved second c g n k (d + 1) q) (moved rest e h o l d t)))
    ∙ regrouped us (acts_nodes b j (d + 1)) (acts_nodes c k (d + 1)) (acts_nodes e l d))
  where
    regrouped : (xs ys zs ws : List Node) → xs ++ (ys ++ (zs ++ ws)) ≡ (xs ++ (ys ++ zs)) ++ ws
    regrouped xs ys zs ws = simp append_assoc

mutual
  act_goes : (s : Act) → sound_act s ≡ true → (rest : Statements) (b : Acts) → Goes rest b → Goes (put s rest) (Then s b)
  act_goes Drop h rest b g i d = plain_goes written.Drop Drop (λ i d. []) (λ i d. refl) refl (λ i d. refl) rest b g i d
  act_goes Flood h rest b g i d = plain_goes written.Flood Flood (λ i d. []) (λ i d. refl) refl (λ i d. refl) rest b g i d
  act_goes (Out []) h rest b g i d = absurd (false≢true h)
  act_goes (Out (e ∷ es)) h rest b g i d =
      plain_goes (written.Out (phrase_of e) (map phrase_of es)) (Out (e ∷ es)) (λ i d. terms_nodes (e ∷ es) (i + 1) d) (λ i d. refl) (outs_length e es) (λ i d. terms_same e es (i + 1) (i + 1) d refl) rest b g i d
  act_goes (Route e) h rest b g i d =
      plain_goes (written.Route (phrase_of e)) (Route e) (λ i d. nodes_from (i + 1) e d) (λ i d. refl) (route_length e) (λ i d. term_same e (i + 1) (i + 1) d) rest b g i d
  act_goes (Let x e) h rest b g i d =
      plain_goes (written.Let x (phrase_of e)) (Let x e) (λ i d. nodes_from (i + 3) e d) (λ i d. refl) (let_length x e) (λ i d. term_same e (i + 3) (i + 3) d) rest b g i d
  act_goes (Assign x e) h rest b g i d =
      plain_goes (written.Assign x (phrase_of e)) (Assign x e) (λ i d. nodes_from (i + 2) e d) (λ i d. refl) (assign_length x e) (λ i d. term_same e (i + 2) (i + 2) d) rest b g i d
  act_goes (If q b) h rest c g i d =
      let s = (and_parts (sound_ask q) (sound_acts b) h).1 in
      let p : i + 2 + question_length (question_of q) ≡ i + 1 + ask_length q + 1 = omega (arith, asked_length q) in
      let t : i + if_length (question_of q) (statements_of b) ≡ i + act_length (If q b) = omega (arith, asked_length q, body_length b s) in
      block_goes (node i i (i + 1) d) (statements_of b) rest b c d (ask_same q (i + 1) (d + 1)) p t (acts_go b s) g
  act_goes (IfElse q b c) h rest e g i d =
      let both = and_parts (sound_ask q && sound_acts b) (sound_acts c) h in
      let s = (and_parts (sound_ask q) (sound_acts b) both.0).1 in
      let k : ℕ = i + if_length (question_of q) (statements_of b) in
      let p : i + 2 + question_length (question_of q) ≡ i + 1 + ask_length q + 1 = omega (arith, asked_length q) in
      let r : k + 2 ≡ i + 1 + ask_length q + 1 + acts_length b + 3 = omega (arith, asked_length q, body_length b s) in
      let t : k + 3 + statements_length (statements_of c) ≡ i + act_length (IfElse q b c) = omega (arith, asked_length q, body_length b s, body_length c both.1) in
      blocks_go (node i i (i + 1) d) (statements_of b) (statements_of c) rest b c e d (ask_same q (i + 1) (d + 1)) p r t (acts_go b s) (acts_go c both.1) g
  act_goes (While e b) h rest c g i d =
      let s = (and_parts (sound_term e) (sound_acts b) h).1 in
      let n : ℕ = phrase_length (phrase_of e) in
      let p : i + 2 + n ≡ i + 1 + length_of e + 1 = omega (arith, term_length e) in
      let t : i + 3 + n + statements_length (statements_of b) ≡ i + act_length (While e b) = omega (arith, term_length e, body_length b s) in
      block_goes (node i i (i + 1) d) (statements_of b) rest b c d (term_same e (i + 1) (i + 1) (d + 1)) p t (acts_go b s) g

  pub acts_go : (b : Acts) → sound_acts b ≡ true → Goes (statements_of b) b
  acts_go Done h i d = refl
  acts_go (Then s b) h i d =
      let both = and_parts (sound_act s) (sound_acts b) h in
      act_goes s both.0 (statements_of b) b (acts_go b both.1) i d
