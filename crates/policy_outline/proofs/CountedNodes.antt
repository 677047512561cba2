-- From the counts of a file its nodes and its parentheses are found: what is found from the counts of some tokens, how it is put together, and what a file's parts are.
use Rattle.std.proofs.Common.{◌≡◌, ℕ, suc, ◌+◌, ◌-◌, Bool, true, false, cond, ltb, List, [], ◌∷◌, ◌++◌, length, refl, sym, ap, subst, ◌∙◌, arith, append_assoc, append-nil, length-append}
use Rattle.std.proofs.lemmas.Bool.{lt-ltb}
use Rattle.policy_lang.specs.declared.nodes.Node.{Node}
use Rattle.policy_lang.specs.Nodes.{node}
use Rattle.policy_outline.specs.Bounds.{total, begun_in, ended_in}
use Rattle.policy_outline.specs.Counts.{Count, of_none, of_last, of_head, of_opening, one_begun, one_ended, begin_first, end_last, phrase_counts, more_counts, binding_counts, question_counts, action_counts, statements_counts, tables_counts, learning_counts, file_counts}
use Rattle.policy_outline.specs.FileNodes.{Parenthesis, phrase_length, phrase_nodes, more_nodes, binding_nodes, question_length, question_nodes, statement_node, action_length, parts_nodes, statements_length, if_length, statements_nodes, body_first, file_nodes, phrase_parentheses, more_parentheses, question_parentheses, action_parentheses, statements_parentheses, file_parentheses}
use Rattle.policy_outline.specs.Scanning.{nodes_at, whole_behind, scanned, parenthesis_at, parenthesized}
use Rattle.policy_outline.proofs.Growing.{total_append, end_moves}
use Rattle.policy_tokens.specs.declared.token.Token.{Token}
use Rattle.policy_tokens.specs.declared.token.Token.TheVariants.{Keyword as keyword}
use Rattle.policy_tokens.specs.declared.token.Keyword.TheVariants as word
use Rattle.policy_grammar.specs.Grammar.{Phrase, Single, Call, Group, Negation, Test, Pair, phrase_tokens, Question, Host, Hop, Lookup, Holds, question_tokens, Action, Drop, Flood, Out, Route, Let, Assign, more_tokens, in_braces, if_tokens, while_tokens, Statements, Nothing, Plain, If, IfElse, While, statements_tokens, File, tables_tokens, learning_tokens}

-- ---- behind some tokens

abbrev pub tables_of : List Count → ℕ
tables_of cs = total (λ c. c.tables) cs

-- where the parentheses begin that belong to the outermost node of the next token
abbrev whole_after : ℕ → ℕ → List Count → ℕ
whole_after w i [] = w
whole_after w i (c ∷ cs) = whole_after (whole_behind w i c) (i + 1) cs

whole_append : (w i j : ℕ) (cs ds : List Count) → i + length cs ≡ j → whole_after w i (cs ++ ds) ≡ whole_after (whole_after w i cs) j ds
whole_append w i j [] ds h =
    let same : i ≡ j = omega arith in
    ap (λ k. whole_after w k ds) same
whole_append w i j (c ∷ cs) ds h = whole_append (whole_behind w i c) (i + 1) j cs ds (omega arith)

scanned_append : (w i b e v j x y : ℕ) (cs ds : List Count) → whole_after w i cs ≡ v → i + length cs ≡ j → b + begun_in cs ≡ x → e + ended_in cs ≡ y
    → scanned w i b e (cs ++ ds) ≡ scanned w i b e cs ++ scanned v j x y ds
scanned_append w i b e v j x y [] ds p q r s =
    let far : i ≡ j = omega arith in
    let begun : b ≡ x = omega arith in
    let ended : e ≡ y = omega arith in
    cc
scanned_append w i b e v j x y (c ∷ cs) ds p q r s =
    ap (λ l. nodes_at w i (i + c.name) b e c.begun ++ l) (scanned_append (whole_behind w i c) (i + 1) (b + c.begun) (e + c.ended) v j x y cs ds p (omega arith) (omega arith) (omega arith))
    ∙ sym (append_assoc (nodes_at w i (i + c.name) b e c.begun) (scanned (whole_behind w i c) (i + 1) (b + c.begun) (e + c.ended) cs) (scanned v j x y ds))

grouped_append : (i j : ℕ) (cs ds : List Count) → i + length cs ≡ j → parenthesized i (cs ++ ds) ≡ parenthesized i cs ++ parenthesized j ds
grouped_append i j [] ds h =
    let same : i ≡ j = omega arith in
    ap (λ k. parenthesized k ds) same
grouped_append i j (c ∷ cs) ds h =
    ap (λ l. parenthesis_at i c.parentheses ++ l) (grouped_append (i + 1) j cs ds (omega arith)) ∙ sym (append_assoc (parenthesis_at i c.parentheses) (parenthesized (i + 1) cs) (parenthesized j ds))

-- ---- pieces

-- from tokens with these counts, the first of which has number i, stands inside o nodes and inside parentheses from w on, these nodes and parentheses are found; behind them stands j inside p nodes, with no parentheses ahead; no table is named
pub record Reads (w i j o p : ℕ) (cs : List Count) (ps : List Node) (qs : List Parenthesis) : Type 0 where
  pub found : (b e : ℕ) → b ≡ o + e → scanned w i b e cs ≡ ps
  pub grouped : parenthesized i cs ≡ qs
  pub whole : whole_after w i cs ≡ j
  pub behind : i + length cs ≡ j
  pub left : o + begun_in cs ≡ p + ended_in cs
  pub untabled : tables_of cs ≡ 0

-- a token with which no node begins, and that opens no parenthesis; so many end
abbrev quiet : ℕ → Count
quiet e = record of_none { ended = e }

-- a token with which one node begins
abbrev single : ℕ → ℕ → Count
single e n = record of_none { begun = 1; ended = e; name = n }

reads_nothing : {i o : ℕ} → Reads i i i o o [] [] []
reads_nothing = record { found = λ b e h. refl; grouped = refl; whole = refl; behind = omega arith; left = refl; untabled = refl }

reads_from : {i k j o p : ℕ} {cs : List Count} {ps : List Node} {qs : List Parenthesis} → Reads k k j o p cs ps qs → i ≡ k → Reads i i j o p cs ps qs
reads_from {j} {o} {p} {cs} {ps} {qs} f e = subst (λ m. Reads m m j o p cs ps qs) (sym e) f

reads_up_to : {w i j k o p : ℕ} {cs : List Count} {ps : List Node} {qs : List Parenthesis} → Reads w i j o p cs ps qs → j ≡ k → Reads w i k o p cs ps qs
reads_up_to {w} {i} {o} {p} {cs} {ps} {qs} f e = subst (λ m. Reads w i m o p cs ps qs) e f

reads_both : {w i j k o p r : ℕ} {cs ds : List Count} {ps ns : List Node} {qs ms : List Parenthesis}
    → Reads w i j o p cs ps qs → Reads j j k p r ds ns ms → Reads w i k o r (cs ++ ds) (ps ++ ns) (qs ++ ms)
reads_both {w} {i} {j} {k} {o} {p} {r} {cs} {ds} {ps} {ns} {qs} {ms} f g = record {
  found = λ b e h.
      scanned_append w i b e j j (b + begun_in cs) (e + ended_in cs) cs ds f.whole f.behind refl refl
      ∙ ap (λ l. l ++ scanned j j (b + begun_in cs) (e + ended_in cs) ds) (f.found b e h) ∙ ap (λ l. ps ++ l) (g.found (b + begun_in cs) (e + ended_in cs) (omega arith));
  grouped = grouped_append i j cs ds f.behind ∙ ap (λ l. l ++ parenthesized j ds) f.grouped ∙ ap (λ l. qs ++ l) g.grouped;
  whole = whole_append w i j cs ds f.behind ∙ ap (λ v. whole_after v j ds) f.whole ∙ g.whole;
  behind = omega (arith, length-append cs ds);
  left = omega (arith, total_append (λ c. c.begun) cs ds, total_append (λ c. c.ended) cs ds);
  untabled = omega (arith, total_append (λ c. c.tables) cs ds);
}

-- behind the first nothing more is found
reads_no_more : {w i j k o p r : ℕ} {cs ds : List Count} {ps : List Node} {qs : List Parenthesis}
    → Reads w i j o p cs ps qs → Reads j j k p r ds [] [] → Reads w i k o r (cs ++ ds) ps qs
reads_no_more {w} {i} {j} {k} {o} {p} {r} {cs} {ds} {ps} {qs} f g =
    subst (λ l. Reads w i k o r (cs ++ ds) l qs) (append-nil ps) (subst (λ l. Reads w i k o r (cs ++ ds) (ps ++ []) l) (append-nil qs) (reads_both f g))

past : {w i j o p r : ℕ} {cs : List Count} {ps : List Node} {qs : List Parenthesis} (e : ℕ) → o ≡ p + e
    → Reads (i + 1) (i + 1) j p r cs ps qs → Reads w i j o r (quiet e ∷ cs) ps qs
past {cs} e h f = record {
  found = λ b x g. f.found (b + 0) (x + e) (omega arith);
  grouped = f.grouped;
  whole = f.whole;
  behind = omega arith;
  left = omega arith;
  untabled = omega arith;
}

first : {w i j o p r : ℕ} {cs : List Count} {ps : List Node} {qs : List Parenthesis} {k : ℕ} (e n : ℕ) → i + n ≡ k → o + 1 ≡ p + e
    → Reads (i + 1) (i + 1) j p r cs ps qs → Reads w i j o r (single e n ∷ cs) (node w i k (o + 1) ∷ ps) qs
first {w} {i} {o} {cs} {ps} {k} e n named h f = record {
  found = λ b x g.
      let depth : b + 1 - x ≡ o + 1 = omega arith in
      let rest : scanned (i + 1) (i + 1) (b + 1) (x + e) cs ≡ ps = f.found (b + 1) (x + e) (omega arith) in
      cc;
  grouped = f.grouped;
  whole = f.whole;
  behind = omega arith;
  left = omega arith;
  untabled = omega arith;
}

reads_past : {w i j o r : ℕ} {cs : List Count} {ps : List Node} {qs : List Parenthesis}
    → Reads (i + 1) (i + 1) j o r cs ps qs → Reads w i j o r (of_none ∷ cs) ps qs
reads_past {o} f = past {p = o} 0 (omega arith) f

reads_last : {w i j o r : ℕ} {cs : List Count} {ps : List Node} {qs : List Parenthesis}
    → Reads (i + 1) (i + 1) j o r cs ps qs → Reads w i j (o + 1) r (of_last ∷ cs) ps qs
reads_last {o} f = past {p = o} 1 refl f

reads_first : {w i j o r : ℕ} {cs : List Count} {ps : List Node} {qs : List Parenthesis} {k : ℕ} (n : ℕ) → i + n ≡ k
    → Reads (i + 1) (i + 1) j (o + 1) r cs ps qs → Reads w i j o r (of_head n ∷ cs) (node w i k (o + 1) ∷ ps) qs
reads_first {o} n named f = first {p = o + 1} 0 n named (omega arith) f

reads_whole : {w i j o r : ℕ} {cs : List Count} {ps : List Node} {qs : List Parenthesis} {k : ℕ} (n : ℕ) → i + n ≡ k
    → Reads (i + 1) (i + 1) j o r cs ps qs → Reads w i j o r (single 1 n ∷ cs) (node w i k (o + 1) ∷ ps) qs
reads_whole {o} n named f = first {p = o} 1 n named refl f

-- behind a parenthesis the next token's node has it
reads_open : {w i j o p : ℕ} {cs : List Count} {ps : List Node} {qs : List Parenthesis} {m : ℕ} (n : ℕ) → suc n ≡ m
    → Reads w (i + 1) j o p cs ps qs → Reads w i j o p (of_opening (suc n) ∷ cs) ps (record { token = i; depth = m } ∷ qs)
reads_open {w} {i} {cs} {qs} {m} n same f =
    let some : ltb 0 (suc n) ≡ true = lt-ltb 0 (suc n) (omega arith) in
    record {
      found = λ b e h. ap (λ v. scanned (cond v w (i + 1)) (i + 1) (b + 0) (e + 0) cs) some ∙ f.found (b + 0) (e + 0) (omega arith);
      grouped =
          ap (λ v. cond v (record { token = i; depth = suc n } ∷ []) [] ++ parenthesized (i + 1) cs) some
          ∙ ap (λ d. record { token = i; depth = d } ∷ parenthesized (i + 1) cs) same ∙ ap (λ l. record { token = i; depth = m } ∷ l) f.grouped;
      whole = ap (λ v. whole_after (cond v w (i + 1)) (i + 1) cs) some ∙ f.whole;
      behind = omega arith;
      left = omega arith;
      untabled = omega arith;
    }

-- ---- the first and the last token

-- there is a first token, and it has no name behind it
abbrev pub IsNameless : List Count → Type 0
IsNameless [] = ⊥
IsNameless (c ∷ cs) = c.name ≡ 0

ended_total : (g : Count → ℕ) (n : ℕ) (c : Count) (cs : List Count) → ((d : Count) → g (one_ended d) ≡ n + g d) → total g (end_last (c ∷ cs)) ≡ n + total g (c ∷ cs)
ended_total g n c [] h = omega (arith, h c)
ended_total g n c (d ∷ cs) h = omega (arith, ended_total g n d cs h)

ended_scanned : (w i b e : ℕ) (cs : List Count) → scanned w i b e (end_last cs) ≡ scanned w i b e cs
ended_scanned w i b e [] = refl
ended_scanned w i b e (c ∷ []) = refl
ended_scanned w i b e (c ∷ d ∷ cs) = ap (λ l. nodes_at w i (i + c.name) b e c.begun ++ l) (ended_scanned (whole_behind w i c) (i + 1) (b + c.begun) (e + c.ended) (d ∷ cs))

ended_grouped : (i : ℕ) (cs : List Count) → parenthesized i (end_last cs) ≡ parenthesized i cs
ended_grouped i [] = refl
ended_grouped i (c ∷ []) = refl
ended_grouped i (c ∷ d ∷ cs) = ap (λ l. parenthesis_at i c.parentheses ++ l) (ended_grouped (i + 1) (d ∷ cs))

ended_whole : (w i : ℕ) (cs : List Count) → whole_after w i (end_last cs) ≡ whole_after w i cs
ended_whole w i [] = refl
ended_whole w i (c ∷ []) = refl
ended_whole w i (c ∷ d ∷ cs) = ended_whole (whole_behind w i c) (i + 1) (d ∷ cs)

reads_ended : {w i j o p : ℕ} {cs : List Count} {ps : List Node} {qs : List Parenthesis} → IsNameless cs → Reads w i j o (p + 1) cs ps qs → Reads w i j o p (end_last cs) ps qs
reads_ended {cs = []} k f = absurd k
reads_ended {w} {i} {cs = c ∷ cs} k f = record {
  found = λ b e h. ended_scanned w i b e (c ∷ cs) ∙ f.found b e h;
  grouped = ended_grouped i (c ∷ cs) ∙ f.grouped;
  whole = ended_whole w i (c ∷ cs) ∙ f.whole;
  behind = omega (arith, (end_moves true (c ∷ cs)).count);
  left = omega (arith, ended_total (λ d. d.begun) 0 c cs (λ d. omega arith), ended_total (λ d. d.ended) 1 c cs (λ d. omega arith));
  untabled = omega (arith, ended_total (λ d. d.tables) 0 c cs (λ d. omega arith));
}

-- an operator begins with its left part, and takes the parentheses ahead
cond_same : (v : Bool) (n : ℕ) → cond v n n ≡ n
cond_same true n = refl
cond_same false n = refl

begun_behind : (w i : ℕ) (c : Count) → whole_behind w i (one_begun c) ≡ whole_behind i i c
begun_behind w i c =
    ap (λ v. cond (ltb 0 c.parentheses) (cond v i w) (i + 1)) (lt-ltb 0 (suc c.begun) (omega arith))
    ∙ ap (λ m. cond (ltb 0 c.parentheses) m (i + 1)) (sym (cond_same (ltb 0 c.begun) i))

reads_begun : {w i j o p : ℕ} {cs : List Count} {ps : List Node} {qs : List Parenthesis} → IsNameless cs
    → Reads i i j (o + 1) p cs ps qs → Reads w i j o p (begin_first cs) (node w i i (o + 1) ∷ ps) qs
reads_begun {cs = []} k f = absurd k
reads_begun {w} {i} {o} {cs = c ∷ cs} {ps} k f = record {
  found = λ b e h.
      let depth : b + 1 - e ≡ o + 1 = omega arith in
      let named : i + c.name ≡ i = omega arith in
      let next : b + suc c.begun ≡ b + 1 + c.begun = omega arith in
      let rest = f.found (b + 1) e (omega arith) in
      cc (begun_behind w i c);
  grouped = f.grouped;
  whole = ap (λ v. whole_after v (i + 1) cs) (begun_behind w i c) ∙ f.whole;
  behind = f.behind;
  left = omega arith;
  untabled = f.untabled;
}

-- ---- expressions

pub nameless_both : (cs ds : List Count) → IsNameless cs → IsNameless (cs ++ ds)
nameless_both [] ds h = absurd h
nameless_both (c ∷ cs) ds h = h

nameless_begun : (cs ds : List Count) → IsNameless cs → IsNameless (begin_first cs ++ ds)
nameless_begun [] ds h = absurd h
nameless_begun (c ∷ cs) ds h = h

pub phrase_nameless : (n : ℕ) (a : Phrase) → IsNameless (phrase_counts n a)
phrase_nameless n (Single t) = refl
phrase_nameless n (Call c a b) = refl
phrase_nameless n (Group a) = refl
phrase_nameless n (Negation a) = refl
phrase_nameless n (Test f a) = refl
phrase_nameless n (Pair o a b) = nameless_begun (phrase_counts n a) _ (phrase_nameless n a)

-- the nodes of an expression inside o others, and its parentheses inside n others
abbrev PhraseReads : ℕ → ℕ → ℕ → ℕ → Phrase → Type 0
PhraseReads w i o n a = Reads w i (i + phrase_length a) o o (phrase_counts n a) (phrase_nodes a w i (o + 1)) (phrase_parentheses i a n)

-- the same where its last token ends a node around it too
phrase_ends : {w i o : ℕ} (n : ℕ) (a : Phrase) → PhraseReads w i (o + 1) n a
    → Reads w i (i + phrase_length a) (o + 1) o (end_last (phrase_counts n a)) (phrase_nodes a w i (o + 1 + 1)) (phrase_parentheses i a n)
phrase_ends n a f = reads_ended (phrase_nameless n a) f

pub phrase_reads : (a : Phrase) (w i o n : ℕ) → PhraseReads w i o n a
phrase_reads (Single t) w i o n = reads_up_to (reads_whole 0 (omega arith) reads_nothing) (omega arith)
phrase_reads (Call c a b) w i o n =
    let left = phrase_reads a (i + 2) (i + 2) (o + 1) n in
    let right = phrase_reads b (i + 3 + phrase_length a) (i + 3 + phrase_length a) (o + 1) n in
    reads_up_to (reads_first 0 (omega arith) (reads_past (reads_from
    (reads_both left (reads_past (reads_from (reads_no_more right (reads_last reads_nothing)) (omega arith)))) (omega arith)))) (omega (arith, length-append {A = Token}))
phrase_reads (Group a) w i o n =
    let deeper : suc n ≡ n + 1 = omega arith in
    let inner =
    subst (λ m. Reads w (i + 1) (i + 1 + phrase_length a) o o (phrase_counts (suc n) a) (phrase_nodes a w (i + 1) (o + 1)) (phrase_parentheses (i + 1) a m)) deeper
    (phrase_reads a w (i + 1) o (suc n)) in
    reads_up_to (reads_open n deeper (reads_no_more inner (reads_past reads_nothing))) (omega (arith, length-append {A = Token}))
phrase_reads (Negation a) w i o n = reads_up_to (reads_first 0 (omega arith) (phrase_ends n a (phrase_reads a (i + 1) (i + 1) (o + 1) n))) (omega arith)
phrase_reads (Test f a) w i o n =
    reads_up_to (reads_first 0 (omega arith) (reads_past (reads_from (phrase_ends n a (phrase_reads a (i + 2) (i + 2) (o + 1) n)) (omega arith)))) (omega arith)
phrase_reads (Pair e a b) w i o n =
    let left = reads_begun (phrase_nameless n a) (phrase_reads a i i (o + 1) n) in
    let right = phrase_ends n b (phrase_reads b (i + phrase_length a + 1) (i + phrase_length a + 1) (o + 1) n) in
    reads_up_to (reads_both left (reads_past right)) (omega (arith, length-append {A = Token}))

abbrev more_length : List Phrase → ℕ
more_length as_ = length (more_tokens as_)

more_reads : (as_ : List Phrase) (i o : ℕ) → Reads i i (i + more_length as_) o o (more_counts as_) (more_nodes i as_ (o + 1)) (more_parentheses i as_)
more_reads [] i o = reads_up_to reads_nothing (omega arith)
more_reads (a ∷ as_) i o =
    let next = i + 1 + phrase_length a in
    reads_up_to (reads_past (reads_both (phrase_reads a (i + 1) (i + 1) o 0) (more_reads as_ next o))) (omega (arith, length-append {A = Token}))

-- ---- statements

-- a head that binds a name, of so many tokens
binding_reads : (a : Phrase) (i o k : ℕ) → k ≡ 5 + phrase_length a → Reads i i (i + k) o o (binding_counts a) (binding_nodes i a (o + 1)) (phrase_parentheses (i + 2) a 0)
binding_reads a i o k h =
    let inner = reads_no_more (phrase_reads a (i + 2) (i + 2) (o + 1) 0) (reads_past (reads_past (reads_last reads_nothing))) in
    reads_up_to (reads_first (4 + phrase_length a) (omega arith) (reads_past (reads_from inner (omega arith)))) (omega arith)

question_reads : (q : Question) (i o : ℕ) → Reads i i (i + question_length q) o o (question_counts q) (question_nodes i q (o + 1)) (question_parentheses i q)
question_reads (Host a x) i o = binding_reads a i o (question_length (Host a x)) (omega (arith, length-append {A = Token}))
question_reads (Hop a x) i o = binding_reads a i o (question_length (Hop a x)) (omega (arith, length-append {A = Token}))
question_reads (Lookup t a x) i o = binding_reads a i o (question_length (Lookup t a x)) (omega (arith, length-append {A = Token}))
question_reads (Holds a) i o = phrase_reads a i i o 0

semicolon : {w i j o p : ℕ} {cs : List Count} {ps : List Node} {qs : List Parenthesis} → Reads w i j o p cs ps qs → Reads w i (j + 1) o p (cs ++ of_none ∷ []) ps qs
semicolon f = reads_no_more f (reads_past reads_nothing)

-- the expression that ends a statement, with the semicolon
value_reads : (a : Phrase) (i o : ℕ)
    → Reads i i (i + phrase_length a + 1) (o + 1) o (end_last (phrase_counts 0 a) ++ of_none ∷ []) (phrase_nodes a i i (o + 1 + 1)) (phrase_parentheses i a 0)
value_reads a i o = semicolon (phrase_ends 0 a (phrase_reads a i i (o + 1) 0))

-- a statement without a block, with its own node
action_reads : (s : Action) (i o : ℕ) → Reads i i (i + action_length s) o o (action_counts s) (statement_node i (o + 1) ∷ parts_nodes i s (o + 1 + 1)) (action_parentheses i s)
action_reads Drop i o = reads_up_to (reads_whole 1 refl (reads_past reads_nothing)) (omega arith)
action_reads Flood i o = reads_up_to (reads_whole 1 refl (reads_past reads_nothing)) (omega arith)
action_reads (Out a more) i o =
    let parts = reads_both (phrase_reads a (i + 1) (i + 1) (o + 1) 0) (more_reads more (i + 1 + phrase_length a) (o + 1)) in
    let some = nameless_both (phrase_counts 0 a) (more_counts more) (phrase_nameless 0 a) in
    reads_up_to (reads_first 1 refl (semicolon (reads_ended some parts))) (omega (arith, length-append {A = Token}))
action_reads (Route a) i o = reads_up_to (reads_first 1 refl (value_reads a (i + 1) o)) (omega (arith, length-append {A = Token}))
action_reads (Let x a) i o =
    reads_up_to (reads_first 1 refl (reads_past (reads_past (reads_from (value_reads a (i + 3) o) (omega arith))))) (omega (arith, length-append {A = Token}))
action_reads (Assign x a) i o = reads_up_to (reads_first 1 refl (reads_past (reads_from (value_reads a (i + 2) o) (omega arith)))) (omega (arith, length-append {A = Token}))

block_length : (ts : List Token) → length (in_braces ts) ≡ 2 + length ts
block_length ts = omega (arith, length-append {A = Token})

if_head : (q : Question) (first : List Token) → length (if_tokens q first) ≡ 3 + question_length q + length first
if_head q first = omega (arith, length-append (question_tokens q) (in_braces first), block_length first)

statements_reads : (ss : Statements) (i o : ℕ) → Reads i i (i + statements_length ss) o o (statements_counts ss) (statements_nodes i ss (o + 1)) (statements_parentheses i ss)
statements_reads Nothing i o = reads_up_to reads_nothing (omega arith)
statements_reads (Plain s rest) i o =
    reads_up_to (reads_both (action_reads s i o) (statements_reads rest (i + action_length s) o)) (omega (arith, length-append {A = Token}))
statements_reads (If q first rest) i o =
    let inner = statements_reads first (i + 2 + question_length q) (o + 1) in
    let others = statements_reads rest (i + if_length q first) o in
    reads_up_to (reads_first 1 refl (reads_both (question_reads q (i + 1) (o + 1)) (reads_past (reads_from
    (reads_both inner (reads_last (reads_from others (omega arith)))) (omega arith)))))
    (omega (arith, length-append (if_tokens q (statements_tokens first)) (statements_tokens rest), if_head q (statements_tokens first)))
statements_reads (IfElse q first second rest) i o =
    let head = if_tokens q (statements_tokens first) in
    let more = keyword word.Else ∷ in_braces (statements_tokens second) in
    let inner = statements_reads first (i + 2 + question_length q) (o + 1) in
    let other = statements_reads second (i + if_length q first + 2) (o + 1) in
    let others = statements_reads rest (i + if_length q first + 3 + statements_length second) o in
    reads_up_to (reads_first 1 refl (reads_both (question_reads q (i + 1) (o + 1)) (reads_past (reads_from (reads_both inner (reads_past (reads_past (reads_past (reads_from
    (reads_both other (reads_last (reads_from others (omega arith)))) (omega arith)))))) (omega arith)))))
    (omega (arith, length-append (head ++ more) (statements_tokens rest), length-append head more, if_head q (statements_tokens first), block_length (statements_tokens second)))
statements_reads (While a body rest) i o =
    let inner = statements_reads body (i + 2 + phrase_length a) (o + 1) in
    let others = statements_reads rest (i + 3 + phrase_length a + statements_length body) o in
    reads_up_to (reads_first 1 refl (reads_both (phrase_reads a (i + 1) (i + 1) (o + 1) 0) (reads_past (reads_from
    (reads_both inner (reads_last (reads_from others (omega arith)))) (omega arith)))))
    (omega (arith, length-append (while_tokens a (statements_tokens body)) (statements_tokens rest), length-append (phrase_tokens a) (in_braces (statements_tokens body)), block_length (statements_tokens body)))

-- ---- files

-- what comes ahead of a file's body, behind its tables, and the brace behind the body
abbrev pub behind_tables : File → List Count
behind_tables f = of_none ∷ (learning_counts f.learning ++ of_none ∷ (statements_counts f.body ++ of_none ∷ []))

learning_reads : (b : Bool) (i o : ℕ) → Reads i i (i + length (learning_tokens b)) o o (learning_counts b) [] []
learning_reads true i o = reads_up_to (reads_past reads_nothing) (omega arith)
learning_reads false i o = reads_up_to reads_nothing (omega arith)

-- from the tables on
behind_reads : (f : File) → let n = length (tables_tokens f.tables) in Reads n n (body_first f + statements_length f.body + 1) 0 0 (behind_tables f) (file_nodes f) (file_parentheses f)
behind_reads f = reads_past (reads_both (learning_reads f.learning _ 0) (reads_past (semicolon (statements_reads f.body (body_first f) 0))))

-- with tables no node begins
tables_scanned : (xs : List (List ℕ)) (n i j b e : ℕ) (cs : List Count) → i + length (tables_tokens xs) ≡ j → scanned i i b e (tables_counts n xs ++ cs) ≡ scanned j j b e cs
tables_scanned [] n i j b e cs h =
    let same : i ≡ j = omega arith in
    ap (λ k. scanned k k b e cs) same
tables_scanned (x ∷ xs) n i j b e cs h =
    let begun : b + 0 + 0 + 0 ≡ b = omega arith in
    let ended : e + 0 + 0 + 0 ≡ e = omega arith in
    ap (λ k. scanned (i + 1 + 1 + 1) (i + 1 + 1 + 1) k (e + 0 + 0 + 0) (tables_counts (suc n) xs ++ cs)) begun
    ∙ ap (λ k. scanned (i + 1 + 1 + 1) (i + 1 + 1 + 1) b k (tables_counts (suc n) xs ++ cs)) ended ∙ tables_scanned xs (suc n) (i + 1 + 1 + 1) j b e cs (omega arith)

tables_grouped : (xs : List (List ℕ)) (n i j : ℕ) (cs : List Count) → i + length (tables_tokens xs) ≡ j → parenthesized i (tables_counts n xs ++ cs) ≡ parenthesized j cs
tables_grouped [] n i j cs h =
    let same : i ≡ j = omega arith in
    ap (λ k. parenthesized k cs) same
tables_grouped (x ∷ xs) n i j cs h = tables_grouped xs (suc n) (i + 1 + 1 + 1) j cs (omega arith)

pub file_scanned : (f : File) → scanned 0 0 0 0 (file_counts f) ≡ file_nodes f
file_scanned f = tables_scanned f.tables 0 0 (length (tables_tokens f.tables)) 0 0 (behind_tables f) (omega arith) ∙ (behind_reads f).found 0 0 refl

pub file_parenthesized : (f : File) → parenthesized 0 (file_counts f) ≡ file_parentheses f
file_parenthesized f = tables_grouped f.tables 0 0 (length (tables_tokens f.tables)) (behind_tables f) (omega arith) ∙ (behind_reads f).grouped

-- behind the tables no more are named
pub behind_untabled : (f : File) → tables_of (behind_tables f) ≡ 0
behind_untabled f = (behind_reads f).untabled
