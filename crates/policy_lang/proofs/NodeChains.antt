-- Nodes that begin with one token, and the first limit that they pass.
use Rattle.std.proofs.Common.{◌≡◌, ℕ, zero, suc, length-append, ◌+◌, ◌<◌, ◌≤◌, Bool, true, false, cond, List, [], ◌∷◌, ◌++◌, drop, length, refl, sym, ap, ◌∙◌, subst, arith, append_assoc}
use Rattle.std.specs.Prelude.{◌==◌, ◌&&◌, nat_lt, nat_le, Option, Some, None, Err}
use Rattle.std.proofs.lemmas.List.Folds.{list_all-append}
use Rattle.std.proofs.lemmas.Bool.{lt-ltb, le-ltb, le-leb, leb-true, eq-eqb, eqb-true}
use Rattle.maple_base.specs.declared.operator.Operator.{Operator}
use Rattle.maple_base.specs.Operators.{left_level, right_level}
use Rattle.policy_lang.specs.declared.nodes.Node.{Node}
use Rattle.policy_lang.specs.declared.nodes.Limit.{Limit}
use Rattle.policy_lang.specs.Tree.{Term, Single, Call, Is, Not, Pair}
use Rattle.policy_lang.specs.Nodes.{opens, length_of, part_length, node, term_nodes, nesting, too_many, last_at, last_of, limit_from, limit_of, are_shallow, AreFree}
use Rattle.policy_lang.specs.declared.nodes.WalkStop.{WalkStop}
use Rattle.policy_lang.specs.declared.nodes.WalkStop.TheVariants as stop
use Rattle.maple_base.specs.declared.policy_fault.PolicyFault.TheVariants.{Nesting, Nodes}
use Rattle.policy_lang.specs.NodeWalks.{Begins, Begun, unless_deep, deep_in}
use Rattle.policy_lang.proofs.Both.{both}

pub deep_now : (e : Term) (n d : ℕ) → 32 < d → deep_in e n d ≡ Some n
deep_now (Single a) n d h = ap (λ b. cond b (Some n) None) (lt-ltb 32 d h)
deep_now (Call c l r) n d h = ap (λ b. cond b (Some n) None) (lt-ltb 32 d h)
deep_now (Is f e) n d h = ap (λ b. cond b (Some n) None) (lt-ltb 32 d h)
deep_now (Not e) n d h = ap (λ b. cond b (Some n) None) (lt-ltb 32 d h)
deep_now (Pair o l r) n d h = ap (λ b. cond b (Some n) (cond (opens (left_level o) l == 0) (deep_in l (n + 1) (d + 1)) None)) (lt-ltb 32 d h)

pub begins_less : (i j : ℕ) (xs : List Node) → i ≤ j → Begins j xs → Begins i xs
begins_less i j [] h b = tt
begins_less i j (x ∷ xs) h b = omega (arith, h, b)

-- the nodes of an expression begin where it does
pub term_later : (e : Term) (h w i d : ℕ) (rest : List Node) → h ≤ i → Begins h (term_nodes e w i d ++ rest)
term_later (Single a) h w i d rest le = le
term_later (Call c l r) h w i d rest le = le
term_later (Is f e) h w i d rest le = le
term_later (Not e) h w i d rest le = le
term_later (Pair o l r) h w i d rest le = le

pub term_begins : (e : Term) (w i d : ℕ) (rest : List Node) → Begins i (term_nodes e w i d ++ rest)
term_begins e w i d rest = term_later e i w i d rest (omega arith)

-- the first is its own
pub term_first : (e : Term) (w i d : ℕ) → term_nodes e w i d ≡ node w i i d ∷ drop 1 (term_nodes e w i d)
term_first (Single a) w i d = refl
term_first (Call c l r) w i d = refl
term_first (Is f e) w i d = refl
term_first (Not e) w i d = refl
term_first (Pair o l r) w i d = refl

apart : (a b : ℕ) → b + 1 ≤ a → (a == b) ≡ false
apart a b h = by (a == b) refl
  where
    by : (y : Bool) → (a == b) ≡ y → (a == b) ≡ false
    by true e = absurd (let s : a ≡ b = eqb-true a b e in omega (arith, s))
    by false e = e

-- none of these begins with the token
passed_by : (t n : ℕ) (xs : List Node) → Begins (t + 1) xs → last_at t n xs ≡ too_many
passed_by t n [] h = refl
passed_by t n (x ∷ xs) h = ap (λ b. cond b (cond (nat_lt 32 x.depth) (nesting n) (last_at t (n + 1) xs)) too_many) (apart x.first t h)

abbrev told : Option ℕ → Option Limit
told None = too_many
told (Some n) = nesting n

-- one more that begins with the token
at_token : (t n d w m : ℕ) (xs : List Node) (o : Option ℕ) → last_at t (n + 1) xs ≡ told o → last_at t n (node w t m d ∷ xs) ≡ told (unless_deep d n o)
at_token t n d w m xs o h =
    ap (λ b. cond b (cond (nat_lt 32 d) (nesting n) (last_at t (n + 1) xs)) too_many) (eq-eqb t t refl) ∙ by (nat_lt 32 d)
  where
    by : (b : Bool) → cond b (nesting n) (last_at t (n + 1) xs) ≡ told (cond b (Some n) o)
    by true = refl
    by false = h

no_more : (t n d w m : ℕ) (xs : List Node) → Begins (t + 1) xs → last_at t n (node w t m d ∷ xs) ≡ told (unless_deep d n None)
no_more t n d w m xs h = at_token t n d w m xs None (passed_by t (n + 1) xs h)

one : (k : ℕ) → (k == 0) ≡ false → 1 ≤ k
one zero h = absurd (cc)
one (suc k) h = omega arith

-- the nodes of a left part, which begin with the token or behind it
left_told : (o : Operator) (l : Term) (i d n : ℕ) (xs : List Node) (b : Bool) → (opens (left_level o) l == 0) ≡ b → last_at i (n + 1) (term_nodes l i i (d + 1) ++ xs) ≡ told (deep_in l (n + 1) (d + 1))
    → last_at i (n + 1) (term_nodes l i (i + opens (left_level o) l) (d + 1) ++ xs) ≡ told (cond b (deep_in l (n + 1) (d + 1)) None)
left_told o l i d n xs true e h =
    let none : opens (left_level o) l ≡ 0 = eqb-true (opens (left_level o) l) 0 e in
    let same : i + opens (left_level o) l ≡ i = omega (arith, none) in
    ap (λ k. last_at i (n + 1) (term_nodes l i k (d + 1) ++ xs)) same ∙ h
left_told o l i d n xs false e h =
    let some : 1 ≤ opens (left_level o) l = one (opens (left_level o) l) e in
    passed_by i (n + 1) (term_nodes l i (i + opens (left_level o) l) (d + 1) ++ xs) (term_later l (i + 1) i (i + opens (left_level o) l) (d + 1) xs (omega (arith, some)))

-- the nodes of an expression that begin with its first token
pub chain_told : (e : Term) (w i d n : ℕ) (rest : List Node) → Begins (i + length_of e) rest → last_at i n (term_nodes e w i d ++ rest) ≡ told (deep_in e n d)
chain_told (Single a) w i d n rest h = no_more i n d w i rest h
chain_told (Call c l r) w i d n rest h =
    let rights : List Node = term_nodes r (i + 2 + length_of l + 1) (i + 2 + length_of l + 1) (d + 1) in
    no_more i n d w i ((term_nodes l (i + 2) (i + 2) (d + 1) ++ rights) ++ rest)
    (subst (Begins (i + 1)) (sym (append_assoc (term_nodes l (i + 2) (i + 2) (d + 1)) rights rest)) (term_later l (i + 1) (i + 2) (i + 2) (d + 1) (rights ++ rest) (omega arith)))
chain_told (Is f e) w i d n rest h =
    no_more i n d w i (term_nodes e (i + 2) (i + 2 + opens 4 e) (d + 1) ++ rest) (term_later e (i + 1) (i + 2) (i + 2 + opens 4 e) (d + 1) rest (omega arith))
chain_told (Not e) w i d n rest h =
    no_more i n d w i (term_nodes e (i + 1) (i + 1 + opens 2 e) (d + 1) ++ rest) (term_later e (i + 1) (i + 1) (i + 1 + opens 2 e) (d + 1) rest (omega arith))
chain_told (Pair o l r) w i d n rest h =
    let j : ℕ = i + part_length (left_level o) l + 1 in
    let k : ℕ = opens (left_level o) l in
    let rights : List Node = term_nodes r j (j + opens (right_level o) r) (d + 1) in
    let begin : Begins (i + length_of l) (rights ++ rest) = term_later r (i + length_of l) j (j + opens (right_level o) r) (d + 1) rest (omega arith) in
    ap (λ xs. last_at i n (node w i i d ∷ xs)) (append_assoc (term_nodes l i (i + k) (d + 1)) rights rest)
    ∙ at_token i n d w i (term_nodes l i (i + k) (d + 1) ++ (rights ++ rest)) (cond (k == 0) (deep_in l (n + 1) (d + 1)) None)
    (left_told o l i d n (rights ++ rest) (k == 0) refl (chain_told l i i (d + 1) (n + 1) (rights ++ rest) begin))

-- ---- behind nodes that pass no limit

free_from : (xs ys : List Node) (n : ℕ) → are_shallow xs ≡ true → n + length xs ≤ 4097 → limit_from n (xs ++ ys) ≡ limit_from (n + length xs) ys
free_from [] ys n s h = ap (λ m. limit_from m ys) (omega arith)
free_from (x ∷ xs) ys n s h =
    let p = both (nat_le x.depth 32) (are_shallow xs) s in
    ap (λ b. cond b (last_of n (x ∷ (xs ++ ys))) (cond (nat_lt 32 x.depth) (nesting n) (limit_from (n + 1) (xs ++ ys)))) (other (n == 4097) refl)
    ∙ ap (λ b. cond b (nesting n) (limit_from (n + 1) (xs ++ ys))) (le-ltb 32 x.depth (leb-true x.depth 32 p.0))
    ∙ free_from xs ys (n + 1) p.1 (omega (arith, h))
    ∙ ap (λ m. limit_from m ys) (omega arith)
  where
    other : (b : Bool) → (n == 4097) ≡ b → (n == 4097) ≡ false
    other true e = absurd (let s : n ≡ 4097 = eqb-true n 4097 e in omega (arith, s, h))
    other false e = e

pub free_behind : (old xs : List Node) → AreFree old → limit_of (old ++ xs) ≡ limit_from (1 + length old) xs
free_behind old xs f = free_from old xs 1 f.shallow (omega (arith, f.few))

-- a node is added that passes no limit
pub free_more : (old : List Node) (x : Node) → AreFree old → x.depth ≤ 32 → length old < 4096 → AreFree (old ++ x ∷ [])
free_more old x f h few = record {
  shallow = list_all-append (λ x. nat_le x.depth 32) old (x ∷ []) ∙ ap (λ b. b && (nat_le x.depth 32 && true)) f.shallow ∙ ap (λ b. b && true) (le-leb x.depth 32 h);
  few = omega (arith, length-append old (x ∷ []), few);
}

-- a node that is too deep
deep_first : (old : List Node) (x : Node) (xs : List Node) → AreFree old → 32 < x.depth → limit_of (old ++ x ∷ xs) ≡ nesting (length old + 1)
deep_first old x xs f h = free_behind old (x ∷ xs) f ∙ ap (λ m. limit_from m (x ∷ xs)) (omega arith) ∙ by (length old + 1 == 4097) (length old + 1)
  where
    by : (b : Bool) (n : ℕ) → cond b (last_of n (x ∷ xs)) (cond (nat_lt 32 x.depth) (nesting n) (limit_from (n + 1) xs)) ≡ nesting n
    by true n = ap (λ b. cond b (cond (nat_lt 32 x.depth) (nesting n) (last_at x.first (n + 1) xs)) too_many) (eq-eqb x.first x.first refl) ∙ ap (λ b. cond b (nesting n) (last_at x.first (n + 1) xs)) (lt-ltb 32 x.depth h)
    by false n = ap (λ b. cond b (nesting n) (limit_from (n + 1) xs)) (lt-ltb 32 x.depth h)

-- the 4,097th node
last_first : (old : List Node) (x : Node) (xs : List Node) → AreFree old → 4096 < length old + 1 → limit_of (old ++ x ∷ xs) ≡ last_at x.first 4097 (x ∷ xs)
last_first old x xs f h = let at : 1 + length old ≡ 4097 = (let z = f.few in omega (arith, z)) in free_behind old (x ∷ xs) f ∙ ap (λ m. limit_from m (x ∷ xs)) at

-- ---- where a walk begins a node

abbrev nesting_at : ℕ → WalkStop
nesting_at n = stop.Limit (record { kind = Nesting; node = n })

abbrev full : WalkStop
full = stop.Limit (record { kind = Nodes; node = 4097 })

pub deep_begun : (old : List Node) (e : Term) (w i d after : ℕ) (new : List Node) (s : WalkStop) → AreFree old → 32 < d → s ≡ nesting_at (length old + 1)
    → Begun old (node w i i d) (term_nodes e w i d) after new (Err s)
deep_begun old e w i d after new s f h q =
    subst (λ s. Begun old (node w i i d) (term_nodes e w i d) after new (Err s)) (sym q)
    (λ rest b. ap (λ xs. limit_of (old ++ (xs ++ rest))) (term_first e w i d) ∙ deep_first old (node w i i d) (drop 1 (term_nodes e w i d) ++ rest) f h)

-- at the 4,097th node the nodes of the expression that begin with its first token decide
own_last : (old : List Node) (e : Term) (w i d : ℕ) (o : Option ℕ) → AreFree old → 4096 < length old + 1 → deep_in e (length old + 1) d ≡ o
    → (rest : List Node) → Begins (i + length_of e) rest → limit_of (old ++ (term_nodes e w i d ++ rest)) ≡ told o
own_last old e w i d o f h k rest b =
    let at : 4097 ≡ length old + 1 = (let z = f.few in omega (arith, z)) in
    ap (λ xs. limit_of (old ++ (xs ++ rest))) (term_first e w i d) ∙ last_first old (node w i i d) (drop 1 (term_nodes e w i d) ++ rest) f h
    ∙ ap (λ xs. last_at i 4097 (xs ++ rest)) (sym (term_first e w i d)) ∙ chain_told e w i d 4097 rest b
    ∙ ap (λ n. told (deep_in e n d)) at ∙ ap told k

pub some_begun : (old : List Node) (e : Term) (w i d : ℕ) (new : List Node) (s : WalkStop) (m : ℕ) → AreFree old → 4096 < length old + 1 → deep_in e (length old + 1) d ≡ Some m → s ≡ nesting_at m
    → Begun old (node w i i d) (term_nodes e w i d) (i + length_of e) new (Err s)
some_begun old e w i d new s m f h k q = subst (λ s. Begun old (node w i i d) (term_nodes e w i d) (i + length_of e) new (Err s)) (sym q) (own_last old e w i d (Some m) f h k)

pub none_begun : (old : List Node) (e : Term) (w i d : ℕ) (new : List Node) (s : WalkStop) → AreFree old → 4096 < length old + 1 → deep_in e (length old + 1) d ≡ None → s ≡ full
    → Begun old (node w i i d) (term_nodes e w i d) (i + length_of e) new (Err s)
none_begun old e w i d new s f h k q = subst (λ s. Begun old (node w i i d) (term_nodes e w i d) (i + length_of e) new (Err s)) (sym q) (own_last old e w i d None f h k)

pub added_begun : (old : List Node) (x : Node) (new : List Node) → AreFree old → x.depth ≤ 32 → length old + 1 ≤ 4096 → new ≡ old ++ x ∷ [] → (new ≡ old ++ x ∷ []) × AreFree new
added_begun old x new f h few q = (q, subst AreFree (sym q) (free_more old x f h (omega arith)))

-- ---- a node whose first token is its own

pub deep_alone : (old : List Node) (x : Node) (after : ℕ) (new : List Node) (s : WalkStop) → AreFree old → 32 < x.depth → s ≡ nesting_at (length old + 1) → Begun old x (x ∷ []) after new (Err s)
deep_alone old x after new s f h q = subst (λ s. Begun old x (x ∷ []) after new (Err s)) (sym q) (λ rest b. deep_first old x rest f h)

pub last_begun : (old : List Node) (w i n d : ℕ) (new : List Node) (s : WalkStop) → AreFree old → 4096 < length old + 1 → d ≤ 32 → s ≡ full → Begun old (node w i n d) (node w i n d ∷ []) (i + 1) new (Err s)
last_begun old w i n d new s f h k q =
    subst (λ s. Begun old (node w i n d) (node w i n d ∷ []) (i + 1) new (Err s)) (sym q)
    (λ rest b. last_first old (node w i n d) rest f h ∙ no_more i 4097 d w n rest b ∙ ap (λ b. told (cond b (Some 4097) None)) (le-ltb 32 d k))
