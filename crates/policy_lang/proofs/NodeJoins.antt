-- How the walks over parts make one over the whole.
use Rattle.std.proofs.Common.{◌≡◌, ℕ, ◌+◌, ◌*◌, ◌≤◌, List, [], ◌∷◌, ◌++◌, drop, length, refl, sym, ap, ◌∙◌, subst, arith, append_assoc}
use Rattle.std.specs.Prelude.{Result, Ok, Err}
use Rattle.maple_base.specs.declared.operator.Operator.{Operator}
use Rattle.maple_base.specs.declared.key.Field.{Field}
use Rattle.maple_base.specs.Operators.{left_level, right_level}
use Rattle.policy_lang.specs.declared.nodes.Node.{Node}
use Rattle.policy_lang.specs.declared.nodes.Limit.{Limit}
use Rattle.policy_lang.specs.declared.nodes.WalkStop.{WalkStop}
use Rattle.policy_lang.specs.declared.nodes.WalkStop.TheVariants as stop
use Rattle.policy_lang.specs.Tree.{Atom, Callee, Term, Single, Call, Is, Not, Pair}
use Rattle.policy_lang.specs.Nodes.{opens, length_of, part_length, node, term_nodes, nodes_from, limit_of, AreFree}
use Rattle.policy_lang.specs.NodeWalks.{Begins, Passes, Begun, Walked, Spares, part_nodes, call_nodes, call_length, pair_nodes, pair_length}
use Rattle.policy_lang.proofs.NodeChains.{begins_less, term_later, term_first}

-- what stands behind nodes that begin with a token begins there at least
abbrev pub Leads : ℕ → List Node → ℕ → Type 0
Leads i ys k = (rest : List Node) → Begins k rest → Begins i (ys ++ rest)

pub ends_later : (old xs : List Node) (i j : ℕ) (l : Limit) → i ≤ j → Passes old xs i l → Passes old xs j l
ends_later old xs i j l h p rest b = p rest (begins_less i j rest h b)

pub first_stops : (old xs ys : List Node) (i k : ℕ) (l : Limit) → Leads i ys k → Passes old xs i l → Passes old (xs ++ ys) k l
first_stops old xs ys i k l h p rest b = ap (λ zs. limit_of (old ++ zs)) (append_assoc xs ys rest) ∙ p (ys ++ rest) (h rest b)

pub second_stops : (old xs ys mid : List Node) (k : ℕ) (l : Limit) → mid ≡ old ++ xs → Passes mid ys k l → Passes old (xs ++ ys) k l
second_stops old xs ys mid k l h p rest b =
    ap (λ zs. limit_of (old ++ zs)) (append_assoc xs ys rest) ∙ sym (ap limit_of (append_assoc old xs (ys ++ rest))) ∙ ap (λ zs. limit_of (zs ++ (ys ++ rest))) (sym h) ∙ p rest b

-- of two walks the second
pub walked_on : (old xs ys mid new : List Node) (k : ℕ) (r : Result ℕ WalkStop) → mid ≡ old ++ xs → Walked mid ys k new r → Walked old (xs ++ ys) k new r
walked_on old xs ys mid new k (Ok n) h w = (w.0 ∙ ap (λ zs. zs ++ ys) h ∙ append_assoc old xs ys, w.1, w.2)
walked_on old xs ys mid new k (Err (stop.Limit l)) h w = second_stops old xs ys mid k l h w
walked_on old xs ys mid new k (Err stop.NoMemory) h w = tt

-- of two walks the first, where it stops
pub walked_off : (old xs ys new : List Node) (i k : ℕ) (s : WalkStop) → Leads i ys k → Walked old xs i new (Err s) → Walked old (xs ++ ys) k new (Err s)
walked_off old xs ys new i k (stop.Limit l) h w = first_stops old xs ys i k l h w
walked_off old xs ys new i k stop.NoMemory h w = tt

-- the same up to a token behind
pub walked_less : (old xs new : List Node) (i k : ℕ) (s : WalkStop) → i ≤ k → Walked old xs i new (Err s) → Walked old xs k new (Err s)
walked_less old xs new i k (stop.Limit l) h w = ends_later old xs i k l h w
walked_less old xs new i k stop.NoMemory h w = tt

pub walked_to : (old xs new : List Node) (i k : ℕ) (r : Result ℕ WalkStop) → i ≡ k → Walked old xs i new r → Walked old xs k new r
walked_to old xs new i k r h w = subst (λ j. Walked old xs j new r) h w

-- one token more
pub walked_more : (old xs new : List Node) (i k n : ℕ) → k ≡ i + 1 → Walked old xs i new (Ok n) → Walked old xs k new (Ok (n + 1))
walked_more old xs new i k n h w = (w.0, ap (λ n. n + 1) w.1 ∙ sym h, w.2)

-- of two walks the second, which begins where the first ended
pub walked_past : (old xs mid new : List Node) (f : ℕ → List Node) (g : ℕ → ℕ) (j n : ℕ) (r : Result ℕ WalkStop) → Walked old xs j mid (Ok n) → Walked mid (f n) (g n) new r → Walked old (xs ++ f j) (g j) new r
walked_past old xs mid new f g j n r v w = walked_on old xs (f j) mid new (g j) r v.0 (subst (λ n. Walked mid (f n) (g n) new r) v.1 w)

-- behind its own node a thing is walked over
pub first_walked : (old mid new : List Node) (x : Node) (nodes xs : List Node) (k after : ℕ) (r : Result ℕ WalkStop) → nodes ≡ x ∷ xs → mid ≡ old ++ x ∷ [] → k ≡ after → Walked mid xs k new r → Walked old nodes after new r
first_walked old mid new x nodes xs k after r q m e w = subst (λ zs. Walked old zs after new r) (sym q) (walked_to old (x ∷ xs) new k after r e (walked_on old (x ∷ []) xs mid new k r m w))

-- or it stops there
pub own_stops : (old : List Node) (x : Node) (xs : List Node) (i k : ℕ) (new : List Node) (s : WalkStop) → Leads i xs k → Begun old x (x ∷ []) i new (Err s) → Walked old (x ∷ xs) k new (Err s)
own_stops old x xs i k new (stop.Limit l) h b = first_stops old (x ∷ []) xs i k l h b
own_stops old x xs i k new stop.NoMemory h b = tt

-- ---- expressions

pub begun_stops : (old : List Node) (x : Node) (e : Term) (w i d after : ℕ) (new : List Node) (s : WalkStop) → Begun old x (term_nodes e w i d) after new (Err s) → Walked old (term_nodes e w i d) after new (Err s)
begun_stops old x e w i d after new (stop.Limit l) b = b
begun_stops old x e w i d after new stop.NoMemory b = tt

whole : (old mid new : List Node) (t s : Term) (w i d k : ℕ) (res : Result ℕ WalkStop) → s ≡ t → mid ≡ old ++ node w i i d ∷ [] → k ≡ i + length_of s → Walked mid (drop 1 (term_nodes s w i d)) k new res
    → Walked old (term_nodes t w i d) (i + length_of t) new res
whole old mid new t s w i d k res h m e v =
    subst (λ t. Walked old (term_nodes t w i d) (i + length_of t) new res) h (first_walked old mid new (node w i i d) (term_nodes s w i d) (drop 1 (term_nodes s w i d)) k (i + length_of s) res (term_first s w i d) m e v)

pub single_walked : (old mid : List Node) (t : Term) (a : Atom) (w i d : ℕ) → Single a ≡ t → mid ≡ old ++ node w i i d ∷ [] → AreFree mid
    → Walked old (term_nodes t w i d) (i + length_of t) mid (Ok (i + 1))
single_walked old mid t a w i d h m f = subst (λ t. Walked old (term_nodes t w i d) (i + length_of t) mid (Ok (i + 1))) h (m, refl, f)

pub call_walked : (old mid new : List Node) (t : Term) (c : Callee) (l r : Term) (w i d : ℕ) (res : Result ℕ WalkStop) → Call c l r ≡ t → mid ≡ old ++ node w i i d ∷ []
    → Walked mid (call_nodes l r (i + 2) (d + 1)) (i + 2 + call_length l r) new res → Walked old (term_nodes t w i d) (i + length_of t) new res
call_walked old mid new t c l r w i d res h m k = whole old mid new t (Call c l r) w i d (i + 2 + call_length l r) res h m (omega arith) k

pub is_walked : (old mid new : List Node) (t : Term) (f : Field) (e : Term) (w i d : ℕ) (res : Result ℕ WalkStop) → Is f e ≡ t → mid ≡ old ++ node w i i d ∷ []
    → Walked mid (part_nodes 4 e (i + 2) (d + 1)) (i + 2 + part_length 4 e) new res → Walked old (term_nodes t w i d) (i + length_of t) new res
is_walked old mid new t f e w i d res h m k = whole old mid new t (Is f e) w i d (i + 2 + part_length 4 e) res h m (omega arith) k

pub not_walked : (old mid new : List Node) (t : Term) (e : Term) (w i d : ℕ) (res : Result ℕ WalkStop) → Not e ≡ t → mid ≡ old ++ node w i i d ∷ []
    → Walked mid (part_nodes 2 e (i + 1) (d + 1)) (i + 1 + part_length 2 e) new res → Walked old (term_nodes t w i d) (i + length_of t) new res
not_walked old mid new t e w i d res h m k = whole old mid new t (Not e) w i d (i + 1 + part_length 2 e) res h m (omega arith) k

pub pair_walked : (old mid new : List Node) (t : Term) (o : Operator) (l r : Term) (w i d : ℕ) (res : Result ℕ WalkStop) → Pair o l r ≡ t → mid ≡ old ++ node w i i d ∷ []
    → Walked mid (pair_nodes o l r i (d + 1)) (i + pair_length o l r) new res → Walked old (term_nodes t w i d) (i + length_of t) new res
pair_walked old mid new t o l r w i d res h m k = whole old mid new t (Pair o l r) w i d (i + pair_length o l r) res h m refl k

pub part_stops : (old new : List Node) (least : ℕ) (e : Term) (i k d : ℕ) (s : WalkStop) → k ≡ opens least e → Walked old (term_nodes e i (i + k) d) (i + k + length_of e) new (Err s)
    → Walked old (part_nodes least e i d) (i + part_length least e) new (Err s)
part_stops old new least e i k d s h w =
    walked_less old (part_nodes least e i d) new (i + opens least e + length_of e) (i + part_length least e) s (omega arith)
    (subst (λ k. Walked old (term_nodes e i (i + k) d) (i + k + length_of e) new (Err s)) h w)

pub part_walked : (old new : List Node) (least : ℕ) (e : Term) (i k d next : ℕ) → k ≡ opens least e → Walked old (term_nodes e i (i + k) d) (i + k + length_of e) new (Ok next)
    → Walked old (part_nodes least e i d) (i + part_length least e) new (Ok (next + k))
part_walked old new least e i k d next h w =
    (w.0 ∙ ap (λ k. old ++ term_nodes e i (i + k) d) h, (let q = w.1 in omega (arith, q, h)), w.2)

pub call_left_stops : (old new : List Node) (l r : Term) (i d : ℕ) (s : WalkStop) → Walked old (term_nodes l i i d) (i + length_of l) new (Err s)
    → Walked old (call_nodes l r i d) (i + call_length l r) new (Err s)
call_left_stops old new l r i d s w =
    walked_off old (nodes_from i l d) (nodes_from (i + length_of l + 1) r d) new (i + length_of l) (i + call_length l r) s
    (λ rest b. term_later r (i + length_of l) (i + length_of l + 1) (i + length_of l + 1) d rest (omega arith)) w

pub call_right_stops : (old mid new : List Node) (l r : Term) (i d comma : ℕ) (s : WalkStop) → Walked old (term_nodes l i i d) (i + length_of l) mid (Ok comma)
    → Walked mid (term_nodes r (comma + 1) (comma + 1) d) (comma + 1 + length_of r) new (Err s) → Walked old (call_nodes l r i d) (i + call_length l r) new (Err s)
call_right_stops old mid new l r i d comma s v w =
    walked_less old (call_nodes l r i d) new (i + length_of l + 1 + length_of r) (i + call_length l r) s (omega arith)
    (walked_past old (nodes_from i l d) mid new (λ c. nodes_from (c + 1) r d) (λ c. c + 1 + length_of r) (i + length_of l) comma (Err s) v w)

pub call_parts : (old mid new : List Node) (l r : Term) (i d comma next : ℕ) → Walked old (term_nodes l i i d) (i + length_of l) mid (Ok comma)
    → Walked mid (term_nodes r (comma + 1) (comma + 1) d) (comma + 1 + length_of r) new (Ok next) → Walked old (call_nodes l r i d) (i + call_length l r) new (Ok (next + 1))
call_parts old mid new l r i d comma next v w =
    walked_more old (call_nodes l r i d) new (i + length_of l + 1 + length_of r) (i + call_length l r) next (omega arith)
    (walked_past old (nodes_from i l d) mid new (λ c. nodes_from (c + 1) r d) (λ c. c + 1 + length_of r) (i + length_of l) comma (Ok next) v w)

pub pair_left_stops : (old new : List Node) (o : Operator) (l r : Term) (i d : ℕ) (s : WalkStop) → Walked old (part_nodes (left_level o) l i d) (i + part_length (left_level o) l) new (Err s)
    → Walked old (pair_nodes o l r i d) (i + pair_length o l r) new (Err s)
pair_left_stops old new o l r i d s w =
    let j : ℕ = i + part_length (left_level o) l + 1 in
    walked_off old (part_nodes (left_level o) l i d) (part_nodes (right_level o) r j d) new (i + part_length (left_level o) l) (i + pair_length o l r) s
    (λ rest b. term_later r (i + part_length (left_level o) l) j (j + opens (right_level o) r) d rest (omega arith)) w

pub pair_right_walked : (old mid new : List Node) (o : Operator) (l r : Term) (i d sign : ℕ) (res : Result ℕ WalkStop) → Walked old (part_nodes (left_level o) l i d) (i + part_length (left_level o) l) mid (Ok sign)
    → Walked mid (part_nodes (right_level o) r (sign + 1) d) (sign + 1 + part_length (right_level o) r) new res → Walked old (pair_nodes o l r i d) (i + pair_length o l r) new res
pair_right_walked old mid new o l r i d sign res v w =
    walked_to old (pair_nodes o l r i d) new (i + part_length (left_level o) l + 1 + part_length (right_level o) r) (i + pair_length o l r) res (omega arith)
    (walked_past old (part_nodes (left_level o) l i d) mid new (λ c. part_nodes (right_level o) r (c + 1) d) (λ c. c + 1 + part_length (right_level o) r) (i + part_length (left_level o) l) sign res v w)

pub ended_stops : (old new : List Node) (e : Term) (i d : ℕ) (s : WalkStop) → Walked old (term_nodes e i i d) (i + length_of e) new (Err s) → Walked old (nodes_from i e d) (i + length_of e + 1) new (Err s)
ended_stops old new e i d s w = walked_less old (nodes_from i e d) new (i + length_of e) (i + length_of e + 1) s (omega arith) w

pub ended_walked : (old new : List Node) (e : Term) (i d next : ℕ) → Walked old (term_nodes e i i d) (i + length_of e) new (Ok next) → Walked old (nodes_from i e d) (i + length_of e + 1) new (Ok (next + 1))
ended_walked old new e i d next w = (w.0, ap (λ n. n + 1) w.1, w.2)

-- the tokens that are spared behind a part are spared by the whole
pub spares_from : (a b i j : ℕ) (old mid new : List Node) (r : Result ℕ WalkStop) → i + b + 8 * length old ≤ j + a + 8 * length mid → Spares a i mid new r → Spares b j old new r
spares_from a b i j old mid new (Ok n) h s = omega (arith, h, s)
spares_from a b i j old mid new (Err e) h s = tt
