-- The walk over statements by the walks over their parts.
use Rattle.std.proofs.Common.{◌≡◌, ℕ, ◌+◌, ◌≤◌, List, [], ◌∷◌, ◌++◌, drop, refl, sym, ap, ◌∙◌, subst, arith, append_assoc}
use Rattle.std.specs.Prelude.{Option, Some, None, Result, Ok, Err}
use Rattle.std.proofs.lemmas.List.{append-nil}
use Rattle.policy_lang.specs.declared.Statement.{Statement}
use Rattle.policy_lang.specs.declared.nodes.Node.{Node}
use Rattle.policy_lang.specs.declared.nodes.WalkStop.{WalkStop}
use Rattle.policy_lang.specs.declared.nodes.WalkStop.TheVariants as stop
use Rattle.policy_lang.specs.Tree.{Term, Ask, Binds, Holds, Act, Acts, Drop, Flood, Out, Route, Let, Assign, If, IfElse, While, Done, Then}
use Rattle.policy_lang.specs.TreeOf.{act_of, acts_of, if_or_else}
use Rattle.policy_lang.specs.Nodes.{length_of, node, nodes_from, lengths_of, terms_nodes, ask_length, ask_nodes, act_length, act_nodes, acts_length, acts_nodes, limit_of, AreFree, IsStopOf}
use Rattle.policy_lang.specs.NodeWalks.{Begins, Passes, Begun, Walked, other_nodes, other_length, if_nodes, if_length, while_nodes, while_length}
use Rattle.policy_lang.proofs.NodeChains.{begins_less, term_begins, term_later}
use Rattle.policy_lang.proofs.NodeJoins.{Leads, own_stops, first_walked, walked_off, walked_less, walked_to, walked_more, walked_past}
use Rattle.policy_lang.proofs.NodeLoops.{Row, leads_first, terms_lead}

-- ---- where nodes begin

pub ask_begins : (q : Ask) (i d : ℕ) (rest : List Node) → Begins i (ask_nodes q i d ++ rest)
ask_begins (Binds s e x) i d rest = omega arith
ask_begins (Holds e) i d rest = term_begins e i i d rest

-- a statement's first node is its own
act_first : (s : Act) (i d : ℕ) → act_nodes s i d ≡ node i i (i + 1) d ∷ drop 1 (act_nodes s i d)
act_first Drop i d = refl
act_first Flood i d = refl
act_first (Out es) i d = refl
act_first (Route e) i d = refl
act_first (Let x e) i d = refl
act_first (Assign x e) i d = refl
act_first (If q b) i d = refl
act_first (IfElse q b c) i d = refl
act_first (While e b) i d = refl

act_begins : (s : Act) (i d : ℕ) (rest : List Node) → Begins i (act_nodes s i d ++ rest)
act_begins s i d rest = subst (λ xs. Begins i (xs ++ rest)) (sym (act_first s i d)) (omega arith)

pub acts_lead : (b : Acts) (i k d : ℕ) → i + acts_length b ≤ k → Leads i (acts_nodes b i d) k
acts_lead Done i k d h = λ rest q. begins_less i k rest (omega (arith, h)) q
acts_lead (Then s b) i k d h = leads_first i k (act_nodes s i d) (acts_nodes b (i + act_length s) d) (act_begins s i d)

other_leads : (o : Option Acts) (i k d : ℕ) → i + other_length o ≤ k → Leads i (other_nodes o i d) k
other_leads None i k d h rest q = begins_less i k rest (omega (arith, h)) q
other_leads (Some b) i k d h rest q =
    begins_less i (i + 3) (acts_nodes b (i + 3) d ++ rest) (omega arith) (acts_lead b (i + 3) k d (omega (arith, h)) rest q)

leads_two : (i j k m : ℕ) (xs ys : List Node) → Leads i xs m → Leads m ys k → Leads i (xs ++ ys) k
leads_two i j k m xs ys f g rest q = subst (Begins i) (sym (append_assoc xs ys rest)) (f (ys ++ rest) (g rest q))

-- ---- statements

-- an expression begins behind the first token
later : (e : Term) (i j k d : ℕ) → i ≤ j → Leads i (nodes_from j e d) k
later e i j k d h rest q = term_later e i j j d rest h

-- what is behind a statement's first node begins behind its first token
inside_leads : (s : Act) (i d : ℕ) → Leads (i + 1) (drop 1 (act_nodes s i d)) (i + act_length s)
inside_leads Drop i d = λ rest q. begins_less (i + 1) (i + 2) rest (omega arith) q
inside_leads Flood i d = λ rest q. begins_less (i + 1) (i + 2) rest (omega arith) q
inside_leads (Out es) i d = terms_lead es (i + 1) (i + (1 + lengths_of es)) (d + 1) (omega arith)
inside_leads (Route e) i d = later e (i + 1) (i + 1) (i + (2 + length_of e)) (d + 1) (omega arith)
inside_leads (Let x e) i d = later e (i + 1) (i + 3) (i + (4 + length_of e)) (d + 1) (omega arith)
inside_leads (Assign x e) i d = later e (i + 1) (i + 2) (i + (3 + length_of e)) (d + 1) (omega arith)
inside_leads (If q b) i d = leads_first (i + 1) (i + act_length (If q b)) (ask_nodes q (i + 1) (d + 1)) (acts_nodes b (i + 1 + ask_length q + 1) (d + 1)) (ask_begins q (i + 1) (d + 1))
inside_leads (IfElse q b c) i d =
    leads_first (i + 1) (i + act_length (IfElse q b c)) (ask_nodes q (i + 1) (d + 1))
    (acts_nodes b (i + 1 + ask_length q + 1) (d + 1) ++ acts_nodes c (i + 1 + ask_length q + 1 + acts_length b + 3) (d + 1)) (ask_begins q (i + 1) (d + 1))
inside_leads (While e b) i d = leads_first (i + 1) (i + act_length (While e b)) (nodes_from (i + 1) e (d + 1)) (acts_nodes b (i + 1 + length_of e + 1) (d + 1)) (term_begins e (i + 1) (i + 1) (d + 1))

pub begun_stops : (old : List Node) (t : Act) (i d : ℕ) (new : List Node) (s : WalkStop) → Begun old (node i i (i + 1) d) (node i i (i + 1) d ∷ []) (i + 1) new (Err s)
    → Walked old (act_nodes t i d) (i + act_length t) new (Err s)
begun_stops old t i d new s b =
    subst (λ xs. Walked old xs (i + act_length t) new (Err s)) (sym (act_first t i d)) (own_stops old (node i i (i + 1) d) (drop 1 (act_nodes t i d)) (i + 1) (i + act_length t) new s (inside_leads t i d) b)

-- what stands inside is walked over, and so the statement
whole : (old mid new : List Node) (t s : Act) (i d k : ℕ) (r : Result ℕ WalkStop) → s ≡ t → mid ≡ old ++ node i i (i + 1) d ∷ [] → k ≡ i + act_length s → Walked mid (drop 1 (act_nodes s i d)) k new r
    → Walked old (act_nodes t i d) (i + act_length t) new r
whole old mid new t s i d k r h m e w =
    subst (λ t. Walked old (act_nodes t i d) (i + act_length t) new r) h (first_walked old mid new (node i i (i + 1) d) (act_nodes s i d) (drop 1 (act_nodes s i d)) k (i + act_length s) r (act_first s i d) m e w)

pub drop_walked : (old mid : List Node) (t : Act) (i d : ℕ) → Drop ≡ t → mid ≡ old ++ node i i (i + 1) d ∷ [] → AreFree mid → Walked old (act_nodes t i d) (i + act_length t) mid (Ok (i + 2))
drop_walked old mid t i d h m f = whole old mid mid t Drop i d (i + 2) (Ok (i + 2)) h m refl (sym (append-nil mid), refl, f)

pub flood_walked : (old mid : List Node) (t : Act) (i d : ℕ) → Flood ≡ t → mid ≡ old ++ node i i (i + 1) d ∷ [] → AreFree mid → Walked old (act_nodes t i d) (i + act_length t) mid (Ok (i + 2))
flood_walked old mid t i d h m f = whole old mid mid t Flood i d (i + 2) (Ok (i + 2)) h m refl (sym (append-nil mid), refl, f)

pub out_walked : (old mid new : List Node) (t : Act) (es : List Term) (i d : ℕ) (r : Result ℕ WalkStop) → Out es ≡ t → mid ≡ old ++ node i i (i + 1) d ∷ []
    → Walked mid (terms_nodes es (i + 1) (d + 1)) (i + 1 + lengths_of es) new r → Walked old (act_nodes t i d) (i + act_length t) new r
out_walked old mid new t es i d r h m w = whole old mid new t (Out es) i d (i + 1 + lengths_of es) r h m (omega arith) w

pub route_walked : (old mid new : List Node) (t : Act) (e : Term) (i d : ℕ) (r : Result ℕ WalkStop) → Route e ≡ t → mid ≡ old ++ node i i (i + 1) d ∷ []
    → Walked mid (nodes_from (i + 1) e (d + 1)) (i + 1 + length_of e + 1) new r → Walked old (act_nodes t i d) (i + act_length t) new r
route_walked old mid new t e i d r h m w = whole old mid new t (Route e) i d (i + 1 + length_of e + 1) r h m (omega arith) w

pub let_walked : (old mid new : List Node) (t : Act) (x : List ℕ) (e : Term) (i d : ℕ) (r : Result ℕ WalkStop) → Let x e ≡ t → mid ≡ old ++ node i i (i + 1) d ∷ []
    → Walked mid (nodes_from (i + 3) e (d + 1)) (i + 3 + length_of e + 1) new r → Walked old (act_nodes t i d) (i + act_length t) new r
let_walked old mid new t x e i d r h m w = whole old mid new t (Let x e) i d (i + 3 + length_of e + 1) r h m (omega arith) w

pub assign_walked : (old mid new : List Node) (t : Act) (x : List ℕ) (e : Term) (i d : ℕ) (r : Result ℕ WalkStop) → Assign x e ≡ t → mid ≡ old ++ node i i (i + 1) d ∷ []
    → Walked mid (nodes_from (i + 2) e (d + 1)) (i + 2 + length_of e + 1) new r → Walked old (act_nodes t i d) (i + act_length t) new r
assign_walked old mid new t x e i d r h m w = whole old mid new t (Assign x e) i d (i + 2 + length_of e + 1) r h m (omega arith) w

if_inside : (q : Ask) (b : Acts) (o : Option Acts) (i d : ℕ) → if_nodes q b o (i + 1) (d + 1) ≡ drop 1 (act_nodes (if_or_else q b o) i d)
if_inside q b None i d = ap (λ xs. ask_nodes q (i + 1) (d + 1) ++ xs) (append-nil (acts_nodes b (i + 1 + ask_length q + 1) (d + 1)))
if_inside q b (Some c) i d = refl

if_whole : (q : Ask) (b : Acts) (o : Option Acts) (i : ℕ) → i + 1 + if_length q b o ≡ i + act_length (if_or_else q b o)
if_whole q b None i = omega arith
if_whole q b (Some c) i = omega arith

pub if_walked : (old mid new : List Node) (t : Act) (q : Ask) (b : Acts) (o : Option Acts) (i d : ℕ) (r : Result ℕ WalkStop) → if_or_else q b o ≡ t → mid ≡ old ++ node i i (i + 1) d ∷ []
    → Walked mid (if_nodes q b o (i + 1) (d + 1)) (i + 1 + if_length q b o) new r → Walked old (act_nodes t i d) (i + act_length t) new r
if_walked old mid new t q b o i d r h m w =
    whole old mid new t (if_or_else q b o) i d (i + 1 + if_length q b o) r h m (if_whole q b o i) (subst (λ xs. Walked mid xs (i + 1 + if_length q b o) new r) (if_inside q b o i d) w)

pub while_walked : (old mid new : List Node) (t : Act) (e : Term) (b : Acts) (i d : ℕ) (r : Result ℕ WalkStop) → While e b ≡ t → mid ≡ old ++ node i i (i + 1) d ∷ []
    → Walked mid (while_nodes e b (i + 1) (d + 1)) (i + 1 + while_length e b) new r → Walked old (act_nodes t i d) (i + act_length t) new r
while_walked old mid new t e b i d r h m w = whole old mid new t (While e b) i d (i + 1 + while_length e b) r h m (omega arith) w

-- ---- blocks of statements

pub if_head_stops : (old new : List Node) (q : Ask) (b : Acts) (o : Option Acts) (i d : ℕ) (s : WalkStop) → Walked old (ask_nodes q i d) (i + ask_length q) new (Err s)
    → Walked old (if_nodes q b o i d) (i + if_length q b o) new (Err s)
if_head_stops old new q b o i d s w =
    let j : ℕ = i + ask_length q + 1 in
    walked_off old (ask_nodes q i d) (acts_nodes b j d ++ other_nodes o (j + acts_length b) d) new (i + ask_length q) (i + if_length q b o) s
    (λ rest h. begins_less (i + ask_length q) j ((acts_nodes b j d ++ other_nodes o (j + acts_length b) d) ++ rest) (omega arith)
    (leads_two j j (i + if_length q b o) (j + acts_length b) (acts_nodes b j d) (other_nodes o (j + acts_length b) d)
    (acts_lead b j (j + acts_length b) d (omega arith)) (other_leads o (j + acts_length b) (i + if_length q b o) d (omega arith)) rest h)) w

pub if_block_stops : (old mid new : List Node) (q : Ask) (b c : Acts) (o : Option Acts) (i d brace : ℕ) (s : WalkStop) → Walked old (ask_nodes q i d) (i + ask_length q) mid (Ok brace) → c ≡ b
    → Walked mid (acts_nodes c (brace + 1) d) (brace + 1 + acts_length c) new (Err s) → Walked old (if_nodes q b o i d) (i + if_length q b o) new (Err s)
if_block_stops old mid new q b c o i d brace s v e w =
    let f : ℕ → List Node = λ n. acts_nodes c (n + 1) d ++ other_nodes o (n + 1 + acts_length c) d in
    let k : ℕ = brace + 1 + acts_length c in
    subst (λ b. Walked old (if_nodes q b o i d) (i + if_length q b o) new (Err s)) e
    (walked_to old (if_nodes q c o i d) new (i + ask_length q + 1 + acts_length c + other_length o) (i + if_length q c o) (Err s) (omega arith)
    (walked_past old (ask_nodes q i d) mid new f (λ n. n + 1 + acts_length c + other_length o) (i + ask_length q) brace (Err s) v
    (walked_off mid (acts_nodes c (brace + 1) d) (other_nodes o k d) new k (k + other_length o) s (other_leads o k (k + other_length o) d (omega arith)) w)))

pub if_parts : (old mid far new : List Node) (q : Ask) (b c : Acts) (o : Option Acts) (i d brace close : ℕ) (r : Result ℕ WalkStop) → Walked old (ask_nodes q i d) (i + ask_length q) mid (Ok brace) → c ≡ b
    → Walked mid (acts_nodes c (brace + 1) d) (brace + 1 + acts_length c) far (Ok close) → Walked far (other_nodes o close d) (close + other_length o) new r
    → Walked old (if_nodes q b o i d) (i + if_length q b o) new r
if_parts old mid far new q b c o i d brace close r v e w x =
    let f : ℕ → List Node = λ n. acts_nodes c (n + 1) d ++ other_nodes o (n + 1 + acts_length c) d in
    subst (λ b. Walked old (if_nodes q b o i d) (i + if_length q b o) new r) e
    (walked_to old (if_nodes q c o i d) new (i + ask_length q + 1 + acts_length c + other_length o) (i + if_length q c o) r (omega arith)
    (walked_past old (ask_nodes q i d) mid new f (λ n. n + 1 + acts_length c + other_length o) (i + ask_length q) brace r v
    (walked_past mid (acts_nodes c (brace + 1) d) far new (λ n. other_nodes o n d) (λ n. n + other_length o) (brace + 1 + acts_length c) close r w x)))

pub while_head_stops : (old new : List Node) (e : Term) (b : Acts) (i d : ℕ) (s : WalkStop) → Walked old (nodes_from i e d) (i + length_of e + 1) new (Err s) → Walked old (while_nodes e b i d) (i + while_length e b) new (Err s)
while_head_stops old new e b i d s w =
    let j : ℕ = i + length_of e + 1 in
    walked_off old (nodes_from i e d) (acts_nodes b j d) new j (i + while_length e b) s (acts_lead b j (i + while_length e b) d (omega arith)) w

pub while_block_stops : (old mid new : List Node) (e : Term) (b c : Acts) (i d body : ℕ) (s : WalkStop) → Walked old (nodes_from i e d) (i + length_of e + 1) mid (Ok body) → c ≡ b
    → Walked mid (acts_nodes c body d) (body + acts_length c) new (Err s) → Walked old (while_nodes e b i d) (i + while_length e b) new (Err s)
while_block_stops old mid new e b c i d body s v q w =
    subst (λ b. Walked old (while_nodes e b i d) (i + while_length e b) new (Err s)) q
    (walked_less old (while_nodes e c i d) new (i + length_of e + 1 + acts_length c) (i + while_length e c) s (omega arith)
    (walked_past old (nodes_from i e d) mid new (λ n. acts_nodes c n d) (λ n. n + acts_length c) (i + length_of e + 1) body (Err s) v w))

pub while_parts : (old mid new : List Node) (e : Term) (b c : Acts) (i d body close : ℕ) → Walked old (nodes_from i e d) (i + length_of e + 1) mid (Ok body) → c ≡ b
    → Walked mid (acts_nodes c body d) (body + acts_length c) new (Ok close) → Walked old (while_nodes e b i d) (i + while_length e b) new (Ok (close + 1))
while_parts old mid new e b c i d body close v q w =
    subst (λ b. Walked old (while_nodes e b i d) (i + while_length e b) new (Ok (close + 1))) q
    (walked_more old (while_nodes e c i d) new (i + length_of e + 1 + acts_length c) (i + while_length e c) close (omega arith)
    (walked_past old (nodes_from i e d) mid new (λ n. acts_nodes c n d) (λ n. n + acts_length c) (i + length_of e + 1) body (Ok close) v w))

pub other_none : (old : List Node) (i d : ℕ) → AreFree old → Walked old (other_nodes None i d) (i + other_length None) old (Ok (i + 1))
other_none old i d f = (sym (append-nil old), refl, f)

pub other_stops : (old new : List Node) (b c : Acts) (i d : ℕ) (s : WalkStop) → c ≡ b → Walked old (acts_nodes c (i + 3) d) (i + 3 + acts_length c) new (Err s) → Walked old (other_nodes (Some b) i d) (i + other_length (Some b)) new (Err s)
other_stops old new b c i d s q w =
    walked_less old (acts_nodes b (i + 3) d) new (i + 3 + acts_length b) (i + other_length (Some b)) s (omega arith) (subst (λ c. Walked old (acts_nodes c (i + 3) d) (i + 3 + acts_length c) new (Err s)) q w)

pub other_some : (old new : List Node) (b c : Acts) (i d close : ℕ) → c ≡ b → Walked old (acts_nodes c (i + 3) d) (i + 3 + acts_length c) new (Ok close) → Walked old (other_nodes (Some b) i d) (i + other_length (Some b)) new (Ok (close + 1))
other_some old new b c i d close q w =
    walked_more old (acts_nodes b (i + 3) d) new (i + 3 + acts_length b) (i + other_length (Some b)) close (omega arith) (subst (λ c. Walked old (acts_nodes c (i + 3) d) (i + 3 + acts_length c) new (Ok close)) q w)

-- ---- statements in a row

abbrev pub acts : ℕ → Row Statement
acts d = record {
  nodes = λ ss i. acts_nodes (acts_of ss) i d;
  size = λ ss. acts_length (acts_of ss);
  part = λ s i. act_nodes (act_of s) i d;
  after = λ s i. i + act_length (act_of s);
  none = λ i. (refl, refl);
  first = λ s ss i. refl;
  sized = λ s ss i. omega arith;
  behind = λ ss i k h. acts_lead (acts_of ss) i k d h;
}

-- ---- a whole body

pub no_nodes : AreFree []
no_nodes = record { shallow = refl; few = omega arith }

pub body_stops : (b c : Acts) (old new : List Node) (s : WalkStop) → c ≡ b → old ≡ [] → Walked old (acts_nodes c 1 1) (1 + acts_length c) new (Err s) → IsStopOf s (acts_nodes b 1 1)
body_stops b c old new (stop.Limit l) q e w =
    let v = subst (λ old. Passes old (acts_nodes c 1 1) (1 + acts_length c) l) e w in
    subst (λ c. limit_of (acts_nodes c 1 1) ≡ Some l) q (ap limit_of (sym (append-nil (acts_nodes c 1 1))) ∙ v [] tt)
body_stops b c old new stop.NoMemory q e w = tt

pub body_walked : (b c : Acts) (old new : List Node) (n : ℕ) → c ≡ b → old ≡ [] → Walked old (acts_nodes c 1 1) (1 + acts_length c) new (Ok n) → (new ≡ acts_nodes b 1 1) × AreFree new
body_walked b c old new n q e w = (w.0 ∙ ap (λ old. old ++ acts_nodes c 1 1) e ∙ ap (λ c. acts_nodes c 1 1) q, w.2)
