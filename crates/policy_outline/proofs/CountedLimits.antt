-- Which limits are passed, and which first: a file passes the limits that its counts pass; nodes and limits are found token by token.
use Rattle.std.proofs.Common.{◌≡◌, ℕ, suc, zero, ◌+◌, ◌<◌, ◌≤◌, cond, Bool, true, false, List, [], ◌∷◌, length, Option, Some, None, refl, sym, ap, subst, ◌∙◌, arith, ◌-◌, ◌*◌, ⊎_elim, inl, inr, ◌&&◌, ◌||◌, eqb, ltb, leb, ◌++◌, drop, length-drop, get_or, append_assoc, append-nil}
use Rattle.std.specs.Prelude.{◌==◌, nat_lt, ◌&&◌}
use Rattle.std.proofs.lemmas.Bool.{false≢true, ltb-false, le-ltb, le-leb, leb-true, eqb-true, eq-eqb, ne_eqb, and_right, and_from, cond_both, cases_lt, false_from_ne_true, both_ways}
use Rattle.std.proofs.lemmas.Bool.Decides.{nat_tests, Decides-at, Decides-and, Decides-or, Decides-eqb, Decides-ltb, Decides-like}
use Rattle.maple_base.specs.PolicyLimits.{most_tables, most_nodes, deepest, most_parentheses}
use Rattle.maple_base.specs.PolicyFaults.{number_of}
use Rattle.maple_base.specs.declared.policy_fault.PolicyFault.{PolicyFault}
use Rattle.maple_base.specs.declared.policy_fault.PolicyFault.TheVariants.{Nesting, Nodes, TooLong}
use Rattle.policy_outline.specs.Counts.{Count, tables_counts, file_counts}
use Rattle.policy_outline.specs.Scanning.{passes, passes_in, limit_at, Passed, passed_or, first_passed, nodes_at, whole_behind, scanned, parenthesis_at, parenthesized}
use Rattle.policy_outline.proofs.Growing.{Ends, Onto}
use Rattle.std.specs.Bool.{Decides}
use Rattle.std.specs.List.{list_any, list_all, Any}
use Rattle.std.proofs.lemmas.List.Folds.{list_all_at, Any-from_list_any, list_any-from_Any}
use Rattle.policy_lang.specs.declared.nodes.Node.{Node}
use Rattle.policy_grammar.specs.Grammar.{File}
use Rattle.policy_outline.specs.FileNodes.{file_nodes, Parenthesis, file_parentheses}
use Rattle.policy_outline.specs.Limits.{PassesAt, IsFree, FreePassesNone}
use Rattle.policy_outline.proofs.CountedNodes.{tables_of, behind_tables, file_scanned, file_parenthesized, behind_untabled}
use Rattle.std.proofs.lemmas.List.{drop_more, drop_all}
use Rattle.policy_lang.specs.Nodes.{node}
use Rattle.policy_outline.specs.Bounds.{begun_in, ended_in}

-- ---- at one token

-- the kinds of limits
abbrev pub is_limit : PolicyFault → Bool
is_limit Nesting = true
is_limit Nodes = true
is_limit TooLong = true
is_limit kind = false

-- of lesser number than this none is passed
below : (m b e : ℕ) (c : Count) → (number_of Nesting < m → passes Nesting b e c ≡ false) → (number_of Nodes < m → passes Nodes b e c ≡ false)
    → (number_of TooLong < m → passes TooLong b e c ≡ false) → (other : PolicyFault) → number_of other < m → passes other b e c ≡ false
below m b e c f g h Nesting lt = f lt
below m b e c f g h Nodes lt = g lt
below m b e c f g h TooLong lt = h lt
below m b e c f g h other lt = refl

-- the limit of least number that is passed
abbrev Tells : ℕ → ℕ → Count → Option PolicyFault → Type 0
Tells b e c None = (other : PolicyFault) → passes other b e c ≡ false
Tells b e c (Some kind) = (is_limit kind ≡ true) × (passes kind b e c ≡ true) × ((other : PolicyFault) → number_of other < number_of kind → passes other b e c ≡ false)

told : (b e : ℕ) (c : Count) (u v w : Bool) → passes Nesting b e c ≡ u → passes Nodes b e c ≡ v → passes TooLong b e c ≡ w
    → Tells b e c (cond u (Some Nesting) (cond v (Some Nodes) (cond w (Some TooLong) None)))
told b e c true v w f g h = (refl, f, below (number_of Nesting) b e c (λ lt. absurd (omega (arith, lt))) (λ lt. absurd (omega (arith, lt))) (λ lt. absurd (omega (arith, lt))))
told b e c false true w f g h = (refl, g, below (number_of Nodes) b e c (λ lt. f) (λ lt. absurd (omega (arith, lt))) (λ lt. absurd (omega (arith, lt))))
told b e c false false true f g h = (refl, h, below (number_of TooLong) b e c (λ lt. f) (λ lt. g) (λ lt. absurd (omega (arith, lt))))
told b e c false false false f g h = λ other. below (suc (number_of other)) b e c (λ lt. f) (λ lt. g) (λ lt. h) other (omega arith)

tells : (b e : ℕ) (c : Count) → Tells b e c (limit_at b e c)
tells b e c = told b e c (passes Nesting b e c) (passes Nodes b e c) (passes TooLong b e c) refl refl refl

pub none_at : (b e : ℕ) (c : Count) → limit_at b e c ≡ None → (other : PolicyFault) → passes other b e c ≡ false
none_at b e c h = subst (Tells b e c) h (tells b e c)

-- ---- where a limit is passed first

-- at the kth of these tokens, behind so many nodes that began and that ended
pub record First (cs : List Count) (b e k : ℕ) (kind : PolicyFault) : Type 0 where
  pub within : k < length cs
  pub limit : is_limit kind ≡ true
  pub passes : passes_in kind k b e cs ≡ true
  pub least : (other : PolicyFault) → number_of other < number_of kind → passes_in other k b e cs ≡ false
  pub first : (j : ℕ) (other : PolicyFault) → j < k → passes_in other j b e cs ≡ false

-- the first of these tokens has number i
record FirstFrom (cs : List Count) (i b e j : ℕ) (kind : PolicyFault) : Type 0 where
  k : ℕ
  at_it : j ≡ i + k
  found : First cs b e k kind

abbrev TellsFirst : List Count → ℕ → ℕ → ℕ → Passed → Type 0
TellsFirst cs i b e None = (j : ℕ) (other : PolicyFault) → passes_in other j b e cs ≡ false
TellsFirst cs i b e (Some p) = FirstFrom cs i b e p.0 p.1

-- none is passed here, nor ahead of it
first_ahead : (c : Count) (cs : List Count) (b e k : ℕ) → Tells b e c None → ((j : ℕ) (other : PolicyFault) → j < k → passes_in other j (b + c.begun) (e + c.ended) cs ≡ false)
    → (j : ℕ) (other : PolicyFault) → j < suc k → passes_in other j b e (c ∷ cs) ≡ false
first_ahead c cs b e k h f zero other lt = h other
first_ahead c cs b e k h f (suc j) other lt = f j other (omega (arith, lt))

first_told : (c : Count) (cs : List Count) (i b e : ℕ) (o : Option PolicyFault) (rest : Passed) → Tells b e c o → TellsFirst cs (suc i) (b + c.begun) (e + c.ended) rest
    → TellsFirst (c ∷ cs) i b e (passed_or i o rest)
first_told c cs i b e (Some kind) rest h f =
    record { k = 0; at_it = omega arith; found = record { within = omega arith; limit = h.0; passes = h.1; least = h.2; first = λ j other lt. absurd (omega (arith, lt)) } }
first_told c cs i b e None None h f = λ j other. first_ahead c cs b e j h (λ m o lt. f m o) j other (omega arith)
first_told c cs i b e None (Some p) h f =
    let g = f.found in
    record {
      k = suc f.k;
      at_it = omega (arith, f.at_it);
      found = record { within = omega (arith, g.within); limit = g.limit; passes = g.passes; least = g.least; first = first_ahead c cs b e f.k h g.first };
    }

tells_first : (cs : List Count) (i b e : ℕ) → TellsFirst cs i b e (first_passed i b e cs)
tells_first [] i b e = λ j other. refl
tells_first (c ∷ cs) i b e =
    first_told c cs i b e (limit_at b e c) (first_passed (suc i) (b + c.begun) (e + c.ended) cs) (tells b e c) (tells_first cs (suc i) (b + c.begun) (e + c.ended))

pub first_is : (cs : List Count) (j : ℕ) (kind : PolicyFault) → first_passed 0 0 0 cs ≡ Some (j, kind) → First cs 0 0 j kind
first_is cs j kind is =
    let f : FirstFrom cs 0 0 0 j kind = subst (TellsFirst cs 0 0 0) is (tells_first cs 0 0 0) in
    let same : j ≡ f.k = omega (arith, f.at_it) in
    subst (λ n. First cs 0 0 n kind) (sym same) f.found

pub none_passed : (cs : List Count) → first_passed 0 0 0 cs ≡ None → (j : ℕ) (other : PolicyFault) → passes_in other j 0 0 cs ≡ false
none_passed cs is = subst (TellsFirst cs 0 0 0) is (tells_first cs 0 0 0)

-- ---- where more is counted

passes_grows : (kind : PolicyFault) (b b_more e : ℕ) (c d : Count) → b ≤ b_more → c.begun ≤ d.begun → c.parentheses ≡ d.parentheses → c.tables ≡ d.tables → passes kind b e c ≡ true
    → passes kind b_more e d ≡ true
passes_grows Nesting b b_more e c d h n p t is = grind (arith, nat_tests)
passes_grows Nodes b b_more e c d h n p t is = grind (arith, nat_tests)
passes_grows TooLong b b_more e c d h n p t is = ap (λ m. m == most_tables + 1) (sym t) ∙ is
passes_grows kind b b_more e c d h n p t is = absurd (false≢true is)

-- behind the last of these tokens nothing is asked
ended_same : (kind : PolicyFault) (cs : List Count) (c d : Count) (i b e : ℕ) → Ends cs c d → passes_in kind i b (e + c.ended) cs ≡ passes_in kind i b (e + d.ended) cs
ended_same kind [] c d i b e h = refl
ended_same kind (x ∷ xs) c d i b e h = ap (λ n. passes_in kind i b (e + n) (x ∷ xs)) h

-- where no fewer are begun, a limit that is passed stays so
pub passed_grows : (kind : PolicyFault) (cs ds : List Count) (i b b_more e : ℕ) → b ≤ b_more → Onto false cs ds → passes_in kind i b e cs ≡ true → passes_in kind i b_more e ds ≡ true
passed_grows kind [] ds i b b_more e h onto is = absurd (false≢true is)
passed_grows kind (c ∷ cs) [] i b b_more e h onto is = absurd onto
passed_grows kind (c ∷ cs) (d ∷ ds) zero b b_more e h onto is = passes_grows kind b b_more e c d h onto.0 onto.1 onto.2 is
passed_grows kind (c ∷ cs) (d ∷ ds) (suc i) b b_more e h onto is =
    let begun : c.begun ≤ d.begun = onto.0 in
    passed_grows kind cs ds i (b + c.begun) (b_more + d.begun) (e + d.ended) (omega arith) onto.4 (sym (ended_same kind cs c d i (b + c.begun) e onto.3) ∙ is)

-- where as many are begun, no other limit is passed
pub passed_before : (kind : PolicyFault) (cs ds : List Count) (i b b_more e : ℕ) → b ≤ b_more → Onto true cs ds → i < length cs → passes_in kind i b e ds ≡ true → passes_in kind i b_more e cs ≡ true
passed_before kind [] ds i b b_more e h onto lt is = absurd (omega arith)
passed_before kind (c ∷ cs) [] i b b_more e h onto lt is = absurd onto
passed_before kind (c ∷ cs) (d ∷ ds) zero b b_more e h onto lt is = passes_grows kind b b_more e d c h (omega (arith, onto.0)) (sym onto.1) (sym onto.2) is
passed_before kind (c ∷ cs) (d ∷ ds) (suc i) b b_more e h onto lt is =
    let begun : c.begun ≡ d.begun = onto.0 in
    ended_same kind cs c d i (b_more + c.begun) e onto.3 ∙ passed_before kind cs ds i (b + d.begun) (b_more + c.begun) (e + d.ended) (omega arith) onto.4 (omega (arith, lt)) is

-- ---- tests of the things in a list

any_decides : {X : Type 0} (p : X → Bool) (P : X → Type 0) → ((x : X) → Decides (p x) (P x)) → (xs : List X) → Decides (list_any p xs) (Any P xs)
any_decides p P each xs = (
  λ e. let a = Any-from_list_any p xs e in (a.0, a.1, a.2, a.3, (each a.1).0 a.4),
  λ a. list_any-from_Any p xs (a.0, a.1, a.2, a.3, (each a.1).1 a.4),
)

or_false : (v w : Bool) → w ≡ false → (v || w) ≡ v
or_false true w h = refl
or_false false w h = h

-- ---- nodes that begin with a token

-- the number of a node, with itself, or how deep it is
abbrev weight : Bool → ℕ → ℕ → ℕ
weight true n d = n
weight false n d = d

-- of these nodes, behind b others, one of more weight than l begins with the token of number j
abbrev seen : Bool → ℕ → ℕ → ℕ → List Node → Bool
seen x l j b [] = false
seen x l j b (p ∷ ps) = (eqb p.first j && ltb l (weight x (b + 1) p.depth)) || seen x l j (b + 1) ps

-- the last of the nodes that begin with a token weighs most
abbrev heavy : Bool → ℕ → ℕ → ℕ → ℕ → Bool
heavy x l n b e = ltb 0 n && ltb l (weight x (b + n) (b + n - e))

heavy_step : (x v r : Bool) (l n b e : ℕ) → ((v && ltb l (weight x (b + 1) (b + 1 - e))) || ((v && heavy x l n (b + 1) e) || r)) ≡ ((v && heavy x l (suc n) b e) || r)
heavy_step true v r l n b e = grind (arith, nat_tests)
heavy_step false v r l n b e = grind (arith, nat_tests)

seen_at : (x : Bool) (l j k : ℕ) (v : Bool) → eqb k j ≡ v → (n w named b e : ℕ) (rest : List Node)
    → seen x l j b (nodes_at w k named b e n ++ rest) ≡ ((v && heavy x l n b e) || seen x l j (b + n) rest)
seen_at x l j k v same zero w named b e rest =
    let none : b ≡ b + 0 = omega arith in
    ap (λ m. seen x l j m rest) none ∙ ap (λ u. u || seen x l j (b + 0) rest) (sym (and_right v (heavy x l 0 b e) refl))
seen_at x l j k v same (suc n) w named b e rest =
    let first = ltb l (weight x (b + 1) (b + 1 - e)) in
    let next : b + 1 + n ≡ b + suc n = omega arith in
    ap (λ u. (u && first) || seen x l j (b + 1) (nodes_at k k named (b + 1) e n ++ rest)) same
    ∙ ap (λ u. (v && first) || u) (seen_at x l j k v same n k named (b + 1) e rest)
    ∙ heavy_step x v (seen x l j (b + 1 + n) rest) l n b e
    ∙ ap (λ m. (v && heavy x l (suc n) b e) || seen x l j m rest) next

-- tokens from one on find no node that begins ahead of it
seen_beyond : (x : Bool) (l j : ℕ) (cs : List Count) (w k b e : ℕ) → j < k → seen x l j b (scanned w k b e cs) ≡ false
seen_beyond x l j [] w k b e lt = refl
seen_beyond x l j (c ∷ cs) w k b e lt =
    seen_at x l j k false (ne_eqb k j (λ same. omega arith)) c.begun w (k + c.name) b e (scanned (whole_behind w k c) (k + 1) (b + c.begun) (e + c.ended) cs)
    ∙ seen_beyond x l j cs (whole_behind w k c) (k + 1) (b + c.begun) (e + c.ended) (omega arith)

-- with the ith of these tokens a node of more weight begins
abbrev over : Bool → ℕ → ℕ → ℕ → ℕ → List Count → Bool
over x l i b e [] = false
over x l zero b e (c ∷ cs) = heavy x l c.begun b e
over x l (suc i) b e (c ∷ cs) = over x l i (b + c.begun) (e + c.ended) cs

seen_in : (x : Bool) (l j : ℕ) (cs : List Count) (i w k b e : ℕ) → k + i ≡ j → seen x l j b (scanned w k b e cs) ≡ over x l i b e cs
seen_in x l j [] i w k b e h = refl
seen_in x l j (c ∷ cs) zero w k b e h =
    let rest = scanned (whole_behind w k c) (k + 1) (b + c.begun) (e + c.ended) cs in
    seen_at x l j k true (eq-eqb k j (omega arith)) c.begun w (k + c.name) b e rest
    ∙ or_false (heavy x l c.begun b e) (seen x l j (b + c.begun) rest) (seen_beyond x l j cs (whole_behind w k c) (k + 1) (b + c.begun) (e + c.ended) (omega arith))
seen_in x l j (c ∷ cs) (suc i) w k b e h =
    seen_at x l j k false (ne_eqb k j (λ same. omega arith)) c.begun w (k + c.name) b e (scanned (whole_behind w k c) (k + 1) (b + c.begun) (e + c.ended) cs)
    ∙ seen_in x l j cs i (whole_behind w k c) (k + 1) (b + c.begun) (e + c.ended) (omega arith)

-- ---- depth

abbrev deep : ℕ → Node → Bool
deep j x = eqb x.first j && ltb deepest x.depth

seen_deep : (j b : ℕ) (ps : List Node) → seen false deepest j b ps ≡ list_any (deep j) ps
seen_deep j b [] = refl
seen_deep j b (p ∷ ps) = ap (λ v. deep j p || v) (seen_deep j (b + 1) ps)

abbrev wide : ℕ → Parenthesis → Bool
wide j p = eqb p.token j && ltb most_parentheses p.depth

wide_at : (j k : ℕ) (v : Bool) → eqb k j ≡ v → (n : ℕ) (rest : List Parenthesis) → list_any (wide j) (parenthesis_at k n ++ rest) ≡ ((v && ltb most_parentheses n) || list_any (wide j) rest)
wide_at j k v same n rest =
    cond_both (ltb 0 n) (record { token = k; depth = n } ∷ []) [] (λ l. list_any (wide j) (l ++ rest) ≡ ((v && ltb most_parentheses n) || list_any (wide j) rest))
    (λ e. ap (λ u. (u && ltb most_parentheses n) || list_any (wide j) rest) same)
    (λ e. ap (λ u. u || list_any (wide j) rest) (sym (and_right v (ltb most_parentheses n) (le-ltb most_parentheses n (omega (arith, ltb-false 0 n e))))))

wide_beyond : (j : ℕ) (cs : List Count) (k : ℕ) → j < k → list_any (wide j) (parenthesized k cs) ≡ false
wide_beyond j [] k lt = refl
wide_beyond j (c ∷ cs) k lt = wide_at j k false (ne_eqb k j (λ same. omega arith)) c.parentheses (parenthesized (k + 1) cs) ∙ wide_beyond j cs (k + 1) (omega arith)

nesting_in : (j : ℕ) (cs : List Count) (i k b e : ℕ) → k + i ≡ j → (over false deepest i b e cs || list_any (wide j) (parenthesized k cs)) ≡ passes_in Nesting i b e cs
nesting_in j [] i k b e h = refl
nesting_in j (c ∷ cs) zero k b e h =
    let rest = parenthesized (k + 1) cs in
    ap (λ v. heavy false deepest c.begun b e || v)
    (wide_at j k true (eq-eqb k j (omega arith)) c.parentheses rest ∙ or_false (ltb most_parentheses c.parentheses) (list_any (wide j) rest) (wide_beyond j cs (k + 1) (omega arith)))
nesting_in j (c ∷ cs) (suc i) k b e h =
    ap (λ v. over false deepest i (b + c.begun) (e + c.ended) cs || v) (wide_at j k false (ne_eqb k j (λ same. omega arith)) c.parentheses (parenthesized (k + 1) cs))
    ∙ nesting_in j cs i (k + 1) (b + c.begun) (e + c.ended) (omega arith)

-- ---- number

abbrev begins : ℕ → Node → Bool
begins j x = eqb x.first j

behind_few : (v r : Bool) (l n : ℕ) → l < n → ((v && ltb l n) || r) ≡ (v || r)
behind_few v r l n h = grind (arith, nat_tests)

among_few : (v r : Bool) (l n : ℕ) → n ≤ l → ((v && ltb l n) || r) ≡ r
among_few v r l n h = grind (arith, nat_tests)

seen_behind : (l j b m : ℕ) (ps : List Node) → m ≡ l - b → seen true l j b ps ≡ list_any (begins j) (drop m ps)
seen_behind l j b zero [] h = refl
seen_behind l j b (suc m) [] h = refl
seen_behind l j b zero (p ∷ ps) h = behind_few (begins j p) (seen true l j (b + 1) ps) l (b + 1) (omega arith) ∙ ap (λ v. begins j p || v) (seen_behind l j (b + 1) zero ps (omega arith))
seen_behind l j b (suc m) (p ∷ ps) h = among_few (begins j p) (seen true l j (b + 1) ps) l (b + 1) (omega arith) ∙ seen_behind l j (b + 1) m ps (omega arith)

nodes_in : (cs : List Count) (i b e : ℕ) → over true most_nodes i b e cs ≡ passes_in Nodes i b e cs
nodes_in [] i b e = refl
nodes_in (c ∷ cs) zero b e = refl
nodes_in (c ∷ cs) (suc i) b e = nodes_in cs i (b + c.begun) (e + c.ended)

-- ---- tables

untabled_in : (cs : List Count) (i b e : ℕ) → tables_of cs ≡ 0 → passes_in TooLong i b e cs ≡ false
untabled_in [] i b e h = refl
untabled_in (c ∷ cs) zero b e h = ne_eqb c.tables (most_tables + 1) (λ same. omega arith)
untabled_in (c ∷ cs) (suc i) b e h = untabled_in cs i (b + c.begun) (e + c.ended) (omega arith)

-- behind n tables, of which each has three tokens
tables_in : (xs : List (List ℕ)) (n i b e : ℕ) (cs : List Count) → tables_of cs ≡ 0
    → Decides (passes_in TooLong i b e (tables_counts n xs ++ cs)) ((i + 3 * n ≡ 3 * most_tables + 1) × (most_tables < n + length xs))
tables_in [] n i b e cs h = (λ t. absurd (both_ways (passes_in TooLong i b e cs) (untabled_in cs i b e h) t), λ p. absurd (omega (arith, p.0, p.1)))
tables_in (x ∷ xs) n zero b e cs h = (λ t. absurd (false≢true t), λ p. absurd (omega (arith, p.0, p.1)))
tables_in (x ∷ xs) n (suc zero) b e cs h = (λ t. let same = eqb-true (suc n) (most_tables + 1) t in (omega arith, omega arith), λ p. eq-eqb (suc n) (most_tables + 1) (omega (arith, p.0, p.1)))
tables_in (x ∷ xs) n (suc (suc zero)) b e cs h = (λ t. absurd (false≢true t), λ p. absurd (omega (arith, p.0, p.1)))
tables_in (x ∷ xs) n (suc (suc (suc i))) b e cs h =
    Decides-like (passes_in TooLong i (b + 0 + 0 + 0) (e + 0 + 0 + 0) (tables_counts (suc n) xs ++ cs))
    (λ p. (omega (arith, p.0, p.1), omega (arith, p.0, p.1))) (λ p. (omega (arith, p.0, p.1), omega (arith, p.0, p.1))) (tables_in xs (suc n) i (b + 0 + 0 + 0) (e + 0 + 0 + 0) cs h)

-- ---- a file's limits

none_in : (kind : PolicyFault) → ((b e : ℕ) (c : Count) → passes kind b e c ≡ false) → (cs : List Count) (i b e : ℕ) → passes_in kind i b e cs ≡ false
none_in kind h [] i b e = refl
none_in kind h (c ∷ cs) zero b e = h b e c
none_in kind h (c ∷ cs) (suc i) b e = none_in kind h cs i (b + c.begun) (e + c.ended)

nesting_same : (f : File) (i : ℕ) → passes_in Nesting i 0 0 (file_counts f) ≡ (list_any (deep i) (file_nodes f) || list_any (wide i) (file_parentheses f))
nesting_same f i =
    let cs = file_counts f in
    sym (nesting_in i cs i 0 0 0 (omega arith))
    ∙ ap (λ v. v || list_any (wide i) (parenthesized 0 cs)) (sym (seen_in false deepest i cs i 0 0 0 0 (omega arith)) ∙ seen_deep i 0 (scanned 0 0 0 0 cs) ∙ ap (list_any (deep i)) (file_scanned f))
    ∙ ap (λ qs. list_any (deep i) (file_nodes f) || list_any (wide i) qs) (file_parenthesized f)

nodes_same : (f : File) (i : ℕ) → passes_in Nodes i 0 0 (file_counts f) ≡ list_any (begins i) (drop most_nodes (file_nodes f))
nodes_same f i =
    let cs = file_counts f in
    sym (seen_in true most_nodes i cs i 0 0 0 0 (omega arith) ∙ nodes_in cs i 0 0)
    ∙ seen_behind most_nodes i 0 most_nodes (scanned 0 0 0 0 cs) (omega arith) ∙ ap (λ ps. list_any (begins i) (drop most_nodes ps)) (file_scanned f)

pub counted_decides : (f : File) (i : ℕ) (kind : PolicyFault) → Decides (passes_in kind i 0 0 (file_counts f)) (PassesAt f i kind)
counted_decides f i Nesting =
    let ps = file_nodes f in
    let qs = file_parentheses f in
    Decides-at (passes_in Nesting i 0 0 (file_counts f)) (list_any (deep i) ps || list_any (wide i) qs) (nesting_same f i)
    (Decides-or (list_any (deep i) ps) (list_any (wide i) qs) (any_decides (deep i) (λ x. (x.first ≡ i) × (deepest < x.depth)) (λ x. Decides-and (eqb x.first i) (ltb deepest x.depth) (Decides-eqb x.first i) (Decides-ltb deepest x.depth)) ps)
    (any_decides (wide i) (λ p. (p.token ≡ i) × (most_parentheses < p.depth)) (λ p. Decides-and (eqb p.token i) (ltb most_parentheses p.depth) (Decides-eqb p.token i) (Decides-ltb most_parentheses p.depth)) qs))
counted_decides f i Nodes =
    let ps = drop most_nodes (file_nodes f) in
    Decides-at (passes_in Nodes i 0 0 (file_counts f)) (list_any (begins i) ps) (nodes_same f i) (any_decides (begins i) (λ x. x.first ≡ i) (λ x. Decides-eqb x.first i) ps)
counted_decides f i TooLong =
    Decides-like (passes_in TooLong i 0 0 (file_counts f)) (λ p. (omega (arith, p.0), omega (arith, p.1))) (λ p. (omega (arith, p.0), omega (arith, p.1)))
    (tables_in f.tables 0 i 0 0 (behind_tables f) (behind_untabled f))
counted_decides f i kind = (λ t. false≢true (sym (none_in kind (λ b e c. refl) (file_counts f) i 0 0) ∙ t), λ p. absurd p)

-- ---- a file that passes none

all_none : {X : Type 0} (p : X → Bool) (P : X → Type 0) → ((x : X) → p x ≡ true → ¬ (P x)) → (xs : List X) → list_all p xs ≡ true → ¬ (Any P xs)
all_none p P each xs h a =
    let fails : p a.1 ≡ false = false_from_ne_true (p a.1) (λ e. each a.1 e a.4) in
    false≢true (sym (list_all_at p xs a.0 a.1 a.2 (ap p a.3 ∙ fails)) ∙ h)

free_none : (f : File) → IsFree f → (i : ℕ) (kind : PolicyFault) → ¬ (PassesAt f i kind)
free_none f h i Nesting p =
    ⊎_elim (all_none (λ x. leb x.depth deepest) (λ x. (x.first ≡ i) × (deepest < x.depth)) (λ x e d. omega (arith, leb-true x.depth deepest e, d.1)) (file_nodes f) h.nodes.shallow)
    (all_none (λ x. leb x.depth most_parentheses) (λ x. (x.token ≡ i) × (most_parentheses < x.depth)) (λ x e d. omega (arith, leb-true x.depth most_parentheses e, d.1))
    (file_parentheses f) h.parentheses) p
free_none f h i Nodes p = omega (arith, p.2, length-drop most_nodes (file_nodes f), h.nodes.few)
free_none f h i TooLong p = omega (arith, p.1, h.tables)
free_none f h i kind p = p

all_within : {X : Type 0} (depth : X → ℕ) (l : ℕ) (xs : List X) → ¬ (Any (λ x. l < depth x) xs) → list_all (λ x. leb (depth x) l) xs ≡ true
all_within depth l [] h = refl
all_within depth l (x ∷ xs) h =
    let here : depth x ≤ l = ⊎_elim (λ (lt : l < depth x). absurd (h (0, x, omega arith, refl, lt))) (λ (le : depth x ≤ l). le) (cases_lt l (depth x)) in
    and_from (leb (depth x) l) (list_all (λ y. leb (depth y) l) xs) (le-leb (depth x) l here) (all_within depth l xs (λ a. h (suc a.0, a.1, omega (arith, a.2), a.3, a.4)))

none_begin : (xs : List Node) → ((i : ℕ) → ¬ (Any (λ x. x.first ≡ i) xs)) → length xs ≡ 0
none_begin [] h = refl
none_begin (x ∷ xs) h = absurd (h x.first (0, x, omega arith, refl, refl))

none_free : (f : File) → ((i : ℕ) (kind : PolicyFault) → ¬ (PassesAt f i kind)) → IsFree f
none_free f h = record {
  nodes = record {
    shallow = all_within (λ (x : Node). x.depth) deepest (file_nodes f) (λ a. h a.1.first Nesting (inl (a.0, a.1, a.2, a.3, (refl, a.4))));
    few = omega (arith, none_begin (drop most_nodes (file_nodes f)) (λ i. h i Nodes), length-drop most_nodes (file_nodes f));
  };
  parentheses = all_within (λ (p : Parenthesis). p.depth) most_parentheses (file_parentheses f) (λ a. h a.1.token Nesting (inr (a.0, a.1, a.2, a.3, (refl, a.4))));
  tables = ⊎_elim (λ more. absurd (h (3 * most_tables + 1) TooLong (refl, more))) (λ few. few) (cases_lt most_tables (length f.tables));
}

pub free_passes_none : FreePassesNone
free_passes_none f = (free_none f, none_free f)

-- ---- counts that pass none

pub free_counted : (f : File) → first_passed 0 0 0 (file_counts f) ≡ None → IsFree f
free_counted f h = none_free f (λ i kind p. false≢true (sym (none_passed (file_counts f) h i kind) ∙ (counted_decides f i kind).1 p))

-- ---- the nodes of one token

-- one of so many
pub one_node : (xs : List Node) (w i named b e n : ℕ) → 0 < n → (xs ++ node w i named (b + 1 - e) ∷ []) ++ nodes_at i i named (b + 1) e (n - 1) ≡ xs ++ nodes_at w i named b e n
one_node xs w i named b e zero h = absurd (omega arith)
one_node xs w i named b e (suc n) h =
    let fewer : suc n - 1 ≡ n = omega arith in
    ap (λ m. (xs ++ node w i named (b + 1 - e) ∷ []) ++ nodes_at i i named (b + 1) e m) fewer ∙ append_assoc xs (node w i named (b + 1 - e) ∷ []) (nodes_at i i named (b + 1) e n)

-- ---- all tokens

-- ahead of the token of this number
pub record Scans (cs : List Count) (i w b e : ℕ) (nodes : List Node) : Type 0 where
  pub scan : nodes ++ scanned w i b e (drop i cs) ≡ scanned 0 0 0 0 cs
  pub pass : first_passed i b e (drop i cs) ≡ first_passed 0 0 0 cs
  pub begun : b + begun_in (drop i cs) ≡ begun_in cs
  pub ended : e + ended_in (drop i cs) ≡ ended_in cs
  pub few : b ≤ most_nodes
  pub ahead : w ≤ i

pub scans_none : (cs : List Count) → Scans cs 0 0 0 0 []
scans_none cs = record { scan = refl; pass = refl; begun = omega arith; ended = omega arith; few = omega arith; ahead = omega arith }

next_count : (cs : List Count) (i : ℕ) (c : Count) → i < length cs → c ≡ get_or cs i c → drop i cs ≡ c ∷ drop (i + 1) cs
next_count cs i c h e = drop_more cs i c h ∙ ap (λ d. d ∷ drop (i + 1) cs) (sym e)

-- how many begin and end with this token and those behind it
pub next_begun : (cs : List Count) (i w b e : ℕ) (nodes : List Node) (c : Count) → i < length cs → c ≡ get_or cs i c → Scans cs i w b e nodes → b + c.begun + begun_in (drop (i + 1) cs) ≡ begun_in cs
next_begun cs i w b e nodes c h is s = omega (arith, ap begun_in (next_count cs i c h is), s.begun)

pub next_ended : (cs : List Count) (i w b e : ℕ) (nodes : List Node) (c : Count) → i < length cs → c ≡ get_or cs i c → Scans cs i w b e nodes → e + c.ended + ended_in (drop (i + 1) cs) ≡ ended_in cs
next_ended cs i w b e nodes c h is s = omega (arith, ap ended_in (next_count cs i c h is), s.ended)

few_nodes : (b n : ℕ) → b ≤ most_nodes → nat_lt 0 n && nat_lt most_nodes (b + n) ≡ false → b + n ≤ most_nodes
few_nodes b n h f = grind (arith, nat_tests)

-- where no limit is passed, there are not too many nodes
pub few_begun : (b e : ℕ) (c : Count) → b ≤ most_nodes → limit_at b e c ≡ None → b + c.begun ≤ most_nodes
few_begun b e c h none = few_nodes b c.begun h (none_at b e c none Nodes)

behind_ahead : (x y : Bool) (w i : ℕ) → w ≤ i → cond x (cond y i w) (i + 1) ≤ i + 1
behind_ahead true true w i h = omega arith
behind_ahead true false w i h = omega arith
behind_ahead false y w i h = omega arith

-- no limit is passed at this token, and its nodes were added
pub scans_on : (cs : List Count) (i w b e v b_next e_next : ℕ) (nodes more : List Node) (c : Count) → i < length cs → c ≡ get_or cs i c → limit_at b e c ≡ None
    → more ≡ nodes ++ nodes_at w i (i + c.name) b e c.begun → v ≡ whole_behind w i c → b_next ≡ b + c.begun → e_next ≡ e + c.ended → Scans cs i w b e nodes → Scans cs (i + 1) v b_next e_next more
scans_on cs i w b e v b_next e_next nodes more c h is none added behind begun ended s =
    let rest = drop (i + 1) cs in
    let first = nodes_at w i (i + c.name) b e c.begun in
    let next = next_count cs i c h is in
    let one : i + 1 ≡ suc i = omega arith in
    record {
      scan =
          let step : scanned w i b e (c ∷ rest) ≡ first ++ scanned (whole_behind w i c) (i + 1) (b + c.begun) (e + c.ended) rest = refl in
          let was = s.scan in
          cc (append_assoc nodes first (scanned v (i + 1) b_next e_next rest));
      pass =
          let step : first_passed i b e (c ∷ rest) ≡ passed_or i (limit_at b e c) (first_passed (suc i) (b + c.begun) (e + c.ended) rest) = refl in
          let go_on : passed_or i None (first_passed (suc i) (b + c.begun) (e + c.ended) rest) ≡ first_passed (suc i) (b + c.begun) (e + c.ended) rest = refl in
          let was = s.pass in
          cc;
      begun = omega (arith, begun, next_begun cs i w b e nodes c h is s);
      ended = omega (arith, ended, next_ended cs i w b e nodes c h is s);
      few = omega (arith, begun, few_begun b e c s.few none);
      ahead = omega (arith, behind, behind_ahead (nat_lt 0 c.parentheses) (nat_lt 0 c.begun) w i s.ahead);
    }

-- a limit is passed at it
pub scan_stops : (cs : List Count) (i w b e : ℕ) (nodes : List Node) (c : Count) (kind : PolicyFault) → i < length cs → c ≡ get_or cs i c → limit_at b e c ≡ Some kind → Scans cs i w b e nodes
    → first_passed 0 0 0 cs ≡ Some (i, kind)
scan_stops cs i w b e nodes c kind h is some s =
    sym s.pass ∙ ap (first_passed i b e) (next_count cs i c h is) ∙ ap (λ o. passed_or i o (first_passed (suc i) (b + c.begun) (e + c.ended) (drop (i + 1) cs))) some

-- none is passed
pub scans_all : (cs : List Count) (i w b e : ℕ) (nodes : List Node) → length cs ≤ i → Scans cs i w b e nodes → (first_passed 0 0 0 cs ≡ None) × (nodes ≡ scanned 0 0 0 0 cs)
scans_all cs i w b e nodes h s =
    let none : drop i cs ≡ [] = drop_all i cs h in
    (sym s.pass ∙ ap (first_passed i b e) none, sym (append-nil nodes) ∙ sym (ap (λ ds. nodes ++ scanned w i b e ds) none) ∙ s.scan)
