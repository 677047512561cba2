-- What events and tokens change of what was counted ahead of them: a node more may begin with each token, and only with the last may more or fewer end.
use Rattle.std.proofs.Common.{◌≡◌, ℕ, ◌+◌, Bool, true, false, List, [], ◌∷◌, ◌++◌, None, refl, sym, subst, suc, zero, ◌≤◌, length, ap, ◌∙◌, arith, ◌-◌, ◌<◌, drop, get_or, length-append, Option, Some, set, take}
use Rattle.std.specs.Prelude.{⊤, nat_lt, if◌then◌else◌}
use Rattle.policy_tokens.specs.declared.token.Token.{Token}
use Rattle.policy_tokens.specs.declared.token.Token.TheVariants.{Name as name}
use Rattle.policy_tokens.specs.declared.token.Keyword.TheVariants as word
use Rattle.policy_tokens.specs.declared.token.Sign.TheVariants as mark
use Rattle.policy_grammar.specs.declared.event.Event.{Event}
use Rattle.policy_grammar.specs.declared.event.Event.TheVariants as event
use Rattle.policy_grammar.specs.declared.stage.Around.{Around}
use Rattle.policy_grammar.specs.declared.stage.Around.TheVariants as around
use Rattle.policy_grammar.specs.declared.stage.Base.{Base}
use Rattle.policy_grammar.specs.declared.stage.Base.TheVariants as base
use Rattle.policy_grammar.specs.declared.stage.Block.{Block}
use Rattle.policy_grammar.specs.declared.stage.Block.TheVariants as block
use Rattle.policy_grammar.specs.declared.stage.Stage.{Stage}
use Rattle.policy_grammar.specs.declared.stage.Stage.TheVariants as at
use Rattle.policy_grammar.specs.Automaton.{State, least, pull, settle, operator_in, is_keyword, is_sign, step, run, start}
use Rattle.policy_grammar.specs.Events.{ended, endings, operator_event, closing, finished, opening, behind_events, ahead_events, closed_events, name_events, table_events, statement_events, events_at, events}
use Rattle.policy_outline.specs.Bounds.{begun_in, ended_in, total, Within, most_counted}
use Rattle.policy_outline.specs.Counts.{Count, one_begun, one_ended, change_last, end_last}
use Rattle.policy_outline.specs.Counting.{change_at, begin_at, one_less, go_on_last, with_name, name_at, Counter, counted, counted_all, passed, token_counted, counted_onto, counted_from, nothing_counted}
use Rattle.std.proofs.lemmas.Bool.{false≢true}
use Rattle.std.proofs.lemmas.List.{drop_more, take_more, get_or-map, length-map}
use Rattle.std.specs.Option.{option_and_then}
use Rattle.policy_grammar.proofs.Finishing.{NoOperators}
use Rattle.policy_tokens.specs.declared.token.PlacedToken.{PlacedToken}
use Rattle.policy_grammar.specs.Reading.{plain}
use Rattle.policy_grammar.proofs.Progress.{Progress, goes_on}
use Rattle.policy_outline.specs.Outlining.{Advances, AreCountable}

abbrev pub is_plain : Event → Bool
is_plain (event.Operator o) = false
is_plain e = true

abbrev pub ArePlain : List Event → Type 0
ArePlain [] = ⊤
ArePlain (e ∷ es) = (is_plain e ≡ true) × ArePlain es

plain_append : (ds es : List Event) → ArePlain ds → ArePlain es → ArePlain (ds ++ es)
plain_append [] es h k = k
plain_append (d ∷ ds) es h k = (h.0, plain_append ds es h.1 k)

-- the same, so that it tells which events it is of
record Plain (es : List Event) : Type 0 where
  plain : ArePlain es

none_added : Plain []
none_added = record { plain = tt }

ahead_of : (e : Event) {es : List Event} → is_plain e ≡ true → Plain es → Plain (e ∷ es)
ahead_of e h k = record { plain = (h, k.plain) }

one_added : (e : Event) → is_plain e ≡ true → Plain (e ∷ [])
one_added e h = ahead_of e h none_added

-- one list of events or another
choice : (b : Bool) {ds es : List Event} → Plain ds → Plain es → Plain (if b then ds else es)
choice true h k = h
choice false h k = k

-- ---- the parts

ended_plain : (a : Around) → is_plain (ended a) ≡ true
ended_plain (around.Left o) = refl
ended_plain around.Not = refl
ended_plain around.Is = refl
ended_plain around.Group = refl
ended_plain around.First = refl
ended_plain around.Second = refl

endings_plain : (n : ℕ) (as_ : List Around) → Plain (endings n as_)
endings_plain n [] = none_added
endings_plain n (a ∷ as_) = choice (nat_lt n (least a)) (ahead_of (ended a) (ended_plain a) (endings_plain n as_)) none_added

closing_plain : (b : Base) (as_ : List Around) → Plain (closing b as_)
closing_plain b (a ∷ as_) = one_added (ended a) (ended_plain a)
closing_plain base.Host [] = one_added event.Host refl
closing_plain base.Hop [] = one_added event.Hop refl
closing_plain b [] = none_added

base_plain : (b : Base) → Plain (finished b) × Plain (opening b)
base_plain (base.Out n) = (one_added (event.Out (n + 1)) refl, one_added event.Open refl)
base_plain base.Route = (one_added event.Route refl, one_added event.Open refl)
base_plain base.Let = (one_added event.Let refl, one_added event.Open refl)
base_plain base.Assign = (one_added event.Assign refl, one_added event.Open refl)
base_plain base.If = (none_added, ahead_of event.Holds refl (one_added event.Open refl))
base_plain b = (none_added, one_added event.Open refl)

behind_plain : (b : Base) (as_ : List Around) (t : Token) → operator_in t ≡ None → Plain (behind_events b as_ t)
behind_plain b as_ t h =
    choice (is_keyword word.Is t) (one_added event.Is refl) (choice (is_sign mark.OpenBracket t) (one_added event.Index refl)
    (choice (is_sign mark.CloseParenthesis t) (closing_plain b as_) (choice (is_sign mark.Comma t) none_added
    (choice (is_sign mark.Semicolon t) (base_plain b).0 (choice (is_sign mark.OpenBrace t) (base_plain b).1
    (choice (is_sign mark.CloseBracket t) (one_added event.Lookup refl) (subst (λ o. Plain (operator_event o)) (sym h) none_added)))))))

ahead_plain : (t : Token) → Plain (ahead_events t)
ahead_plain t =
    choice (is_sign mark.OpenParenthesis t) (one_added event.Group refl) (choice (is_keyword word.Not t) (one_added event.Not refl)
    (choice (is_keyword word.Up t) (one_added event.Up refl) (choice (is_keyword word.At t) (one_added event.At refl) (one_added (event.Single t) refl))))

closed_plain : (bs : List Block) → Plain (closed_events bs)
closed_plain [] = none_added
closed_plain (block.First ∷ bs) = one_added event.Close refl
closed_plain (block.Second ∷ bs) = ahead_of event.Close refl (one_added event.IfElse refl)
closed_plain (block.Loop ∷ bs) = ahead_of event.Close refl (one_added event.While refl)

name_plain : (t : Token) → Plain (name_events t) × Plain (table_events t)
name_plain (name x) = (one_added (event.Name x) refl, one_added (event.Table x) refl)
name_plain t = (none_added, none_added)

statement_plain : (bs : List Block) (t : Token) → Plain (statement_events bs t)
statement_plain bs t =
    choice (is_sign mark.CloseBrace t) (closed_plain bs) (choice (is_keyword word.Drop t) (ahead_of event.Begin refl (one_added event.Drop refl))
    (choice (is_keyword word.Flood t) (ahead_of event.Begin refl (one_added event.Flood refl)) (ahead_of event.Begin refl (name_plain t).0)))

plain_at : (p : Stage) (as_ : List Around) (bs : List Block) (t : Token) → operator_in t ≡ None → ArePlain (events_at p as_ bs t)
plain_at at.Table as_ bs t h = (name_plain t).1.plain
plain_at at.Policy as_ bs t h = (choice (is_keyword word.Learning t) (one_added event.Learning refl) none_added).plain
plain_at at.Statement as_ bs t h = (statement_plain bs t).plain
plain_at at.Else as_ bs t h = (choice (is_keyword word.Else t) none_added (ahead_of event.If refl (statement_plain bs t))).plain
plain_at at.Let as_ bs t h = (name_plain t).0.plain
plain_at at.If as_ bs t h = (choice (is_keyword word.Host t) (one_added event.Begin refl) (choice (is_keyword word.Hop t) (one_added event.Begin refl) (ahead_plain t))).plain
plain_at (at.Ahead b) as_ bs t h = (ahead_plain t).plain
plain_at (at.Behind b s) as_ bs t h =
    let around_left = (settle (pull t) as_ s).around in
    plain_append (endings (pull t) as_) (behind_events b around_left t) (endings_plain (pull t) as_).plain (behind_plain b around_left t h).plain
plain_at at.As as_ bs t h = (name_plain t).0.plain
plain_at at.Bound as_ bs t h = (refl, (refl, tt))
plain_at at.ElseBlock as_ bs t h = (refl, tt)
plain_at p as_ bs t h = tt

pub events_plain : (s : State) (t : Token) → operator_in t ≡ None → ArePlain (events s t)
events_plain s t h = plain_at s.stage s.around s.blocks t h

-- the same number, or a number that is no less
abbrev Reaches : Bool → ℕ → ℕ → Type 0
Reaches true m n = m ≡ n
Reaches false m n = m ≤ n

reaches_same : (x : Bool) (n : ℕ) → Reaches x n n
reaches_same true n = refl
reaches_same false n = omega arith

reaches_on : (x : Bool) (l m n : ℕ) → Reaches x l m → Reaches x m n → Reaches x l n
reaches_on true l m n h k = h ∙ k
reaches_on false l m n h k = omega arith

-- with a token ahead of others as many nodes end
abbrev pub Ends : List Count → Count → Count → Type 0
Ends [] c d = ⊤
Ends (x ∷ xs) c d = c.ended ≡ d.ended

abbrev pub Onto : Bool → List Count → List Count → Type 0
Onto x [] ds = ⊤
Onto x (c ∷ cs) [] = ⊥
Onto x (c ∷ cs) (d ∷ ds) = Reaches x c.begun d.begun × (c.parentheses ≡ d.parentheses) × (c.tables ≡ d.tables) × Ends cs c d × Onto x cs ds

ends_same : (cs : List Count) (c d : Count) → c.ended ≡ d.ended → Ends cs c d
ends_same [] c d h = tt
ends_same (x ∷ xs) c d h = h

ends_on : (x : Bool) (as_ bs : List Count) (a b c : Count) → Onto x as_ bs → Ends as_ a b → Ends bs b c → Ends as_ a c
ends_on x [] bs a b c h p q = tt
ends_on x (y ∷ as_) [] a b c h p q = absurd h
ends_on x (y ∷ as_) (z ∷ bs) a b c h p q = p ∙ q

onto_same : (x : Bool) (cs : List Count) → Onto x cs cs
onto_same x [] = tt
onto_same x (c ∷ cs) = (reaches_same x c.begun, refl, refl, ends_same cs c c refl, onto_same x cs)

onto_on : (x : Bool) (as_ bs cs : List Count) → Onto x as_ bs → Onto x bs cs → Onto x as_ cs
onto_on x [] bs cs h k = tt
onto_on x (a ∷ as_) [] cs h k = absurd h
onto_on x (a ∷ as_) (b ∷ bs) [] h k = absurd k
onto_on x (a ∷ as_) (b ∷ bs) (c ∷ cs) h k =
    (reaches_on x a.begun b.begun c.begun h.0 k.0, h.1 ∙ k.1, h.2 ∙ k.2, ends_on x as_ bs a b c h.4 h.3 k.3, onto_on x as_ bs cs h.4 k.4)

onto_more : (x : Bool) (cs ds : List Count) → Onto x cs (cs ++ ds)
onto_more x [] ds = tt
onto_more x (c ∷ cs) ds = (reaches_same x c.begun, refl, refl, ends_same cs c c refl, onto_more x cs ds)

-- ---- the parts of a step

-- as many tokens, with which so many nodes more begin and end at most
pub record Moves (x : Bool) (b e : ℕ) (cs ds : List Count) : Type 0 where
  pub begun : begun_in ds ≤ begun_in cs + b
  pub ended : ended_in ds ≤ ended_in cs + e
  pub count : length ds ≡ length cs
  pub onto : Onto x cs ds

moves_none : (x : Bool) (b e : ℕ) (cs : List Count) → Moves x b e cs cs
moves_none x b e cs = record { begun = omega arith; ended = omega arith; count = refl; onto = onto_same x cs }

moves_behind : (x : Bool) (b e : ℕ) (c : Count) (cs ds : List Count) → Moves x b e cs ds → Moves x b e (c ∷ cs) (c ∷ ds)
moves_behind x b e c cs ds h =
    record { begun = omega arith; ended = omega arith; count = ap suc h.count; onto = (reaches_same x c.begun, refl, refl, ends_same cs c c refl, h.onto) }

-- a change of one count
abbrev Change : Bool → ℕ → ℕ → (Count → Count) → Type 0
Change x b e g =
    (c : Count) → Reaches x c.begun (g c).begun × ((g c).begun ≤ c.begun + b) × ((g c).ended ≤ c.ended + e) × (c.parentheses ≡ (g c).parentheses) × (c.tables ≡ (g c).tables)

here_moves : (x : Bool) (b e : ℕ) (g : Count → Count) (c : Count) (cs : List Count) → Change x b e g → Ends cs c (g c) → Moves x b e (c ∷ cs) (g c ∷ cs)
here_moves x b e g c cs h k =
    record { begun = omega (arith, (h c).1); ended = omega (arith, (h c).2); count = refl; onto = ((h c).0, (h c).3, (h c).4, k, onto_same x cs) }

last_moves : (x : Bool) (b e : ℕ) (g : Count → Count) (cs : List Count) → Change x b e g → Moves x b e cs (change_last g cs)
last_moves x b e g [] h = moves_none x b e []
last_moves x b e g (c ∷ []) h = here_moves x b e g c [] h tt
last_moves x b e g (c ∷ d ∷ cs) h = moves_behind x b e c (d ∷ cs) (change_last g (d ∷ cs)) (last_moves x b e g (d ∷ cs) h)

at_moves : (x : Bool) (b e : ℕ) (g : Count → Count) (n : ℕ) (cs : List Count) → Change x b e g → ((c : Count) → c.ended ≡ (g c).ended) → Moves x b e cs (change_at g n cs)
at_moves x b e g n [] h k = moves_none x b e []
at_moves x b e g zero (c ∷ cs) h k = here_moves x b e g c cs h (ends_same cs c (g c) (k c))
at_moves x b e g (suc n) (c ∷ cs) h k = moves_behind x b e c cs (change_at g n cs) (at_moves x b e g n cs h k)

pub end_moves : (x : Bool) (cs : List Count) → Moves x 0 1 cs (end_last cs)
end_moves x cs = last_moves x 0 1 (λ c. one_ended c) cs (λ c. (reaches_same x c.begun, omega arith, omega arith, refl, refl))

go_on_moves : (x : Bool) (cs : List Count) → Moves x 0 0 cs (go_on_last cs)
go_on_moves x cs = last_moves x 0 0 (λ c. one_less c) cs (λ c. (reaches_same x c.begun, omega arith, omega arith, refl, refl))

begin_moves : (n : ℕ) (cs : List Count) → Moves false 1 0 cs (begin_at n cs)
begin_moves n cs = at_moves false 1 0 (λ c. one_begun c) n cs (λ c. (omega arith, omega arith, omega arith, refl, refl)) (λ c. refl)

pub name_moves : (x : Bool) (n v : ℕ) (cs : List Count) → Moves x 0 0 cs (name_at n v cs)
name_moves x n v cs = at_moves x 0 0 (λ c. with_name v c) n cs (λ c. (reaches_same x c.begun, omega arith, omega arith, refl, refl)) (λ c. refl)

-- a name is bound
bind_moves : (x : Bool) (n v : ℕ) (cs : List Count) → Moves x 0 1 cs (end_last (name_at n v cs))
bind_moves x n v cs =
    let named = name_moves x n v cs in
    let last = end_moves x (name_at n v cs) in
    record { begun = omega arith; ended = omega arith; count = last.count ∙ named.count; onto = onto_on x cs (name_at n v cs) (end_last (name_at n v cs)) named.onto last.onto }

pub total_append : (g : Count → ℕ) (cs ds : List Count) → total g (cs ++ ds) ≡ total g cs + total g ds
total_append g [] ds = omega arith
total_append g (c ∷ cs) ds = omega (arith, total_append g cs ds)

-- ---- events

-- no more than one is added of anything, and to as many tokens; only an operator begins a node ahead
abbrev Grows : Bool → Counter → Counter → Type 0
Grows x c d =
    (begun_in d.counts + d.current.begun ≤ begun_in c.counts + c.current.begun + 1) × (ended_in d.counts + d.current.ended ≤ ended_in c.counts + c.current.ended + 1)
    × (d.parentheses ≤ c.parentheses + 1) × (d.tables ≤ c.tables + 1) × (length d.counts ≡ length c.counts) × Onto x c.counts d.counts

-- with the tokens ahead
counts_grow : (x : Bool) (c : Counter) (b e : ℕ) {ds : List Count} → b ≤ 1 → e ≤ 1 → Moves x b e c.counts ds → Grows x c (record c { counts = ds })
counts_grow x c b e h k m = (omega arith, omega arith, omega arith, omega arith, m.count, m.onto)

ends_grow : (x : Bool) (c : Counter) → Grows x c (record c { counts = end_last c.counts })
ends_grow x c = counts_grow x c 0 1 (omega arith) (omega arith) (end_moves x c.counts)

counted_grows : (x : Bool) (e : Event) (c : Counter) → (x ≡ true → is_plain e ≡ true) → Grows x c (counted e c)
counted_grows true (event.Operator o) c h = absurd (false≢true (h refl))
counted_grows false (event.Operator o) c h = counts_grow false c 1 0 (omega arith) (omega arith) (begin_moves c.operand c.counts)
counted_grows x event.Is c h = counts_grow x c 0 0 (omega arith) (omega arith) (go_on_moves x c.counts)
counted_grows x event.Index c h = counts_grow x c 0 0 (omega arith) (omega arith) (go_on_moves x c.counts)
counted_grows x event.Negation c h = ends_grow x c
counted_grows x event.Test c h = ends_grow x c
counted_grows x (event.Pair o) c h = ends_grow x c
counted_grows x event.Bind c h = counts_grow x c 0 1 (omega arith) (omega arith) (bind_moves x c.head (length c.counts - 1 - c.head) c.counts)
counted_grows x (event.Out n) c h = ends_grow x c
counted_grows x event.Route c h = ends_grow x c
counted_grows x event.Let c h = ends_grow x c
counted_grows x event.Assign c h = ends_grow x c
counted_grows x event.If c h = ends_grow x c
counted_grows x e c h = (omega arith, omega arith, omega arith, omega arith, refl, onto_same x c.counts)

-- any event
event_grows : (e : Event) (c : Counter) → Grows false c (counted e c)
event_grows e c = counted_grows false e c (λ q. absurd (false≢true q))

pub event_within : (n : ℕ) (e : Event) (c : Counter) → Within n c → Within (n + 1) (counted e c)
event_within n e c h =
    let g = event_grows e c in
    record { begun = omega arith; ended = omega arith; parentheses = omega arith; tables = omega arith }

pub event_count : (e : Event) (c : Counter) → length (counted e c).counts ≡ length c.counts
event_count e c = (event_grows e c).4

-- the next event was counted
pub event_on : (es : List Event) (i : ℕ) (e : Event) (c d total : Counter) → i < length es → e ≡ get_or es i e → d ≡ counted e c → counted_all (drop i es) c ≡ total
    → counted_all (drop (i + 1) es) d ≡ total
event_on es i e c d total h is same so_far =
    ap (counted_all (drop (i + 1) es)) same ∙ sym (ap (λ us. counted_all us c) (drop_more es i e h ∙ ap (λ f. f ∷ drop (i + 1) es) (sym is))) ∙ so_far

events_within : (n : ℕ) (es : List Event) (c : Counter) → Within n c → Within (n + length es) (counted_all es c)
events_within n [] c h = record { begun = omega arith; ended = omega arith; parentheses = omega arith; tables = omega arith }
events_within n (e ∷ es) c h =
    let more = events_within (n + 1) es (counted e c) (event_within n e c h) in
    record { begun = omega arith; ended = omega arith; parentheses = omega arith; tables = omega arith }

events_count : (es : List Event) (c : Counter) → length (counted_all es c).counts ≡ length c.counts
events_count [] c = refl
events_count (e ∷ es) c = events_count es (counted e c) ∙ event_count e c

-- ---- tokens

passed_within : (n : ℕ) (c : Counter) → Within n c → Within n (passed c)
passed_within n c h =
    record {
      begun = omega (arith, total_append (λ d. d.begun) c.counts (c.current ∷ []));
      ended = omega (arith, total_append (λ d. d.ended) c.counts (c.current ∷ []));
      parentheses = h.parentheses;
      tables = h.tables;
    }

token_count : (s : State) (t : Token) (c : Counter) → length (token_counted s t c).counts ≡ length c.counts + 1
token_count s t c =
    let d = counted_all (events s t) c in
    omega (arith, length-append d.counts (d.current ∷ []), events_count (events s t) c)

pub within_more : (m n : ℕ) (c : Counter) → m ≤ n → Within m c → Within n c
within_more m n c h w = record { begun = omega arith; ended = omega arith; parentheses = omega arith; tables = omega arith }

-- ---- one token

events_move : (x : Bool) (es : List Event) (c : Counter) → (x ≡ true → ArePlain es) → Onto x c.counts (counted_all es c).counts
events_move x [] c h = onto_same x c.counts
events_move x (e ∷ es) c h =
    onto_on x c.counts (counted e c).counts (counted_all es (counted e c)).counts (counted_grows x e c (λ q. (h q).0)).5 (events_move x es (counted e c) (λ q. (h q).1))

token_onto : (x : Bool) (s : State) (t : Token) (c : Counter) → (x ≡ true → ArePlain (events s t)) → Onto x c.counts (token_counted s t c).counts
token_onto x s t c h =
    let d = counted_all (events s t) c in
    onto_on x c.counts d.counts (token_counted s t c).counts (events_move x (events s t) c h) (onto_more x d.counts (d.current ∷ []))

-- ---- more tokens

onto_next : (x : Bool) (cs : List Count) (c : Counter) (rest : State → Counter) (o : Option State) → Onto x cs c.counts → ((n : State) → Onto x c.counts (rest n).counts)
    → Onto x cs (counted_onto o c rest).counts
onto_next x cs c rest None h k = h
onto_next x cs c rest (Some n) h k = onto_on x cs c.counts (rest n).counts h (k n)

-- more tokens change so much of what was counted, and without an operator among them no node more begins
pub from_onto : (x : Bool) (ts : List Token) (s : State) (c : Counter) → (x ≡ true → NoOperators ts) → Onto x c.counts (counted_from s c ts).counts
from_onto x [] s c h = onto_same x c.counts
from_onto x (t ∷ ts) s c h =
    let d = token_counted s t c in
    onto_next x c.counts d (λ n. counted_from n d ts) (step s t) (token_onto x s t c (λ q. events_plain s t (h q).0)) (λ n. from_onto x ts n d (λ q. (h q).1))

-- the token that comes first is read
read_next : (ts : List Token) (m : State) (o : Option State) → option_and_then (λ n. run n ts) o ≡ Some m → (n : State) × (o ≡ Some n) × (run n ts ≡ Some m)
read_next ts m None e = absurd (cc)
read_next ts m (Some n) e = (n, refl, e)

-- each token that is read has its counts
pub from_count : (ts : List Token) (s m : State) (c : Counter) → run s ts ≡ Some m → length (counted_from s c ts).counts ≡ length c.counts + length ts
from_count [] s m c e = omega arith
from_count (t ∷ ts) s m c e =
    let d = token_counted s t c in
    let r = read_next ts m (step s t) e in
    omega (arith, ap (λ o. length (counted_onto o d (λ n. counted_from n d ts)).counts) r.1, from_count ts r.0 m d r.2, token_count s t c)

-- ---- tokens behind tokens

pub from_append : (ts us : List Token) (s m : State) (c : Counter) → run s ts ≡ Some m → counted_from s c (ts ++ us) ≡ counted_from m (counted_from s c ts) us
from_append [] us s m c e =
    let same : s ≡ m = cc in
    ap (λ n. counted_from n c us) same
from_append (t ∷ ts) us s m c e =
    let d = token_counted s t c in
    let r = read_next ts m (step s t) e in
    ap (λ o. counted_onto o d (λ n. counted_from n d (ts ++ us))) r.1 ∙ from_append ts us r.0 m d r.2 ∙ sym (ap (λ o. counted_from m (counted_onto o d (λ n. counted_from n d ts)) us) r.1)

pub set_at : (g : Count → Count) (cs : List Count) (n : ℕ) (x y : Count) → n < length cs → x ≡ get_or cs n x → y ≡ g x → set cs n y ≡ change_at g n cs
set_at g [] n x y h e f = absurd (omega arith)
set_at g (c ∷ cs) zero x y h e f = ap (λ z. z ∷ cs) (f ∙ ap g e)
set_at g (c ∷ cs) (suc n) x y h e f = ap (λ ds. c ∷ ds) (set_at g cs n x y (omega arith) e f)

pub past_at : (g : Count → Count) (cs : List Count) (n : ℕ) → length cs ≤ n → change_at g n cs ≡ cs
past_at g [] n h = refl
past_at g (c ∷ cs) zero h = absurd (omega arith)
past_at g (c ∷ cs) (suc n) h = ap (λ ds. c ∷ ds) (past_at g cs n (omega arith))

pub set_last : (g : Count → Count) (cs : List Count) (n : ℕ) (x y : Count) → n + 1 ≡ length cs → x ≡ get_or cs n x → y ≡ g x → set cs n y ≡ change_last g cs
set_last g [] n x y h e f = absurd (omega arith)
set_last g (c ∷ []) zero x y h e f = ap (λ z. z ∷ []) (f ∙ ap g e)
set_last g (c ∷ []) (suc n) x y h e f = absurd (omega arith)
set_last g (c ∷ d ∷ cs) zero x y h e f = absurd (omega arith)
set_last g (c ∷ d ∷ cs) (suc n) x y h e f = ap (λ ds. c ∷ ds) (set_last g (d ∷ cs) n x y (omega arith) e f)

-- no more is counted at one token than at all
pub one_of : (g : Count → ℕ) (cs : List Count) (n : ℕ) (x : Count) → n < length cs → x ≡ get_or cs n x → g x ≤ total g cs
one_of g [] n x h e = absurd (omega arith)
one_of g (c ∷ cs) zero x h e = omega (arith, ap g e)
one_of g (c ∷ cs) (suc n) x h e = omega (arith, one_of g cs n x (omega arith) e)

-- these tokens were read and counted, and this is what they add
pub record Outlines (ts : List Token) (s : State) (es : List Event) (c : Counter) : Type 0 where
  pub progress : Progress ts s es
  pub counted : c ≡ counted_from start nothing_counted ts
  pub within : Within (length es) c
  pub count : length c.counts ≡ length ts

outlines_none : Outlines [] start [] nothing_counted
outlines_none =
    record {
      progress = record { run = refl; events = refl };
      counted = refl;
      within = record { begun = omega arith; ended = omega arith; parentheses = omega arith; tables = omega arith };
      count = refl;
    }

counted_next : (ts : List Token) (s n : State) (es : List Event) (c : Counter) (t : Token) → step s t ≡ Some n → Outlines ts s es c → token_counted s t c ≡ counted_from start nothing_counted (ts ++ t ∷ [])
counted_next ts s n es c t e o =
    sym (from_append ts (t ∷ []) start s nothing_counted o.progress.run
    ∙ ap (λ x. counted_from s x (t ∷ [])) (sym o.counted)
    ∙ ap (λ p. counted_onto p (token_counted s t c) (λ m. counted_from m (token_counted s t c) [])) e)

-- and one more
outlines_on : (ts : List Token) (s n : State) (es us : List Event) (c d : Counter) (t : Token) → Advances (Some n) t s es us c d → Outlines ts s es c → Outlines (ts ++ t ∷ []) n us d
outlines_on ts s n es us c d t r o =
    let more : length us ≡ length es + length (events s t) = ap length r.1 ∙ length-append es (events s t) in
    record {
      progress = subst (Progress (ts ++ t ∷ []) n) (sym r.1) (goes_on ts s n es t r.0 o.progress);
      counted = r.2 ∙ counted_next ts s n es c t r.0 o;
      within = subst (Within (length us)) (sym r.2) (subst (λ n. Within n (token_counted s t c)) (sym more) (passed_within (length es + length (events s t)) (counted_all (events s t) c) (events_within (length es) (events s t) c o.within)));
      count = omega (arith, ap (λ (x : Counter). length x.counts) r.2, token_count s t c, o.count, length-append ts (t ∷ []));
    }

-- the next token with its place
next_token : (ps : List PlacedToken) (i : ℕ) (p : PlacedToken) → i < length ps → p ≡ get_or ps i p → take (i + 1) (plain ps) ≡ take i (plain ps) ++ p.token ∷ []
next_token ps i p h e =
    take_more (plain ps) i p.token (omega (arith, h, length-map ps (λ q. q.token)))
    ∙ ap (λ t. take i (plain ps) ++ t ∷ []) (get_or-map (λ q. q.token) ps i p p.token h ∙ ap (λ q. q.token) (sym e))

pub outlines_next : (ps : List PlacedToken) (i : ℕ) (p : PlacedToken) (s n : State) (es us : List Event) (c d : Counter) → i < length ps → p ≡ get_or ps i p → Advances (Some n) p.token s es us c d
    → Outlines (take i (plain ps)) s es c → Outlines (take (i + 1) (plain ps)) n us d
outlines_next ps i p s n es us c d h e r o = subst (λ ts. Outlines ts n us d) (sym (next_token ps i p h e)) (outlines_on (take i (plain ps)) s n es us c d p.token r o)

outlines_countable : (ts : List Token) (s : State) (es : List Event) (c : Counter) → length es ≤ most_counted + 1 → Outlines ts s es c → AreCountable c.counts
outlines_countable ts s es c h o = record { begun = omega (arith, o.within.begun); ended = omega (arith, o.within.ended) }
