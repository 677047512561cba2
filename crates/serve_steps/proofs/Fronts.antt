-- What was sent to a connection is a front of what the machine gave for it.
use Rattle.std.proofs.Common.{◌≡◌, ◌⊎◌, ℕ, ◌==◌, Bool, true, false, ◌&&◌, List, [], ◌∷◌, ◌++◌, refl, sym, ap, ◌∙◌, subst, ⊎_elim}
use Rattle.std.proofs.lemmas.Bool.{cases_Bool, eqb-true}
use Rattle.std.proofs.lemmas.List.{append-nil, append_assoc}
use Rattle.std.proofs.lemmas.Grind.{flat_map-append}
use Rattle.maple_io.specs.Fronts.{IsFront}
use Rattle.maple_io.specs.declared.act.Act.TheVariants as acts
use Rattle.maple_io.specs.declared.board.Sent.{Sent}
use Rattle.maple_io.specs.Boards.{sent, sent_in}
use Rattle.machine_steps.specs.declared.entry.Entry.{Entry}
use Rattle.serve_steps.specs.Deeds.{Deed, Past, acts_of, act_in, taken_of, out_in, is_over, is_open, was_accepted}
use Rattle.serve_steps.specs.Deeds.Deed.{Enters, Does}
use Rattle.serve_steps.specs.Texts.{script_quits}
use Rattle.serve_steps.specs.Parts.{AreHeard, Given, SendsNext, deeds_of, own_of}
use Rattle.serve_steps.specs.Runs.{start_by}
use Rattle.serve_steps.specs.Laws.{AreFronts, SentIsFront, NoneHeardBehindEnd, FrontStays}

-- ---- fronts

-- a front stays one where more comes behind the whole
pub longer : (front whole more : List ℕ) → IsFront front whole → IsFront front (whole ++ more)
longer front whole more is = (is.0 ++ more, sym (append_assoc front is.0 more) ∙ ap (λ (xs : List ℕ). xs ++ more) is.1)

same_front : (front other whole : List ℕ) → other ≡ front → IsFront front whole → IsFront other whole
same_front front other whole e is = subst (λ (xs : List ℕ). IsFront xs whole) (sym e) is

-- ---- what a deed adds

sent_more : (c : ℕ) (d : Deed) (past : Past) → sent c (acts_of (d ∷ past)) ≡ sent c (acts_of past) ++ sent c (act_in d)
sent_more c d past = flat_map-append (sent_in c) (acts_of past) (act_in d)

nothing_more : (c : ℕ) (d : Deed) (past : Past) → sent c (act_in d) ≡ [] → sent c (acts_of (d ∷ past)) ≡ sent c (acts_of past)
nothing_more c d past e = sent_more c d past ∙ ap (λ (xs : List ℕ). sent c (acts_of past) ++ xs) e ∙ append-nil (sent c (acts_of past))

-- the deed sends nothing to the connection
stays : (c : ℕ) (d : Deed) (past : Past) → sent c (act_in d) ≡ [] → SentIsFront c past → SentIsFront c (d ∷ past)
stays c d past e is =
    same_front (sent c (acts_of past)) (sent c (acts_of (d ∷ past))) (taken_of c (d ∷ past)) (nothing_more c d past e)
    (longer (sent c (acts_of past)) (taken_of c past) (out_in c d) is)

-- it sends what comes next
sends_own : (c : ℕ) (bytes : List ℕ) (answer : Sent) (past : Past) → IsFront (sent c (acts_of past) ++ bytes) (taken_of c past)
    → sent c (act_in (Does (acts.Takes c bytes answer))) ≡ bytes → SentIsFront c (Does (acts.Takes c bytes answer) ∷ past)
sends_own c bytes answer past next e =
    same_front (sent c (acts_of past) ++ bytes) (sent c (acts_of (Does (acts.Takes c bytes answer) ∷ past))) (taken_of c past ++ [])
    (sent_more c (Does (acts.Takes c bytes answer)) past ∙ ap (λ (xs : List ℕ). sent c (acts_of past) ++ xs) e)
    (longer (sent c (acts_of past) ++ bytes) (taken_of c past) [] next)

own_bytes : (c d : ℕ) (bytes : List ℕ) (answer : Sent) → (d == c) ≡ true → sent c (act_in (Does (acts.Takes d bytes answer))) ≡ bytes
own_bytes c d bytes answer e = rw e (append-nil bytes)

others : (c d : ℕ) (bytes : List ℕ) (answer : Sent) → (d == c) ≡ false → sent c (act_in (Does (acts.Takes d bytes answer))) ≡ []
others c d bytes answer e = rw e refl

sends_to : (c d : ℕ) (bytes : List ℕ) (answer : Sent) (past : Past) → SendsNext (Does (acts.Takes d bytes answer)) past → SentIsFront c past
    → ((d == c) ≡ true) ⊎ ((d == c) ≡ false) → SentIsFront c (Does (acts.Takes d bytes answer) ∷ past)
sends_to c d bytes answer past next is =
    ⊎_elim
    (λ e. subst (λ n. SentIsFront n (Does (acts.Takes d bytes answer) ∷ past)) (eqb-true d c e) (sends_own d bytes answer past next.0 (own_bytes d d bytes answer (subst (λ n. (d == n) ≡ true) (sym (eqb-true d c e)) e))))
    (λ e. stays c (Does (acts.Takes d bytes answer)) past (others c d bytes answer e) is)

one_more : (c : ℕ) (d : Deed) (past : Past) → SendsNext d past → SentIsFront c past → SentIsFront c (d ∷ past)
one_more c (Enters t) past next is = stays c (Enters t) past refl is
one_more c (Does (acts.Starts listen control)) past next is = stays c (Does (acts.Starts listen control)) past refl is
one_more c (Does (acts.Gives t bytes)) past next is = stays c (Does (acts.Gives t bytes)) past refl is
one_more c (Does (acts.Takes d bytes answer)) past next is = sends_to c d bytes answer past next is (cases_Bool (d == c))
one_more c (Does (acts.Closes d)) past next is = stays c (Does (acts.Closes d)) past refl is

-- ---- parts

pub front_stays : FrontStays
front_stays c [] ahead each is = is
front_stays c (d ∷ done) ahead each is = one_more c d (done ++ ahead) each.0 (front_stays c done ahead each.1 is)

-- a start of the board sends nothing
none_sent : (c : ℕ) (quits : Bool) (g : Given) → sent c (start_by quits g) ≡ []
none_sent c true g = refl
none_sent c false g = refl

pub are_fronts : AreFronts
are_fronts g first [] is c =
    (taken_of c first, ap (λ (xs : List ℕ). xs ++ taken_of c first) (ap (sent c) is.started ∙ none_sent c (script_quits g.first_line g.script) g))
are_fronts g first (p ∷ ahead) are c =
    front_stays c p.done (Does (acts.Gives p.given p.bytes) ∷ deeds_of first ahead) are.0.delivered.in_order
    (stays c (Does (acts.Gives p.given p.bytes)) (deeds_of first ahead) refl (are_fronts g first ahead are.1 c))

-- ---- ends

and_false : (b : Bool) → (b && false) ≡ false
and_false true = refl
and_false false = refl

not_open : (c : ℕ) (past : Past) → is_over c past ≡ true → is_open c past ≡ false
not_open c past over = rw over (and_false (was_accepted c past))

none_heard : (b : Bool) (c : ℕ) (before : Past) (bytes : List ℕ) (after : Past) (heard : List Entry) → b ≡ false → AreHeard b c before bytes after heard → heard ≡ []
none_heard true c before bytes after heard e h = absurd (cc)
none_heard false c before bytes after heard e h = h

pub none_heard_behind_end : NoneHeardBehindEnd
none_heard_behind_end g first ahead bytes done c n over asked =
    none_heard (is_open c (deeds_of first ahead)) c (deeds_of first ahead) bytes _ (own_of done) (not_open c (deeds_of first ahead) over) asked.asked
