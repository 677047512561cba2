-- What is heard of an open session is what its bytes are cut into.
use Rattle.std.proofs.Common.{◌≡◌, ℕ, ◌==◌, Bool, true, false, ◌&&◌, ◌||◌, not, if◌then◌else◌, map, List, [], ◌∷◌, ◌++◌, Option, Some, None, refl, sym, ap, ◌∙◌, subst, ⊎_elim}
use Rattle.std.specs.List.{flat_map, list_all, list_any}
use Rattle.std.proofs.lemmas.Bool.{cases_Bool, eqb-true}
use Rattle.std.proofs.lemmas.List.{append-nil, append_assoc}
use Rattle.std.proofs.lemmas.List.Folds.{list_any-append}
use Rattle.std.proofs.lemmas.Grind.{flat_map-append}
use Rattle.maple_io.specs.declared.act.Act.TheVariants as acts
use Rattle.maple_io.specs.declared.board.Turn.{Turn as BoardTurn}
use Rattle.maple_io.specs.declared.board.Turn.TheVariants as turn
use Rattle.maple_io.specs.Boards.{is_opening, was_opened}
use Rattle.of10_stream.specs.Cut.IsOpen.{NoHeader}
use Rattle.sim_steps.specs.Agreeing.{AreCut, heard_in}
use Rattle.sim_steps.specs.Deeds.Deed.{Enters as EntersAtBench}
use Rattle.machine_steps.specs.declared.entry.Entry.{Entry}
use Rattle.machine_steps.specs.declared.entry.Entry.TheVariants as entries
use Rattle.machine_steps.specs.declared.entry.Input.{Input}
use Rattle.machine_steps.specs.declared.reply.Reply.{Reply}
use Rattle.machine_steps.specs.declared.reply.Reply.TheVariants as replies
use Rattle.world_steps.specs.Worlds.{lacks_memory}
use Rattle.serve_steps.specs.Deeds.{Deed, Past, acts_of, act_in, bytes_of, came_by, input_in, inputs_of, is_asked, is_open, is_over, opens, opens_by, was_accepted, ends}
use Rattle.serve_steps.specs.Deeds.Deed.{Enters, Does}
use Rattle.serve_steps.specs.Texts.{Ask, AreEntriesOf, IsEntryOf, ahead_of_refused, script_asks}
use Rattle.serve_steps.specs.Texts.Ask.{Changes, Renews, ReadsRules, Refuses}
use Rattle.maple_io.specs.Turns.{OpensAnew}
use Rattle.serve_steps.specs.Parts.{AreHeard, Asks, Given, Part, deeds_of, due, ends_due, entry_if, had_memory, is_quiet, own_in, own_of}
use Rattle.serve_steps.specs.Runs.{AreParts}
use Rattle.serve_steps.specs.Laws.{HeardIsCut, IsHeardOut}

-- ---- tests

and_left : (a b : Bool) → (a && b) ≡ true → a ≡ true
and_left true b h = refl
and_left false b h = h

and_right : (a b : Bool) → (a && b) ≡ true → b ≡ true
and_right true b h = h
and_right false b h = absurd (cc)

or_left : (a b : Bool) → (a || b) ≡ false → a ≡ false
or_left true b h = h
or_left false b h = refl

or_right : (a b : Bool) → (a || b) ≡ false → b ≡ false
or_right true b h = absurd (cc)
or_right false b h = h

or_both : (a b : Bool) → a ≡ false → b ≡ false → (a || b) ≡ false
or_both true b e f = e
or_both false b e f = f

or_other : (a b : Bool) → a ≡ false → (a || b) ≡ true → b ≡ true
or_other true b e h = absurd (cc)
or_other false b e h = h

not_is : (b : Bool) → not b ≡ true → b ≡ false
not_is true h = absurd (cc)
not_is false h = refl

is_not : (b : Bool) → b ≡ false → not b ≡ true
is_not true h = absurd (cc)
is_not false h = refl

-- ---- entries

abbrev heard_by : ℕ → Entry → List Input
heard_by c (entries.Heard d input) = if d == c then input ∷ [] else []
heard_by c entry = []

abbrev heards : ℕ → List Entry → List Input
heards c es = flat_map (heard_by c) es

abbrev is_opened : ℕ → Entry → Bool
is_opened c (entries.Open d) = d == c
is_opened c entry = false

abbrev opens_in : ℕ → List Entry → Bool
opens_in c es = list_any (is_opened c) es

none_if : (c : ℕ) (b : Bool) (e : Entry) → heard_by c e ≡ [] → heards c (entry_if b e) ≡ []
none_if c true e h = rw h refl
none_if c false e h = refl

heard_if : (c d : ℕ) (i : Input) (b : Bool) → not b ≡ true → (if d == c then (if b then [] else i ∷ []) else []) ≡ (if d == c then i ∷ [] else []) ++ []
heard_if c d i true h = absurd (cc)
heard_if c d i false h = sym (append-nil (if d == c then i ∷ [] else []))

own_input : (c : ℕ) (e : Entry) (r : Reply) (d : Option ℕ) → not (is_asked e && lacks_memory r) ≡ true
    → heard_in c (EntersAtBench e r) ≡ heards c (entry_if (is_asked e && not (ends_due d e)) e)
own_input c (entries.Heard x i) r None h = heard_if c x i (lacks_memory r) h
own_input c (entries.Heard x i) r (Some y) h = heard_if c x i (lacks_memory r) h
own_input c e r d h = sym (none_if c (is_asked e && not (ends_due d e)) e refl)

own_is : (c : ℕ) (d : Deed) (done : Past) → had_memory d ≡ true → input_in c d ≡ heards c (own_in d done)
own_is c (Enters t) done h = own_input c t.entry t.reply (due done) h
own_is c (Does act) done h = refl

inputs_on : (c : ℕ) (done ahead : Past) → list_all had_memory done ≡ true → inputs_of c (done ++ ahead) ≡ inputs_of c ahead ++ heards c (own_of done)
inputs_on c [] ahead h = sym (append-nil (inputs_of c ahead))
inputs_on c (d ∷ done) ahead h =
    ap (λ (xs : List Input). xs ++ input_in c d) (inputs_on c done ahead (and_right (had_memory d) (list_all had_memory done) h))
    ∙ ap (λ (xs : List Input). (inputs_of c ahead ++ heards c (own_of done)) ++ xs) (own_is c d done (and_left (had_memory d) (list_all had_memory done) h))
    ∙ append_assoc (inputs_of c ahead) (heards c (own_of done)) (heards c (own_in d done))
    ∙ ap (λ (xs : List Input). inputs_of c ahead ++ xs) (sym (flat_map-append (heard_by c) (own_of done) (own_in d done)))

pub open_if : (c d : ℕ) (r : Reply) → (d == c) ≡ false → opens_by c (entries.Open d) r ≡ false
open_if c d replies.Done h = h
open_if c d r h = refl

own_open : (c : ℕ) (e : Entry) (r : Reply) (d : Option ℕ) → opens_in c (entry_if (is_asked e && not (ends_due d e)) e) ≡ false → opens_by c e r ≡ false
own_open c (entries.Open x) r None h = open_if c x r (or_left (x == c) false h)
own_open c (entries.Open x) r (Some y) h = open_if c x r (or_left (x == c) false h)
own_open c e r d h = refl

own_opens : (c : ℕ) (d : Deed) (done : Past) → opens_in c (own_in d done) ≡ false → opens c d ≡ false
own_opens c (Enters t) done h = own_open c t.entry t.reply (due done) h
own_opens c (Does act) done h = refl

accepted_on : (c : ℕ) (done : Past) → opens_in c (own_of done) ≡ false → list_any (opens c) done ≡ false
accepted_on c [] h = refl
accepted_on c (d ∷ done) h =
    or_both (opens c d) (list_any (opens c) done)
    (own_opens c d done (or_right (opens_in c (own_of done)) (opens_in c (own_in d done)) (sym (list_any-append (is_opened c) (own_of done) (own_in d done)) ∙ h)))
    (accepted_on c done (or_left (opens_in c (own_of done)) (opens_in c (own_in d done)) (sym (list_any-append (is_opened c) (own_of done) (own_in d done)) ∙ h)))

bytes_on : (c : ℕ) (done ahead : Past) → list_all is_quiet done ≡ true → bytes_of c (done ++ ahead) ≡ bytes_of c ahead
bytes_on c [] ahead h = refl
bytes_on c (Enters t ∷ done) ahead h = bytes_on c done ahead h
bytes_on c (Does (acts.Starts listen control) ∷ done) ahead h = absurd (cc)
bytes_on c (Does (acts.Gives t bytes) ∷ done) ahead h = absurd (cc)
bytes_on c (Does (acts.Takes d bytes answer) ∷ done) ahead h = bytes_on c done ahead h
bytes_on c (Does (acts.Closes d) ∷ done) ahead h = bytes_on c done ahead h

-- ---- the entries of a turn

line_entry : (c : ℕ) (a : Ask) (e : Entry) → IsEntryOf a e → (heard_by c e ≡ []) × (is_opened c e ≡ false)
line_entry c (Changes update) e h = (rw h refl, rw h refl)
line_entry c (Renews text) e h = ⊎_elim (λ i. (rw (i.2) refl, rw (i.2) refl)) (λ i. (rw (i.4) refl, rw (i.4) refl)) h
line_entry c (ReadsRules switch) e h = (rw h refl, rw h refl)
line_entry c (Refuses n kind) e h = (rw h refl, rw h refl)

both_lines : (c : ℕ) (e : Entry) (es : List Entry) → (heard_by c e ≡ []) × (is_opened c e ≡ false) → (heards c es ≡ []) × (opens_in c es ≡ false)
    → (heards c (e ∷ es) ≡ []) × (opens_in c (e ∷ es) ≡ false)
both_lines c e es one more = (rw (one.0) (more.0), or_both (is_opened c e) (opens_in c es) one.1 more.1)

none_of_lines : (c : ℕ) (asks : List Ask) (es : List Entry) → AreEntriesOf asks es → (heards c es ≡ []) × (opens_in c es ≡ false)
none_of_lines c [] [] h = (refl, refl)
none_of_lines c [] (e ∷ es) h = absurd h
none_of_lines c (a ∷ asks) [] h = absurd h
none_of_lines c (a ∷ asks) (e ∷ es) h = both_lines c e es (line_entry c a e h.0) (none_of_lines c asks es h.1)

other_heards : (c d : ℕ) (inputs : List Input) → (d == c) ≡ false → heards c (map (entries.Heard d) inputs) ≡ []
other_heards c d [] e = refl
other_heards c d (i ∷ inputs) e = rw e (other_heards c d inputs e)

own_heards : (c d : ℕ) (inputs : List Input) → (d == c) ≡ true → heards c (map (entries.Heard d) inputs) ≡ inputs
own_heards c d [] e = refl
own_heards c d (i ∷ inputs) e = rw e (ap (λ (is : List Input). i ∷ is) (own_heards c d inputs e))

opens_none : (c d : ℕ) (inputs : List Input) → opens_in c (map (entries.Heard d) inputs) ≡ false
opens_none c d [] = refl
opens_none c d (i ∷ inputs) = opens_none c d inputs

-- bytes come on this connection, or it is opened
abbrev pub concerns : ℕ → BoardTurn → Bool
concerns c (turn.Opened d) = d == c
concerns c (turn.Bytes d n) = d == c
concerns c t = false

heard_other : (b : Bool) (c d : ℕ) (before : Past) (bytes : List ℕ) (after : Past) (own : List Entry) → AreHeard b d before bytes after own → (d == c) ≡ false
    → (heards c own ≡ []) × (opens_in c own ≡ false)
heard_other true c d before bytes after own h e = (rw (h.entries_are) (other_heards c d h.inputs e), rw (h.entries_are) (opens_none c d h.inputs))
heard_other false c d before bytes after own h e = (rw h refl, rw h refl)

-- a turn of another connection, or of none
untouched : (c : ℕ) (before : Past) (t : BoardTurn) (bytes : List ℕ) (after : Past) (own : List Entry) → Asks before t bytes after own → concerns c t ≡ false
    → (heards c own ≡ []) × (opens_in c own ≡ false)
untouched c before (turn.Opened d) bytes after own h e = (rw h refl, rw h (or_both (d == c) false e refl))
untouched c before (turn.Bytes d n) bytes after own h e = heard_other (is_open d before) c d before bytes after own h e
untouched c before (turn.Closed d) bytes after own h e = (rw h refl, rw h refl)
untouched c before (turn.Broken d) bytes after own h e = (rw h refl, rw h refl)
untouched c before (turn.Control n) bytes after own h e = none_of_lines c _ own h
untouched c before turn.Idle bytes after own h e = (rw h refl, rw h refl)
untouched c before turn.End bytes after own h e = none_of_lines c _ own h
untouched c before turn.Failed bytes after own h e = absurd h
untouched c before turn.NoMemory bytes after own h e = absurd h

pub came_other : (c : ℕ) (t : BoardTurn) (bytes before : List ℕ) → concerns c t ≡ false → came_by c (acts.Gives t bytes) before ≡ before
came_other c (turn.Opened d) bytes before e = rw e refl
came_other c (turn.Bytes d n) bytes before e = rw e refl
came_other c t bytes before e = refl

-- ---- one part

abbrev behind : Past → BoardTurn → List ℕ → Past → Past
behind before t bytes done = done ++ Does (acts.Gives t bytes) ∷ before

open_is : (c : ℕ) (past : Past) → was_accepted c past ≡ true → is_over c past ≡ false → is_open c past ≡ true
open_is c past a o = and_is (was_accepted c past) (not (is_over c past)) a (is_not (is_over c past) o)
  where
    and_is : (a b : Bool) → a ≡ true → b ≡ true → (a && b) ≡ true
    and_is true b e f = f
    and_is false b e f = e

over_before : (c : ℕ) (before : Past) (t : BoardTurn) (bytes : List ℕ) (done : Past) → is_open c (behind before t bytes done) ≡ true → is_over c before ≡ false
over_before c before t bytes done o =
    or_right (is_over c done) (is_over c before)
    (sym (list_any-append (ends c) done (Does (acts.Gives t bytes) ∷ before))
    ∙ not_is (is_over c (behind before t bytes done)) (and_right (was_accepted c (behind before t bytes done)) (not (is_over c (behind before t bytes done))) o))

open_before : (c : ℕ) (before : Past) (t : BoardTurn) (bytes : List ℕ) (done : Past) → opens_in c (own_of done) ≡ false → is_open c (behind before t bytes done) ≡ true
    → is_open c before ≡ true
open_before c before t bytes done none o =
    open_is c before
    (or_other (list_any (opens c) done) (was_accepted c before) (accepted_on c done none)
    (sym (list_any-append (opens c) done (Does (acts.Gives t bytes) ∷ before))
    ∙ and_left (was_accepted c (behind before t bytes done)) (not (is_over c (behind before t bytes done))) o))
    (over_before c before t bytes done o)

inputs_behind : (c : ℕ) (before : Past) (t : BoardTurn) (bytes : List ℕ) (done : Past) → list_all had_memory done ≡ true
    → inputs_of c (behind before t bytes done) ≡ inputs_of c before ++ heards c (own_of done)
inputs_behind c before t bytes done h =
    inputs_on c done (Does (acts.Gives t bytes) ∷ before) h ∙ ap (λ (xs : List Input). xs ++ heards c (own_of done)) (append-nil (inputs_of c before))

same_inputs : (c : ℕ) (before : Past) (t : BoardTurn) (bytes : List ℕ) (done : Past) → list_all had_memory done ≡ true → heards c (own_of done) ≡ []
    → inputs_of c (behind before t bytes done) ≡ inputs_of c before
same_inputs c before t bytes done h none =
    inputs_behind c before t bytes done h ∙ ap (λ (xs : List Input). inputs_of c before ++ xs) none ∙ append-nil (inputs_of c before)

heard_same : (c : ℕ) (old new : Past) → inputs_of c new ≡ inputs_of c old → bytes_of c new ≡ bytes_of c old → IsHeardOut c old → IsHeardOut c new
heard_same c old new e f h = record {
  rest = h.rest;
  cut = subst (λ (is : List Input). AreCut 0 is (bytes_of c new) h.rest) (sym e) (subst (λ (bs : List ℕ). AreCut 0 (inputs_of c old) bs h.rest) (sym f) h.cut);
  no_more = h.no_more;
}

abbrev Unheard : ℕ → Past → Type 0
Unheard c past = was_opened c (acts_of past) ≡ false → (inputs_of c past ≡ []) × (was_accepted c past ≡ false)

stays : (c : ℕ) (before : Past) (t : BoardTurn) (bytes : List ℕ) (done : Past) → list_all had_memory done ≡ true → list_all is_quiet done ≡ true
    → concerns c t ≡ false → (heards c (own_of done) ≡ []) × (opens_in c (own_of done) ≡ false) → (is_open c before ≡ true → IsHeardOut c before)
    → is_open c (behind before t bytes done) ≡ true → IsHeardOut c (behind before t bytes done)
stays c before t bytes done m q e none go o =
    heard_same c before (behind before t bytes done) (same_inputs c before t bytes done m none.0)
    (bytes_on c done (Does (acts.Gives t bytes) ∷ before) q ∙ came_other c t bytes (bytes_of c before) e)
    (go (open_before c before t bytes done none.1 o))

opening : (c d : ℕ) (before : Past) (bytes : List ℕ) (done : Past) → own_of done ≡ entries.Open d ∷ [] → list_all had_memory done ≡ true → list_all is_quiet done ≡ true
    → was_opened d (acts_of before) ≡ false → Unheard c before → (d == c) ≡ true → IsHeardOut c (behind before (turn.Opened d) bytes done)
opening c d before bytes done own m q anew unheard e = record {
  rest = [];
  cut = subst (λ (is : List Input). AreCut 0 is (bytes_of c (behind before (turn.Opened d) bytes done)) [])
      (sym (same_inputs c before (turn.Opened d) bytes done m (rw own refl) ∙ (unheard (subst (λ n. was_opened n (acts_of before) ≡ false) (eqb-true d c e) anew)).0))
      (sym (bytes_on c done (Does (acts.Gives (turn.Opened d) bytes) ∷ before) q ∙ reset));
  no_more = NoHeader refl;
}
  where
    reset : came_by c (acts.Gives (turn.Opened d) bytes) (bytes_of c before) ≡ []
    reset = rw e refl

hearing : (b : Bool) (c n : ℕ) (before : Past) (bytes : List ℕ) (done : Past) → is_open c before ≡ b
    → AreHeard b c before bytes (behind before (turn.Bytes c n) bytes done) (own_of done) → list_all had_memory done ≡ true → list_all is_quiet done ≡ true
    → (c == c) ≡ true → is_open c (behind before (turn.Bytes c n) bytes done) ≡ true → IsHeardOut c (behind before (turn.Bytes c n) bytes done)
hearing false c n before bytes done f h m q e o =
    absurd (clash (is_open c before) f (open_before c before (turn.Bytes c n) bytes done (rw h refl) o))
  where
    clash : (b : Bool) → b ≡ false → b ≡ true → ⊥
    clash true x y = absurd (cc)
    clash false x y = absurd (cc)
hearing true c n before bytes done f h m q e o = record {
  rest = h.rest;
  cut = subst (λ (is : List Input). AreCut 0 is (bytes_of c (behind before (turn.Bytes c n) bytes done)) h.rest)
      (sym (inputs_behind c before (turn.Bytes c n) bytes done m ∙ ap (λ (is : List Input). inputs_of c before ++ is) heard))
      (subst (λ (bs : List ℕ). AreCut 0 (inputs_of c before ++ h.inputs) bs h.rest) (sym (bytes_on c done (Does (acts.Gives (turn.Bytes c n) bytes) ∷ before) q ∙ more)) h.cut);
  no_more = ⊎_elim (λ over. absurd (clash (is_over c (behind before (turn.Bytes c n) bytes done)) not_over over)) (λ r. r) h.up_to;
}
  where
    clash : (b : Bool) → b ≡ false → b ≡ true → ⊥
    clash true x y = absurd (cc)
    clash false x y = absurd (cc)

    heard : heards c (own_of done) ≡ h.inputs
    heard = rw (h.entries_are) (own_heards c c h.inputs e)

    more : came_by c (acts.Gives (turn.Bytes c n) bytes) (bytes_of c before) ≡ bytes_of c before ++ bytes
    more = rw e refl

    not_over : is_over c (behind before (turn.Bytes c n) bytes done) ≡ false
    not_over = not_is (is_over c (behind before (turn.Bytes c n) bytes done)) (and_right (was_accepted c (behind before (turn.Bytes c n) bytes done)) (not (is_over c (behind before (turn.Bytes c n) bytes done))) o)

step : (c : ℕ) (before : Past) (t : BoardTurn) (bytes : List ℕ) (done : Past) → Asks before t bytes (behind before t bytes done) (own_of done)
    → list_all had_memory done ≡ true → list_all is_quiet done ≡ true → OpensAnew t (acts_of before) → Unheard c before → (is_open c before ≡ true → IsHeardOut c before)
    → is_open c (behind before t bytes done) ≡ true → IsHeardOut c (behind before t bytes done)
step c before (turn.Opened d) bytes done asks m q anew unheard go o =
    ⊎_elim (λ e. opening c d before bytes done asks m q anew unheard e)
    (λ e. stays c before (turn.Opened d) bytes done m q e (untouched c before (turn.Opened d) bytes (behind before (turn.Opened d) bytes done) (own_of done) asks e) go o)
    (cases_Bool (d == c))
step c before (turn.Bytes d n) bytes done asks m q anew unheard go o =
    ⊎_elim (λ e. of_it d (eqb-true d c e) e asks o)
    (λ e. stays c before (turn.Bytes d n) bytes done m q e (untouched c before (turn.Bytes d n) bytes (behind before (turn.Bytes d n) bytes done) (own_of done) asks e) go o)
    (cases_Bool (d == c))
  where
    of_it : (x : ℕ) → x ≡ c → (x == c) ≡ true → AreHeard (is_open x before) x before bytes (behind before (turn.Bytes x n) bytes done) (own_of done)
        → is_open c (behind before (turn.Bytes x n) bytes done) ≡ true → IsHeardOut c (behind before (turn.Bytes x n) bytes done)
    of_it x same = subst (λ y. (y == c) ≡ true → AreHeard (is_open y before) y before bytes (behind before (turn.Bytes y n) bytes done) (own_of done)
        → is_open c (behind before (turn.Bytes y n) bytes done) ≡ true → IsHeardOut c (behind before (turn.Bytes y n) bytes done)) (sym same)
        (λ e h w. hearing (is_open c before) c n before bytes done refl h m q e w)
step c before t bytes done asks m q anew unheard go o =
    stays c before t bytes done m q refl (untouched c before t bytes (behind before t bytes done) (own_of done) asks refl) go o

-- ---- all parts

opened_ahead : (c : ℕ) (done ahead : Past) → was_opened c (acts_of (done ++ ahead)) ≡ false → was_opened c (acts_of ahead) ≡ false
opened_ahead c [] ahead f = f
opened_ahead c (d ∷ done) ahead f =
    opened_ahead c done ahead
    (or_left (was_opened c (acts_of (done ++ ahead))) (was_opened c (act_in d)) (sym (list_any-append (is_opening c) (acts_of (done ++ ahead)) (act_in d)) ∙ f))

heard_closed : (b : Bool) (d : ℕ) (before : Past) (bytes : List ℕ) (after : Past) (own : List Entry) → b ≡ false → AreHeard b d before bytes after own → own ≡ []
heard_closed true d before bytes after own f h = absurd (cc)
heard_closed false d before bytes after own f h = h

none_own : (c : ℕ) (own : List Entry) → own ≡ [] → (heards c own ≡ []) × (opens_in c own ≡ false)
none_own c own e = (rw e refl, rw e refl)

quiet_turn : (c : ℕ) (before : Past) (t : BoardTurn) (bytes : List ℕ) (after : Past) (own : List Entry) → Asks before t bytes after own
    → is_opening c (acts.Gives t bytes) ≡ false → is_open c before ≡ false → (heards c own ≡ []) × (opens_in c own ≡ false)
quiet_turn c before (turn.Opened d) bytes after own h here closed = untouched c before (turn.Opened d) bytes after own h here
quiet_turn c before (turn.Bytes d n) bytes after own h here closed =
    ⊎_elim
    (λ e. none_own c own (heard_closed (is_open d before) d before bytes after own (subst (λ x. is_open x before ≡ false) (sym (eqb-true d c e)) closed) h))
    (λ e. untouched c before (turn.Bytes d n) bytes after own h e)
    (cases_Bool (d == c))
quiet_turn c before t bytes after own h here closed = untouched c before t bytes after own h refl

not_accepted : (c : ℕ) (past : Past) → was_accepted c past ≡ false → is_open c past ≡ false
not_accepted c past a = and_none (was_accepted c past) (not (is_over c past)) a
  where
    and_none : (a b : Bool) → a ≡ false → (a && b) ≡ false
    and_none true b e = absurd (cc)
    and_none false b e = refl

later_facts : (c : ℕ) (before : Past) (t : BoardTurn) (bytes : List ℕ) (done : Past) → list_all had_memory done ≡ true
    → (inputs_of c before ≡ []) × (was_accepted c before ≡ false) → (heards c (own_of done) ≡ []) × (opens_in c (own_of done) ≡ false)
    → (inputs_of c (behind before t bytes done) ≡ []) × (was_accepted c (behind before t bytes done) ≡ false)
later_facts c before t bytes done m was none = (
  same_inputs c before t bytes done m none.0 ∙ was.0,
  list_any-append (opens c) done (Does (acts.Gives t bytes) ∷ before) ∙ or_both (list_any (opens c) done) (was_accepted c before) (accepted_on c done none.1) was.1,
)

given_none : (c : ℕ) (before : Past) (t : BoardTurn) (bytes : List ℕ) → was_opened c (acts_of (Does (acts.Gives t bytes) ∷ before)) ≡ false
    → (was_opened c (acts_of before) ≡ false) × (is_opening c (acts.Gives t bytes) ≡ false)
given_none c before t bytes f = (
  or_left (was_opened c (acts_of before)) (is_opening c (acts.Gives t bytes) || false) (sym (list_any-append (is_opening c) (acts_of before) (acts.Gives t bytes ∷ [])) ∙ f),
  or_left (is_opening c (acts.Gives t bytes)) false
      (or_right (was_opened c (acts_of before)) (is_opening c (acts.Gives t bytes) || false) (sym (list_any-append (is_opening c) (acts_of before) (acts.Gives t bytes ∷ [])) ∙ f)),
)

later : (c : ℕ) (before : Past) (t : BoardTurn) (bytes : List ℕ) (done : Past) → Asks before t bytes (behind before t bytes done) (own_of done)
    → list_all had_memory done ≡ true → Unheard c before → Unheard c (behind before t bytes done)
later c before t bytes done asks m unheard f =
    later_facts c before t bytes done m (unheard (given_none c before t bytes (opened_ahead c done (Does (acts.Gives t bytes) ∷ before) f)).0)
    (quiet_turn c before t bytes (behind before t bytes done) (own_of done) asks (given_none c before t bytes (opened_ahead c done (Does (acts.Gives t bytes) ∷ before) f)).1
    (not_accepted c before (unheard (given_none c before t bytes (opened_ahead c done (Does (acts.Gives t bytes) ∷ before) f)).0).1))

first_none : (g : Given) (first : Past) → AreParts g first [] → (c : ℕ) → (heards c (own_of first) ≡ []) × (opens_in c (own_of first) ≡ false)
first_none g first is c = none_of_lines c (ahead_of_refused (script_asks g.first_line g.script)) (own_of first) is.scripted.asked

none_before : (g : Given) (first : Past) (parts : List Part) → AreParts g first parts → (c : ℕ) → Unheard c (deeds_of first parts)
none_before g first [] is c f =
    (ap (inputs_of c) (sym (append-nil first)) ∙ inputs_on c first [] is.scripted.memory ∙ (first_none g first is c).0, accepted_on c first (first_none g first is c).1)
none_before g first (p ∷ ahead) are c f =
    later c (deeds_of first ahead) p.given p.bytes p.done are.0.asked.asked are.0.asked.memory (none_before g first ahead are.1 c) f

no_clash : (b : Bool) → b ≡ false → b ≡ true → ⊥
no_clash true x y = absurd (cc)
no_clash false x y = absurd (cc)

pub heard_is_cut : HeardIsCut
heard_is_cut g first [] is cut once c o = absurd (no_clash (is_open c first) (not_accepted c first (accepted_on c first (first_none g first is c).1)) o)
heard_is_cut g first (p ∷ ahead) are cut once c o =
    step c (deeds_of first ahead) p.given p.bytes p.done are.0.asked.asked are.0.asked.memory cut.0 once.0 (none_before g first ahead are.1 c)
    (heard_is_cut g first ahead are.1 cut.1 once.1 c) o
