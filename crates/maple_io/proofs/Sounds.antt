-- What each call of a board over memory leaves of what is true of it.
use Rattle.std.proofs.Common.{◌≡◌, ℕ, Bool, true, false, cond, List, [], ◌∷◌, ◌++◌, append-nil, length, refl, sym, ap, ◌∙◌, subst, take, drop, min, map, arith}
use Rattle.std.proofs.lemmas.Bool.Decides.{nat_tests}
use Rattle.std.proofs.lemmas.Grind.{flat_map-append}
use Rattle.std.specs.Prelude.{◌==◌, ◌||◌, ◌&&◌, not}
use Rattle.std.specs.List.{flat_map}
use Rattle.maple_io.specs.declared.act.Act.{Act}
use Rattle.maple_io.specs.declared.act.Act.TheVariants as acts
use Rattle.maple_io.specs.declared.board.Turn.{Turn}
use Rattle.maple_io.specs.declared.board.Turn.TheVariants as turns
use Rattle.maple_io.specs.declared.board.Sent.{Sent}
use Rattle.maple_io.specs.declared.kept.Link.{Link}
use Rattle.maple_io.specs.declared.kept.Taken.{Taken}
use Rattle.maple_io.specs.declared.mem_board.MemTurn.{MemTurn}
use Rattle.maple_io.specs.declared.mem_board.MemTurn.TheVariants as coming
use Rattle.maple_io.specs.Boards.{is_closing, is_opening, sent, sent_in, was_closed, was_opened}
use Rattle.maple_io.specs.Turns.{OpensAnew, given_acts}
use Rattle.maple_io.specs.Schedules.{left_behind, next_turn, open_once, opens, opens_in}
use Rattle.maple_io.specs.Kept.{IsSound, has_link, is_closed, marked, taken_for}
use Rattle.maple_io.proofs.Giving.{Fit, shrinks}
use Rattle.maple_io.proofs.Links.{closed_behind, links_behind}
use Rattle.maple_io.proofs.Logged.{closed_more, not_closed, not_opened, opened_more, sent_more}

-- ---- an act that gives no turn

-- it opens and closes nothing, and takes these bytes
pub keeps_on : (left : List MemTurn) (taken more : List Taken) (links : List Link) (log new : List Act) (a : Act)
    → ((c : ℕ) → is_opening c a ≡ false) → ((c : ℕ) → is_closing c a ≡ false) → ((c : ℕ) → flat_map (taken_for c) more ≡ flat_map (taken_for c) taken ++ sent_in c a)
    → new ≡ log ++ a ∷ [] → IsSound left taken links log → IsSound left more links new
keeps_on left taken more links log new a opening closing sending e s = record {
  pieces = s.pieces;
  once = s.once;
  anew = λ c h. ap (was_opened c) e ∙ not_opened c log a (opening c) ∙ s.anew c h;
  sent_is = λ c. ap (sent c) e ∙ sent_more c log a ∙ ap (λ b. b ++ sent_in c a) (s.sent_is c) ∙ sym (sending c);
  closed_is = λ c. ap (was_closed c) e ∙ not_closed c log a (closing c) ∙ s.closed_is c;
  linked = λ c. s.linked c ∙ ap (λ b. b || opens_in c left) (sym (ap (was_opened c) e ∙ not_opened c log a (opening c)));
}

-- it closes a connection
pub closes : (left : List MemTurn) (taken : List Taken) (links now : List Link) (log new : List Act) (k : ℕ)
    → was_opened k log ≡ true → now ≡ map (marked k) links → new ≡ log ++ acts.Closes k ∷ [] → IsSound left taken links log → IsSound left taken now new
closes left taken links now log new k opened e f s = record {
  pieces = s.pieces;
  once = s.once;
  anew = λ c h. ap (was_opened c) f ∙ not_opened c log (acts.Closes k) refl ∙ s.anew c h;
  sent_is = λ c. ap (sent c) f ∙ sent_more c log (acts.Closes k) ∙ append-nil (sent c log) ∙ s.sent_is c;
  closed_is = λ c. ap (was_closed c) f ∙ closed_more c log (acts.Closes k) ∙ go c (k == c) refl ∙ sym (closed_behind k c links now e);
  linked = λ c. links_behind k c links now e ∙ s.linked c ∙ ap (λ b. b || opens_in c left) (sym (ap (was_opened c) f ∙ not_opened c log (acts.Closes k) refl));
}
  where
    or_false : (a b : Bool) → (a || (b || false)) ≡ (a || b)
    or_false true b = refl
    or_false false true = refl
    or_false false false = refl

    go : (c : ℕ) (b : Bool) → (k == c) ≡ b → (was_closed c log || (b || false)) ≡ (is_closed c links || (b && has_link c links))
    go c true e = let is : k ≡ c = grind (arith, nat_tests) in
        or_false (was_closed c log) true ∙ ap (λ x. x || true) (s.closed_is c) ∙ ap (λ x. is_closed c links || x) (sym (s.linked c ∙ ap (λ b. b || opens_in c left) (subst (λ n. was_opened n log ≡ true) is opened)))
    go c false e = ap (λ x. x || false) (s.closed_is c)

abbrev nothing : List ℕ
nothing = []

none_either : (b : Bool) → cond b nothing nothing ≡ nothing
none_either true = refl
none_either false = refl

pub sends_none : (c d : ℕ) (answer : Sent) (taken : List Taken) → flat_map (taken_for d) taken ≡ flat_map (taken_for d) taken ++ sent_in d (acts.Takes c [] answer)
sends_none c d answer taken = sym (ap (λ (b : List ℕ). flat_map (taken_for d) taken ++ b) (none_either (c == d)) ∙ append-nil (flat_map (taken_for d) taken))

pub sends_more : (c d n : ℕ) (piece : List ℕ) (answer : Sent) (taken more : List Taken) → take n piece ≡ piece → more ≡ taken ++ (record { connection = c; bytes = piece }) ∷ [] → flat_map (taken_for d) more ≡ flat_map (taken_for d) taken ++ sent_in d (acts.Takes c (take n piece) answer)
sends_more c d n piece answer taken more e f =
    ap (flat_map (taken_for d)) f ∙ flat_map-append (taken_for d) taken ((record { connection = c; bytes = piece }) ∷ []) ∙ ap (λ (b : List ℕ). flat_map (taken_for d) taken ++ b) (append-nil (cond (c == d) piece []) ∙ ap (λ (p : List ℕ). cond (c == d) p []) (sym e))

-- ---- a turn

-- one that opens nothing
gives_other : (left rest : List MemTurn) (taken : List Taken) (links : List Link) (log new : List Act) (t : Turn) (bytes : List ℕ)
    → Fit rest → ((c : ℕ) → opens_in c left ≡ opens_in c rest) → ((c : ℕ) → is_opening c (acts.Gives t bytes) ≡ false) → new ≡ log ++ acts.Gives t bytes ∷ []
    → IsSound left taken links log → IsSound rest taken links new
gives_other left rest taken links log new t bytes r same opening e s =
    let a : Act = acts.Gives t bytes in
    record {
      pieces = r.pieces;
      once = r.once;
      anew = λ c h. ap (was_opened c) e ∙ not_opened c log a (opening c) ∙ s.anew c (same c ∙ h);
      sent_is = λ c. ap (sent c) e ∙ sent_more c log a ∙ append-nil (sent c log) ∙ s.sent_is c;
      closed_is = λ c. ap (was_closed c) e ∙ not_closed c log a refl ∙ s.closed_is c;
      linked = λ c. s.linked c ∙ ap (λ b. was_opened c log || b) (same c) ∙ ap (λ b. b || opens_in c rest) (sym (ap (was_opened c) e ∙ not_opened c log a (opening c)));
    }

-- one that opens a connection
gives_opened : (k : ℕ) (rest : List MemTurn) (taken : List Taken) (links : List Link) (log new : List Act) (bytes : List ℕ)
    → Fit rest → opens_in k rest ≡ false → new ≡ log ++ acts.Gives (turns.Opened k) bytes ∷ []
    → IsSound (coming.Opened k ∷ rest) taken links log → IsSound rest taken links new
gives_opened k rest taken links log new bytes r none f s =
    let a : Act = acts.Gives (turns.Opened k) bytes in
    record {
      pieces = r.pieces;
      once = r.once;
      anew = λ c h. ap (was_opened c) f ∙ opened_more c log a ∙ both_false (was_opened c log) (k == c) (s.anew c (or_right (k == c) (opens_in c rest) h)) (apart c h (k == c) refl);
      sent_is = λ c. ap (sent c) f ∙ sent_more c log a ∙ append-nil (sent c log) ∙ s.sent_is c;
      closed_is = λ c. ap (was_closed c) f ∙ not_closed c log a refl ∙ s.closed_is c;
      linked = λ c. s.linked c ∙ regroup (was_opened c log) (k == c) (opens_in c rest) ∙ ap (λ b. b || opens_in c rest) (sym (ap (was_opened c) f ∙ opened_more c log a));
    }
  where
    both_false : (x y : Bool) → x ≡ false → y ≡ false → (x || (y || false)) ≡ false
    both_false true y g h = g
    both_false false true g h = h
    both_false false false g h = refl

    apart : (c : ℕ) → opens_in c rest ≡ true → (b : Bool) → (k == c) ≡ b → b ≡ false
    apart c has false g = refl
    apart c has true g = let is : k ≡ c = grind (arith, nat_tests) in let both : true ≡ false = sym has ∙ ap (λ n. opens_in n rest) (sym is) ∙ none in absurd (cc)

    or_right : (x y : Bool) → y ≡ true → (x || y) ≡ true
    or_right true y g = refl
    or_right false y g = g

    regroup : (x y z : Bool) → (x || (y || z)) ≡ ((x || (y || false)) || z)
    regroup true y z = refl
    regroup false true z = refl
    regroup false false z = refl

opens_no_more : (b c : Bool) → (not b && c) ≡ true → b ≡ false
opens_no_more true c e = absurd (cc)
opens_no_more false c e = refl

same_cut : (c : ℕ) (b : Bool) (t : MemTurn) (ts : List MemTurn) → opens c t ≡ false → opens_in c ts ≡ opens_in c (cond b [] (t ∷ []) ++ ts)
same_cut c true t ts e = refl
same_cut c false t ts e = sym (ap (λ b. b || opens_in c ts) e)

-- the next one
gives_next : (left : List MemTurn) (taken : List Taken) (links : List Link) (log new : List Act) (room : ℕ) (into : List ℕ)
    → new ≡ log ++ given_acts (next_turn left room) into → IsSound left taken links log → IsSound (left_behind (next_turn left room) left) taken links new
gives_next [] taken links log new room into e s = gives_other [] [] taken links log new turns.End [] (shrinks [] room s.pieces s.once) (λ c. refl) (λ d. refl) e s
gives_next (coming.Opened k ∷ ts) taken links log new room into e s =
    gives_opened k ts taken links log new [] (shrinks (coming.Opened k ∷ ts) room s.pieces s.once) (opens_no_more (opens_in k ts) (open_once ts) s.once) e s
gives_next (coming.Bytes k piece ∷ ts) taken links log new room into e s =
    gives_other (coming.Bytes k piece ∷ ts) (left_behind (turns.Bytes k (min (length piece) room)) (coming.Bytes k piece ∷ ts)) taken links log new (turns.Bytes k (min (length piece) room)) (take (min (length piece) room) into)
    (shrinks (coming.Bytes k piece ∷ ts) room s.pieces s.once)
    (λ c. same_cut c (min (length piece) room == length piece) (coming.Bytes k (drop (min (length piece) room) piece)) ts refl) (λ d. refl) e s
gives_next (coming.Closed k ∷ ts) taken links log new room into e s =
    gives_other (coming.Closed k ∷ ts) ts taken links log new (turns.Closed k) [] (shrinks (coming.Closed k ∷ ts) room s.pieces s.once) (λ c. refl) (λ d. refl) e s
gives_next (coming.Broken k ∷ ts) taken links log new room into e s =
    gives_other (coming.Broken k ∷ ts) ts taken links log new (turns.Broken k) [] (shrinks (coming.Broken k ∷ ts) room s.pieces s.once) (λ c. refl) (λ d. refl) e s
gives_next (coming.Control piece ∷ ts) taken links log new room into e s =
    gives_other (coming.Control piece ∷ ts) (left_behind (turns.Control (min (length piece) room)) (coming.Control piece ∷ ts)) taken links log new (turns.Control (min (length piece) room)) (take (min (length piece) room) into)
    (shrinks (coming.Control piece ∷ ts) room s.pieces s.once)
    (λ c. same_cut c (min (length piece) room == length piece) (coming.Control (drop (min (length piece) room) piece)) ts refl) (λ d. refl) e s
gives_next (coming.Idle ∷ ts) taken links log new room into e s =
    gives_other (coming.Idle ∷ ts) ts taken links log new turns.Idle [] (shrinks (coming.Idle ∷ ts) room s.pieces s.once) (λ c. refl) (λ d. refl) e s
gives_next (coming.End ∷ ts) taken links log new room into e s =
    gives_other (coming.End ∷ ts) ts taken links log new turns.End [] (shrinks (coming.End ∷ ts) room s.pieces s.once) (λ c. refl) (λ d. refl) e s

pub gives : (left after : List MemTurn) (taken : List Taken) (links : List Link) (log new : List Act) (room : ℕ) (t : Turn) (into : List ℕ)
    → t ≡ next_turn left room → after ≡ left_behind t left → new ≡ log ++ given_acts t into → IsSound left taken links log → IsSound after taken links new
gives left after taken links log new room t into e f g s =
    subst (λ l. IsSound l taken links new) (sym (f ∙ ap (λ u. left_behind u left) e)) (gives_next left taken links log new room into (g ∙ ap (λ u. log ++ given_acts u into) e) s)

or_left : (a b : Bool) → a ≡ true → (a || b) ≡ true
or_left true b e = refl
or_left false b e = absurd (cc)

same_number : (c : ℕ) → (c == c) ≡ true
same_number c = grind (arith, nat_tests)

opens_next : (left : List MemTurn) (taken : List Taken) (links : List Link) (log : List Act) (room : ℕ) → IsSound left taken links log → OpensAnew (next_turn left room) log
opens_next [] taken links log room s = tt
opens_next (coming.Opened c ∷ ts) taken links log room s = s.anew c (or_left (c == c) (opens_in c ts) (same_number c))
opens_next (coming.Bytes c piece ∷ ts) taken links log room s = tt
opens_next (coming.Closed c ∷ ts) taken links log room s = tt
opens_next (coming.Broken c ∷ ts) taken links log room s = tt
opens_next (coming.Control piece ∷ ts) taken links log room s = tt
opens_next (coming.Idle ∷ ts) taken links log room s = tt
opens_next (coming.End ∷ ts) taken links log room s = tt

pub opens_anew : (left : List MemTurn) (taken : List Taken) (links : List Link) (log old : List Act) (room : ℕ) (t : Turn) → t ≡ next_turn left room → log ≡ old → IsSound left taken links log → OpensAnew t old
opens_anew left taken links log old room t e f s = subst (OpensAnew t) f (subst (λ u. OpensAnew u log) (sym e) (opens_next left taken links log room s))

by_link : (opened coming : Bool) → (opened || coming) ≡ true → (coming ≡ true → opened ≡ false) → not coming ≡ opened
by_link true true h f = absurd (let no : true ≡ false = f refl in cc)
by_link true false h f = refl
by_link false true h f = refl
by_link false false h f = absurd (cc)

no_link : (opened coming : Bool) → (opened || coming) ≡ false → false ≡ opened
no_link true coming h = absurd (cc)
no_link false coming h = refl

-- a connection with a link was opened, where it is not to come; one without was not
pub linked_opened : (left : List MemTurn) (taken : List Taken) (links : List Link) (log : List Act) (c : ℕ) → IsSound left taken links log → has_link c links ≡ true → not (opens_in c left) ≡ was_opened c log
linked_opened left taken links log c s h = by_link (was_opened c log) (opens_in c left) (sym (s.linked c) ∙ h) (s.anew c)

pub unlinked_opened : (left : List MemTurn) (taken : List Taken) (links : List Link) (log : List Act) (c : ℕ) → IsSound left taken links log → has_link c links ≡ false → false ≡ was_opened c log
unlinked_opened left taken links log c s h = no_link (was_opened c log) (opens_in c left) (sym (s.linked c) ∙ h)
