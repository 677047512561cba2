-- The session at the place of a connection: where it stands, what a change or its removal makes of the state, and of the lines that are due.
use Rattle.std.proofs.Common.{◌≡◌, ℕ, suc, ◌+◌, ◌*◌, ◌<◌, ◌≤◌, Bool, true, false, cond, eqb, List, [], ◌∷◌, ◌++◌, length, get_or, set, take, drop, map, Option, Some, None, refl, sym, ap, ◌∙◌, subst, arith}
use Rattle.std.specs.Option.{MatchOption, option_map}
use Rattle.std.specs.List.{AllPairs, position, remove, slice_get, sum_by}
use Rattle.std.proofs.lemmas.Bool.{and_parts, eqb-true, false≢true}
use Rattle.std.proofs.lemmas.List.{get_or-map, length-map, map-append, map-set, take-map, drop-map}
use Rattle.std.proofs.lemmas.List.Recursion.{is_sum_by}
use Rattle.std.proofs.lemmas.List.Sums.{sum_by-set, sum_by-remove, sum_by_push}
use Rattle.std.proofs.lemmas.Option.{get_or_from_slice_get, slice_get-map, slice_get_within}
use Rattle.machine_parts.specs.declared.connection.Connection.{Connection}
use Rattle.machine_steps.specs.Machine.{Session, State, is_open, is_of, session_at, with_session, without_session}
use Rattle.machine_parts.specs.Finding.{IsKeptAt, is_kept}
use Rattle.machine_steps.specs.Places.{IsAt}
use Rattle.machine_parts.specs.Sessions.{session_of, due, due_all}
use Rattle.machine_steps.specs.Sound.{AreOthers}
use Rattle.machine_steps.specs.Steps.{kept_at}
use Rattle.machine_parts.proofs.Keyed.{Apart, found_by_key, set_by_key, remove_by_key, first_there, position_of_map, find_passes}

-- ---- lines that are due

small : (b ready quiet : Bool) → cond b (2 + cond ready 0 1 + cond quiet 0 2) 0 ≤ 5
small true true true = omega arith
small true true false = omega arith
small true false true = omega arith
small true false false = omega arith
small false ready quiet = omega arith

pub due_small : (s : Session) → due s ≤ 5
due_small s = small (is_open s) s.ready s.quiet

open_due : (b ready quiet : Bool) → b ≡ true → 2 ≤ cond b (2 + cond ready 0 1 + cond quiet 0 2) 0
open_due true ready quiet h = omega arith
open_due false ready quiet h = absurd (false≢true h)

-- an open session may still bring two lines, error and closed
pub due_open : (s : Session) → is_open s ≡ true → 2 ≤ due s
due_open s h = open_due (is_open s) s.ready s.quiet h

pub due_most : (ss : List Session) → due_all ss ≤ 5 * length ss
due_most [] = omega arith
due_most (s ∷ ss) = omega (arith, due_small s, due_most ss)

due_sum : (ss : List Session) → due_all ss ≡ sum_by due ss
due_sum = is_sum_by due_all due refl (λ _ _. refl)

pub due_push : (ss : List Session) (s : Session) → due_all (ss ++ s ∷ []) ≡ due_all ss + due s
due_push ss s = due_sum (ss ++ s ∷ []) ∙ sum_by_push due ss s ∙ ap (λ n. n + due s) (sym (due_sum ss))

due-set : (ss : List Session) (at : ℕ) (s t : Session) → at < length ss → get_or ss at t ≡ s → due_all (set ss at t) + due s ≡ due_all ss + due t
due-set ss at s t lt here = omega (arith, due_sum (set ss at t), due_sum ss, sum_by-set due ss at t t lt, ap due here)

due-remove : (ss : List Session) (at : ℕ) (s d : Session) → at < length ss → get_or ss at d ≡ s → due_all (remove ss at) + due s ≡ due_all ss
due-remove ss at s d lt here = omega (arith, due_sum (remove ss at), due_sum ss, sum_by-remove due ss at d lt, ap due here)

-- ---- the session at a place

-- the place has a session of a connection
pub record StandsAt (m : State) (c at : ℕ) (s : Session) : Type 0 where
  pub there : slice_get m.sessions at ≡ Some s
  pub of : s.connection ≡ c

is_of_parts : (c : ℕ) (s : Session) → is_of c s ≡ true → (s.connection ≡ c) × (is_open s ≡ true)
is_of_parts c s h = let p = and_parts (eqb s.connection c) (is_open s) h in (eqb-true _ _ p.0, p.1)

pub stands : (m : State) (c at : ℕ) (is : IsAt c at m) → StandsAt m c at is.session
stands m c at is = record { there = is.there; of = (is_of_parts c is.session (find_passes (is_of c) m.sessions is.session is.found)).0 }

pub is_open_at : (m : State) (c at : ℕ) (is : IsAt c at m) → is_open is.session ≡ true
is_open_at m c at is = (is_of_parts c is.session (find_passes (is_of c) m.sessions is.session is.found)).1

apart : (ss : List Session) → AllPairs AreOthers ss → Apart (λ (s : Session). s.connection) ss
apart ss others i j d lt in' = (others i j d lt in').connections

map-remove : (xs : List Connection) (at : ℕ) → map session_of (remove xs at) ≡ remove (map session_of xs) at
map-remove xs at =
    map-append session_of (take at xs) (drop (suc at) xs)
    ∙ ap (λ ys. ys ++ map session_of (drop (suc at) xs)) (sym (take-map session_of at xs))
    ∙ ap (λ ys. take at (map session_of xs) ++ ys) (sym (drop-map session_of (suc at) xs))

-- the connections that are kept, seen as the state's sessions
module _ (xs : List Connection) (m : State) (are : map session_of xs ≡ m.sessions) (c at : ℕ) (s : Session) (is : StandsAt m c at s) where
  within_state : at < length m.sessions
  within_state = slice_get_within m.sessions at s is.there

  pub within : at < length xs
  within = omega (arith, within_state, ap length are, length-map xs session_of)

  at_state : (d : Session) → get_or m.sessions at d ≡ s
  at_state d = get_or_from_slice_get m.sessions at s d is.there

  pub here : (d : Connection) → session_of (get_or xs at d) ≡ s
  here d = sym (get_or-map session_of xs at d (session_of d) within) ∙ ap (λ ss. get_or ss at (session_of d)) are ∙ at_state (session_of d)

  -- one of the same connection is put there
  pub changed : AllPairs AreOthers m.sessions → (t : Connection) → (session_of t).connection ≡ c → map session_of (set xs at t) ≡ (with_session (session_of t) m).sessions
  changed others t of =
      map-set session_of xs at t ∙ ap (λ ss. set ss at (session_of t)) are
      ∙ sym (set_by_key (λ (u : Session). u.connection) m.sessions at (session_of t) within_state (apart m.sessions others) (ap (λ (u : Session). u.connection) (at_state (session_of t)) ∙ is.of ∙ sym of))

  pub due_changed : (t : Connection) → due_all (map session_of (set xs at t)) + due s ≡ due_all (map session_of xs) + due (session_of t)
  due_changed t =
      ap (λ ss. due_all ss + due s) (map-set session_of xs at t ∙ ap (λ ss. set ss at (session_of t)) are)
      ∙ due-set m.sessions at s (session_of t) within_state (at_state (session_of t)) ∙ ap (λ ss. due_all ss + due (session_of t)) (sym are)

  -- it is removed
  pub removed : AllPairs AreOthers m.sessions → map session_of (remove xs at) ≡ (without_session c m).sessions
  removed others =
      map-remove xs at ∙ ap (λ ss. remove ss at) are
      ∙ sym (remove_by_key (λ (u : Session). u.connection) c m.sessions at within_state (apart m.sessions others) (λ d. ap (λ (u : Session). u.connection) (at_state d) ∙ is.of))

  pub due_removed : due_all (map session_of (remove xs at)) + due s ≡ due_all (map session_of xs)
  due_removed =
      ap (λ ss. due_all ss + due s) (map-remove xs at ∙ ap (λ ss. remove ss at) are)
      ∙ due-remove m.sessions at s s within_state (at_state s) ∙ ap due_all (sym are)

-- the place that is looked for
seen_as : (m : State) (c : ℕ) (o : Option ℕ) → MatchOption o (session_at c m ≡ None) (λ i. (s : Session) × (slice_get m.sessions i ≡ Some s) × (session_at c m ≡ Some s)) → MatchOption o (session_at c m ≡ None) (λ at. IsAt c at m)
seen_as m c None h = h
seen_as m c (Some at) h = record { session = h.0; there = h.1; found = h.2 }

pub place_is : (xs : List Connection) (m : State) (are : map session_of xs ≡ m.sessions) (c : ℕ) → MatchOption (position (λ (k : Connection). is_of c (session_of k)) xs) (session_at c m ≡ None) (λ at. IsAt c at m)
place_is xs m are c =
    subst (λ o. MatchOption o (session_at c m ≡ None) (λ at. IsAt c at m))
    (sym (position_of_map (is_of c) session_of xs ∙ ap (position (is_of c)) are))
    (seen_as m c (position (is_of c) m.sessions) (first_there (is_of c) m.sessions))

kept_as : (m : State) (c : ℕ) (o : Option ℕ) → MatchOption o (kept_at c m ≡ None) (λ i. (s : Session) × (slice_get m.sessions i ≡ Some s) × (kept_at c m ≡ Some s)) → MatchOption o (kept_at c m ≡ None) (λ at. IsKeptAt c at m)
kept_as m c None h = h
kept_as m c (Some at) h = record { session = h.0; there = h.1; found = h.2 }

pub kept_place_is : (xs : List Connection) (m : State) (are : map session_of xs ≡ m.sessions) (c : ℕ) → MatchOption (position (λ (k : Connection). is_kept c (session_of k)) xs) (kept_at c m ≡ None) (λ at. IsKeptAt c at m)
kept_place_is xs m are c =
    subst (λ o. MatchOption o (kept_at c m ≡ None) (λ at. IsKeptAt c at m))
    (sym (position_of_map (is_kept c) session_of xs ∙ ap (position (is_kept c)) are))
    (kept_as m c (position (is_kept c) m.sessions) (first_there (is_kept c) m.sessions))

pub stands_kept : (m : State) (c at : ℕ) (is : IsKeptAt c at m) → StandsAt m c at is.session
stands_kept m c at is = record { there = is.there; of = eqb-true _ _ (find_passes (is_kept c) m.sessions is.session is.found) }

-- a connection of this number stands at this place, and no other has it
pub kept_there : (xs : List Connection) (m : State) (are : map session_of xs ≡ m.sessions) → AllPairs AreOthers m.sessions → (c at : ℕ) (k : Connection) → slice_get xs at ≡ Some k → (session_of k).connection ≡ c → IsKeptAt c at m
kept_there xs m are others c at k at_place of =
    let there = sym (ap (λ ss. slice_get ss at) are) ∙ slice_get-map session_of xs at ∙ ap (option_map session_of) at_place in
    let s = session_of k in
    let is = get_or_from_slice_get m.sessions at s s there in
    record {
      session = s;
      there = there;
      found = found_by_key (λ (u : Session). u.connection) c m.sessions at s (slice_get_within m.sessions at s there) (apart m.sessions others) (ap (λ (u : Session). u.connection) is ∙ of) ∙ ap (λ u. Some u) is;
    }
