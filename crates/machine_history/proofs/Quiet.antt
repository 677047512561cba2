-- Where no session becomes quiet.
use Rattle.std.proofs.Common.{◌≡◌, ◌⊎◌, ℕ, Bool, true, false, cond, List, [], ◌∷◌, ◌++◌, refl, sym, ap, ◌∙◌, subst, inl, inr, ⊎_elim}
use Rattle.std.proofs.Math.Bool.{and-false}
use Rattle.std.specs.Prelude.{◌==◌, ◌&&◌, not, map, filter, find, if◌then◌else◌, Contains, Some}
use Rattle.std.specs.List.{AllPairs, list_any}
use Rattle.std.proofs.lemmas.Bool.{and_parts, and_from, cases_Bool, eqb-true, eq-eqb}
use Rattle.std.proofs.lemmas.List.Elements.{Contains-push_cases}
use Rattle.update_plan.proofs.Members.{here, there, none_in, in_cons, in_filter, in_map, map_in, any_in, none_any}
use Rattle.switch_traces.specs.Traces.{Learnings}
use Rattle.machine_steps.specs.Machine.{Session, is_live, has_switch}
use Rattle.machine_steps.specs.Steps.{AimsBy, AimsOne, AimsAll}
use Rattle.machine_steps.specs.Sound.{AreOthers}
use Rattle.machine_steps.proofs.Sound.Aims.{aimed_so}
use Rattle.machine_steps.proofs.Sound.Zipped.{all_from, find_all}
use Rattle.machine_history.proofs.Filters.{same_or_apart}

-- the session of this one's connection was quiet before
pub record WasQuiet (xs : List Session) (t : Session) : Type 0 where
  pub session : Session
  pub there : Contains xs session
  pub connection : session.connection ≡ t.connection
  pub quiet : session.quiet ≡ true

-- each quiet session was quiet before
abbrev pub NoneTurns : List Session → List Session → Type 0
NoneTurns xs ys = (t : Session) → Contains ys t → t.quiet ≡ true → WasQuiet xs t

pub found_in : (p : Session → Bool) (xs : List Session) (s : Session) → find p xs ≡ Some s → Contains xs s
found_in p xs s found = find_all (Contains xs) p xs s (all_from (Contains xs) xs (λ x c. c)) found

pub turns_same : (xs : List Session) → NoneTurns xs xs
turns_same xs t c q = record { session = t; there = c; connection = refl; quiet = q }

pub turns_then : (xs ys zs : List Session) → NoneTurns xs ys → NoneTurns ys zs → NoneTurns xs zs
turns_then xs ys zs h k t c q =
    let b = k t c q in
    let a = h b.session b.there b.quiet in
    record { session = a.session; there = a.there; connection = a.connection ∙ b.connection; quiet = a.quiet }

pub turns_filter : (p : Session → Bool) (xs : List Session) → NoneTurns xs (filter p xs)
turns_filter p xs t c q = turns_same xs t (in_filter p xs t c).0 q

pub turns_push : (xs : List Session) (t : Session) → t.quiet ≡ false → NoneTurns xs (xs ++ t ∷ [])
turns_push xs t loud u c q = ⊎_elim (λ d. turns_same xs u d q) (λ e. let f = sym loud ∙ ap (λ (x : Session). x.quiet) e ∙ q in absurd (cc)) (Contains-push_cases xs t u c)

-- a session in the place of the one of its connection
abbrev put_in_place : Session → Session → Session
put_in_place t x = if x.connection == t.connection then t else x

pub put_cases : (t : Session) (xs : List Session) (y : Session) → Contains (map (λ (x : Session). if x.connection == t.connection then t else x) xs) y → (t ≡ y) ⊎ Contains xs y
put_cases t xs y c = go (in_map (put_in_place t) xs y c)
  where
    go : (x : Session) × Contains xs x × (put_in_place t x ≡ y) → (t ≡ y) ⊎ Contains xs y
    go (x, d, e) = ⊎_elim (λ b. inl (sym (ap (λ k. cond k t x) b) ∙ e)) (λ b. inr (subst (Contains xs) (sym (ap (λ k. cond k t x) b) ∙ e) d)) (cases_Bool (x.connection == t.connection))

-- it stands there where a session has its connection
pub put_there : (t s : Session) (xs : List Session) → Contains xs s → t.connection ≡ s.connection → Contains (map (λ (x : Session). if x.connection == t.connection then t else x) xs) t
put_there t s xs c same =
    subst (Contains (map (put_in_place t) xs)) (ap (λ b. cond b t s) (eq-eqb s.connection t.connection (sym same))) (map_in (put_in_place t) xs s c)

pub turns_put : (xs : List Session) (t : Session) → (t.quiet ≡ true → WasQuiet xs t) → NoneTurns xs (map (λ (x : Session). if x.connection == t.connection then t else x) xs)
turns_put xs t was u c q =
    ⊎_elim (λ e. subst (WasQuiet xs) e (was (ap (λ (x : Session). x.quiet) e ∙ q))) (λ d. turns_same xs u d q) (put_cases t xs u c)

-- the session that was found is as quiet as before
pub turns_with : (xs : List Session) (p : Session → Bool) (s t : Session) → find p xs ≡ Some s → t.connection ≡ s.connection → t.quiet ≡ s.quiet
    → NoneTurns xs (map (λ (x : Session). if x.connection == t.connection then t else x) xs)
turns_with xs p s t found same quiet = turns_put xs t (λ q. record { session = s; there = found_in p xs s found; connection = sym same; quiet = sym quiet ∙ q })

-- ---- aims

aims_quiet : (ls : List Learnings) (s t : Session) → AimsOne ls s t → (t.connection ≡ s.connection) × (t.quiet ≡ s.quiet)
aims_quiet ls s t aims = go (is_live s && not s.quiet) aims
  where
    go : (b : Bool) → AimsBy b ls s t → (t.connection ≡ s.connection) × (t.quiet ≡ s.quiet)
    go true (inl a) = (ap (λ (x : Session). x.connection) a.1, ap (λ (x : Session). x.quiet) a.1)
    go true (inr f) = let a = aimed_so f.plan s in (ap (λ (x : Session). x.connection) f.now_is ∙ a.connection, ap (λ (x : Session). x.quiet) f.now_is ∙ a.quiet)
    go false e = (ap (λ (x : Session). x.connection) e, ap (λ (x : Session). x.quiet) e)

pub turns_aims : (ls : List Learnings) (ss ts : List Session) → AimsAll ls ss ts → NoneTurns ss ts
turns_aims ls [] ts h u c q = absurd (none_in u (subst (λ us. Contains us u) h c))
turns_aims ls (s ∷ ss) [] h u c q = absurd h
turns_aims ls (s ∷ ss) (t ∷ ts) h u c q = go (λ d. turns_aims ls ss ts h.1 u d q) (in_cons t ts u c)
  where
    go : (Contains ts u → WasQuiet ss u) → (t ≡ u) ⊎ Contains ts u → WasQuiet (s ∷ ss) u
    go later (inl e) =
        let a = aims_quiet ls s t h.0 in
        record { session = s; there = here s ss; connection = sym a.0 ∙ ap (λ (x : Session). x.connection) e; quiet = sym a.1 ∙ ap (λ (x : Session). x.quiet) e ∙ q }
    go later (inr d) =
        let a = later d in
        record { session = a.session; there = there s ss a.session a.there; connection = a.connection; quiet = a.quiet }

-- ---- no session of a switch becomes quiet

-- the session of this one's connection was quiet before, or is of another switch
pub record WasBeside (switch : ℕ) (xs : List Session) (t : Session) : Type 0 where
  pub session : Session
  pub there : Contains xs session
  pub connection : session.connection ≡ t.connection
  pub beside : (has_switch switch session && not session.quiet) ≡ false

abbrev pub NoneTurnsAt : ℕ → List Session → List Session → Type 0
NoneTurnsAt switch xs ys = (t : Session) → Contains ys t → t.quiet ≡ true → WasBeside switch xs t

pub turns_at : (switch : ℕ) (xs ys : List Session) → NoneTurns xs ys → NoneTurnsAt switch xs ys
turns_at switch xs ys h t c q =
    let a = h t c q in
    record { session = a.session; there = a.there; connection = a.connection; beside = ap (λ b. has_switch switch a.session && not b) a.quiet ∙ and-false (has_switch switch a.session) }

-- sessions of one connection are one
same_session : (xs : List Session) → AllPairs AreOthers xs → (x y : Session) → Contains xs x → Contains xs y → x.connection ≡ y.connection → x ≡ y
same_session xs others x y c d e = ⊎_elim (λ s. s) (λ o. absurd (⊎_elim (λ a. a.connections e) (λ b. b.connections (sym e)) o)) (same_or_apart AreOthers xs others x y c d)

pub none_quiet : (switch : ℕ) (xs ys : List Session) → AllPairs AreOthers xs → NoneTurnsAt switch xs ys
    → list_any (λ (s : Session). has_switch switch s && (not s.quiet && list_any (λ (t : Session). t.connection == s.connection && t.quiet) ys)) xs ≡ false
none_quiet switch xs ys others h = none_any (λ (s : Session). has_switch switch s && (not s.quiet && list_any (λ (t : Session). t.connection == s.connection && t.quiet) ys)) xs one
  where
    one : (x : Session) → Contains xs x → (has_switch switch x && (not x.quiet && list_any (λ (t : Session). t.connection == x.connection && t.quiet) ys)) ≡ true → ⊥
    one x c e =
        let a = and_parts (has_switch switch x) (not x.quiet && list_any (λ (t : Session). t.connection == x.connection && t.quiet) ys) e in
        let b = and_parts (not x.quiet) (list_any (λ (t : Session). t.connection == x.connection && t.quiet) ys) a.1 in
        let t = any_in (λ (t : Session). t.connection == x.connection && t.quiet) ys b.1 in
        let d = and_parts (t.0.connection == x.connection) t.0.quiet t.2 in
        let was = h t.0 t.1 d.1 in
        let same = same_session xs others was.session x was.there c (was.connection ∙ eqb-true t.0.connection x.connection d.0) in
        let loud = and_from (has_switch switch x) (not x.quiet) a.0 b.0 in
        let still = ap (λ (y : Session). has_switch switch y && not y.quiet) (sym same) ∙ was.beside in
        cc
