-- What is found in lists whose elements are others than before, and which session of a connection.
use Rattle.std.proofs.Common.{◌≡◌, ◌≢◌, ◌⊎◌, ℕ, Bool, true, false, cond, List, [], ◌∷◌, ◌++◌, refl, sym, ap, ◌∙◌, subst, inl, inr, ⊎_elim}
use Rattle.std.specs.Prelude.{◌==◌, not, filter, find, map, Contains, if◌then◌else◌, Option, Some, None}
use Rattle.std.specs.List.{AllByRecursion, AllZip}
use Rattle.std.proofs.lemmas.Bool.{and_parts, and_from, and_left, and_right, cases_eq, eq-eqb, eqb-true, ne_eqb}
use Rattle.std.proofs.lemmas.Option.{none-some}
use Rattle.machine_steps.specs.Machine.{Session, is_open, is_of}
use Rattle.machine_steps.proofs.Sound.Zipped.{all_from, all_passing, find_among}

module _ {X : Type 0} where
  -- neither is there, or both are, and stand in this relation
  abbrev pub Together : (X → X → Type 0) → Option X → Option X → Type 0
  Together R None None = Unit {0}
  Together R None (Some y) = ⊥
  Together R (Some x) None = ⊥
  Together R (Some x) (Some y) = R x y

  pub together_same : (R : X → X → Type 0) → ((x : X) → R x x) → (o : Option X) → Together R o o
  together_same R f None = tt
  together_same R f (Some x) = f x

  pub together_weaker : (R S : X → X → Type 0) → ((x y : X) → R x y → S x y) → (o p : Option X) → Together R o p → Together S o p
  together_weaker R S f None None h = tt
  together_weaker R S f None (Some y) h = absurd h
  together_weaker R S f (Some x) None h = absurd h
  together_weaker R S f (Some x) (Some y) h = f x y h

  pub together_some : (R : X → X → Type 0) (x : X) (p : Option X) → Together R (Some x) p → (y : X) × (p ≡ Some y)
  together_some R x None h = absurd h
  together_some R x (Some y) h = (y, refl)

  -- in lists that stand in a relation place by place, what is found does, too
  pub zip_together : (R : X → X → Type 0) (p : X → Bool) → ((x y : X) → R x y → p y ≡ p x) → (xs ys : List X) → AllZip R xs ys → Together R (find p xs) (find p ys)
  zip_together R p f [] [] h = tt
  zip_together R p f [] (y ∷ ys) h = absurd h
  zip_together R p f (x ∷ xs) [] h = absurd h
  zip_together R p f (x ∷ xs) (y ∷ ys) h = subst (λ b. Together R (cond (p x) (Some x) (find p xs)) (cond b (Some y) (find p ys))) (sym (f x y h.0)) (step (p x) (zip_together R p f xs ys h.1))
    where
      step : (b : Bool) → Together R (find p xs) (find p ys) → Together R (cond b (Some x) (find p xs)) (cond b (Some y) (find p ys))
      step true later = h.0
      step false later = later

  -- where each is itself, or passes neither before nor behind
  find_beside : (p : X → Bool) (g : X → X) → ((x : X) → (g x ≡ x) ⊎ ((p x ≡ false) × (p (g x) ≡ false))) → (xs : List X) → find p (map g xs) ≡ find p xs
  find_beside p g f [] = refl
  find_beside p g f (x ∷ xs) =
      let later = find_beside p g f xs in
      ⊎_elim (λ e. ap (λ y. cond (p y) (Some y) (find p (map g xs))) e ∙ ap (cond (p x) (Some x)) later)
      (λ b. ap (λ a. cond a (Some (g x)) (find p (map g xs))) b.1 ∙ later ∙ ap (λ a. cond a (Some x) (find p xs)) (sym b.0)) (f x)

  -- where one passed, and whoever passes now is t
  find_turned : (p : X → Bool) (g : X → X) (t : X) → ((x : X) → p (g x) ≡ true → g x ≡ t) → ((x : X) → p x ≡ true → p (g x) ≡ true) → (xs : List X) (s : X) → find p xs ≡ Some s → find p (map g xs) ≡ Some t
  find_turned p g t is still [] s e = absurd (none-some s e)
  find_turned p g t is still (x ∷ xs) s e = step (p (g x)) (p x) refl refl (find_turned p g t is still xs s) e
    where
      step : (b a : Bool) → p (g x) ≡ b → p x ≡ a → (find p xs ≡ Some s → find p (map g xs) ≡ Some t) → cond a (Some x) (find p xs) ≡ Some s → cond b (Some (g x)) (find p (map g xs)) ≡ Some t
      step true a f h later d = ap Some (is x f)
      step false true f h later d = let k = still x h in absurd (cc)
      step false false f h later d = later d

  find_none : (p : X → Bool) (xs : List X) → AllByRecursion (λ x. p x ≡ false) xs → find p xs ≡ None
  find_none p [] h = refl
  find_none p (x ∷ xs) h = ap (λ b. cond b (Some x) (find p xs)) h.0 ∙ find_none p xs h.1

  find_shut : (p : X → Bool) (g : X → X) → ((x : X) → p (g x) ≡ false) → (xs : List X) → find p (map g xs) ≡ None
  find_shut p g f [] = refl
  find_shut p g f (x ∷ xs) = ap (λ b. cond b (Some (g x)) (find p (map g xs))) (f x) ∙ find_shut p g f xs

  pub find_last : (p : X → Bool) (xs : List X) (y : X) → find p xs ≡ None → find p (xs ++ y ∷ []) ≡ cond (p y) (Some y) None
  find_last p [] y e = refl
  find_last p (x ∷ xs) y e = step (p x) (find_last p xs y) e
    where
      step : (b : Bool) → (find p xs ≡ None → find p (xs ++ y ∷ []) ≡ cond (p y) (Some y) None) → cond b (Some x) (find p xs) ≡ None → cond b (Some x) (find p (xs ++ y ∷ [])) ≡ cond (p y) (Some y) None
      step true later f = absurd (none-some x (sym f))
      step false later f = later f

-- ---- the open session of a connection

of_another : (c : ℕ) (x : Session) → x.connection ≢ c → is_of c x ≡ false
of_another c x other = and_left (x.connection == c) (is_open x) (ne_eqb x.connection c other)

pub its_connection : (c : ℕ) (x : Session) → is_of c x ≡ true → x.connection ≡ c
its_connection c x e = eqb-true x.connection c (and_parts (x.connection == c) (is_open x) e).0

-- a session is in the place of the one of its connection
abbrev pub placed : Session → List Session → List Session
placed t xs = map (λ (x : Session). if x.connection == t.connection then t else x) xs

module _ (c : ℕ) (t : Session) (xs : List Session) where
  abbrev place : Session → Session
  place x = if x.connection == t.connection then t else x

  placed_by : (x : Session) → x.connection ≡ t.connection → place x ≡ t
  placed_by x e = ap (λ b. cond b t x) (eq-eqb x.connection t.connection e)

  stays_by : (x : Session) → x.connection ≢ t.connection → place x ≡ x
  stays_by x e = ap (λ b. cond b t x) (ne_eqb x.connection t.connection e)

  -- nothing changes for another connection
  pub found_beside : t.connection ≢ c → find (is_of c) (placed t xs) ≡ find (is_of c) xs
  found_beside other = find_beside (is_of c) place one xs
    where
      one : (x : Session) → (place x ≡ x) ⊎ ((is_of c x ≡ false) × (is_of c (place x) ≡ false))
      one x = ⊎_elim (λ e. inr (of_another c x (λ f. other (sym e ∙ f)), ap (is_of c) (placed_by x e) ∙ of_another c t other)) (λ e. inl (stays_by x e)) (cases_eq x.connection t.connection)

  module _ (its : t.connection ≡ c) where
    -- the open session that was found is this one now
    pub found_placed : is_open t ≡ true → (s : Session) → find (is_of c) xs ≡ Some s → find (is_of c) (placed t xs) ≡ Some t
    found_placed opened s e = find_turned (is_of c) place t is still xs s e
      where
        is : (x : Session) → is_of c (place x) ≡ true → place x ≡ t
        is x f =
            ⊎_elim (λ g. placed_by x g) (λ g. absurd (g (its_connection c x (ap (is_of c) (sym (stays_by x g)) ∙ f) ∙ sym its))) (cases_eq x.connection t.connection)

        still : (x : Session) → is_of c x ≡ true → is_of c (place x) ≡ true
        still x f = ap (is_of c) (placed_by x (its_connection c x f ∙ sym its)) ∙ and_from (t.connection == c) (is_open t) (eq-eqb t.connection c its) opened

    -- none is open behind one that ended
    pub found_shut : is_open t ≡ false → find (is_of c) (placed t xs) ≡ None
    found_shut shut = find_shut (is_of c) place one xs
      where
        one : (x : Session) → is_of c (place x) ≡ false
        one x =
            ⊎_elim (λ e. ap (is_of c) (placed_by x e) ∙ and_right (t.connection == c) (is_open t) shut) (λ e. ap (is_of c) (stays_by x e) ∙ of_another c x (λ f. e (f ∙ sym its)))
            (cases_eq x.connection t.connection)

-- the sessions of a connection go
module _ (c d : ℕ) (xs : List Session) where
  abbrev beside : Session → Bool
  beside x = not (x.connection == d)

  pub found_without : d ≢ c → find (is_of c) (filter beside xs) ≡ find (is_of c) xs
  found_without other =
      find_among (is_of c) beside xs
      (all_from (λ x. is_of c x ≡ true → beside x ≡ true) xs (λ x n f. ap not (ne_eqb x.connection d (λ e. other (sym e ∙ its_connection c x f)))))

  pub found_gone : d ≡ c → find (is_of c) (filter beside xs) ≡ None
  found_gone same = find_none (is_of c) (filter beside xs) (all_passing (λ x. is_of c x ≡ false) beside xs (all_from (λ x. beside x ≡ true → is_of c x ≡ false) xs one))
    where
      one : (x : Session) → Contains xs x → beside x ≡ true → is_of c x ≡ false
      one x n b = of_another c x (λ e. (let f = ap not (eq-eqb x.connection d (e ∙ sym same)) in absurd (cc)))
