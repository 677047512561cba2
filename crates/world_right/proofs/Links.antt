-- Links by their connections: which one is found where one is changed, and where one is put behind the others.
use Rattle.std.proofs.Common.{◌≡◌, ℕ, Bool, true, false, cond, List, [], ◌∷◌, ◌++◌, refl, sym, ap, ◌∙◌}
use Rattle.std.specs.Prelude.{◌==◌, if◌then◌else◌, Option, Some, None}
use Rattle.std.specs.Option.{option_map, option_or}
use Rattle.std.proofs.lemmas.Bool.{eq-eqb, eqb-true}
use Rattle.std.proofs.lemmas.List.Folds.{find-append}
use Rattle.machine_steps.proofs.Sound.Zipped.{find_passes}
use Rattle.world_steps.specs.Worlds.{Link, link_at, at_link}

-- a link that is found is of its connection
pub is_of_connection : (c : ℕ) (ls : List Link) (l : Link) → link_at c ls ≡ Some l → l.connection ≡ c
is_of_connection c ls l e = eqb-true l.connection c (find_passes (λ (k : Link). k.connection == c) ls l e)

module _ (c : ℕ) (f : Link → Link) (keeps : (l : Link) → l.connection ≡ c → (f l).connection ≡ c) where
  -- the link of this connection is changed
  pub changed_there : (ls : List Link) → link_at c (at_link c f ls) ≡ option_map f (link_at c ls)
  changed_there [] = refl
  changed_there (k ∷ ks) = go (k.connection == c) refl (changed_there ks)
    where
      go : (own : Bool) → (k.connection == c) ≡ own → link_at c (at_link c f ks) ≡ option_map f (link_at c ks)
          → link_at c ((if own then f k else k) ∷ at_link c f ks) ≡ option_map f (cond own (Some k) (link_at c ks))
      go true e later = ap (λ b. cond b (Some (f k)) (link_at c (at_link c f ks))) (eq-eqb (f k).connection c (keeps k (eqb-true k.connection c e)))
      go false e later = ap (λ b. cond b (Some k) (link_at c (at_link c f ks))) e ∙ later

  -- and those of the others stay
  pub others_there : (d : ℕ) → (c == d) ≡ false → (ls : List Link) → link_at d (at_link c f ls) ≡ link_at d ls
  others_there d other [] = refl
  others_there d other (k ∷ ks) = go (k.connection == c) refl (others_there d other ks)
    where
      go : (own : Bool) → (k.connection == c) ≡ own → link_at d (at_link c f ks) ≡ link_at d ks → link_at d ((if own then f k else k) ∷ at_link c f ks) ≡ link_at d (k ∷ ks)
      go true e later =
          ap (λ n. cond (n == d) (Some (f k)) (link_at d (at_link c f ks))) (keeps k (eqb-true k.connection c e))
          ∙ ap (λ b. cond b (Some (f k)) (link_at d (at_link c f ks))) other
          ∙ later
          ∙ sym (ap (λ n. cond (n == d) (Some k) (link_at d ks)) (eqb-true k.connection c e) ∙ ap (λ b. cond b (Some k) (link_at d ks)) other)
      go false e later = ap (cond (k.connection == d) (Some k)) later

-- one is put behind the others
module _ (ls : List Link) (l : Link) where
  pub behind_there : link_at l.connection ls ≡ None → link_at l.connection (ls ++ l ∷ []) ≡ Some l
  behind_there none =
      find-append (λ (k : Link). k.connection == l.connection) ls (l ∷ [])
      ∙ ap (λ o. option_or o (link_at l.connection (l ∷ []))) none
      ∙ ap (λ b. cond b (Some l) None) (eq-eqb l.connection l.connection refl)

  pub behind_others : (d : ℕ) → (l.connection == d) ≡ false → link_at d (ls ++ l ∷ []) ≡ link_at d ls
  behind_others d other =
      find-append (λ (k : Link). k.connection == d) ls (l ∷ [])
      ∙ ap (λ b. option_or (link_at d ls) (cond b (Some l) None)) other
      ∙ or_none (link_at d ls)
    where
      or_none : (o : Option Link) → option_or o None ≡ o
      or_none None = refl
      or_none (Some k) = refl
