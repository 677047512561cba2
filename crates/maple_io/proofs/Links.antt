-- Links that are closed.
use Rattle.std.proofs.Common.{◌≡◌, ℕ, ◌+◌, ◌<◌, Bool, true, false, List, [], ◌∷◌, ◌++◌, length, get_or, set, drop, take, map, cond, refl, sym, ap, ◌∙◌, subst, arith}
use Rattle.std.proofs.lemmas.Bool.Decides.{nat_tests}
use Rattle.std.proofs.lemmas.List.Edits.{map_over_more}
use Rattle.std.proofs.Math.Seq.{take-append_seam}
use Rattle.std.proofs.lemmas.List.{get_or_default}
use Rattle.std.specs.Prelude.{◌==◌, ◌&&◌, ◌||◌}
use Rattle.maple_io.specs.declared.kept.Link.{Link}
use Rattle.maple_io.specs.Kept.{has_link, is_closed, is_closed_behind, marked}

pub walked : {X : Type 0} (f : X → X) (xs ys : List X) (i : ℕ) (x y : X) → i < length xs → ys ≡ map f (take i xs) ++ drop i xs → x ≡ get_or ys i x → y ≡ f (get_or ys i x) → set ys i y ≡ map f (take (i + 1) xs) ++ drop (i + 1) xs
walked {X} f xs ys i x y within so_far is e =
    subst (λ (z : X). set ys i z ≡ map f (take (i + 1) xs) ++ drop (i + 1) xs) (sym (e ∙ ap f (sym is))) (map_over_more f xs ys i x within so_far is)

pub walked_from : {X : Type 0} (f : X → X) (xs ys : List X) (i : ℕ) (blank y : X) → i < length xs → length ys ≡ length xs → ys ≡ map f (take i xs) ++ drop i xs → y ≡ f (get_or ys i blank) → set ys i y ≡ map f (take (i + 1) xs) ++ drop (i + 1) xs
walked_from {X} f xs ys i blank y within same so_far e =
    let inside : i < length ys = omega (arith, within, same) in
    let is : get_or ys i blank ≡ get_or ys i (get_or ys i blank) = get_or_default ys i blank (get_or ys i blank) inside in
    subst (λ (z : X). set ys i z ≡ map f (take (i + 1) xs) ++ drop (i + 1) xs) (sym (e ∙ ap f is)) (walked f xs ys i (get_or ys i blank) (f (get_or ys i (get_or ys i blank))) within so_far is refl)

-- a front that is put back is the whole
pub put_back : (n : ℕ) (xs ys zs : List Link) → n ≡ length xs → zs ≡ xs → take n (zs ++ ys) ≡ xs
put_back n xs ys zs e f = ap (λ k. take k (zs ++ ys)) e ∙ ap (λ (ws : List Link). take (length xs) (ws ++ ys)) f ∙ take-append_seam xs ys

or_true : (a : Bool) → (a || true) ≡ true
or_true true = refl
or_true false = refl

or_assoc : (a b c : Bool) → (a || (b || c)) ≡ ((a || b) || c)
or_assoc true b c = refl
or_assoc false b c = refl

same_link : (x s S D : Bool) → ((x && true) || (S || (x && D))) ≡ (((x && s) || S) || (x && (x || D)))
same_link true s S D = sym (or_true (s || S))
same_link false s S D = refl

other_link : (x y s S D : Bool) → (x ≡ true → y ≡ false) → ((y && s) || (S || (x && D))) ≡ (((y && s) || S) || (x && (y || D)))
other_link true true s S D f = let g : true ≡ false = f refl in absurd (cc)
other_link true false s S D f = refl
other_link false y s S D f = or_assoc (y && s) S false

closed_step : (k c : ℕ) (d : Link) (ds es : List Link) (b : Bool) → (d.connection == k) ≡ b → is_closed c es ≡ is_closed_behind k c ds → is_closed c (cond b (record d { closed = true }) d ∷ es) ≡ is_closed_behind k c (d ∷ ds)
closed_step k c d ds es true e h =
    let is : d.connection ≡ k = grind (arith, nat_tests) in
    ap (λ b. (d.connection == c && true) || b) h ∙ rw is (same_link (k == c) d.closed (is_closed c ds) (has_link c ds))
closed_step k c d ds es false e h =
    let apart : (k == c) ≡ true → (d.connection == c) ≡ false = λ (g : (k == c) ≡ true). grind (arith, nat_tests) in
    ap (λ b. (d.connection == c && d.closed) || b) h ∙ other_link (k == c) (d.connection == c) d.closed (is_closed c ds) (has_link c ds) apart

closed_now : (k c : ℕ) (ds : List Link) → is_closed c (map (marked k) ds) ≡ is_closed_behind k c ds
closed_now k c [] = grind (arith, nat_tests)
closed_now k c (d ∷ ds) = closed_step k c d ds (map (marked k) ds) (d.connection == k) refl (closed_now k c ds)

link_step : (c : ℕ) (d : Link) (ds es : List Link) (b : Bool) → has_link c es ≡ has_link c ds → has_link c (cond b (record d { closed = true }) d ∷ es) ≡ has_link c (d ∷ ds)
link_step c d ds es true h = ap (λ b. (d.connection == c) || b) h
link_step c d ds es false h = ap (λ b. (d.connection == c) || b) h

same_links : (k c : ℕ) (ds : List Link) → has_link c (map (marked k) ds) ≡ has_link c ds
same_links k c [] = refl
same_links k c (d ∷ ds) = link_step c d ds (map (marked k) ds) (d.connection == k) (same_links k c ds)

pub closed_behind : (k c : ℕ) (ds es : List Link) → es ≡ map (marked k) ds → is_closed c es ≡ is_closed_behind k c ds
closed_behind k c ds es e = ap (is_closed c) e ∙ closed_now k c ds

pub links_behind : (k c : ℕ) (ds es : List Link) → es ≡ map (marked k) ds → has_link c es ≡ has_link c ds
links_behind k c ds es e = ap (has_link c) e ∙ same_links k c ds
