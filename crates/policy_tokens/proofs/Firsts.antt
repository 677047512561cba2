-- Which of several faults is the first.
use Rattle.std.proofs.Common.{◌≡◌, ℕ, ◌+◌, ◌≤◌, cond, true, false, List, [], ◌∷◌, ◌++◌, Some, refl, ap, ◌∙◌, arith}
use Rattle.std.proofs.lemmas.Bool.{cond_both}
use Rattle.std.proofs.lemmas.Bool.Decides.{nat_tests}
use Rattle.policy_tokens.specs.Faults.{Fault, is_before, earlier, earliest}

-- this holds of each of the faults
abbrev pub Each : (Fault → Type 0) → List Fault → Type 0
Each P [] = Unit {0}
Each P (f ∷ fs) = P f × Each P fs

pub each : (P Q : Fault → Type 0) (fs : List Fault) → ((f : Fault) → P f → Q f) → Each P fs → Each Q fs
each P Q [] go h = tt
each P Q (f ∷ fs) go h = (go f h.0, each P Q fs go h.1)

pub each_append : (P : Fault → Type 0) (fs gs : List Fault) → Each P fs → Each P gs → Each P (fs ++ gs)
each_append P [] gs a b = b
each_append P (f ∷ fs) gs a b = (a.0, each_append P fs gs a.1 b)

-- the fault stands at this offset or behind it
abbrev pub From : ℕ → Fault → Type 0
From n f = n ≤ f.offset

-- the second does not come before the first
abbrev pub NotBefore : Fault → Fault → Type 0
NotBefore f g = is_before g f ≡ false

-- the first comes before the second
abbrev pub Before : Fault → Fault → Type 0
Before f g = is_before f g ≡ true

pub from_later : (n : ℕ) (fs : List Fault) → Each (From (n + 1)) fs → Each (From n) fs
from_later n fs h = each (From (n + 1)) (From n) fs (λ f le. omega (arith, le)) h

pub not_before : (f : Fault) (gs : List Fault) → Each (From (f.offset + 1)) gs → Each (NotBefore f) gs
not_before f gs h = each (From (f.offset + 1)) (NotBefore f) gs (λ g le. grind (arith, nat_tests)) h

pub before : (f : Fault) (gs : List Fault) → Each (From (f.offset + 1)) gs → Each (Before f) gs
before f gs h = each (From (f.offset + 1)) (Before f) gs (λ g le. grind (arith, nat_tests)) h

earlier_kept : (f g : Fault) (gs : List Fault) → NotBefore f g → Each (NotBefore f) gs → NotBefore f (earlier g (earliest gs))
earlier_kept f g [] h n = h
earlier_kept f g (x ∷ xs) h n =
    let y = earlier x (earliest xs) in
    cond_both (is_before y g) y g (NotBefore f) (λ _. earlier_kept f x xs n.0 n.1) (λ _. h)

-- a fault that comes before all ahead of it, and that none behind it comes before, is the first
pub first : (xs : List Fault) (f : Fault) (gs : List Fault) → Each (Before f) xs → Each (NotBefore f) gs → earliest (xs ++ f ∷ gs) ≡ Some f
first [] f [] b n = refl
first [] f (g ∷ gs) b n = ap (λ t. Some (cond t (earlier g (earliest gs)) f)) (earlier_kept f g gs n.0 n.1)
first (x ∷ xs) f gs b n = ap (λ o. Some (earlier x o)) (first xs f gs b.1 n) ∙ ap (λ t. Some (cond t f x)) b.0
