-- What becomes of a text, piece after piece. These serve private contracts alone.
use Rattle.std.proofs.Common.{◌≡◌, ℕ, ◌+◌, ◌-◌, ◌^◌, ◌<◌, ◌≤◌, List, [], ◌++◌, length, min, sym, ap, ◌∙◌, refl, arith, length-append, append_assoc, append-nil}

-- the bytes of a text are counted, up to the greatest number
abbrev pub Counts : ℕ → List ℕ → ℕ → Type 0
Counts m text n = m < 2 ^ 64 → n ≡ min (m + length text) (2 ^ 64 - 1)

-- a vector that has room for a text has it at its end, in the same room
abbrev pub Fills : List ℕ → ℕ → ℕ → List ℕ → List ℕ → ℕ → ℕ → Type 0
Fills items len capacity text items' len' capacity' =
    len + length text ≤ capacity → (items' ≡ items ++ text) × (len' ≡ len + length text) × (capacity' ≡ capacity)

pub counts_nothing : (m : ℕ) → Counts m [] m
counts_nothing m h = omega (arith, h)

pub counts_joined : (m n o : ℕ) (a b : List ℕ) → Counts m a n → Counts n b o → Counts m (a ++ b) o
counts_joined m n o a b h k l =
    let first = h l in
    let small : n < 2 ^ 64 = omega (arith, first) in
    omega (arith, first, k small, length-append a b)

pub fills_nothing : (items : List ℕ) (len capacity : ℕ) → Fills items len capacity [] items len capacity
fills_nothing items len capacity h = (sym (append-nil items), omega arith, refl)

pub fills_joined : (i : List ℕ) (l c : ℕ) (i' : List ℕ) (l' c' : ℕ) (i'' : List ℕ) (l'' c'' : ℕ) (a b : List ℕ)
    → Fills i l c a i' l' c' → Fills i' l' c' b i'' l'' c'' → Fills i l c (a ++ b) i'' l'' c''
fills_joined i l c i' l' c' i'' l'' c'' a b h k room =
    let f = h (omega (arith, room, length-append a b)) in
    let g = k (omega (arith, room, length-append a b, f.1, f.2)) in
    (g.0 ∙ ap (λ x. x ++ b) f.0 ∙ append_assoc i a b, omega (arith, g.1, f.1, length-append a b), g.2 ∙ f.2)
