-- The first part of a text and the others.
use Rattle.std.proofs.Common.{◌≡◌, ℕ, ◌+◌, ◌<◌, cond, eqb, List, [], ◌∷◌, length, take, drop, refl, sym, ap, ◌∙◌, arith, one-add, add-one, ⊎_elim}
use Rattle.std.specs.List.{slice_split, onto_first}
use Rattle.std.proofs.lemmas.Bool.{cases_Bool}
use Rattle.maple_text.specs.Parts.{len_to}

abbrev pub parts_of : ℕ → List ℕ → List (List ℕ)
parts_of stop = slice_split (λ b. eqb b stop)

-- a text without this byte is one part
pub one_part : (stop : ℕ) (text : List ℕ) → len_to stop text ≡ length text → parts_of stop text ≡ text ∷ []
one_part stop [] e = refl
one_part stop (b ∷ bs) e =
    ⊎_elim
    (λ t. let f = ap (λ v. cond v 0 (1 + len_to stop bs)) t in absurd (omega (arith, e, f)))
    (λ t.
    let f = ap (λ v. cond v 0 (1 + len_to stop bs)) t in
    let n : len_to stop bs ≡ length bs = omega (arith, e, f) in
    ap (λ v. cond v ([] ∷ parts_of stop bs) (onto_first b (parts_of stop bs))) t ∙ ap (onto_first b) (one_part stop bs n))
    (cases_Bool (eqb b stop))

-- the parts behind the first such byte are parts of their own
pub more_parts : (stop : ℕ) (text : List ℕ) → len_to stop text < length text
    → parts_of stop text ≡ take (len_to stop text) text ∷ parts_of stop (drop (len_to stop text + 1) text)
more_parts stop [] lt = absurd (omega arith)
more_parts stop (b ∷ bs) lt =
    ⊎_elim
    (λ t.
    ap (λ v. cond v ([] ∷ parts_of stop bs) (onto_first b (parts_of stop bs))) t
    ∙ sym (ap (λ v. take (cond v 0 (1 + len_to stop bs)) (b ∷ bs) ∷ parts_of stop (drop (cond v 0 (1 + len_to stop bs) + 1) (b ∷ bs))) t))
    (λ t.
    let f = ap (λ v. cond v 0 (1 + len_to stop bs)) t in
    let n : len_to stop bs < length bs = omega (arith, lt, f) in
    ap (λ v. cond v ([] ∷ parts_of stop bs) (onto_first b (parts_of stop bs))) t
    ∙ ap (onto_first b) (more_parts stop bs n)
    ∙ further (len_to stop bs)
    ∙ sym (ap (λ v. take (cond v 0 (1 + len_to stop bs)) (b ∷ bs) ∷ parts_of stop (drop (cond v 0 (1 + len_to stop bs) + 1) (b ∷ bs))) t))
    (cases_Bool (eqb b stop))
  where
    further : (n : ℕ) → (b ∷ take n bs) ∷ parts_of stop (drop (n + 1) bs) ≡ take (1 + n) (b ∷ bs) ∷ parts_of stop (drop (1 + n + 1) (b ∷ bs))
    further n = rw (one-add, add-one, add-one) refl
