-- An `out` of the last expressions.
use Rattle.std.proofs.Common.{◌≡◌, ℕ, zero, suc, ◌≤◌, true, false, List, [], ◌∷◌, length, reverse, take, drop, refl, ap, ◌∙◌, arith}
use Rattle.std.proofs.lemmas.Bool.Decides.{nat_tests}
use Rattle.std.proofs.lemmas.List.{length-take-le, length-reverse}
use mathlib.Core.List.{reverse_aux}
use Rattle.policy_grammar.specs.Grammar as written
use Rattle.policy_grammar.specs.Grammar.{Phrase, Nothing, Plain}
use Rattle.policy_lang.specs.declared.Expr.{Expr}
use Rattle.policy_lang.specs.Blocks.{IsOutList}
use Rattle.policy_lang.specs.TreeOf.{terms_of}
use Rattle.policy_tree.specs.Trees.{phrase_term, IsExpr, AreExprs}
use Rattle.policy_tree.specs.Machine.{State, out, outs, is_out, add}
use Rattle.policy_tree.specs.Stands.{Each, Fits}

each_length : {A B : Type 0} (R : A → B → Type 0) (as_ : List A) (bs : List B) → Each R as_ bs → length as_ ≡ length bs
each_length R [] [] h = refl
each_length R [] (b ∷ bs) h = absurd h
each_length R (a ∷ as_) [] h = absurd h
each_length R (a ∷ as_) (b ∷ bs) h = ap suc (each_length R as_ bs h.1)

each_take : {A B : Type 0} (R : A → B → Type 0) (n : ℕ) (as_ : List A) (bs : List B) → Each R as_ bs → Each R (take n as_) (take n bs)
each_take R zero as_ bs h = tt
each_take R (suc n) [] [] h = tt
each_take R (suc n) [] (b ∷ bs) h = absurd h
each_take R (suc n) (a ∷ as_) [] h = absurd h
each_take R (suc n) (a ∷ as_) (b ∷ bs) h = (h.0, each_take R n as_ bs h.1)

each_drop : {A B : Type 0} (R : A → B → Type 0) (n : ℕ) (as_ : List A) (bs : List B) → Each R as_ bs → Each R (drop n as_) (drop n bs)
each_drop R zero as_ bs h = h
each_drop R (suc n) [] [] h = tt
each_drop R (suc n) [] (b ∷ bs) h = absurd h
each_drop R (suc n) (a ∷ as_) [] h = absurd h
each_drop R (suc n) (a ∷ as_) (b ∷ bs) h = each_drop R n as_ bs h.1

each_onto : {A B : Type 0} (R : A → B → Type 0) (as_ : List A) (bs : List B) (xs : List A) (ys : List B) → Each R as_ bs → Each R xs ys → Each R (reverse_aux as_ xs) (reverse_aux bs ys)
each_onto R [] [] xs ys h g = g
each_onto R [] (b ∷ bs) xs ys h g = absurd h
each_onto R (a ∷ as_) [] xs ys h g = absurd h
each_onto R (a ∷ as_) (b ∷ bs) xs ys h g = each_onto R as_ bs (a ∷ xs) (b ∷ ys) h.1 (h.0, g)

are_exprs : (as_ : List Phrase) (es : List Expr) → Each IsExpr as_ es → AreExprs as_ es
are_exprs [] [] h = refl
are_exprs [] (e ∷ es) h = absurd h
are_exprs (a ∷ as_) [] h = absurd h
are_exprs (a ∷ as_) (e ∷ es) h = ap (λ t. t ∷ terms_of es) h.0 ∙ ap (λ ts. phrase_term a ∷ ts) (are_exprs as_ es h.1)

bounds : (n count : ℕ) → is_out n count ≡ true → (1 ≤ n) × (n ≤ 16) × (n ≤ count)
bounds n count h = grind (arith, nat_tests)

-- the last expressions make the list of an `out`
pub out_list : (n : ℕ) (es list : List Expr) → is_out n (length es) ≡ true → list ≡ reverse (take n es) → IsOutList list
out_list n es list h is =
    let b = bounds n (length es) h in
    let count : length list ≡ n = ap length is ∙ length-reverse (take n es) ∙ length-take-le n es b.2 in
    record { some = omega arith; few = omega arith }

pub too_few : (n : ℕ) (w : State) (es : List Expr) (P : State → Type 0) → Each IsExpr w.exprs es → is_out n (length es) ≡ false → Fits P false (outs n w)
too_few n w es P h few =
    let none : is_out n (length w.exprs) ≡ false = ap (is_out n) (each_length IsExpr w.exprs es h) ∙ few in
    rw none tt

out_of : (as_ : List Phrase) (es : List Expr) (w : State) (P : State → Type 0) → 1 ≤ length as_ → Each IsExpr as_ es
    → ((a : Phrase) (more : List Phrase) → AreExprs (a ∷ more) es → P (add (Plain (written.Out a more) Nothing) w)) → Fits P true (out as_ w)
out_of [] es w P some h f = absurd (omega arith)
out_of (a ∷ more) es w P some h f = (refl, f a more (are_exprs (a ∷ more) es h))

pub out_made : (n : ℕ) (w : State) (es : List Expr) (P : State → Type 0) → Each IsExpr w.exprs es → is_out n (length es) ≡ true
    → ((a : Phrase) (more : List Phrase) → AreExprs (a ∷ more) (reverse (take n es)) → Each IsExpr (drop n w.exprs) (drop n es) → P (add (Plain (written.Out a more) Nothing) (record w { exprs = drop n w.exprs })))
    → Fits P true (outs n w)
out_made n w es P h enough f =
    let fits : is_out n (length w.exprs) ≡ true = ap (is_out n) (each_length IsExpr w.exprs es h) ∙ enough in
    let b = bounds n (length w.exprs) fits in
    let some : 1 ≤ length (reverse (take n w.exprs)) = omega (arith, length-reverse (take n w.exprs), length-take-le n w.exprs b.2) in
    rw fits (out_of (reverse (take n w.exprs)) (reverse (take n es)) (record w { exprs = drop n w.exprs }) P some (each_onto IsExpr (take n w.exprs) (take n es) [] [] (each_take IsExpr n w.exprs es h) tt)
    (λ a more g. f a more g (each_drop IsExpr n w.exprs es h)))
