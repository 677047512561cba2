-- A text is cut in one way, which is what `slice_split` gives.
use Rattle.std.proofs.Common.{◌≡◌, ℕ, Bool, true, false, not, eqb, cond, List, [], ◌∷◌, ◌++◌, refl, sym, ap, ◌∙◌, ⊎_elim}
use Rattle.std.specs.Prelude.{◌&&◌}
use Rattle.std.specs.List.{slice_split, onto_first, join_with_byte, list_all}
use Rattle.std.proofs.lemmas.Bool.{cases_Bool, and_parts, eq-eqb}
use Rattle.std.proofs.lemmas.List.Splits.{join_with_byte-slice_split}
use Rattle.script_text.specs.Spelling.{lacks, IsCutAt}

abbrev pub parts_of : ℕ → List ℕ → List (List ℕ)
parts_of stop = slice_split (λ b. eqb b stop)

-- a part and the byte behind it
to_stop : (stop : ℕ) (part rest : List ℕ) → lacks stop part ≡ true → parts_of stop (part ++ (stop ∷ rest)) ≡ part ∷ parts_of stop rest
to_stop stop [] rest h = ap (λ t. cond t ([] ∷ parts_of stop rest) (onto_first stop (parts_of stop rest))) (eq-eqb stop stop refl)
to_stop stop (b ∷ bs) rest h =
    let p = and_parts (not (eqb b stop)) (lacks stop bs) h in
    ap (λ t. cond t ([] ∷ parts_of stop (bs ++ (stop ∷ rest))) (onto_first b (parts_of stop (bs ++ (stop ∷ rest))))) (is_other (eqb b stop) p.0) ∙ ap (onto_first b) (to_stop stop bs rest p.1)
  where
    is_other : (t : Bool) → not t ≡ true → t ≡ false
    is_other true e = absurd (cc e)
    is_other false e = refl

last_part : (stop : ℕ) (part : List ℕ) → lacks stop part ≡ true → parts_of stop part ≡ part ∷ []
last_part stop [] h = refl
last_part stop (b ∷ bs) h =
    let p = and_parts (not (eqb b stop)) (lacks stop bs) h in
    ap (λ t. cond t ([] ∷ parts_of stop bs) (onto_first b (parts_of stop bs))) (is_other (eqb b stop) p.0) ∙ ap (onto_first b) (last_part stop bs p.1)
  where
    is_other : (t : Bool) → not t ≡ true → t ≡ false
    is_other true e = absurd (cc e)
    is_other false e = refl

joined_parts : (stop : ℕ) (w : List ℕ) (ws : List (List ℕ)) → list_all (lacks stop) (w ∷ ws) ≡ true → parts_of stop (join_with_byte stop (w ∷ ws)) ≡ w ∷ ws
joined_parts stop w [] h = last_part stop w (and_parts (lacks stop w) true h).0
joined_parts stop w (v ∷ vs) h =
    let p = and_parts (lacks stop w) (list_all (lacks stop) (v ∷ vs)) h in
    to_stop stop w (join_with_byte stop (v ∷ vs)) p.0 ∙ ap (λ r. w ∷ r) (joined_parts stop v vs p.1)

pub cut_parts : (stop : ℕ) (text w : List ℕ) (ws : List (List ℕ)) → IsCutAt stop text (w ∷ ws) → parts_of stop text ≡ w ∷ ws
cut_parts stop text w ws c = ap (parts_of stop) c.joined ∙ joined_parts stop w ws c.apart

onto_apart : (stop b : ℕ) (parts : List (List ℕ)) → eqb b stop ≡ false → list_all (lacks stop) parts ≡ true → list_all (lacks stop) (onto_first b parts) ≡ true
onto_apart stop b [] n h = ap (λ t. not t && true && true) n
onto_apart stop b (p ∷ ps) n h = ap (λ t. (not t && lacks stop p) && list_all (lacks stop) ps) n ∙ h

parts_apart : (stop : ℕ) (text : List ℕ) → list_all (lacks stop) (parts_of stop text) ≡ true
parts_apart stop [] = refl
parts_apart stop (b ∷ bs) =
    let rest = parts_of stop bs in
    ⊎_elim
    (λ t. ap (λ v. list_all (lacks stop) (cond v ([] ∷ rest) (onto_first b rest))) t ∙ parts_apart stop bs)
    (λ t. ap (λ v. list_all (lacks stop) (cond v ([] ∷ rest) (onto_first b rest))) t ∙ onto_apart stop b rest t (parts_apart stop bs))
    (cases_Bool (eqb b stop))

pub is_cut : (stop : ℕ) (text : List ℕ) → IsCutAt stop text (parts_of stop text)
is_cut stop text = record { joined = sym (join_with_byte-slice_split stop text); apart = parts_apart stop text }
