-- What names stand for, by their places.
use Rattle.std.proofs.Common.{◌≡◌, ◌∙◌, ℕ, ◌+◌, ◌-◌, suc, arith, Bool, true, false, List, [], ◌∷◌, Option, None, Some, refl, ap, sym, subst, cond, get_or, set, drop, length}
use Rattle.std.specs.Prelude.{nat_lt, not}
use Rattle.std.specs.Option.{option_map}
use Rattle.std.specs.List.{position, position_or_len}
use Rattle.std.proofs.lemmas.Bool.Decides.{nat_tests}
use Rattle.std.proofs.lemmas.List.{drop-map, length-map}
use Rattle.policy_eval.specs.declared.datum.Datum.{Datum}
use Rattle.policy_eval.specs.declared.datum.Datum.TheVariants.{Number}
use Rattle.policy_eval.specs.Data.{datum_of}
use Rattle.policy_eval.specs.Scopes.{entry_of, in_force, is_named}
use Rattle.policy_meaning.specs.Values.{Numeral, Scope, named, assigned}

abbrev Entry : Type 0
Entry = List ℕ × Datum

-- what is looked up and what is assigned where the first place of a name is this
abbrev Stands : List ℕ → Datum → Entry → List Entry → Option ℕ → Type 0
Stands x v e es None = (named x (in_force es) ≡ Numeral 0) × (assigned x (datum_of v) (in_force es) ≡ in_force es)
Stands x v e es (Some i) = (named x (in_force es) ≡ datum_of (get_or es i e).1) × (assigned x (datum_of v) (in_force es) ≡ in_force (set es i ((get_or es i e).0, v)))

ahead : (b : Bool) (n l : ℕ) → cond (nat_lt (cond (not b) (1 + n) 0) (suc l)) (Some (cond (not b) (1 + n) 0)) None ≡ cond b (Some 0) (option_map suc (cond (nat_lt n l) (Some n) None))
ahead true n l = grind (arith, nat_tests)
ahead false n l = grind (arith, nat_tests)

step : (x : List ℕ) (v : Datum) (e y : Entry) (ys : List Entry) (b : Bool) → is_named x y ≡ b → (o : Option ℕ) → Stands x v e ys o → Stands x v e (y ∷ ys) (cond b (Some 0) (option_map suc o))
step x v e y ys true h o s = (rw h refl, rw h refl)
step x v e y ys false h None s = (rw h s.0, rw h (ap (λ r. entry_of y ∷ r) s.1))
step x v e y ys false h (Some i) s = (rw h s.0, rw h (ap (λ r. entry_of y ∷ r) s.1))

found : (x : List ℕ) (v : Datum) (e : Entry) (es : List Entry) → Stands x v e es (position (is_named x) es)
found x v e [] = (refl, refl)
found x v e (y ∷ ys) = subst (Stands x v e (y ∷ ys)) (sym (ahead (is_named x y) (position_or_len (is_named x) ys) (length ys))) (step x v e y ys (is_named x y) refl (position (is_named x) ys) (found x v e ys))

stands : (x : List ℕ) (v : Datum) (e : Entry) (es : List Entry) (o : Option ℕ) → o ≡ position (is_named x) es → Stands x v e es o
stands x v e es o h = subst (Stands x v e es) (sym h) (found x v e es)

pub named_here : (x : List ℕ) (e : Entry) (es : List Entry) (i : ℕ) (s : Scope) → Some i ≡ position (is_named x) es → e ≡ get_or es i e → in_force es ≡ s → datum_of e.1 ≡ named x s
named_here x e es i s h k w = ap (λ d. datum_of d.1) k ∙ sym (stands x e.1 e es (Some i) h).0 ∙ ap (named x) w

pub named_nowhere : (x : List ℕ) (es : List Entry) (s : Scope) → None ≡ position (is_named x) es → in_force es ≡ s → Numeral 0 ≡ named x s
named_nowhere x es s h w = sym (stands x (Number 0) (x, Number 0) es None h).0 ∙ ap (named x) w

pub assigned_here : (x : List ℕ) (v : Datum) (e : Entry) (es : List Entry) (i : ℕ) (s : Scope) → Some i ≡ position (is_named x) es → e ≡ get_or es i e → in_force es ≡ s → in_force (set es i (e.0, v)) ≡ assigned x (datum_of v) s
assigned_here x v e es i s h k w = ap (λ d. in_force (set es i (d.0, v))) k ∙ sym (stands x v e es (Some i) h).1 ∙ ap (assigned x (datum_of v)) w

pub assigned_nowhere : (x : List ℕ) (v : Datum) (es : List Entry) (s : Scope) → None ≡ position (is_named x) es → in_force es ≡ s → s ≡ assigned x (datum_of v) s
assigned_nowhere x v es s h w = sym w ∙ sym (stands x v (x, v) es None h).1 ∙ ap (assigned x (datum_of v)) w

pub kept_first : (es ks : List Entry) (n : ℕ) (s : Scope) → ks ≡ drop (length es - n) es → in_force es ≡ s → in_force ks ≡ drop (length s - n) s
kept_first es ks n s k w =
    ap in_force k ∙ sym (drop-map entry_of (length es - n) es) ∙ ap (λ l. drop (l - n) (in_force es)) (sym (length-map es entry_of)) ∙ ap (λ s. drop (length s - n) s) w
