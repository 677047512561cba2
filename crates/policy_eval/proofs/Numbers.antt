-- The numbers of expressions: the first's, and those behind it.
use Rattle.std.proofs.Common.{◌≡◌, ℕ, ◌-◌, ◌<◌, List, [], ◌∷◌, length, take, drop, get_or, ap, ◌∙◌, subst, refl, arith}
use Rattle.std.proofs.lemmas.List.{take_all}
use Rattle.maple_base.specs.declared.decision.Outcome.{Outcome}
use Rattle.policy_meaning.specs.Asking.{End, Goes, Ends, Run, gives, ◌>>=◌}
use Rattle.policy_meaning.specs.Leads.{Saying, Leads}
use Rattle.policy_lang.specs.declared.Expr.{Expr}
use Rattle.policy_lang.specs.TreeOf.{term_of, terms_of}
use Rattle.policy_meaning.specs.Values.{Datum, Scope, number_in}
use Rattle.policy_meaning.specs.Meaning.{value_of, numbers_of}
use Rattle.policy_meaning.proofs.Walks.{leads_next, leads_end}

abbrev behind : List Expr → List Expr
behind es = take (length es - 1) (drop 1 es)

split : (es : List Expr) (e : Expr) → 0 < length es → e ≡ get_or es 0 e → e ∷ behind es ≡ es
split [] e lt h = absurd (omega (arith, lt))
split (x ∷ es) e lt h = ap (λ y. y ∷ behind (x ∷ es)) h ∙ ap (λ ys. x ∷ ys) (take_all (length (x ∷ es) - 1) es (omega arith))

with_number : ℕ → List ℕ × ℕ → Run (List ℕ × ℕ)
with_number n (ns, left) = gives (n ∷ ns, left)

behind_first : List Expr → ℕ → Scope → Datum × ℕ → Run (List ℕ × ℕ)
behind_first es switch s (d, left) = numbers_of (terms_of es) switch s left >>= with_number (number_in d)

pub none_left : {S : Type 0} (said : Saying S) (s : S) (es : List Expr) (switch : ℕ) (scope : Scope) (left : ℕ) → length es < 1 → Leads said s (numbers_of (terms_of es) switch scope left) s (Goes ([], left))
none_left said s [] switch scope left h = (refl, refl)
none_left said s (e ∷ es) switch scope left h = absurd (omega (arith, h))

pub first_ends : {S : Type 0} (said : Saying S) (s : S) (es : List Expr) (e : Expr) (switch : ℕ) (scope : Scope) (left : ℕ) (t : S) (o : Outcome)
    → 0 < length es → e ≡ get_or es 0 e → Leads said s (value_of (term_of e) switch scope left) t (Ends o) → Leads said s (numbers_of (terms_of es) switch scope left) t (Ends o)
unfolding behind_first with_number
first_ends said s es e switch scope left t o lt h w =
    subst (λ l. Leads said s (numbers_of (terms_of l) switch scope left) t (Ends o)) (split es e lt h)
    (leads_end said s (value_of (term_of e) switch scope left) t o (behind_first (behind es) switch scope) w)

-- where the first has its number, by how those behind it end
led_on : {S : Type 0} (said : Saying S) (s : S) (es : List Expr) (e : Expr) (switch : ℕ) (scope : Scope) (left : ℕ) (u : S) (d : Datum) (rest : ℕ) (t : S) (r : End (List ℕ × ℕ))
    → 0 < length es → e ≡ get_or es 0 e → Leads said s (value_of (term_of e) switch scope left) u (Goes (d, rest))
    → Leads said u (numbers_of (terms_of (behind es)) switch scope rest >>= with_number (number_in d)) t r → Leads said s (numbers_of (terms_of es) switch scope left) t r
unfolding behind_first with_number
led_on said s es e switch scope left u d rest t r lt h w x =
    subst (λ l. Leads said s (numbers_of (terms_of l) switch scope left) t r) (split es e lt h)
    (leads_next said s (value_of (term_of e) switch scope left) u (d, rest) (behind_first (behind es) switch scope) t r w x)

pub rest_ends : {S : Type 0} (said : Saying S) (s : S) (es : List Expr) (e : Expr) (switch : ℕ) (scope : Scope) (left : ℕ) (u : S) (d : Datum) (rest : ℕ) (t : S) (o : Outcome)
    → 0 < length es → e ≡ get_or es 0 e → Leads said s (value_of (term_of e) switch scope left) u (Goes (d, rest))
    → Leads said u (numbers_of (terms_of (behind es)) switch scope rest) t (Ends o) → Leads said s (numbers_of (terms_of es) switch scope left) t (Ends o)
rest_ends said s es e switch scope left u d rest t o lt h w y =
    led_on said s es e switch scope left u d rest t (Ends o) lt h w (leads_end said u (numbers_of (terms_of (behind es)) switch scope rest) t o (with_number (number_in d)) y)

pub rest_goes : {S : Type 0} (said : Saying S) (s : S) (es : List Expr) (e : Expr) (switch : ℕ) (scope : Scope) (left : ℕ) (u : S) (d : Datum) (rest : ℕ) (t : S) (ns : List ℕ) (then : ℕ)
    → 0 < length es → e ≡ get_or es 0 e → Leads said s (value_of (term_of e) switch scope left) u (Goes (d, rest))
    → Leads said u (numbers_of (terms_of (behind es)) switch scope rest) t (Goes (ns, then)) → Leads said s (numbers_of (terms_of es) switch scope left) t (Goes (number_in d ∷ ns, then))
unfolding with_number
rest_goes said s es e switch scope left u d rest t ns then lt h w y =
    led_on said s es e switch scope left u d rest t (Goes (number_in d ∷ ns, then)) lt h w
    (leads_next said u (numbers_of (terms_of (behind es)) switch scope rest) t (ns, then) (with_number (number_in d)) t (Goes (number_in d ∷ ns, then)) y (refl, refl))
