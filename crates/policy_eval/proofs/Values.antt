-- What an expression gives by its parts.
use Rattle.std.proofs.Common.{◌≡◌, ℕ, zero, Bool, refl, sym, ap, ◌∙◌, subst}
use Rattle.std.specs.Prelude.{Option, Some, None, if◌then◌else◌}
use Rattle.maple_base.specs.declared.decision.Outcome.{Outcome}
use Rattle.maple_base.specs.declared.decision.Outcome.TheVariants.{Spent}
use Rattle.maple_base.specs.declared.operator.Operator.{Operator}
use Rattle.policy_meaning.specs.Asking.{Goes, Ends, Run, gives, ends}
use Rattle.policy_meaning.specs.Leads.{Saying, Leads}
use Rattle.policy_meaning.proofs.Walks.{leads_next, leads_end}
use Rattle.policy_lang.specs.Tree.{Term, Single, Call, Is, Not, Pair}
use Rattle.policy_meaning.specs.Values.{Datum, Truth, Scope, applied}
use Rattle.policy_meaning.specs.Meaning.{behind_left, value_of}
use Rattle.policy_eval.specs.declared.datum.Datum.{Datum as Kept}
use Rattle.policy_eval.specs.Data.{datum_of, IsSettled, IsMade}

none_left : (t : Term) (switch : ℕ) (scope : Scope) → value_of t switch scope zero ≡ ends Spent
none_left (Single x) switch scope = refl
none_left (Call c l r) switch scope = refl
none_left (Is f e) switch scope = refl
none_left (Not e) switch scope = refl
none_left (Pair o l r) switch scope = refl

-- where no step is left
pub value_spent : {S : Type 0} (said : Saying S) (s : S) (t : Term) (switch : ℕ) (scope : Scope) (n : ℕ) → n ≡ 0 → Leads said s (value_of t switch scope n) s (Ends Spent)
value_spent said s t switch scope n h = subst (λ m. Leads said s m s (Ends Spent)) (sym (ap (value_of t switch scope) h ∙ none_left t switch scope)) (refl, refl)

abbrev Right : Type 0
Right = ℕ → Run (Datum × ℕ)

-- behind a left part that settles the operator
pub settled : {S : Type 0} (said : Saying S) (s : S) (b : Option Bool) (p : Operator) (d : Datum) (right : Right) (left : ℕ) (a : Kept)
    → IsSettled (Some a) b d → Leads said s (behind_left b p d right left) s (Goes (datum_of a, left))
settled said s None p d right left a h = absurd (cc)
settled said s (Some b) p d right left a h =
    subst (λ i. Leads said s (if i then gives (Truth b, left) else right left) s (Goes (datum_of a, left))) (sym h.0) (refl, ap (λ y. Goes (y, left)) (sym h.1))

then_applied : Operator → Datum → Datum × ℕ → Run (Datum × ℕ)
then_applied p d (e, left) = gives (applied p d e, left)

-- behind one that doesn't
pub unsettled_ends : {S : Type 0} (said : Saying S) (s : S) (b : Option Bool) (p : Operator) (d : Datum) (right : Right) (left : ℕ) (t : S) (o : Outcome)
    → IsSettled None b d → Leads said s (right left) t (Ends o) → Leads said s (behind_left b p d right left) t (Ends o)
unfolding then_applied
unsettled_ends said s None p d right left t o h w = leads_end said s (right left) t o (then_applied p d) w
unsettled_ends said s (Some b) p d right left t o h w = subst (λ i. Leads said s (if i then gives (Truth b, left) else right left) t (Ends o)) (sym h) w

pub unsettled_gives : {S : Type 0} (said : Saying S) (s : S) (b : Option Bool) (p : Operator) (d : Datum) (right : Right) (left : ℕ) (t : S) (e : Datum) (rest : ℕ) (a : Kept)
    → IsSettled None b d → IsMade a b p d e → Leads said s (right left) t (Goes (e, rest)) → Leads said s (behind_left b p d right left) t (Goes (datum_of a, rest))
unfolding then_applied
unsettled_gives said s None p d right left t e rest a h m w =
    leads_next said s (right left) t (e, rest) (then_applied p d) t (Goes (datum_of a, rest)) w (refl, ap (λ y. Goes (y, rest)) (sym m))
unsettled_gives said s (Some b) p d right left t e rest a h m w =
    subst (λ i. Leads said s (if i then gives (Truth b, left) else right left) t (Goes (datum_of a, rest))) (sym h) (subst (λ y. Leads said s (right left) t (Goes (y, rest))) (sym m) w)
