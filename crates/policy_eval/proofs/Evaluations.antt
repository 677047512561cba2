-- The answers of a key and an environment lead to the outcome of plain evaluation.
use Rattle.std.proofs.Common.{◌≡◌, refl, sym, ◌∙◌, subst}
use Rattle.maple_base.specs.declared.key.Key.{Key}
use Rattle.maple_base.specs.declared.cells.Cell.{Cell}
use Rattle.maple_base.specs.declared.cells.Value.{Value}
use Rattle.maple_base.specs.declared.decision.Outcome.{Outcome}
use Rattle.policy_meaning.specs.Asking.{Asking}
use Rattle.policy_meaning.specs.Readings.{outcome_in}
use Rattle.policy_meaning.specs.Leads.{Saying, Leads}
use Rattle.policy_meaning.specs.Notes.{Truly}
use Rattle.policy_meaning.proofs.Walks.{leads_as, leads_truly}
use Rattle.policy_eval.specs.Evaluated.{Evaluates}

abbrev Evaluating : {E S : Type 0} → (S → Key) → (S → E) → (E → Cell → Value) → Saying S
Evaluating key env has s a t = Evaluates (key s) (env s) (key t) (env t) has a

pub evaluated : {E S : Type 0} (key : S → Key) (env : S → E) (has : E → Cell → Value) (s t : S) (c : Asking Outcome) (o : Outcome)
    → Leads (Evaluating key env has) s c t o → o ≡ outcome_in c (key s) (has (env s))
evaluated key env has s t c o l =
    let k = key s in
    let e = env s in
    let holds : _ → Type 0 = λ u. (key u ≡ k) × (env u ≡ e) in
    let tells : Saying (Unit {0}) = λ u a v. Truly k (has e) a in
    let q = leads_as (Evaluating key env has) tells (λ u. tt) holds s c t o
    (λ u a v h w. (subst (λ x. Truly x (has e) a) h.0 (subst (λ x. Truly (key u) (has x) a) h.1 w.truly), (sym w.key ∙ h.0, sym w.env ∙ h.1)))
    (refl, refl) l in
    sym (leads_truly k (has e) tt c tt o q.0)
