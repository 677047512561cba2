-- Statements by those that are left.
use Rattle.std.proofs.Common.{◌≡◌, ℕ, suc, ◌+◌, ◌<◌, ◌≤◌, List, ◌∷◌, length, drop, get_or, refl, sym, ap, ◌∙◌, subst, add-one, drop-cons}
use Rattle.std.proofs.lemmas.List.{drop_all}
use Rattle.maple_base.specs.declared.decision.Outcome.{Outcome}
use Rattle.maple_base.specs.declared.decision.Outcome.TheVariants.{Spent}
use Rattle.policy_meaning.specs.Asking.{End, Goes, Ends, Run, ◌>>=◌}
use Rattle.policy_meaning.specs.Leads.{Saying, Leads}
use Rattle.policy_meaning.proofs.Walks.{leads_next, leads_end}
use Rattle.policy_lang.specs.declared.Statement.{Statement}
use Rattle.policy_meaning.specs.Values.{Scope}
use Rattle.policy_eval.specs.StatementParts.{statement_runs, runs_of}

abbrev Parts : Type 0
Parts = Run (Scope × ℕ)

-- where what is left leads, the whole does
abbrev pub LeadsOn : {S A : Type 0} → Saying S → S → Run A → S → Run A → Type 0
LeadsOn said s rest first all = (t : _) (e : End _) → Leads said s rest t e → Leads said first all t e

then_rest : List Statement → ℕ → Scope × ℕ → Parts
then_rest sts switch (t, left) = runs_of sts switch t left

at_statement : (sts : List Statement) (i switch : ℕ) (st : Statement) (s : Scope) (n : ℕ) → i < length sts → st ≡ get_or sts i st → runs_of (drop i sts) switch s n ≡ runs_of (st ∷ drop (i + 1) sts) switch s n
at_statement sts i switch st s n lt h = ap (λ l. runs_of l switch s n) (drop-cons sts i st lt ∙ ap (λ x. x ∷ drop (suc i) sts) (sym h) ∙ ap (λ k. st ∷ drop k sts) (sym (add-one i)))

next_statement : (sts : List Statement) (i switch : ℕ) (st : Statement) (s : Scope) (n left : ℕ) → i < length sts → st ≡ get_or sts i st → n ≡ suc left
    → runs_of (drop i sts) switch s n ≡ (statement_runs st switch s left >>= then_rest (drop (i + 1) sts) switch)
unfolding then_rest
next_statement sts i switch st s n left lt h e = at_statement sts i switch st s n lt h ∙ ap (runs_of (st ∷ drop (i + 1) sts) switch s) e

pub spent_here : {S : Type 0} (said : Saying S) (sts : List Statement) (i switch : ℕ) (st : Statement) (s : S) (scope : Scope) (n : ℕ) (first : S) (all : Run (Scope × ℕ))
    → i < length sts → st ≡ get_or sts i st → n ≡ 0 → LeadsOn said s (runs_of (drop i sts) switch scope n) first all → Leads said first all s (Ends Spent)
spent_here said sts i switch st s scope n first all lt h e on =
    on s (Ends Spent) (subst (λ m. Leads said s m s (Ends Spent)) (sym (at_statement sts i switch st scope n lt h ∙ ap (runs_of (st ∷ drop (i + 1) sts) switch scope) e)) (refl, refl))

pub statement_ends : {S : Type 0} (said : Saying S) (sts : List Statement) (i switch : ℕ) (st : Statement) (s : S) (scope : Scope) (n left : ℕ) (first : S) (all : Run (Scope × ℕ)) (t : S) (o : Outcome)
    → i < length sts → st ≡ get_or sts i st → n ≡ suc left → LeadsOn said s (runs_of (drop i sts) switch scope n) first all
    → Leads said s (statement_runs st switch scope left) t (Ends o) → Leads said first all t (Ends o)
statement_ends said sts i switch st s scope n left first all t o lt h e on w =
    on t (Ends o) (subst (λ m. Leads said s m t (Ends o)) (sym (next_statement sts i switch st scope n left lt h e))
    (leads_end said s (statement_runs st switch scope left) t o (then_rest (drop (i + 1) sts) switch) w))

pub statement_goes : {S : Type 0} (said : Saying S) (sts : List Statement) (i switch : ℕ) (st : Statement) (s : S) (scope : Scope) (n left : ℕ) (first : S) (all : Run (Scope × ℕ)) (u : S) (names : Scope) (then : ℕ)
    → i < length sts → st ≡ get_or sts i st → n ≡ suc left → LeadsOn said s (runs_of (drop i sts) switch scope n) first all
    → Leads said s (statement_runs st switch scope left) u (Goes (names, then)) → LeadsOn said u (runs_of (drop (i + 1) sts) switch names then) first all
unfolding then_rest
statement_goes said sts i switch st s scope n left first all u names then lt h e on w t r x =
    on t r (subst (λ m. Leads said s m t r) (sym (next_statement sts i switch st scope n left lt h e))
    (leads_next said s (statement_runs st switch scope left) u (names, then) (then_rest (drop (i + 1) sts) switch) t r w x))

pub all_run : {S : Type 0} (said : Saying S) (sts : List Statement) (i switch : ℕ) (s : S) (scope : Scope) (n : ℕ) (first : S) (all : Run (Scope × ℕ))
    → length sts ≤ i → LeadsOn said s (runs_of (drop i sts) switch scope n) first all → Leads said first all s (Goes (scope, n))
all_run said sts i switch s scope n first all l on = on s (Goes (scope, n)) (subst (λ m. Leads said s (runs_of m switch scope n) s (Goes (scope, n))) (sym (drop_all i sts l)) (refl, refl))
