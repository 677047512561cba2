-- A recorder's notes are a trace.
use Rattle.std.proofs.Common.{◌≡◌, ℕ, true, [], refl, sym, ap, ◌∙◌, subst}
use Rattle.std.specs.Prelude.{Result, IfOk}
use Rattle.std.proofs.lemmas.Result.{IfOk-weaker}
use Rattle.maple_base.specs.declared.key.Key.{Key}
use Rattle.maple_base.specs.declared.cells.Cell.{Cell}
use Rattle.maple_base.specs.declared.cells.Value.{Value}
use Rattle.maple_base.specs.declared.decision.Outcome.{Outcome}
use Rattle.maple_base.specs.Keys.{valid_key}
use Rattle.policy_meaning.specs.Cells.{AreGiven}
use Rattle.policy_lang.specs.declared.Policy.{Policy}
use Rattle.policy_lang.specs.TreeOf.{tree_of}
use Rattle.policy_meaning.specs.Meaning.{meaning}
use Rattle.policy_meaning.specs.Through.{nothing}
use Rattle.policy_meaning.specs.Leads.{Saying, Leads}
use Rattle.policy_meaning.specs.Notes.{Notes as IsNoted, seen}
use Rattle.policy_meaning.proofs.Walks.{leads_as}
use Rattle.policy_meaning.proofs.Recorded.{notes_trace}
use Rattle.policy_eval.specs.declared.asker.Unanswered.{Unanswered}
use Rattle.trace_record.specs.declared.recorder.Notes.{Notes}
use Rattle.trace_record.specs.Recorded.{answers_of, Records, IsRecorded}

-- what holds of the notes and of what the view gave, behind answers to a key
record Held (k : Key) (gave : Cell → Value → Type 0) (n : Notes) : Type 0 where
  key : n.key ≡ k
  told : AreGiven gave n.cells

abbrev Recording : {S : Type 0} → (S → Notes) → (S → Cell → Value → Type 0) → Saying S
Recording notes gave x a y = Records (notes x) (gave x) a (notes y) (gave y)

recorded : {S : Type 0} (notes : S → Notes) (gave : S → Cell → Value → Type 0) (p : Policy) (budget switch : ℕ) (s t : S) (o : Outcome) → valid_key (notes s).key ≡ true
    → answers_of (notes s) ≡ nothing → Leads (Recording notes gave) s (meaning (tree_of p.body) budget switch) t o → IsRecorded p budget switch (notes s).key (notes t) (gave t) o
recorded notes gave p budget switch s t o valid empty l =
    let k = (notes s).key in
    let c = meaning (tree_of p.body) budget switch in
    let q = leads_as (Recording notes gave) (IsNoted k) (λ u. answers_of (notes u)) (λ u. Held k (gave u) (notes u)) s c t o
    (λ u a v h w. (subst (λ x. IsNoted x (answers_of (notes u)) a (answers_of (notes v))) h.key w.notes, record { key = sym w.key ∙ h.key; told = w.told h.told }))
    (record { key = refl; told = subst (λ x. AreGiven (gave s) x.cells) (sym empty) tt }) l in
    record { trace = notes_trace c k (answers_of (notes t)) o valid (subst (λ x. Leads (IsNoted k) x c (answers_of (notes t)) o) empty q.0); given = q.1.told }

-- a walk's notes, where there were none ahead of it
pub recorded_if : {S : Type 0} (notes : S → Notes) (gave : S → Cell → Value → Type 0) (p : Policy) (budget switch : ℕ) (s t : S) (r : Result Outcome Unanswered)
    → valid_key (notes s).key ≡ true → (notes s).items ≡ [] → (notes s).cells ≡ [] → IfOk r (λ o. Leads (Recording notes gave) s (meaning (tree_of p.body) budget switch) t o)
    → IfOk r (IsRecorded p budget switch (notes s).key (notes t) (gave t))
recorded_if notes gave p budget switch s t r valid items cells =
    IfOk-weaker r (λ o. Leads (Recording notes gave) s (meaning (tree_of p.body) budget switch) t o) _
    (λ o. recorded notes gave p budget switch s t o valid (ap (λ is. seen is (notes s).cells) items ∙ ap (seen []) cells))
