-- The fault of a policy's text that a reader tells by its number.
use Rattle.std.proofs.Common.{◌≡◌, ℕ, List, Some, None, refl, ap, ◌∙◌, subst, inl, inr}
use Rattle.maple_base.specs.declared.policy_fault.PolicyFault.{PolicyFault}
use Rattle.maple_base.specs.PolicyFaults.{number_of, fault_numbered}
use Rattle.maple_base.proofs.FaultNumbers.{numbered_back}
use Rattle.policy_text.specs.declared.reading.ReadError.TheVariants.{Refused}
use Rattle.policy_text.specs.Texts.{IsRefused}
use Rattle.report_text.specs.declared.line.Line.TheVariants.{RefusedPolicy}
use Rattle.maple_top.specs.Refusals.{IsRefusal}

-- the number that is told is that of a fault
told_fault : (text : List ℕ) (line column kind : ℕ) → IsRefused text (Refused line column kind) → (f : PolicyFault) × (kind ≡ number_of f)
told_fault text line column kind (unfit, inl h) = (h.fault, h.number)
told_fault text line column kind (unfit, inr (clean, inl h)) = (h.fault, h.number)
told_fault text line column kind (unfit, inr (clean, inr h)) = (h.fault.kind, h.number)

fault_is : (text : List ℕ) (line column kind : ℕ) (fault : PolicyFault) → IsRefused text (Refused line column kind) → Some fault ≡ fault_numbered kind → kind ≡ number_of fault
fault_is text line column kind fault r n =
    let (f, e) = told_fault text line column kind r in
    let back : Some fault ≡ Some f = n ∙ ap fault_numbered e ∙ numbered_back f in
    let same : f ≡ fault = cc in
    e ∙ ap number_of same

pub no_other : (text : List ℕ) (line column kind : ℕ) → IsRefused text (Refused line column kind) → None ≡ fault_numbered kind → ⊥
no_other text line column kind r n =
    let (f, e) = told_fault text line column kind r in
    let back : None ≡ Some f = n ∙ ap fault_numbered e ∙ numbered_back f in cc

-- what the reader tells of a text is its refusal
pub refusal_is : (text : List ℕ) (line column kind : ℕ) (fault : PolicyFault) → IsRefused text (Refused line column kind) → Some fault ≡ fault_numbered kind → IsRefusal text (RefusedPolicy line column fault)
refusal_is text line column kind fault r n = (line, column, fault, subst (λ k. IsRefused text (Refused line column k)) (fault_is text line column kind fault r n) r, refl)
