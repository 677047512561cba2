-- Actions behind one another, of 8 bytes each.
use Rattle.std.proofs.Common.{◌≡◌, ℕ, zero, suc, ◌+◌, ◌*◌, ◌<◌, ◌≤◌, true, false, List, [], ◌∷◌, ◌++◌, length, drop, Some, refl, sym, ap, ◌∙◌, subst, arith}
use Rattle.std.proofs.lemmas.List.{drop-drop}
use Rattle.std.proofs.lemmas.Bool.Decides.{nat_tests}
use Rattle.maple_base.specs.NetworkOrder.{number_at}
use Rattle.of10_codec.specs.declared.fault.Bad.TheVariants.{Body}
use Rattle.of10_codec.specs.Messages.{SpellsOutput, SpellsOutputs}
use Rattle.of10_codec.proofs.Steps.{drop_next}
use Rattle.of10_codec.specs.Faults.{is_output, action_faults, first_fault, unless_so}

-- one action more
pub outputs_more : (ps : List ℕ) (p : ℕ) (b : List ℕ) → SpellsOutputs ps b → SpellsOutput p (drop (8 * length ps) b) → SpellsOutputs (ps ++ p ∷ []) b
outputs_more [] p b s h = (h, tt)
outputs_more (q ∷ qs) p b s h = (s.0, outputs_more qs p (drop 8 b) s.1 (rw (drop_next 8 (length qs) b) h))

pub outputs_in : ℕ → List ℕ → List ℕ
outputs_in zero b = []
outputs_in (suc n) b = number_at 4 2 b ∷ outputs_in n (drop 8 b)

-- the actions that are spelled are those that the bytes show
pub outputs_shown : (ps : List ℕ) (b : List ℕ) → SpellsOutputs ps b → ps ≡ outputs_in (length ps) b
unfolding outputs_in
outputs_shown [] b s = refl
outputs_shown (p ∷ ps) b s = λ i. sym s.0.number i ∷ outputs_shown ps (drop 8 b) s.1 i

pub is_output-spelled : (p : ℕ) (b : List ℕ) → SpellsOutput p b → is_output b ≡ true
is_output-spelled p b s = grind (arith, nat_tests, s.kind, s.len)

-- at most so many actions that are spelled have no fault
pub outputs_fine : (ps : List ℕ) (room place : ℕ) (b : List ℕ) → length ps ≤ room → SpellsOutputs ps (drop place b) → action_faults (length ps) room place b ≡ []
outputs_fine [] room place b few s = refl
outputs_fine (p ∷ ps) zero place b few s = absurd (omega arith)
outputs_fine (p ∷ ps) (suc room) place b few s =
    let le : length ps ≤ room = omega arith in
    let rest : SpellsOutputs ps (drop (place + 8) b) = subst (SpellsOutputs ps) (drop-drop 8 place b) s.1 in
    ap (λ t. unless_so t place ++ action_faults (length ps) room (place + 8) b) (is_output-spelled p (drop place b) s.0) ∙ outputs_fine ps room (place + 8) b le rest

-- an action that sends out of a port is passed
pub faults_next : (n m room less place : ℕ) (b : List ℕ) → n ≡ suc m → room ≡ suc less → is_output (drop place b) ≡ true → action_faults n room place b ≡ action_faults m less (place + 8) b
faults_next n m room less place b en er h =
    ap (λ k. action_faults k room place b) en ∙ ap (λ k. action_faults (suc m) k place b) er
    ∙ ap (λ t. unless_so t place ++ action_faults m less (place + 8) b) h

-- one that does not is the first fault
pub fault_here : (kind n room place : ℕ) (b : List ℕ) → 0 < n → is_output (drop place b) ≡ false → first_fault kind (action_faults n room place b) ≡ Some (Body kind place)
fault_here kind zero room place b lt h = absurd (omega arith)
fault_here kind (suc n) zero place b lt h = refl
fault_here kind (suc n) (suc room) place b lt h = ap (λ t. first_fault kind (unless_so t place ++ action_faults n room (place + 8) b)) h

-- so is one past the room
pub fault_past : (kind n place : ℕ) (b : List ℕ) → 0 < n → first_fault kind (action_faults n 0 place b) ≡ Some (Body kind place)
fault_past kind zero place b lt = absurd (omega arith)
fault_past kind (suc n) place b lt = refl
