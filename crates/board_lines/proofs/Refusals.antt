-- What is kept of a text is refused as the text is.
use Rattle.std.proofs.Common.{◌≡◌, ℕ, ◌<◌, ◌≤◌, Bool, true, false, cond, List, [], ◌∷◌, ◌++◌, length, None, refl, sym, ap, ◌∙◌, subst, inl, arith, ⊎_elim, length-append}
use Rattle.std.specs.Prelude.{nat_lt}
use Rattle.std.specs.Option.{option_map}
use Rattle.std.proofs.lemmas.Bool.Decides.{nat_tests}
use Rattle.maple_base.specs.declared.policy_fault.PolicyFault.TheVariants.{TooLong}
use Rattle.maple_base.specs.PolicyLimits.{most_bytes}
use Rattle.policy_text.specs.declared.reading.ReadError.{ReadError}
use Rattle.policy_text.specs.declared.reading.ReadError.TheVariants.{Refused, NoMemory}
use Rattle.policy_text.specs.Texts.{IsRefused, IsTextOf}
use Rattle.policy_tokens.specs.declared.fault.TokensError.{TokensError}
use Rattle.policy_tokens.specs.Faults.{Fault, earliest, fault_at, faults, lexeme_fault, strange_bytes, told}
use Rattle.policy_tokens.specs.Lexemes.{lexemes_of}
use Rattle.std.specs.List.{filter_map}
use Rattle.board_lines.specs.KeptTexts.{kept_text}
use Rattle.board_lines.specs.Laws.{PoliciesAlike, RefusedAlike}
use Rattle.board_lines.proofs.Kept.{keeps_all}
use Rattle.board_lines.proofs.Told.{keeps_faults}

-- a text that is too long has a fault
long_faulty : (text : List ℕ) → most_bytes < length text → faults text ≡ [] → ⊥
long_faulty text many none =
    let t : nat_lt most_bytes (length text) ≡ true = grind (arith, nat_tests) in
    let strange = strange_bytes 0 text in
    let words = filter_map lexeme_fault (lexemes_of text) in
    let has : faults text ≡ (strange ++ fault_at most_bytes TooLong ∷ []) ++ words = ap (λ v. (strange ++ cond v (fault_at most_bytes TooLong ∷ []) []) ++ words) t in
    let count : length ((strange ++ fault_at most_bytes TooLong ∷ []) ++ words) ≡ 0 = ap length (sym has ∙ none) in
    omega (arith, count, length-append (strange ++ fault_at most_bytes TooLong ∷ []) words, length-append strange (fault_at most_bytes TooLong ∷ []))

none_told : (tell : Fault → TokensError) (fs : List Fault) → option_map tell (earliest fs) ≡ None → fs ≡ []
none_told tell [] e = refl
none_told tell (f ∷ fs) e = absurd (cc e)

kept_faulty : (text : List ℕ) → most_bytes < length text → faults (kept_text text) ≡ [] → ⊥
kept_faulty text many none =
    long_faulty text many (none_told (told text) (faults text) (sym (keeps_faults text) ∙ ap (λ fs. option_map (told (kept_text text)) (earliest fs)) none))

-- two texts with one first fault are refused alike
refused_as : (x y : List ℕ) (error : ReadError) → option_map (told x) (earliest (faults x)) ≡ option_map (told y) (earliest (faults y)) → (faults x ≡ [] → ⊥) → (faults y ≡ [] → ⊥) → IsRefused x error → IsRefused y error
refused_as x y NoMemory e fx fy h = tt
refused_as x y (Refused line column kind) e fx fy h = (
  λ policy t. fy t.faultless,
  ⊎_elim (λ f. inl (record { fault = f.fault; first = sym e ∙ f.first; number = f.number })) (λ r. absurd (fx r.0)) h.1,
)

pub refused_alike : RefusedAlike
refused_alike text error = go (nat_lt most_bytes (length text)) refl
  where
    go : (t : Bool) → nat_lt most_bytes (length text) ≡ t → (IsRefused (kept_text text) error → IsRefused text error) × (IsRefused text error → IsRefused (kept_text text) error)
    go true e =
        let many : most_bytes < length text = grind (arith, nat_tests) in
        let same = keeps_faults text in
        (refused_as (kept_text text) text error same (kept_faulty text many) (long_faulty text many), refused_as text (kept_text text) error (sym same) (long_faulty text many) (kept_faulty text many))
    go false e =
        let few : length text ≤ most_bytes = grind (arith, nat_tests) in
        let same : kept_text text ≡ text = keeps_all text few in
        (λ h. subst (λ x. IsRefused x error) same h, λ h. subst (λ x. IsRefused x error) (sym same) h)

pub policies_alike : PoliciesAlike
policies_alike text policy = go (nat_lt most_bytes (length text)) refl
  where
    go : (t : Bool) → nat_lt most_bytes (length text) ≡ t → (IsTextOf policy (kept_text text) → IsTextOf policy text) × (IsTextOf policy text → IsTextOf policy (kept_text text))
    go true e =
        let many : most_bytes < length text = grind (arith, nat_tests) in
        (λ h. absurd (kept_faulty text many h.faultless), λ h. absurd (long_faulty text many h.faultless))
    go false e =
        let few : length text ≤ most_bytes = grind (arith, nat_tests) in
        let same : kept_text text ≡ text = keeps_all text few in
        (λ h. subst (λ x. IsTextOf policy x) same h, λ h. subst (λ x. IsTextOf policy x) (sym same) h)
