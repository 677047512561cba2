-- What is told of a text that has no policy, and that what is told is told of no text that has one.
use Rattle.std.proofs.Common.{◌≡◌, ℕ, ◌⊎◌, List, [], None, Result, Ok, Err, sym, ap, subst, ◌∙◌, inl, inr}
use Rattle.std.specs.Prelude.{IfErr}
use Rattle.std.specs.Option.{option_map}
use Rattle.policy_lang.specs.declared.Policy.{Policy}
use Rattle.policy_lang.specs.Faults.{first_by, place_in}
use Rattle.policy_tokens.specs.declared.token.Position.{Position}
use Rattle.policy_tokens.specs.declared.fault.TokensError.TheVariants.{Fault as token_fault}
use Rattle.policy_tokens.specs.Faults.{faults, earliest, told, IsErrorOf}
use Rattle.policy_tokens.specs.Tokens.{TokenList, tokens_of}
use Rattle.maple_base.specs.declared.policy_fault.PolicyFault.{PolicyFault}
use Rattle.policy_outline.specs.FileNodes.{file_nodes}
use Rattle.policy_outline.specs.Limits.{NoFaultOfFree}
use Rattle.policy_tree.specs.Laws.{OneFile}
use Rattle.policy_text.specs.declared.reading.ReadError.{ReadError}
use Rattle.policy_text.specs.declared.reading.ReadError.TheVariants.{Refused, NoMemory}
use Rattle.policy_text.specs.Texts.{plain, file_faults, IsPolicyOf, IsOutlineFault, IsNameFault, IsTold, HasNoPolicy, IsRefused, IsWrong}
use Rattle.policy_text.proofs.OneText.{same_file}

-- ---- what each pass finds is wrong with no text of a policy

no_token_fault : (text : List ℕ) (position : Position) (kind : PolicyFault) → IsErrorOf text (token_fault position kind) → faults text ≡ [] → ⊥
no_token_fault text position kind h none =
    let first : option_map (told text) (earliest (faults text)) ≡ None = ap (λ fs. option_map (told text) (earliest fs)) none in
    let both = sym first ∙ h in cc

no_outline_fault : NoFaultOfFree → (list : TokenList) (policy : Policy) (position : Position) (kind : ℕ) → IsPolicyOf policy (plain list) → IsOutlineFault list position kind → ⊥
no_outline_fault outline list policy position kind h w = outline (plain list) w.token w.fault h.file w.first h.is_file.body h.is_file.same h.is_file.free

no_name_fault : OneFile → (list : TokenList) (policy : Policy) (position : Position) (kind : ℕ) → IsPolicyOf policy (plain list) → IsNameFault list position kind → ⊥
no_name_fault one list policy position kind h w =
    let none : file_faults w.file ≡ [] = ap file_faults (same_file one (plain list) w.file h.file w.is_file h.is_file) ∙ h.named in
    let both = sym w.first ∙ ap (first_by (place_in (file_nodes w.file))) none in cc

no_told : OneFile → NoFaultOfFree → (text : List ℕ) (position : Position) (kind : ℕ) → IsTold text position kind → HasNoPolicy text
no_told one outline text position kind (inl t) policy h = no_token_fault text position t.fault t.first h.faultless
no_told one outline text position kind (inr (none, inl t)) policy h = no_outline_fault outline (tokens_of text) policy position kind h.is_policy t
no_told one outline text position kind (inr (none, inr t)) policy h = no_name_fault one (tokens_of text) policy position kind h.is_policy t

-- ---- errors

pub refused : OneFile → NoFaultOfFree → (text : List ℕ) (line column kind : ℕ) → IsTold text (record { line = line; column = column }) kind → IsRefused text (Refused line column kind)
refused one outline text line column kind t = (no_told one outline text (record { line = line; column = column }) kind t, t)

-- what is wrong with the tokens of a text whose bytes, words and signs are right
wrong_refused : OneFile → NoFaultOfFree → (text : List ℕ) (list : TokenList) (error : ReadError) → faults text ≡ [] → list ≡ tokens_of text → IsWrong list error → IsRefused text error
wrong_refused one outline text list (Refused line column kind) none is w =
    refused one outline text line column kind (inr (none, subst (λ l. IsOutlineFault l (record { line = line; column = column }) kind ⊎ IsNameFault l (record { line = line; column = column }) kind) is w))
wrong_refused one outline text list NoMemory none is w = tt

pub error_refused : OneFile → NoFaultOfFree → (text : List ℕ) (list : TokenList) (r : Result Policy ReadError) → faults text ≡ [] → list ≡ tokens_of text → IfErr r (IsWrong list) → IfErr r (IsRefused text)
error_refused one outline text list (Ok policy) none is h = tt
error_refused one outline text list (Err error) none is h = wrong_refused one outline text list error none is h
