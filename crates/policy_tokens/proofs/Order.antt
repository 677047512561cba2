-- Tokens stand in the order of the text.
use Rattle.std.proofs.Common.{◌≡◌, ℕ, zero, suc, ◌+◌, ◌-◌, ◌<◌, ◌≤◌, List, [], ◌∷◌, length, get_or, Option, refl, sym, subst, arith}
use Rattle.std.specs.Option.{option_map}
use Rattle.std.specs.Result.{result_ok}
use Rattle.std.specs.List.{filter_map, cons_option, All, AllPairs}
use Rattle.std.proofs.lemmas.Bool.Decides.{nat_tests}
use Rattle.std.proofs.lemmas.List.Sums.{fold_more}
use Rattle.std.proofs.lemmas.List.Elements.{All-nil, All-cons}
use Rattle.std.proofs.lemmas.List.Kept.{AllPairs-cons}
use Rattle.policy_tokens.specs.declared.token.Token.{Token}
use Rattle.policy_tokens.specs.declared.token.Position.{Position}
use Rattle.policy_tokens.specs.declared.token.PlacedToken.{PlacedToken}
use Rattle.policy_tokens.specs.Lexemes.{Lexeme, lexeme, begun, past_behind, lexemes_from}
use Rattle.policy_tokens.specs.Positions.{first_position, behind, position_at, IsAhead}
use Rattle.policy_tokens.specs.Words.{token_of}
use Rattle.policy_tokens.specs.Tokens.{placed, placed_at, tokens_of, IsInOrder}
use Rattle.policy_tokens.proofs.Steps.{cons_cases}

-- a position with as few lines and columns stays within one more
pub behind_within : (p : Position) (b n : ℕ) → p.line ≤ n → p.column ≤ n → ((behind p b).line ≤ n + 1) × ((behind p b).column ≤ n + 1)
behind_within p b n line column = (grind (arith, nat_tests), grind (arith, nat_tests))

behind_ahead : (p : Position) (b : ℕ) → IsAhead p (behind p b)
behind_ahead p b = grind (arith, nat_tests)

IsAhead-trans : (p q r : Position) → IsAhead p q → IsAhead q r → IsAhead p r
IsAhead-trans p q r a b = grind arith

-- the position behind one more byte
pub position_step : (text : List ℕ) (n : ℕ) → n < length text → position_at text (n + 1) ≡ behind (position_at text n) (get_or text n 0)
position_step text n lt = fold_more behind first_position text n 0 lt

step_ahead : (text : List ℕ) (n : ℕ) → n < length text → IsAhead (position_at text n) (position_at text (n + 1))
step_ahead text n lt = subst (IsAhead (position_at text n)) (sym (position_step text n lt)) (behind_ahead (position_at text n) (get_or text n 0))

ahead_by : (text : List ℕ) (m k n : ℕ) → n ≡ m + k + 1 → n ≤ length text → IsAhead (position_at text m) (position_at text n)
ahead_by text m zero n e le =
    let same : m + 1 ≡ n = omega (arith, e) in
    subst (λ i. IsAhead (position_at text m) (position_at text i)) same (step_ahead text m (omega (arith, e)))
ahead_by text m (suc k) n e le =
    let same : m + k + 1 + 1 ≡ n = omega (arith, e) in
    subst (λ i. IsAhead (position_at text m) (position_at text i)) same
    (IsAhead-trans (position_at text m) (position_at text (m + k + 1)) (position_at text (m + k + 1 + 1))
    (ahead_by text m k (m + k + 1) refl (omega (arith, e)))
    (step_ahead text (m + k + 1) (omega (arith, e))))

-- a position with fewer bytes ahead of it is ahead
ahead : (text : List ℕ) (m n : ℕ) → m < n → n ≤ length text → IsAhead (position_at text m) (position_at text n)
ahead text m n lt le = ahead_by text m (n - (m + 1)) n (omega arith) le

-- a word or a sign adds one token at its offset, or none
placed_cases : (text : List ℕ) (offset : ℕ) (o : Option (List ℕ)) (ls : List Lexeme) (P : List PlacedToken → Type 0) → P (filter_map (placed text) ls)
    → ((t : Token) → P (placed_at (position_at text offset) t ∷ filter_map (placed text) ls)) → P (filter_map (placed text) (cons_option (option_map (lexeme offset) o) ls))
placed_cases text offset o ls P without more =
    cons_cases (lexeme offset) o ls (λ ks. P (filter_map (placed text) ks)) without
    (λ w. cons_cases (placed_at (position_at text offset)) (result_ok (token_of w)) (filter_map (placed text) ls) P without more)

-- what holds of each token at each offset from here on holds of all
all_from : (P : PlacedToken → Type 0) (text : List ℕ) (past offset : ℕ) (rest : List ℕ)
    → ((n : ℕ) (t : Token) → offset ≤ n → n < offset + length rest → P (placed_at (position_at text n) t))
    → All P (filter_map (placed text) (lexemes_from past offset rest))
all_from P text past offset [] each = All-nil P
all_from P text past offset (b ∷ bs) each =
    let next = past_behind past b bs in
    let ls = lexemes_from next (offset + 1) bs in
    let rest = all_from P text next (offset + 1) bs (λ n t low high. each n t (omega arith) (omega arith)) in
    placed_cases text offset (begun past (b ∷ bs)) ls (All P) rest
    (λ t. All-cons P (placed_at (position_at text offset) t) (filter_map (placed text) ls) (each offset t (omega arith) (omega arith)) rest)

abbrev Apart : PlacedToken → PlacedToken → Type 0
Apart t u = IsAhead t.position u.position

apart_from : (text : List ℕ) (past offset : ℕ) (rest : List ℕ) → offset + length rest ≡ length text → AllPairs Apart (filter_map (placed text) (lexemes_from past offset rest))
apart_from text past offset [] e = λ i j d lt bound. absurd (omega arith)
apart_from text past offset (b ∷ bs) e =
    let next = past_behind past b bs in
    let ls = lexemes_from next (offset + 1) bs in
    let rest = apart_from text next (offset + 1) bs (omega (arith, e)) in
    let above = all_from (λ u. IsAhead (position_at text offset) u.position) text next (offset + 1) bs (λ n t low high. ahead text offset n (omega arith) (omega (arith, e))) in
    placed_cases text offset (begun past (b ∷ bs)) ls (AllPairs Apart) rest
    (λ t. AllPairs-cons Apart (placed_at (position_at text offset) t) (filter_map (placed text) ls) above rest)

pub in_order : (text : List ℕ) → IsInOrder (tokens_of text)
in_order text = record {
  apart = apart_from text 0 0 text (omega arith);
  within = all_from (λ t. IsAhead t.position (position_at text (length text))) text 0 0 text (λ n t low high. ahead text n (length text) (omega arith) (omega arith));
}

-- a text has at most as many tokens as bytes
pub few_tokens : (text : List ℕ) (past offset : ℕ) (rest : List ℕ) → length (filter_map (placed text) (lexemes_from past offset rest)) ≤ length rest
few_tokens text past offset [] = omega arith
few_tokens text past offset (b ∷ bs) =
    let next = past_behind past b bs in
    let few = few_tokens text next (offset + 1) bs in
    placed_cases text offset (begun past (b ∷ bs)) (lexemes_from next (offset + 1) bs) (λ ts. length ts ≤ length (b ∷ bs)) (omega (arith, few)) (λ t. omega (arith, few))
