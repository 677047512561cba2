-- What is kept of a text.
use Rattle.std.proofs.Common.{◌≡◌, ℕ, ◌+◌, ◌-◌, ◌<◌, ◌≤◌, Bool, true, false, cond, eqb, List, [], ◌∷◌, ◌++◌, length, take, refl, sym, ap, ◌∙◌, arith, append-nil, append_assoc, length-append}
use Rattle.std.specs.Prelude.{fold, nat_lt, ◌&&◌}
use Rattle.std.proofs.lemmas.Bool.Decides.{nat_tests}
use Rattle.std.proofs.lemmas.Grind.{fold-append}
use Rattle.std.proofs.lemmas.List.{take_at}
use Rattle.maple_base.specs.PolicyLimits.{most_bytes}
use Rattle.maple_text.specs.Numbers.{is_digit}
use Rattle.policy_tokens.specs.Bytes.{is_word_byte}
use Rattle.board_lines.specs.KeptTexts.{IsKept, Kept, is_zero, keep, keep_behind, keep_digit, keep_other, kept_text, long_word, most_kept, nothing_kept}
use Rattle.board_lines.specs.Laws.{IsFew, KeepsAll}
use Rattle.board_lines.specs.Readings.{line_kept, text_ahead}

-- ---- bytes are only added

-- some bytes more
abbrev pub Adds : Kept → Kept → Type 0
Adds k m = (x : List ℕ) × (m.bytes ≡ k.bytes ++ x)

adds_none : (k : Kept) → Adds k k
adds_none k = ([], sym (append-nil k.bytes))

digit_adds : (k : Kept) (b : ℕ) → Adds k (keep_digit k b)
digit_adds k b =
    elim (is_zero b && eqb k.digits 0) as (λ t. Adds k (cond t (cond (nat_lt k.zeros long_word) (record k { bytes = k.bytes ++ b ∷ []; zeros = k.zeros + 1 }) k) (cond (nat_lt k.digits long_word) (record k { bytes = k.bytes ++ b ∷ []; digits = k.digits + 1 }) k))) [
      | true ↦ elim (nat_lt k.zeros long_word) as (λ t. Adds k (cond t (record k { bytes = k.bytes ++ b ∷ []; zeros = k.zeros + 1 }) k)) [ true ↦ (b ∷ [], refl) | false ↦ adds_none k ]
      | false ↦ elim (nat_lt k.digits long_word) as (λ t. Adds k (cond t (record k { bytes = k.bytes ++ b ∷ []; digits = k.digits + 1 }) k)) [ true ↦ (b ∷ [], refl) | false ↦ adds_none k ]
    ]

behind_adds : (k : Kept) (b : ℕ) → Adds k (keep_behind k b)
behind_adds k b =
    elim (eqb k.spare 0) as (λ t. Adds k (cond t k (cond (is_digit b) (keep_digit k b) (keep_other k b)))) [
      | true ↦ adds_none k
      | false ↦ elim (is_digit b) as (λ t. Adds k (cond t (keep_digit k b) (keep_other k b))) [ true ↦ digit_adds k b | false ↦ (b ∷ [], refl) ]
    ]

byte_adds : (k : Kept) (b : ℕ) → Adds k (keep k b)
byte_adds k b =
    elim (nat_lt most_bytes (length k.bytes)) as (λ t. Adds k (cond t (keep_behind k b) (record k { bytes = k.bytes ++ b ∷ [] }))) [ true ↦ behind_adds k b | false ↦ (b ∷ [], refl) ]

pub bytes_add : (k : Kept) (bs : List ℕ) → Adds k (fold keep k bs)
bytes_add k [] = adds_none k
bytes_add k (b ∷ bs) =
    let h = byte_adds k b in
    let i = bytes_add (keep k b) bs in
    (h.0 ++ i.0, i.1 ∙ ap (λ x. x ++ i.0) h.1 ∙ append_assoc k.bytes h.0 i.0)

-- ---- what stands ahead of a line is told apart

abbrev with_ahead : Kept → ℕ → Kept
with_ahead k a = record k { ahead = a }

digit_apart : (k : Kept) (a b : ℕ) → keep_digit (with_ahead k a) b ≡ with_ahead (keep_digit k b) a
digit_apart k a b =
    elim (is_zero b && eqb k.digits 0) as (λ t.
    cond t (cond (nat_lt k.zeros long_word) (with_ahead (record k { bytes = k.bytes ++ b ∷ []; zeros = k.zeros + 1 }) a) (with_ahead k a)) (cond (nat_lt k.digits long_word) (with_ahead (record k { bytes = k.bytes ++ b ∷ []; digits = k.digits + 1 }) a) (with_ahead k a))
    ≡ with_ahead (cond t (cond (nat_lt k.zeros long_word) (record k { bytes = k.bytes ++ b ∷ []; zeros = k.zeros + 1 }) k) (cond (nat_lt k.digits long_word) (record k { bytes = k.bytes ++ b ∷ []; digits = k.digits + 1 }) k)) a) [
      | true ↦ elim (nat_lt k.zeros long_word) as (λ t. cond t (with_ahead (record k { bytes = k.bytes ++ b ∷ []; zeros = k.zeros + 1 }) a) (with_ahead k a) ≡ with_ahead (cond t (record k { bytes = k.bytes ++ b ∷ []; zeros = k.zeros + 1 }) k) a) [ true ↦ refl | false ↦ refl ]
      | false ↦ elim (nat_lt k.digits long_word) as (λ t. cond t (with_ahead (record k { bytes = k.bytes ++ b ∷ []; digits = k.digits + 1 }) a) (with_ahead k a) ≡ with_ahead (cond t (record k { bytes = k.bytes ++ b ∷ []; digits = k.digits + 1 }) k) a) [ true ↦ refl | false ↦ refl ]
    ]

behind_apart : (k : Kept) (a b : ℕ) → keep_behind (with_ahead k a) b ≡ with_ahead (keep_behind k b) a
behind_apart k a b =
    elim (eqb k.spare 0) as (λ t. cond t (with_ahead k a) (cond (is_digit b) (keep_digit (with_ahead k a) b) (keep_other (with_ahead k a) b)) ≡ with_ahead (cond t k (cond (is_digit b) (keep_digit k b) (keep_other k b))) a) [
      | true ↦ refl
      | false ↦ elim (is_digit b) as (λ t. cond t (keep_digit (with_ahead k a) b) (keep_other (with_ahead k a) b) ≡ with_ahead (cond t (keep_digit k b) (keep_other k b)) a) [ true ↦ digit_apart k a b | false ↦ refl ]
    ]

pub keep_apart : (k : Kept) (a b : ℕ) → keep (with_ahead k a) b ≡ with_ahead (keep k b) a
keep_apart k a b =
    elim (nat_lt most_bytes (length k.bytes)) as (λ t. cond t (keep_behind (with_ahead k a) b) (with_ahead (record k { bytes = k.bytes ++ b ∷ [] }) a) ≡ with_ahead (cond t (keep_behind k b) (record k { bytes = k.bytes ++ b ∷ [] })) a) [ true ↦ behind_apart k a b | false ↦ refl ]

-- ---- within a line

-- what is kept of the text of a policy, of which the lines behind the first one are these bytes, and the line that goes on these
abbrev pub during : List ℕ → List ℕ → Kept
during text l = with_ahead (fold keep nothing_kept (text ++ l)) (length (kept_text text))

pub during_more : (text l : List ℕ) (b : ℕ) → keep (during text l) b ≡ during text (l ++ b ∷ [])
during_more text l b =
    keep_apart (fold keep nothing_kept (text ++ l)) (length (kept_text text)) b
    ∙ ap (λ k. with_ahead k (length (kept_text text))) (sym (fold-append keep nothing_kept (text ++ l) (b ∷ [])) ∙ ap (fold keep nothing_kept) (append_assoc text l (b ∷ [])))

pub during_line : (text l : List ℕ) → line_kept (during text l) ≡ during (text ++ l) []
during_line text l = ap (λ t. with_ahead (fold keep nothing_kept t) (length (kept_text (text ++ l)))) (sym (append-nil (text ++ l)))

pub during_ahead : (text l : List ℕ) → text_ahead (during text l) ≡ kept_text text
during_ahead text l =
    let more = bytes_add (fold keep nothing_kept text) l in
    ap (λ k. take (length (kept_text text)) k.bytes) (fold-append keep nothing_kept text l) ∙ ap (take (length (kept_text text))) more.1
    ∙ take_at (kept_text text) more.0 (length (kept_text text)) refl

-- ---- the laws

-- a text that isn't too long is kept
pub all_kept : (k : Kept) (bs : List ℕ) → length k.bytes + length bs ≤ most_bytes + 1 → fold keep k bs ≡ record k { bytes = k.bytes ++ bs }
all_kept k [] h = ap (λ x. record k { bytes = x }) (sym (append-nil k.bytes))
all_kept k (b ∷ bs) h =
    let short : nat_lt most_bytes (length k.bytes) ≡ false = grind (arith, nat_tests) in
    ap (λ t. fold keep (cond t (keep_behind k b) (record k { bytes = k.bytes ++ b ∷ [] })) bs) short
    ∙ all_kept (record k { bytes = k.bytes ++ b ∷ [] }) bs (omega (arith, h, length-append k.bytes (b ∷ []))) ∙ ap (λ x. record k { bytes = x }) (append_assoc k.bytes (b ∷ []) bs)

-- ---- bounds

digit_kept : (k : Kept) (b : ℕ) → IsKept k → IsKept (keep_digit k b)
digit_kept k b h =
    elim (is_zero b && eqb k.digits 0) as (λ t. IsKept (cond t (cond (nat_lt k.zeros long_word) (record k { bytes = k.bytes ++ b ∷ []; zeros = k.zeros + 1 }) k) (cond (nat_lt k.digits long_word) (record k { bytes = k.bytes ++ b ∷ []; digits = k.digits + 1 }) k))) [
      | true ↦ zero (nat_lt k.zeros long_word) refl
      | false ↦ other (nat_lt k.digits long_word) refl
    ]
  where
    zero : (t : Bool) → nat_lt k.zeros long_word ≡ t → IsKept (cond t (record k { bytes = k.bytes ++ b ∷ []; zeros = k.zeros + 1 }) k)
    zero true e =
        let few : k.zeros < long_word = grind (arith, nat_tests) in
        record {
          ahead = omega (arith, h.ahead, length-append k.bytes (b ∷ []));
          spare = h.spare;
          zeros = omega (arith, few);
          digits = h.digits;
          bytes = omega (arith, h.bytes, length-append k.bytes (b ∷ []));
        }
    zero false e = h

    other : (t : Bool) → nat_lt k.digits long_word ≡ t → IsKept (cond t (record k { bytes = k.bytes ++ b ∷ []; digits = k.digits + 1 }) k)
    other true e =
        let few : k.digits < long_word = grind (arith, nat_tests) in
        record {
          ahead = omega (arith, h.ahead, length-append k.bytes (b ∷ []));
          spare = h.spare;
          zeros = h.zeros;
          digits = omega (arith, few);
          bytes = omega (arith, h.bytes, length-append k.bytes (b ∷ []));
        }
    other false e = h

other_kept : (k : Kept) (b : ℕ) → IsKept k → 0 < k.spare → IsKept (keep_other k b)
other_kept k b h some =
    elim (is_word_byte b) as (λ t. IsKept (record k { bytes = k.bytes ++ b ∷ []; spare = cond t (k.spare - 1) 0; zeros = 0; digits = 0 })) [
      | true ↦ record {
        ahead = omega (arith, h.ahead, length-append k.bytes (b ∷ []));
        spare = omega (arith, h.spare);
        zeros = omega arith;
        digits = omega arith;
        bytes = omega (arith, h.bytes, h.spare, h.zeros, h.digits, some, length-append k.bytes (b ∷ []));
      }
      | false ↦ record {
        ahead = omega (arith, h.ahead, length-append k.bytes (b ∷ []));
        spare = omega arith;
        zeros = omega arith;
        digits = omega arith;
        bytes = omega (arith, h.bytes, h.spare, h.zeros, h.digits, some, length-append k.bytes (b ∷ []));
      }
    ]

behind_kept : (k : Kept) (b : ℕ) → IsKept k → IsKept (keep_behind k b)
behind_kept k b h = go (eqb k.spare 0) refl
  where
    go : (t : Bool) → eqb k.spare 0 ≡ t → IsKept (cond t k (cond (is_digit b) (keep_digit k b) (keep_other k b)))
    go true e = h
    go false e =
        let some : 0 < k.spare = grind (arith, nat_tests) in
        elim (is_digit b) as (λ t. IsKept (cond t (keep_digit k b) (keep_other k b))) [ true ↦ digit_kept k b h | false ↦ other_kept k b h some ]

pub byte_kept : (k : Kept) (b : ℕ) → IsKept k → IsKept (keep k b)
byte_kept k b h = go (nat_lt most_bytes (length k.bytes)) refl
  where
    go : (t : Bool) → nat_lt most_bytes (length k.bytes) ≡ t → IsKept (cond t (keep_behind k b) (record k { bytes = k.bytes ++ b ∷ [] }))
    go true e = behind_kept k b h
    go false e =
        let few : length k.bytes ≤ most_bytes = grind (arith, nat_tests) in
        record {
          ahead = omega (arith, h.ahead, length-append k.bytes (b ∷ []));
          spare = h.spare;
          zeros = h.zeros;
          digits = h.digits;
          bytes = omega (arith, few, length-append k.bytes (b ∷ []));
        }

bytes_kept : (k : Kept) (bs : List ℕ) → IsKept k → IsKept (fold keep k bs)
bytes_kept k [] h = h
bytes_kept k (b ∷ bs) h = bytes_kept (keep k b) bs (byte_kept k b h)

pub none_kept : IsKept nothing_kept
none_kept = record { ahead = omega arith; spare = omega arith; zeros = omega arith; digits = omega arith; bytes = omega arith }

-- so many bytes at most
pub few_kept : (k : Kept) → IsKept k → length k.bytes ≤ most_kept
few_kept k h = omega (arith, h.bytes, h.spare, h.zeros, h.digits)

-- ---- the laws

pub keeps_all : KeepsAll
keeps_all text few = ap (λ (k : Kept). k.bytes) (all_kept nothing_kept text (omega (arith, few)))

pub is_few : IsFew
is_few text = few_kept (fold keep nothing_kept text) (bytes_kept nothing_kept text none_kept)
