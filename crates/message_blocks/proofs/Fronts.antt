-- The message that stands first in the rest of a block.
use Rattle.std.proofs.Common.{◌≡◌, ℕ, zero, suc, ◌+◌, ◌-◌, ◌<◌, ◌≤◌, List, [], ◌∷◌, length, take, drop, refl, sym, subst, ap, ◌∙◌, arith, length-append, length-drop}
use Rattle.std.specs.Prelude.{nat_le, ◌==◌}
use Rattle.std.specs.List.{flat_map, AllByRecursion}
use Rattle.std.specs.Slice.Scan.{big_endian}
use Rattle.std.proofs.Math.Seq.{take-append_seam, drop-append_seam}
use Rattle.std.proofs.lemmas.Bool.Decides.{nat_tests}
use Rattle.std.proofs.lemmas.List.{drop-drop}
use Rattle.maple_base.specs.NetworkOrder.{number_at}
use Rattle.of10_codec.specs.declared.message.Message.{Message}
use Rattle.of10_codec.specs.Messages.{Spelled}
use Rattle.of10_codec.specs.Written.{written}
use Rattle.message_blocks.specs.Spelling.{IsSpelled}
use Rattle.message_blocks.specs.Kept.{behind, IsKept}

all_behind : (place : ℕ) (ms : List Message) → AllByRecursion IsSpelled ms → AllByRecursion IsSpelled (behind place ms)
all_behind zero ms all = all
all_behind (suc n) [] all = tt
all_behind (suc n) (m ∷ ms) all = all_behind (suc n - length (written m)) ms all.1

behind_more : (place : ℕ) (m : Message) (ms : List Message) → 0 < place → behind place (m ∷ ms) ≡ behind (place - length (written m)) ms
behind_more zero m ms h = absurd (omega arith)
behind_more (suc n) m ms h = refl

-- no more bytes stand behind a place than are written
some_behind : (place : ℕ) (ms : List Message) → length (flat_map written (behind place ms)) ≤ length (flat_map written ms)
some_behind zero ms = omega arith
some_behind (suc n) [] = omega arith
some_behind (suc n) (m ∷ ms) = omega (arith, some_behind (suc n - length (written m)) ms, length-append (written m) (flat_map written ms))

-- at the end of the next message the later ones begin
behind_next : (place : ℕ) (ms : List Message) (m : Message) (later : List Message) → AllByRecursion IsSpelled ms
    → place + length (flat_map written (behind place ms)) ≡ length (flat_map written ms) → behind place ms ≡ m ∷ later → behind (place + length (written m)) ms ≡ later
behind_next zero [] m later all whole is = cc
behind_next zero (x ∷ xs) m later all whole is =
    let same : x ≡ m = cc in
    let rest : xs ≡ later = cc in
    let long : 8 ≤ length (written x) = all.0.header.long in
    let more : behind (length (written x)) (x ∷ xs) ≡ behind (length (written x) - length (written x)) xs = behind_more (length (written x)) x xs (omega arith) in
    let none : length (written x) - length (written x) ≡ 0 = omega arith in
    let none' : 0 + length (written m) ≡ length (written m) = omega arith in
    ap (λ k. behind k (x ∷ xs)) (none' ∙ ap (λ y. length (written y)) (sym same)) ∙ more ∙ ap (λ k. behind k xs) none ∙ rest
behind_next (suc n) [] m later all whole is = cc
behind_next (suc n) (x ∷ xs) m later all whole is =
    let fewer = some_behind (suc n - length (written x)) xs in
    let both = length-append (written x) (flat_map written xs) in
    let inner : (suc n - length (written x)) + length (flat_map written (behind (suc n - length (written x)) xs)) ≡ length (flat_map written xs) = omega arith in
    let along : (suc n + length (written m)) - length (written x) ≡ (suc n - length (written x)) + length (written m) = omega arith in
    behind_more (suc n + length (written m)) x xs (omega arith) ∙ ap (λ k. behind k xs) along ∙ behind_next (suc n - length (written x)) xs m later all.1 inner is

-- the next message, and where it stands
pub record IsNext (place : ℕ) (bytes : List ℕ) (now : List Message) : Type 0 where
  pub message : Message
  pub later : List Message
  pub parts : now ≡ message ∷ later
  pub spelled : IsSpelled message
  pub header : place + 4 ≤ length bytes
  pub told : number_at (place + 2) 2 bytes ≡ length (written message)
  pub whole : place + number_at (place + 2) 2 bytes ≤ length bytes
  pub bytes_are : take (length (written message)) (drop place bytes) ≡ written message

next_of : (place : ℕ) (bytes : List ℕ) (now : List Message) → AllByRecursion IsSpelled now → place ≤ length bytes → drop place bytes ≡ flat_map written now → 0 < length now → IsNext place bytes now
next_of place bytes [] all within rest some = absurd (omega arith)
next_of place bytes (m ∷ later) all within rest some =
    let long : 8 ≤ length (written m) = all.0.header.long in
    let count : length (drop place bytes) ≡ length (written m) + length (flat_map written later) = ap length rest ∙ length-append (written m) (flat_map written later) in
    let told : number_at (place + 2) 2 bytes ≡ length (written m) = ap (λ b. big_endian 0 (take 2 b)) (sym (drop-drop 2 place bytes)) ∙ ap (number_at 2 2) rest ∙ all.0.header.whole in
    record {
      message = m;
      later = later;
      parts = refl;
      spelled = all.0;
      header = omega (arith, length-drop place bytes);
      told = told;
      whole = omega (arith, length-drop place bytes);
      bytes_are = ap (take (length (written m))) rest ∙ take-append_seam (written m) (flat_map written later);
    }

-- where a message wasn't taken, the next one stands at the place
pub next : (place : ℕ) (items bytes : List ℕ) (ms now : List Message) → items ≡ bytes → IsKept place bytes ms → behind place ms ≡ now → 0 < length now → IsNext place items now
next place items bytes ms now same k is some =
    let n : IsNext place bytes (behind place ms) = next_of place bytes (behind place ms) (all_behind place ms k.are_spelled) k.within k.rest (subst (λ x. 0 < length x) (sym is) some) in
    subst (λ b. IsNext place b now) (sym same) (subst (IsNext place bytes) is n)

-- the bytes up to its end are what it is written as
pub next_written : (place end : ℕ) (items : List ℕ) (now : List Message) → (n : IsNext place items now) → end ≡ place + number_at (place + 2) 2 items → take (end - place) (drop place items) ≡ written n.message
next_written place end items now n is =
    let len : end - place ≡ length (written n.message) = omega (arith, n.told) in ap (λ k. take k (drop place items)) len ∙ n.bytes_are

-- and spell it
pub next_spelled : (place end : ℕ) (items : List ℕ) (now : List Message) → (n : IsNext place items now) → end ≡ place + number_at (place + 2) 2 items → Spelled n.message (take (end - place) (drop place items))
next_spelled place end items now n is = subst (Spelled n.message) (sym (next_written place end items now n is)) n.spelled

pub record IsPassed (end : ℕ) (bytes : List ℕ) (ms now : List Message) : Type 0 where
  pub kept : IsKept end bytes ms
  pub later : behind end ms ≡ drop 1 now

-- at its end a block stands without it
pub passed : (place end : ℕ) (items bytes : List ℕ) (ms now : List Message) → items ≡ bytes → IsKept place bytes ms → behind place ms ≡ now → 0 < length now
    → end ≡ place + number_at (place + 2) 2 items → IsPassed end bytes ms now
passed place end items bytes ms now same k is some e =
    let n = next place items bytes ms now same k is some in
    let len = length (written n.message) in
    let at_end : end ≡ place + len = omega (arith, n.told) in
    let first : behind place ms ≡ n.message ∷ n.later = is ∙ n.parts in
    let all = ap length k.are_written in
    let rest = ap length k.rest in
    let counts : place + length (flat_map written (behind place ms)) ≡ length (flat_map written ms) = omega (arith, k.within, length-drop place bytes) in
    let later : behind end ms ≡ n.later = ap (λ p. behind p ms) at_end ∙ behind_next place ms n.message n.later k.are_spelled counts first in
    record {
      kept = record {
        are_written = k.are_written;
        are_spelled = k.are_spelled;
        within = omega (arith, n.whole, ap length same);
        rest =
            ap (λ p. drop p bytes) at_end ∙ sym (drop-drop len place bytes) ∙ ap (drop len) (k.rest ∙ ap (flat_map written) first)
            ∙ drop-append_seam (written n.message) (flat_map written n.later) ∙ ap (flat_map written) (sym later);
      };
      later = later ∙ ap (drop 1) (sym n.parts);
    }

all_taken_of : (place : ℕ) (bytes : List ℕ) (now : List Message) → AllByRecursion IsSpelled now → drop place bytes ≡ flat_map written now → nat_le (length bytes) place ≡ (length now == 0)
all_taken_of place bytes [] all rest =
    let none : length (drop place bytes) ≡ 0 = ap length rest in grind (arith, nat_tests, length-drop place bytes)
all_taken_of place bytes (m ∷ later) all rest =
    let long : 8 ≤ length (written m) = all.0.header.long in
    let count : length (drop place bytes) ≡ length (written m) + length (flat_map written later) = ap length rest ∙ length-append (written m) (flat_map written later) in
    let less : place < length bytes = omega (arith, length-drop place bytes) in
    grind (arith, nat_tests)

-- all messages were taken just where the place is at the end
pub all_taken : (place : ℕ) (items bytes : List ℕ) (ms now : List Message) → items ≡ bytes → IsKept place bytes ms → behind place ms ≡ now → nat_le (length items) place ≡ (length now == 0)
all_taken place items bytes ms now same k is =
    ap (λ b. nat_le (length b) place) same ∙ all_taken_of place bytes (behind place ms) (all_behind place ms k.are_spelled) k.rest ∙ ap (λ x. length x == 0) is
