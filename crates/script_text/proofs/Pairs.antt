-- Bytes in pairs of digits, as the grammar has them and as they are read.
use Rattle.std.proofs.Common.{◌≡◌, ℕ, suc, ◌+◌, ◌*◌, ◌%◌, ◌<◌, ◌==◌, true, List, [], ◌∷◌, length, refl, ap, arith}
use Rattle.std.specs.Prelude.{◌&&◌, nat_le}
use Rattle.std.specs.List.{list_all}
use Rattle.std.proofs.lemmas.Bool.{and_parts, and_from}
use Rattle.maple_text.specs.Numbers.{is_hex_digit, hex_worth}
use Rattle.script_text.specs.Hexadecimal.{are_pairs, paired_bytes}
use Rattle.script_text.specs.Spelling.{ArePairs, NoPair, Pair}

less_two : (n : ℕ) → (suc (suc n) % 2 == 0) ≡ true → (n % 2 == 0) ≡ true
less_two n e = grind arith

two_more : (n : ℕ) → (n % 2 == 0) ≡ true → (suc (suc n) % 2 == 0) ≡ true
two_more n e = grind arith

pairs_of : (digits : List ℕ) → (length digits % 2 == 0) ≡ true → list_all is_hex_digit digits ≡ true → ArePairs digits (paired_bytes digits)
pairs_of [] even h = NoPair
pairs_of (a ∷ []) even h = absurd (cc even)
pairs_of (a ∷ b ∷ ds) even h =
    let p = and_parts (is_hex_digit a) (list_all is_hex_digit (b ∷ ds)) h in
    let q = and_parts (is_hex_digit b) (list_all is_hex_digit ds) p.1 in
    Pair p.0 q.0 (pairs_of ds (less_two (length ds) even) q.1)

pub are_pairs_of : (digits : List ℕ) → are_pairs digits ≡ true → ArePairs digits (paired_bytes digits) × (0 < length (paired_bytes digits))
are_pairs_of digits h =
    let p = and_parts (nat_le 2 (length digits) && length digits % 2 == 0) (list_all is_hex_digit digits) h in
    let q = and_parts (nat_le 2 (length digits)) (length digits % 2 == 0) p.0 in
    (pairs_of digits q.1 p.1, some digits q.0)
  where
    some : (ds : List ℕ) → nat_le 2 (length ds) ≡ true → 0 < length (paired_bytes ds)
    some [] e = absurd (cc e)
    some (a ∷ []) e = absurd (cc e)
    some (a ∷ b ∷ ds) e = grind arith

pub record ReadAsPairs (digits bytes : List ℕ) : Type 0 where
  pub read : paired_bytes digits ≡ bytes
  pub even : (length digits % 2 == 0) ≡ true
  pub hex : list_all is_hex_digit digits ≡ true
  pub twice : length digits ≡ 2 * length bytes

pairs_back : {digits bytes : List ℕ} → ArePairs digits bytes → ReadAsPairs digits bytes
pairs_back NoPair = record { read = refl; even = refl; hex = refl; twice = refl }
pairs_back (Pair {a} {b} {digits} {bytes} h g rest) =
    let r = pairs_back rest in
    record {
      read = ap (λ x. (16 * hex_worth a + hex_worth b) ∷ x) r.read;
      even = two_more (length digits) r.even;
      hex = and_from (is_hex_digit a) (list_all is_hex_digit (b ∷ digits)) h (and_from (is_hex_digit b) (list_all is_hex_digit digits) g r.hex);
      twice = omega (arith, r.twice);
    }

pub are_pairs_back : (digits bytes : List ℕ) → ArePairs digits bytes → 0 < length bytes → (are_pairs digits ≡ true) × (paired_bytes digits ≡ bytes)
are_pairs_back digits bytes a some =
    let r = pairs_back a in
    let two : nat_le 2 (length digits) ≡ true = grind (arith, r.twice) in
    (and_from (nat_le 2 (length digits) && length digits % 2 == 0) (list_all is_hex_digit digits) (and_from (nat_le 2 (length digits)) (length digits % 2 == 0) two r.even) r.hex, r.read)
