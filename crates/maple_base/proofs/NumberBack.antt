-- A number that was written in so many bytes is read back from them.
use Rattle.std.proofs.Common.{◌≡◌, ℕ, zero, suc, ◌+◌, ◌*◌, ◌%◌, ◌^◌, ◌<◌, ◌∙◌, arith, pow-suc, mul_comm}
use Rattle.std.proofs.Math.Nat.{pow-le-pow_right, mod-eq_of_lt}
use Rattle.std.proofs.Math.Arith.{mod-mul}
use Rattle.std.specs.Int.{byte_at, bytes_high_first}
use Rattle.std.specs.Slice.Scan.{big_endian}

-- one more byte in front of the low k bytes
byte_on : (k n high : ℕ) → (high * 256 + byte_at k n) * 256 ^ k + n % 256 ^ k ≡ high * 256 ^ suc k + n % 256 ^ suc k
byte_on zero n high = omega arith
byte_on (suc k) n high =
    let unit = 256 ^ suc k in
    let wider : 256 ^ suc (suc k) ≡ 256 * unit = pow-suc 256 (suc k) ∙ mul_comm unit 256 in
    let some : 0 < unit = pow-le-pow_right {n = 256} (omega arith) {i = 0} {j = suc k} (omega arith) in
    rw (wider, mod-mul n {m = 256} {c = unit} (omega arith) some) (omega arith)

bytes_read : (k n high : ℕ) → big_endian high (bytes_high_first k n) ≡ high * 256 ^ k + n % 256 ^ k
bytes_read zero n high = omega arith
bytes_read (suc k) n high = bytes_read k n (high * 256 + byte_at k n) ∙ byte_on k n high

pub number_back : (k n : ℕ) → n < 256 ^ k → big_endian 0 (bytes_high_first k n) ≡ n
number_back k n small =
    let low = mod-eq_of_lt small in
    bytes_read k n 0 ∙ omega arith
