use Rattle.std.proofs.Common.{◌≡◌, ℕ, ◌+◌, ◌*◌, ◌^◌, ◌<◌, ◌≤◌, lit<, add-one, arith}
use Rattle.std.proofs.Math.Nat.{pow-le-pow_right, pow-suc}
use Rattle.maple_text.proofs.number.hex_number.Goals as goal

-- behind fewer than 16 digits there is room for one more
room : (n i : ℕ) → i < 16 → n < 16 ^ i → 16 * n + 16 ≤ 2 ^ 64
room n i few small =
    let more : i + 1 ≤ 16 = omega arith in
    let top : 16 ^ (i + 1) ≤ 16 ^ 16 = pow-le-pow_right (lit< tt) more in
    let next : 16 ^ (i + 1) ≡ 16 ^ i * 16 = rw add-one (pow-suc 16 i) in
    omega (arith, top, next, small)

pub overflow_mul-number : goal.overflow_mul-number
overflow_mul-number c = let h = room c.loop-digit.number c.loop-digit.digit-index (omega arith) c.loop-digit.invariant.small in omega (arith, h)

pub overflow_add-number : goal.overflow_add-number
overflow_add-number c = let h = room c.loop-digit.number c.loop-digit.digit-index (omega arith) c.loop-digit.invariant.small in omega (arith, h)
