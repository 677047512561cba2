-- How many bytes the short lines have.
use Rattle.std.proofs.Common.{ℕ, ◌+◌, ◌<◌, ◌≤◌, ◌^◌, List, length, codes, decimal, arith, length-append}
use Rattle.std.proofs.lemmas.Fmt.{length-decimal-le}
use Rattle.report_text.specs.declared.line.Line.TheVariants.{Closed, Ready, Error, Quiet}
use Rattle.report_text.specs.declared.line.Why.TheVariants.{Bad, Twice, Early}
use Rattle.report_text.specs.Report.{◌&◌, spelled, spelled_why}

pub one_long : (head n end : List ℕ) (k : ℕ) → length n ≤ k → length (head & n & end) ≤ length head + (k + length end)
one_long head n end k h = omega (arith, length-append head (n & end), length-append n end, h)

pub two_long : (head n between m end : List ℕ) (k l : ℕ) → length n ≤ k → length m ≤ l → length (head & n & between & m & end) ≤ length head + (k + (length between + (l + length end)))
two_long head n between m end k l h g =
    omega (arith, one_long head n (between & m & end) k h, one_long between m end l g)

pub three_long : (head n next m last o end : List ℕ) (j k l : ℕ) → length n ≤ j → length m ≤ k → length o ≤ l
    → length (head & n & next & m & last & o & end) ≤ length head + (j + (length next + (k + (length last + (l + length end)))))
three_long head n next m last o end j k l f g h =
    omega (arith, one_long head n (next & m & last & o & end) j f, two_long next m last o end k l g h)

-- the digits of a byte and of numbers of 2, 4 and 8 bytes
pub of_u8 : (n : ℕ) → n < 2 ^ 8 → length (decimal n) ≤ 3
of_u8 n h = length-decimal-le 3 n (omega arith) (omega (arith, h)) (omega (arith, h))

pub of_u16 : (n : ℕ) → n < 2 ^ 16 → length (decimal n) ≤ 5
of_u16 n h = length-decimal-le 5 n (omega arith) (omega (arith, h)) (omega (arith, h))

pub of_u32 : (n : ℕ) → n < 2 ^ 32 → length (decimal n) ≤ 10
of_u32 n h = length-decimal-le 10 n (omega arith) (omega (arith, h)) (omega (arith, h))

pub of_u64 : (n : ℕ) → n < 2 ^ 64 → length (decimal n) ≤ 20
of_u64 n h = length-decimal-le 20 n (omega arith) (omega (arith, h)) h

pub short_ready : (c s : ℕ) → c < 2 ^ 32 → s < 2 ^ 64 → length (spelled (Ready c s)) ≤ 48
short_ready c s h g = omega (arith, two_long (codes "ready c") (decimal c) (codes " s") (decimal s) (codes "\n") 10 20 (of_u32 c h) (of_u64 s g))

pub short_quiet : (s n : ℕ) → s < 2 ^ 64 → n < 2 ^ 32 → length (spelled (Quiet s n)) ≤ 48
short_quiet s n h g = omega (arith, two_long (codes "quiet s") (decimal s) (codes " retired ") (decimal n) (codes "\n") 20 10 (of_u64 s h) (of_u32 n g))

pub short_error : (c k n : ℕ) → c < 2 ^ 32 → k < 2 ^ 16 → n < 2 ^ 16 → length (spelled (Error c k n)) ≤ 48
short_error c k n f g h =
    omega (arith, three_long (codes "error c") (decimal c) (codes " ") (decimal k) (codes " ") (decimal n) (codes "\n") 10 5 5 (of_u32 c f) (of_u16 k g) (of_u16 n h))

pub short_bad : (c p n : ℕ) → c < 2 ^ 32 → p < 2 ^ 64 → n < 2 ^ 8 → length (spelled (Closed c (Bad p n))) ≤ 48
unfolding spelled_why
short_bad c p n f g h =
    let inner = one_long (codes "bad ") (decimal p) (codes " " & decimal n) 20 (of_u64 p g) in
    let outer = one_long (codes "closed c") (decimal c) (codes " " & (codes "bad " & decimal p & codes " " & decimal n) & codes "\n") 10 (of_u32 c f) in
    omega (arith, inner, outer, of_u8 n h, length-append (codes "bad " & decimal p & codes " " & decimal n) (codes "\n"))

pub short_twice : (c d : ℕ) → c < 2 ^ 32 → d < 2 ^ 64 → length (spelled (Closed c (Twice d))) ≤ 48
unfolding spelled_why
short_twice c d f g =
    let outer = one_long (codes "closed c") (decimal c) (codes " " & (codes "twice " & decimal d) & codes "\n") 10 (of_u32 c f) in
    omega (arith, outer, of_u64 d g, length-append (decimal d) (codes "\n"))

pub short_early : (c x : ℕ) → c < 2 ^ 32 → x < 2 ^ 32 → length (spelled (Closed c (Early x))) ≤ 48
unfolding spelled_why
short_early c x f g =
    let outer = one_long (codes "closed c") (decimal c) (codes " " & (codes "early " & decimal x) & codes "\n") 10 (of_u32 c f) in
    omega (arith, outer, of_u32 x g, length-append (decimal x) (codes "\n"))

pub short_word : (c : ℕ) (why : List ℕ) → c < 2 ^ 32 → length why ≤ 20 → length (codes "closed c" & decimal c & codes " " & why & codes "\n") ≤ 48
short_word c why f g =
    let outer = one_long (codes "closed c") (decimal c) (codes " " & why & codes "\n") 10 (of_u32 c f) in
    omega (arith, outer, g, length-append why (codes "\n"))
