-- Numbers in bytes, the byte of greatest worth first: network byte order (RFC 791, appendix B).
use Rattle.std.specs.Prelude.{ℕ, List, take, drop, replicate}
use Rattle.std.specs.Int.{bytes_high_first}
use Rattle.std.specs.Slice.Scan.{big_endian}

-- the number that so many bytes from a place on spell
abbrev pub number_at : ℕ → ℕ → List ℕ → ℕ
number_at place width bytes = big_endian 0 (take width (drop place bytes))

-- a number in so many bytes
abbrev pub number : ℕ → ℕ → List ℕ
number width n = bytes_high_first width n

-- so many bytes of 0
abbrev pub zeros : ℕ → List ℕ
zeros width = replicate width 0
