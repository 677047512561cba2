use Rattle.std.proofs.Common.{◌≡◌, ◌<◌, ◌^◌, drop}
use Rattle.std.specs.List.{list_all}
use Rattle.maple_text.specs.Numbers.{is_digit, digits_onto}
use Rattle.maple_text.proofs.number.number_of.Given as goal

-- digits came so far, and their number goes on with the rest
abbrev pub invariant-loop-byte : goal.invariant-loop-byte
invariant-loop-byte l = record {
  digits : list_all is_digit (drop l.byte-index l.word) ≡ list_all is_digit l.word;
  number : digits_onto l.number (drop l.byte-index l.word) ≡ digits_onto 0 l.word;
  fits : l.number < 2 ^ 64;
}
