use Rattle.std.proofs.Common.{◌≡◌, ◌<◌, ◌^◌, drop}
use Rattle.std.specs.List.{list_all}
use Rattle.std.specs.Prelude.{IsTrue}
use Rattle.maple_text.specs.Numbers.{is_hex_digit, hex_onto}
use Rattle.maple_text.proofs.number.hex_number.Given as goal

-- digits are left, and the number so far goes on with them, which leaves it below 2 ^ 64
abbrev pub invariant-loop-digit : goal.invariant-loop-digit
invariant-loop-digit l = record {
  digits : IsTrue (list_all is_hex_digit (drop l.digit-index l.digits));
  number : hex_onto l.number (drop l.digit-index l.digits) ≡ hex_onto 0 l.digits;
  small : l.number < 16 ^ l.digit-index;
}
