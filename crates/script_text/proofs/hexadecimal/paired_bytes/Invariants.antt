use Rattle.std.proofs.Common.{◌≡◌, ◌++◌, ◌==◌, ◌%◌, true, length}
use Rattle.std.specs.List.{list_all}
use Rattle.maple_text.specs.Numbers.{is_hex_digit}
use Rattle.script_text.specs.Hexadecimal.{paired_bytes}
use Rattle.script_text.proofs.hexadecimal.paired_bytes.Given as goal

-- digits are left, and their bytes come behind those so far
abbrev pub invariant-loop-rest : goal.invariant-loop-rest
invariant-loop-rest l = record {
  bytes : l.bytes.items ++ paired_bytes l.rest ≡ paired_bytes l.digits;
  digits : list_all is_hex_digit l.rest ≡ true;
  even : (length l.rest % 2 == 0) ≡ true;
}

abbrev pub decreases-loop-rest : goal.decreases-loop-rest
decreases-loop-rest l = length l.rest
