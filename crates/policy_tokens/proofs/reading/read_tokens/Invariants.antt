use Rattle.std.proofs.Common.{◌≡◌, ◌+◌, ◌≤◌, ◌++◌, drop}
use Rattle.std.specs.List.{filter_map}
use Rattle.policy_tokens.specs.Faults.{faults}
use Rattle.policy_tokens.specs.Lexemes.{lexemes_from, lexemes_of}
use Rattle.policy_tokens.specs.Positions.{position_at}
use Rattle.policy_tokens.specs.Tokens.{placed}
use Rattle.policy_tokens.proofs.Steps.{faults_from}
use Rattle.policy_tokens.proofs.reading.read_tokens.Given as goal

-- no fault stands ahead of the byte, the tokens ahead of it are read, and its position is known
abbrev pub invariant-loop-offset : goal.invariant-loop-offset
invariant-loop-offset l = record {
  same_faults : faults_from l.text l.past l.offset (drop l.offset l.text) ≡ faults l.text;
  tokens : l.list.items ++ filter_map (placed l.text) (lexemes_from l.past l.offset (drop l.offset l.text)) ≡ filter_map (placed l.text) (lexemes_of l.text);
  position : l.position ≡ position_at l.text l.offset;
  line : l.position.line ≤ l.offset + 1;
  column : l.position.column ≤ l.offset + 1;
  within : l.offset ≤ 65536;
}
