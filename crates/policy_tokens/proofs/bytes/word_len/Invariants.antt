use Rattle.std.proofs.Common.{◌≡◌, ◌+◌, drop}
use Rattle.std.specs.List.{prefix_len}
use Rattle.policy_tokens.specs.Bytes.{is_word_byte}
use Rattle.policy_tokens.proofs.bytes.word_len.Given as goal

-- the word goes on with the rest
abbrev pub invariant-loop-len : goal.invariant-loop-len
invariant-loop-len l = prefix_len is_word_byte l.text ≡ l.len + prefix_len is_word_byte (drop l.len l.text)
