use Rattle.std.proofs.Common.{◌≡◌, ◌+◌, drop, not}
use Rattle.std.specs.List.{prefix_len}
use Rattle.policy_tokens.specs.Bytes.{ends_line}
use Rattle.policy_tokens.proofs.bytes.line_len.Given as goal

-- the line goes on with the rest
abbrev pub invariant-loop-len : goal.invariant-loop-len
invariant-loop-len l = prefix_len (λ b. not (ends_line b)) l.text ≡ l.len + prefix_len (λ b. not (ends_line b)) (drop l.len l.text)
