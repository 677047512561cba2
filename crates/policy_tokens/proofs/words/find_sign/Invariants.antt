use Rattle.std.proofs.Common.{◌≡◌, drop}
use Rattle.std.specs.List.{find}
use Rattle.std.specs.Str.{bytes_eq}
use Rattle.policy_tokens.specs.Spellings.{sign_text}
use Rattle.policy_tokens.proofs.words.find_sign.Given as goal

-- none of the signs so far is the one of these bytes
abbrev pub invariant-loop-sign : goal.invariant-loop-sign
invariant-loop-sign l = find (λ s. bytes_eq (sign_text s) l.bytes) (drop l.sign-index l.signs) ≡ find (λ s. bytes_eq (sign_text s) l.bytes) l.signs
