use Rattle.std.proofs.Common.{◌≡◌, drop}
use Rattle.std.specs.List.{find}
use Rattle.std.specs.Str.{bytes_eq}
use Rattle.policy_tokens.specs.Spellings.{keyword_text}
use Rattle.policy_tokens.proofs.words.keyword_of.Given as goal

-- none of the keywords so far is the word
abbrev pub invariant-loop-keyword : goal.invariant-loop-keyword
invariant-loop-keyword l = find (λ k. bytes_eq (keyword_text k) l.word) (drop l.keyword-index l.keywords) ≡ find (λ k. bytes_eq (keyword_text k) l.word) l.keywords
