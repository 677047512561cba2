use Rattle.std.proofs.Common.{take}
use Rattle.policy_grammar.specs.Reading.{plain}
use Rattle.policy_outline.proofs.Growing.{Outlines}
use Rattle.policy_outline.proofs.outline.read_tokens.Given as goal

-- the tokens so far were read and counted
abbrev pub invariant-loop-index : goal.invariant-loop-index
invariant-loop-index l = Outlines (take l.index (plain l.tokens)) l.reader l.events.items l.counter
