use Rattle.std.proofs.Common.{length, ◌-◌}
use Rattle.policy_grammar.proofs.Below.{Ending}
use Rattle.policy_grammar.proofs.reader.Reader.emit_endings.Given as goal

-- so many of what stands around have ended
abbrev pub invariant-loop-around : goal.invariant-loop-around
invariant-loop-around l = Ending l.pull l.self-inside.around l.depth l.initial.out.items l.out.items

abbrev pub decreases-loop-around : goal.decreases-loop-around
decreases-loop-around l = length l.self-inside.around - l.depth
