use Rattle.std.proofs.Common.{◌≡◌, length}
use Rattle.policy_grammar.specs.Automaton.{settle}
use Rattle.policy_grammar.proofs.reader.Reader.settle.Given as goal

-- what is left around settles as all of it does
abbrev pub invariant-loop-top : goal.invariant-loop-top
invariant-loop-top l = record {
  settled : settle l.pull l.self-inside.around l.shape ≡ settle l.initial.pull l.initial.self-inside.around l.initial.shape;
  stage : l.self-inside.stage ≡ l.initial.self-inside.stage;
  blocks : l.self-inside.blocks ≡ l.initial.self-inside.blocks;
}

abbrev pub decreases-loop-top : goal.decreases-loop-top
decreases-loop-top l = length l.self-inside.around
