use Rattle.std.proofs.Common.{◌≡◌, drop}
use Rattle.script_text.specs.Verbs.{verb_among}
use Rattle.script_text.proofs.verb.verb_among.Given as goal

-- none of the verbs so far has the word
abbrev pub invariant-loop-verb : goal.invariant-loop-verb
invariant-loop-verb l = verb_among (drop l.verb-index l.verbs) l.word ≡ verb_among l.verbs l.word
