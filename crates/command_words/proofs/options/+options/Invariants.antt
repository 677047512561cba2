use Rattle.std.proofs.Common.{length}
use Rattle.command_words.proofs.options.+options.Given as goal

abbrev pub decreases-options : goal.decreases-options
decreases-options l = length l.words.now
