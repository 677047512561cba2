use Rattle.std.proofs.Common.{◌≡◌, drop}
use Rattle.command_words.specs.Options.{setting_among}
use Rattle.command_words.proofs.options.setting_among.Given as goal

-- none of the settings so far has the name
abbrev pub invariant-loop-setting : goal.invariant-loop-setting
invariant-loop-setting l = setting_among (drop l.setting-index l.settings) l.word ≡ setting_among l.settings l.word
