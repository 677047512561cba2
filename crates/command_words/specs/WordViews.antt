-- What a lent value of an option is.
use denote.Ref.{Bor}
use Rattle.std.specs.Prelude.{ℕ, List, Option, Some, None}
use Rattle.command_words.specs.declared.options.Setting.{Setting}

abbrev pub given_of : Option (Setting × Bor (List ℕ)) → Option (Setting × List ℕ)
given_of None = None
given_of (Some (s, r)) = Some (s, r.now)
