-- What holds of the tokens of each policy.
use Rattle.std.specs.Prelude.{◌≡◌}
use Rattle.policy_grammar.specs.Grammar.{File, AreStatements, file_tokens}

-- tokens are those of one file alone
abbrev pub OneFile : Type 0
OneFile = (f g : File) → AreStatements f.body → AreStatements g.body → file_tokens f ≡ file_tokens g → f ≡ g
