-- The names in force, as they are kept: the last declared first.
use Rattle.std.specs.Prelude.{ℕ, Bool, List, map}
use Rattle.std.specs.Str.{bytes_eq}
use Rattle.policy_eval.specs.declared.datum.Datum.{Datum}
use Rattle.policy_eval.specs.Data.{datum_of}
use Rattle.policy_meaning.specs.Values.{Datum as Given}

-- a name with what it stands for
abbrev pub entry_of : List ℕ × Datum → List ℕ × Given
entry_of (x, d) = (x, datum_of d)

-- what the names that are kept stand for, the last declared first
abbrev pub in_force : List (List ℕ × Datum) → List (List ℕ × Given)
in_force names = map entry_of names

-- whether an entry is of this name; it serves a private contract alone
abbrev pub is_named : List ℕ → List ℕ × Datum → Bool
is_named x e = bytes_eq e.0 x
