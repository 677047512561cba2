-- The limits on a policy and on its text.
use Rattle.std.specs.Prelude.{ℕ}

-- how many bytes a text may have
abbrev pub most_bytes : ℕ
most_bytes = 65536

-- how many tables may be named
abbrev pub most_tables : ℕ
most_tables = 16

-- how many nodes a policy may have
abbrev pub most_nodes : ℕ
most_nodes = 4096

-- how deep a node may be, counting the statements and expressions around it and itself
abbrev pub deepest : ℕ
deepest = 32

-- how many parentheses may be open at once
abbrev pub most_parentheses : ℕ
most_parentheses = 64
