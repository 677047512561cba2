-- The script that a number makes.
use Rattle.std.specs.Prelude.{ℕ, zero, suc, ◌+◌, ◌-◌, ◌%◌, List, [], ◌∷◌, ◌++◌, map}
use Rattle.std.specs.List.{flat_map}
use Rattle.rand_pcg.specs.Lcg.{Lcg}
use Rattle.gen_script.specs.declared.line.ScriptLine.{ScriptLine}
use Rattle.gen_script.specs.declared.line.ScriptLine.TheVariants.{Plug, Settle, Link, Host, Quit}
use Rattle.gen_script.specs.Draws.{seeded, round}
use Rattle.gen_script.specs.Lines.{spelled}

-- so many numbers, from one on
abbrev pub numbers : ℕ → ℕ → List ℕ
numbers from zero = []
numbers from (suc count) = from ∷ numbers (from + 1) count

-- four devices
unfoldable pub plugs : List ScriptLine
plugs = map Plug (numbers 1 4)

-- a switch and the next one, both ways
abbrev pub both_links : ℕ → List ScriptLine
both_links i = Link i 1 (i + 1) 2 ∷ Link (i + 1) 2 i 1 ∷ []

unfoldable pub links : List ScriptLine
links = flat_map both_links (numbers 1 3)

-- the hosts are behind the four switches by turns
abbrev pub host_line : ℕ → ScriptLine
host_line h = Host h ((h - 1) % 4 + 1)

unfoldable pub hosts : List ScriptLine
hosts = map host_line (numbers 1 16)

unfoldable pub opening : List ScriptLine
opening = plugs ++ Settle ∷ links ++ hosts

-- so many lines that are drawn one after the other
unfoldable pub rounds : ℕ → Lcg → List ScriptLine
rounds zero g = []
rounds (suc count) g = (round g).0 ∷ rounds count (round g).1

abbrev pub lines_of : ℕ → List ScriptLine
lines_of n = opening ++ rounds 4000 (seeded n) ++ Settle ∷ Quit ∷ []

unfoldable pub script_of : ℕ → List ℕ
script_of n = flat_map spelled (lines_of n)
