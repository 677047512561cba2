-- What holds of the script of each number.
use Rattle.std.specs.Prelude.{ℕ, ◌<◌, ◌≤◌, length}
use Rattle.rand_pcg.specs.Lcg.{Lcg}
use Rattle.gen_script.specs.declared.line.ScriptLine.{ScriptLine}
use Rattle.gen_script.specs.declared.line.ScriptLine.TheVariants.{Settle, Host, Block, Unblock, Packet}
use Rattle.gen_script.specs.Draws.{round}
use Rattle.gen_script.specs.Script.{script_of}

-- it has fewer bytes than this
abbrev pub AreShort : Type 0
AreShort = (n : ℕ) → length (script_of n) < 1000000

-- a number is from 1 to this
abbrev pub IsUpTo : ℕ → ℕ → Type 0
IsUpTo most n = (1 ≤ n) × (n ≤ most)

-- a line is of a kind that is drawn, and its numbers are in their ranges
abbrev pub IsInRange : ScriptLine → Type 0
IsInRange Settle = Unit {0}
IsInRange (Host h s) = IsUpTo 16 h × IsUpTo 4 s
IsInRange (Block a) = a < 16
IsInRange (Unblock a) = a < 16
IsInRange (Packet c p h a) = IsUpTo 4 c × IsUpTo 48 p × IsUpTo 16 h × (a < 16)
IsInRange line = ⊥

-- each line that is drawn is so
abbrev pub RoundsAreInRange : Type 0
RoundsAreInRange = (g : Lcg) → IsInRange (round g).0
