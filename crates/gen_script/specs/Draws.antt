-- How a round of the script is drawn, from the words of O'Neill's PCG, XSH RR 64/32.
use Rattle.std.specs.Prelude.{ℕ, ◌+◌, ◌%◌, ◌==◌, if◌then◌else◌}
use Rattle.rand_core.specs.Pcg32Seed.{pcg32_seed}
use Rattle.rand_pcg.specs.Lcg.{Lcg}
use Rattle.rand_pcg.specs.Pcg.{pcg32, pcg32_of_seed}
use Rattle.gen_script.specs.declared.line.ScriptLine.{ScriptLine}
use Rattle.gen_script.specs.declared.line.ScriptLine.TheVariants.{Settle, Host, Block, Unblock, Packet}

-- the generator of a number, as `seed_from_u64` makes it
abbrev pub seeded : ℕ → Lcg
seeded n = pcg32_of_seed (pcg32_seed 16 n)

-- what is drawn first, and then, by that, the rest
infixl 10 ◌>>=◌
abbrev pub ◌>>=◌ : {A B : Type 0} → (Lcg → A × Lcg) → (A → Lcg → B × Lcg) → Lcg → B × Lcg
◌>>=◌ first rest g = rest (first g).0 (first g).1

-- nothing is drawn
abbrev pub just : {A : Type 0} → A → Lcg → A × Lcg
just a g = (a, g)

-- a word modulo a bound
unfoldable pub draw : ℕ → Lcg → ℕ × Lcg
draw bound g = ((pcg32 g).0 % bound, (pcg32 g).1)

-- a host moves to a switch
unfoldable pub host_move : Lcg → ScriptLine × Lcg
host_move = do
  h ← draw 16
  s ← draw 4
  just (Host (1 + h) (1 + s))

unfoldable pub block : Lcg → ScriptLine × Lcg
block = do
  a ← draw 16
  just (Block a)

unfoldable pub unblock : Lcg → ScriptLine × Lcg
unblock = do
  a ← draw 16
  just (Unblock a)

-- a packet of a source comes to a switch for a host
unfoldable pub packet : Lcg → ScriptLine × Lcg
packet = do
  s ← draw 4
  p ← draw 48
  a ← draw 16
  h ← draw 16
  just (Packet (1 + s) (1 + p) (1 + h) a)

-- the line of a round, by a number below 20
abbrev pub round_of : ℕ → Lcg → ScriptLine × Lcg
round_of d =
    if d == 0 then host_move else (if d == 1 then block else (if d == 2 then unblock else (if d == 3 then just Settle else packet)))

unfoldable pub round : Lcg → ScriptLine × Lcg
round = do
  d ← draw 20
  round_of d
