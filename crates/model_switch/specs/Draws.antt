-- Which message a switch draws (O'Neill's PCG, XSH RR 64/32, of the stream 0).
use Rattle.std.specs.Prelude.{◌≡◌, ℕ, ◌%◌, max, List}
use Rattle.maple_base.specs.declared.device.Turned.{Turned}
use Rattle.maple_base.specs.declared.device.Turned.TheVariants.{NoMemory as NoMemoryTurn}
use Rattle.rand_pcg.specs.Lcg.{Lcg, increment_of, started}
use Rattle.rand_pcg.specs.Pcg.{multiplier_64, pcg32}
use Rattle.of10_codec.specs.declared.message.Message.{Message}
use Rattle.model_switch.specs.States.{free_count}

abbrev pub generator : ℕ → Lcg
generator state = record { state = state; increment = increment_of 64 0 }

-- the state of a new generator of this seed
abbrev pub seeded : ℕ → ℕ
seeded seed = (started 64 multiplier_64 seed (increment_of 64 0)).state

-- the word that a state of the generator gives, and the state behind it
abbrev pub drawn : ℕ → ℕ
drawn state = (pcg32 (generator state)).0

abbrev pub behind_draw : ℕ → ℕ
behind_draw state = (pcg32 (generator state)).1.state

-- a turn draws once; where memory runs out nothing is drawn
abbrev pub DrawsOnce : Turned → ℕ → ℕ → Type 0
DrawsOnce NoMemoryTurn old new = new ≡ old
DrawsOnce answer old new = new ≡ behind_draw old

-- a place ahead of the first barrier, or the first
abbrev pub drawn_place : ℕ → List Message → ℕ
drawn_place state pending = drawn state % max 1 (free_count pending)
