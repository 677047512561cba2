-- Which flow mods are refused for their number.
use Rattle.std.specs.Prelude.{◌≡◌, ℕ, Bool, true, false, ◌==◌, ◌&&◌, List}
use Rattle.std.specs.List.{list_any}
use Rattle.maple_base.specs.Counts.{next_count}
use Rattle.maple_base.specs.declared.device.Turned.{Turned}
use Rattle.maple_base.specs.declared.device.Turned.TheVariants.{NoMemory as NoMemoryTurn}
use Rattle.model_switch.specs.declared.refusing.Refusing.{Refusing}
use Rattle.model_switch.specs.States.{State, is_mod_first, RefusesFirst, TurnsAt}

-- so many flow mods were dealt with, and the number of the next is one of these
abbrev pub refuses_next : List ℕ → ℕ → Bool
refuses_next refuses mods = list_any (λ n. n == next_count mods) refuses

-- the first message is a flow mod, and its number is one of those that are refused
abbrev pub is_refused : Refusing → Bool
is_refused a = is_mod_first a.inner.switch.pending && refuses_next a.refuses.items a.mods

-- the first message is refused, or a turn is taken as by a switch that refuses nothing
abbrev pub TurnsBy : Bool → State → Turned → List ℕ → State → Type 0
TurnsBy true s answer bytes t = RefusesFirst s answer bytes t
TurnsBy false s answer bytes t = TurnsAt 0 s answer bytes t

-- a turn refuses just the flow mods of these numbers, and those for which there is no room
abbrev pub TurnsRefusing : Refusing → Turned → List ℕ → Refusing → Type 0
TurnsRefusing a answer bytes b = TurnsBy (is_refused a) a.inner.switch answer bytes b.inner.switch

-- the numbers and the count stay
pub record SameMods (old new : Refusing) : Type 0 where
  pub refuses : new.refuses.items ≡ old.refuses.items
  pub mods : new.mods ≡ old.mods

-- a turn that deals with a flow mod counts it, and no other does
pub record CountsMods (answer : Turned) (old new : Refusing) : Type 0 where
  pub refuses : new.refuses.items ≡ old.refuses.items
  pub lacking : answer ≡ NoMemoryTurn → new.mods ≡ old.mods
  pub passed : is_mod_first old.inner.switch.pending ≡ false → new.mods ≡ old.mods
  pub counted : is_mod_first old.inner.switch.pending ≡ true → (answer ≡ NoMemoryTurn → ⊥) → new.mods ≡ next_count old.mods
