-- What the steps of a switch do to the messages between it and its session, and to the rules of a table that don't go by themselves.
use Rattle.std.proofs.Common.{◌≡◌, List, [], ◌∷◌, refl, arith}
use Rattle.std.specs.List.Sorted.{IsPermutation}
use Rattle.std.proofs.lemmas.List.Sorted.{length_permutation}
use Rattle.maple_base.specs.declared.decision.Rule.{Rule}
use Rattle.world_stages.specs.Flights.{StaysOrLoses}
use Rattle.world_stages.specs.FlightLaws.{StepsKeepTrue, StepsStayClear, StepsFlyOn}
use Rattle.world_stages.proofs.Steady.{lasting_stays}

-- what lower crates prove of them
pub record StepLaws : Type 0 where
  pub keeps : StepsKeepTrue
  pub clear : StepsStayClear
  pub flies : StepsFlyOn

pub none_left : (table : List Rule) → IsPermutation [] table → table ≡ []
none_left [] moves = refl
none_left (r ∷ table) moves = let n = length_permutation [] (r ∷ table) moves in absurd (omega (arith, n))

-- an empty table stays empty
pub empty_stays : (table : List Rule) → StaysOrLoses [] table → table ≡ []
empty_stays table h = none_left table (lasting_stays [] table tt h)
