-- Who works beside a driver is the same, one call behind the other.
use Rattle.std.proofs.Common.{◌≡◌, refl, ◌∙◌}
use Rattle.std.specs.Prelude.{Option, Some, None, IfSome, is_some}
use Rattle.machine_desk.specs.declared.crew.Crew.{Crew}
use Rattle.machine_desk.specs.Crews.{IsCrew, SameCrew}

pub same_crew : (c : Option Crew) → SameCrew c c
same_crew None = tt
same_crew (Some c) = record { jobs = refl; lobby = refl; name = refl; is = λ h. h; shares = λ h. refl }

pub crew_then : (a b c : Option Crew) → SameCrew a b → SameCrew b c → SameCrew a c
crew_then None None None h k = tt
crew_then (Some a) (Some b) (Some c) h k =
    record { jobs = k.jobs ∙ h.jobs; lobby = k.lobby ∙ h.lobby; name = k.name ∙ h.name; is = λ x. k.is (h.is x); shares = λ x. k.shares (h.is x) ∙ h.shares x }
crew_then None None (Some c) h k = absurd k
crew_then None (Some b) c h k = absurd h
crew_then (Some a) None c h k = absurd h
crew_then (Some a) (Some b) None h k = absurd k

pub some_crew : (a b : Option Crew) → SameCrew a b → is_some b ≡ is_some a
some_crew None None h = refl
some_crew (Some a) (Some b) h = refl
some_crew None (Some b) h = absurd h
some_crew (Some a) None h = absurd h

pub still_crew : (c d : Option Crew) → SameCrew c d → IfSome c IsCrew → IfSome d IsCrew
still_crew None None s is = tt
still_crew (Some c) (Some d) s is = s.is is
still_crew None (Some d) s is = absurd s
still_crew (Some c) None s is = absurd s
