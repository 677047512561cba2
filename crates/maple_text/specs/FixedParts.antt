-- A text that is cut into a fixed number of parts.
use Rattle.std.specs.Prelude.{◌≡◌, ℕ, List, [], ◌∷◌, Option, None, MatchOption}
use Rattle.std.specs.Borrow.{Bor}
use Rattle.maple_text.specs.Numbers.{dotted, paired}

abbrev Part : Type 0
Part = Bor (List ℕ)

-- the four parts; none only where the parts are no IPv4 address
abbrev pub AreFourParts : List (List ℕ) → Option (Part × Part × Part × Part) → Type 0
AreFourParts parts result = MatchOption result (dotted parts ≡ None) (λ p. parts ≡ p.0.now ∷ p.1.now ∷ p.2.now ∷ p.3.now ∷ [])

-- the six parts; none only where the parts are no Ethernet address
abbrev pub AreSixParts : List (List ℕ) → Option (Part × Part × Part × Part × Part × Part) → Type 0
AreSixParts parts result =
    MatchOption result (paired parts ≡ None) (λ p. parts ≡ p.0.now ∷ p.1.now ∷ p.2.now ∷ p.3.now ∷ p.4.now ∷ p.5.now ∷ [])
