-- The parts of a text where there are just so many, and what a word stands for.
use Rattle.std.specs.Prelude.{ℕ, Bool, true, false, nat_lt, if◌then◌else◌, List, [], ◌∷◌, Option, Some, None, option_and_then}
use Rattle.maple_text.specs.Numbers.{value_of}
use Rattle.maple_base.specs.Names.{is_name}

infixl 10 ◌>>=◌
abbrev pub ◌>>=◌ : {A B : Type 0} → Option A → (A → Option B) → Option B
o >>= f = option_and_then f o

abbrev pub is_empty : List (List ℕ) → Bool
is_empty [] = true
is_empty parts = false

-- the part where there is just one, and the parts where there are just two, three or four
abbrev pub just_one : List (List ℕ) → Option (List ℕ)
just_one (a ∷ []) = Some a
just_one parts = None

abbrev pub just_two : List (List ℕ) → Option (List ℕ × List ℕ)
just_two (a ∷ b ∷ []) = Some (a, b)
just_two parts = None

abbrev pub just_three : List (List ℕ) → Option (List ℕ × List ℕ × List ℕ)
just_three (a ∷ b ∷ c ∷ []) = Some (a, b, c)
just_three parts = None

abbrev pub just_four : List (List ℕ) → Option (List ℕ × List ℕ × List ℕ × List ℕ)
just_four (a ∷ b ∷ c ∷ d ∷ []) = Some (a, b, c, d)
just_four parts = None

abbrev pub below : ℕ → ℕ → Option ℕ
below bound n = if nat_lt n bound then Some n else None

-- the number of a word, where it is below a bound
abbrev pub number_below : ℕ → List ℕ → Option ℕ
number_below bound word = value_of word >>= below bound

-- a word that is a name
abbrev pub name_of : List ℕ → Option (List ℕ)
name_of word = if is_name word then Some word else None
