-- Texts in a row, without inner brackets.
use Rattle.std.proofs.Common.{◌≡◌, Bool, true, false, ℕ, ◌+◌, ◌-◌, ◌<◌, ◌≤◌, List, [], ◌∷◌, ◌++◌, length, take, drop, get_or, cond, codes, decimal, Some, None, refl, ap, ◌∙◌, append_assoc, arith}
use Rattle.std.proofs.lemmas.List.{drop_more}
use Rattle.std.proofs.lemmas.Grind.{common_steps}
use Rattle.std.specs.Int.{bytes_high_first}
use Rattle.std.specs.Prelude.{map}
use Rattle.maple_base.specs.declared.key.Field.{Field}
use Rattle.maple_base.specs.declared.key.Field.TheVariants.{InPort}
use Rattle.maple_base.specs.declared.key.Match.{Match}
use Rattle.maple_base.specs.Keys.{fixed_of}
use Rattle.report_text.specs.Report.{◌&◌, behind, joined, pair, ethernet, spelled_field, fixed_texts, spelled_actions}

pub flat_one : (head n end rest : List ℕ) → (head & n & end) ++ rest ≡ head & n & end & rest
flat_one head n end rest = append_assoc head (n & end) rest ∙ ap (λ x. head ++ x) (append_assoc n end rest)

pub flat_two : (head n between m end rest : List ℕ) → (head & n & between & m & end) ++ rest ≡ head & n & between & m & end & rest
flat_two head n between m end rest = flat_one head n (between & m & end) rest ∙ ap (λ x. head & n & x) (flat_one between m end rest)

pub flat_dotted : (a b c d : List ℕ) → (a & codes ".") ++ ((b & codes ".") ++ ((c & codes ".") ++ d)) ≡ a & codes "." & b & codes "." & c & codes "." & d
flat_dotted a b c d =
    append_assoc a (codes ".") ((b & codes ".") ++ ((c & codes ".") ++ d))
    ∙ ap (λ x. a & codes "." & x) (append_assoc b (codes ".") ((c & codes ".") ++ d) ∙ ap (λ x. b & codes "." & x) (append_assoc c (codes ".") d))

pub ethernet_of : (n : ℕ) (bytes text : List ℕ) → bytes ≡ bytes_high_first 6 n → text ≡ joined (codes ":") (map pair bytes) → text ≡ ethernet n
unfolding ethernet
ethernet_of n bytes text e h = h ∙ ap (λ b. joined (codes ":") (map pair b)) e

-- the texts that are left, with a comma ahead of the first unless it is the first of all
abbrev pub going_on : Bool → List (List ℕ) → List ℕ
going_on true ts = joined (codes ",") ts
going_on false ts = behind (codes ",") ts

pub going_further : (is_first : Bool) (t : List ℕ) (ts : List (List ℕ)) → cond is_first [] (codes ",") ++ (t ++ behind (codes ",") ts) ≡ going_on is_first (t ∷ ts)
going_further true t ts = refl
going_further false t ts = refl

pub next_text : (m : Match) (fields : List Field) (i v : ℕ) → i < length fields → fixed_of m (get_or fields i InPort) ≡ Some v
    → fixed_texts m (drop i fields) ≡ spelled_field (get_or fields i InPort) v ∷ fixed_texts m (drop (i + 1) fields)
next_text m fields i v lt e = rw (drop_more fields i InPort lt, e) refl

pub no_text : (m : Match) (fields : List Field) (i : ℕ) → i < length fields → fixed_of m (get_or fields i InPort) ≡ None
    → fixed_texts m (drop i fields) ≡ fixed_texts m (drop (i + 1) fields)
no_text m fields i lt e = rw (drop_more fields i InPort lt, e) refl

-- the first of some texts and the others
all_of : {A : Type 0} (x : A) (xs : List A) → take (length (x ∷ xs) - 1) xs ≡ xs
all_of x xs = grind (arith, common_steps)

pub joined_first : {A : Type 0} (f : A → List ℕ) (xs : List A) (d : A) → 1 ≤ length xs
    → joined (codes ",") (map f xs) ≡ f (get_or xs 0 d) ++ behind (codes ",") (map f (take (length xs - 1) (drop 1 xs)))
joined_first f [] d h = absurd (omega (arith, h))
joined_first f (x ∷ xs) d h = rw (all_of x xs) refl

pub actions_joined : (ports : List ℕ) → 2 ≤ length ports → spelled_actions ports ≡ codes "out " ++ joined (codes ",") (map decimal ports)
unfolding spelled_actions
actions_joined [] h = absurd (omega (arith, h))
actions_joined (p ∷ []) h = absurd (omega (arith, h))
actions_joined (p ∷ q ∷ ps) h = refl
