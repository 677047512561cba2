-- What an optional value is that comes out of others.
use Rattle.std.proofs.Common.{◌≡◌, ℕ, ◌<◌, arith, List, Bool, true, false, cond, Option, Some, None, refl, ap, ◌∙◌}
use Rattle.std.specs.Prelude.{IfSome}
use Rattle.std.specs.Option.{option_and_then}
use Rattle.std.proofs.lemmas.Bool.{lt-ltb}
use Rattle.maple_text.specs.Numbers.{value_of}
use Rattle.script_text.specs.Words.{below, number_below}
use Rattle.script_text.specs.Spelling.{IsNumber}

pub of_and_then : {A B : Type 0} (P : B → Type 0) (f : A → Option B) (o : Option A) → ((x : A) → o ≡ Some x → IfSome (f x) P) → IfSome (option_and_then f o) P
of_and_then P f None k = tt
of_and_then P f (Some x) k = k x refl

pub onward : {A : Type 0} (P Q : A → Type 0) (o : Option A) → IfSome o P → ((x : A) → P x → Q x) → IfSome o Q
onward P Q None h k = tt
onward P Q (Some x) h k = k x h

pub has_it : {A : Type 0} (P : A → Type 0) (o : Option A) (x : A) → o ≡ Some x → IfSome o P → P x
has_it P None x e h = absurd (cc e)
has_it P (Some y) x e h = let q : y ≡ x = cc e in subst_it q h
  where
    subst_it : y ≡ x → P y → P x
    subst_it q h = rw q at h

-- a number that is told where it is below a bound
below_is : (bound n m : ℕ) → below bound n ≡ Some m → (n ≡ m) × (m < bound)
below_is bound n m e = grind (arith)

pub number_is : (bound : ℕ) (word : List ℕ) (n : ℕ) → number_below bound word ≡ Some n → IsNumber word n × (n < bound)
number_is bound word n e = go (value_of word) refl e
  where
    go : (o : Option ℕ) → value_of word ≡ o → option_and_then (below bound) o ≡ Some n → IsNumber word n × (n < bound)
    go None v e = absurd (cc e)
    go (Some m) v e = let b = below_is bound m n e in (v ∙ ap Some b.0, b.1)

pub number_back : (bound : ℕ) (word : List ℕ) (n : ℕ) → IsNumber word n → n < bound → number_below bound word ≡ Some n
number_back bound word n v l = rw v (ap (λ t. cond t (Some n) None) (lt-ltb n bound l))

pub if_is : {A : Type 0} (b : Bool) (x y : A) → cond b (Some x) None ≡ Some y → (b ≡ true) × (x ≡ y)
if_is true x y e = (refl, cc e)
if_is false x y e = absurd (cc e)
