-- A message at the front of a stream.
use Rattle.std.proofs.Common.{◌≡◌, ℕ, ◌+◌, ◌≤◌, Bool, true, false, List, ◌++◌, length, take, drop, Option, Some, None, refl, ap, ◌∙◌, arith, length-append, length-drop}
use Rattle.std.specs.Prelude.{not, ◌&&◌, ◌==◌, nat_lt, if◌then◌else◌}
use Rattle.std.proofs.Math.Seq.{take-append_seam}
use Rattle.std.proofs.lemmas.List.{take-append-le, drop-append-le}
use Rattle.std.proofs.lemmas.Bool.Decides.{nat_tests}
use Rattle.std.specs.Slice.Scan.{big_endian}
use Rattle.maple_base.specs.NetworkOrder.{number_at}
use Rattle.of10_codec.specs.declared.message.Message.{Message}
use Rattle.of10_codec.specs.declared.fault.Bad.{Bad}
use Rattle.of10_codec.specs.declared.fault.Bad.TheVariants.{Short, Version, Length}
use Rattle.of10_codec.specs.Messages.{Spelled}
use Rattle.of10_codec.specs.Faults.{bad_of, is_foreign}
use Rattle.of10_codec.proofs.Fine.{no_fault}
use Rattle.of10_stream.specs.Cut.{told, head_fault, IsOpen, NoHeader, NoEnd, IsBad, InHeader, InMessage}

-- a number of the front is read in the whole
number_of_front : (place width : ℕ) (a c : List ℕ) → place + width ≤ length a → number_at place width (a ++ c) ≡ number_at place width a
number_of_front place width a c h =
    ap (λ x. big_endian 0 (take width x)) (drop-append-le place a c (omega arith))
    ∙ ap (big_endian 0) (take-append-le width (drop place a) c (omega (arith, length-drop place a)))

not_foreign : (short foreign : Bool) (r : Option Bad) → (if short then Some Short else (if foreign then Some Version else r)) ≡ None → foreign ≡ false
not_foreign true foreign r h = cc
not_foreign false true r h = cc
not_foreign false false r h = refl

long : (m : Message) (front rest : List ℕ) → Spelled m front → nat_lt (length (front ++ rest)) 8 ≡ false
long m front rest s = let h : 8 ≤ length front = s.header.long in grind (arith, nat_tests, length-append front rest)

-- the length that is told is the front's own
pub told_front : (m : Message) (front rest : List ℕ) → Spelled m front → told (front ++ rest) ≡ length front
told_front m front rest s = let h : 8 ≤ length front = s.header.long in number_of_front 2 2 front rest (omega arith) ∙ s.header.whole

sound : (m : Message) (front rest : List ℕ) → Spelled m front → head_fault (front ++ rest) ≡ None
sound m front rest s =
    let h : 8 ≤ length front = s.header.long in
    let known : is_foreign front ≡ false = not_foreign (nat_lt (length front) 8) (is_foreign front) _ (no_fault m front s) in
    let version = number_of_front 0 1 front rest (omega arith) in
    let kind = number_of_front 1 1 front rest (omega arith) in
    let t = told_front m front rest s in
    let still : is_foreign (front ++ rest) ≡ false = ap (λ x. not (x == 0) && not (number_at 0 1 (front ++ rest) == 1)) kind ∙ ap (λ x. not (number_at 1 1 front == 0) && not (x == 1)) version ∙ known in
    let fits : nat_lt (told (front ++ rest)) 8 ≡ false = grind (arith, nat_tests) in
    ap (λ x. if x then Some Version else (if nat_lt (told (front ++ rest)) 8 then Some Length else None)) still ∙ ap (λ x. if x then Some Length else None) fits

pub front_taken : (m : Message) (front rest : List ℕ) → Spelled m front → take (told (front ++ rest)) (front ++ rest) ≡ front
front_taken m front rest s = ap (λ n. take n (front ++ rest)) (told_front m front rest s) ∙ take-append_seam front rest

-- a stream that begins with a message is not open, and not bad
pub not_open : (m : Message) (front rest : List ℕ) → Spelled m front → IsOpen (front ++ rest) → ⊥
not_open m front rest s (NoHeader short) = let l = long m front rest s in cc
not_open m front rest s (NoEnd all fine less) =
    let t = told_front m front rest s in grind (arith, nat_tests, length-append front rest)

pub not_bad : (m : Message) (bad : Bad) (front rest : List ℕ) → Spelled m front → IsBad bad (front ++ rest) → ⊥
not_bad m bad front rest s (InHeader all fault) = let f = sound m front rest s in cc
not_bad m bad front rest s (InMessage all fine whole fault) =
    let f = no_fault m front s in let e = ap bad_of (front_taken m front rest s) in cc

pub open_not_bad : (bad : Bad) (b : List ℕ) → IsOpen b → IsBad bad b → ⊥
open_not_bad bad b (NoHeader short) (InHeader all fault) = cc
open_not_bad bad b (NoHeader short) (InMessage all fine whole fault) = cc
open_not_bad bad b (NoEnd all fine less) (InHeader all' fault) = cc
open_not_bad bad b (NoEnd all fine less) (InMessage all' fine' whole fault) = cc

pub one_bad : (bad other : Bad) (b : List ℕ) → IsBad bad b → IsBad other b → bad ≡ other
one_bad bad other b (InHeader all fault) (InHeader all' fault') = cc
one_bad bad other b (InHeader all fault) (InMessage all' fine' whole' fault') = cc
one_bad bad other b (InMessage all fine whole fault) (InHeader all' fault') = cc
one_bad bad other b (InMessage all fine whole fault) (InMessage all' fine' whole' fault') = cc
