-- Which rule stands above which: none above itself, none above what stands above it, and none above what is not below another.
use Rattle.std.proofs.Common.{◌≡◌, ℕ, Bool, true, false, not, refl, arith}
use Rattle.std.specs.Prelude.{◌&&◌, ◌||◌, nat_lt}
use Rattle.std.proofs.lemmas.Bool.Decides.{nat_tests}
use Rattle.maple_base.specs.declared.decision.Rule.{Rule}
use Rattle.maple_base.specs.Choice.{stands_above}
use Rattle.maple_base.specs.Keys.{match_exact}

pub never_itself : (r : Rule) → stands_above r r ≡ false
never_itself r = grind (arith, nat_tests)

-- an exact match is over each that is not, and then the greater priority decides
lower : (a b c : Bool) (x y z : ℕ) → (not b && (a || nat_lt y x)) ≡ false → (not c && (b || nat_lt z y)) ≡ false → (not c && (a || nat_lt z x)) ≡ false
lower a b true x y z h i = refl
lower a true false x y z h i = absurd (cc)
lower true false false x y z h i = absurd (cc)
lower false false false x y z h i = grind (arith, nat_tests)

other_way : (a b : Bool) (x y : ℕ) → (not b && (a || nat_lt y x)) ≡ true → (not a && (b || nat_lt x y)) ≡ false
other_way true b x y h = refl
other_way false true x y h = absurd (cc)
other_way false false x y h = grind (arith, nat_tests)

pub not_above : (q p r : Rule) → stands_above q p ≡ false → stands_above p r ≡ false → stands_above q r ≡ false
not_above q p r a b = lower (match_exact q.of) (match_exact p.of) (match_exact r.of) q.priority p.priority r.priority a b

pub not_both : (p r : Rule) → stands_above p r ≡ true → stands_above r p ≡ false
not_both p r a = other_way (match_exact p.of) (match_exact r.of) p.priority r.priority a
