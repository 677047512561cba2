-- When two values are the same, and which recorded cell differs first.
use Rattle.std.proofs.Common.{◌≡◌, ℕ, Bool, true, false, cond, List, [], ◌∷◌, Some, refl, sym, ap, ◌∙◌, eqb-true, eq-eqb}
use Rattle.std.specs.Prelude.{◌&&◌, ◌==◌, not, is_none, option_map, find}
use Rattle.std.proofs.lemmas.Bool.{and_parts}
use Rattle.maple_base.specs.declared.cells.Cell.{Cell}
use Rattle.maple_base.specs.declared.cells.Place.{Place}
use Rattle.maple_base.specs.declared.cells.Value.{Value}
use Rattle.maple_base.specs.declared.cells.Value.TheVariants.{Nothing, At, Number, Flag}
use Rattle.maple_base.specs.Questions.{same_bool}
use Rattle.tree_prune.specs.Current.{same_value, are_current}
use Rattle.tree_prune.specs.Stale.{differs, both_values}

bools_equal : (a b : Bool) → same_bool a b ≡ true → a ≡ b
bools_equal true true h = refl
bools_equal true false h = absurd (cc)
bools_equal false true h = absurd (cc)
bools_equal false false h = refl

same_bool_self : (a : Bool) → same_bool a a ≡ true
same_bool_self true = refl
same_bool_self false = refl

abbrev place : ℕ → ℕ → Place
place switch port = record { switch = switch; port = port }

pub same_equal : (v w : Value) → same_value v w ≡ true → v ≡ w
same_equal Nothing Nothing h = refl
same_equal (At p) (At q) h =
    let b = and_parts (p.switch == q.switch) (p.port == q.port) h in
    ap (λ n. At (place n p.port)) (eqb-true p.switch q.switch b.0) ∙ ap (λ n. At (place q.switch n)) (eqb-true p.port q.port b.1)
same_equal (Number m) (Number n) h = ap Number (eqb-true m n h)
same_equal (Flag a) (Flag b) h = ap Flag (bools_equal a b h)
same_equal v w h = absurd (cc)

pub same_self : (v : Value) → same_value v v ≡ true
same_self Nothing = refl
same_self (At p) = ap (λ b. b && p.port == p.port) (eq-eqb p.switch p.switch refl) ∙ eq-eqb p.port p.port refl
same_self (Number n) = eq-eqb n n refl
same_self (Flag a) = same_bool_self a

pub equal_same : (v w : Value) → v ≡ w → same_value v w ≡ true
equal_same v w e = ap (same_value v) (sym e) ∙ same_self v

-- no cell differs exactly where each is current
pub none_differs : (env : Cell → Value) (cs : List (Cell × Value)) → is_none (option_map (both_values env) (find (differs env) cs)) ≡ are_current env cs
none_differs env [] = refl
none_differs env (c ∷ cs) =
    elim (same_value (env c.0) c.1) as (λ b. is_none (option_map (both_values env) (cond (not b) (Some c) (find (differs env) cs))) ≡ (b && are_current env cs))
    [ true ↦ none_differs env cs | false ↦ refl ]
