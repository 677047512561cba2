-- The traces that a tree stands for, when one comes and when some go.
use Rattle.std.proofs.Common.{◌≡◌, Bool, true, false, cond, List, [], ◌∷◌, ◌++◌, length, refl, sym, ap, ◌∙◌, arith}
use Rattle.std.specs.Prelude.{◌||◌, nat_lt, filter}
use Rattle.std.specs.List.{list_any}
use Rattle.std.proofs.lemmas.Bool.Decides.{nat_tests}
use Rattle.trace_tree.specs.declared.node.Trace.{Trace}
use Rattle.trace_tree.specs.declared.node.Leaf.{Leaf}
use Rattle.trace_tree.specs.Shape.{Shape, Empty}
use Rattle.trace_tree.specs.Growth.{insert, leaf_of, grown, admits, AreAdmitted, leaves_of}
use Rattle.trace_tree.specs.Kept.{kept}
use Rattle.trace_tree.specs.Stands.{StandsFor, of_leaf}
use Rattle.trace_tree.proofs.Apart.{grown_push, leaves_grown, admitted_filter}
use Rattle.trace_tree.proofs.Keeping.{kept_grown}

admitted_push : (rs : List Trace) (t : Shape) (r : Trace) → AreAdmitted t rs → admits r.items (grown t rs) ≡ true → AreAdmitted t (rs ++ r ∷ [])
admitted_push [] t r a here = (here, tt)
admitted_push (x ∷ rs) t r a here = (a.0, admitted_push rs (insert x.items (leaf_of x) t) r a.1 here)

pub stands_push : (t : Shape) (rs : List Trace) (r : Trace) → StandsFor t rs → admits r.items t ≡ true → StandsFor (insert r.items (leaf_of r) t) (rs ++ r ∷ [])
stands_push t rs r s a = record {
  admitted = admitted_push rs Empty r s.admitted (ap (admits r.items) s.made ∙ a);
  made = grown_push rs Empty r ∙ ap (insert r.items (leaf_of r)) s.made;
}

pub stands_kept : (p : Leaf → Bool) (t : Shape) (rs : List Trace) → StandsFor t rs → StandsFor (kept p t) (filter (of_leaf p) rs)
stands_kept p t rs s = record {
  admitted = admitted_filter (of_leaf p) rs s.admitted;
  made = sym (kept_grown p rs Empty tt s.admitted) ∙ ap (kept p) s.made;
}

pub stands_leaves : (t : Shape) (rs : List Trace) → StandsFor t rs → leaves_of t ≡ length rs
stands_leaves t rs s = let e = leaves_grown rs Empty s.admitted in sym (ap leaves_of s.made) ∙ omega (arith, e)

pub any_some : (p : Trace → Bool) (rs : List Trace) → nat_lt 0 (length (filter p rs)) ≡ list_any p rs
any_some p [] = refl
any_some p (r ∷ rs) =
    elim (p r) as (λ b. nat_lt 0 (length (cond b (r ∷ filter p rs) (filter p rs))) ≡ (b || list_any p rs)) [ true ↦ grind (arith, nat_tests) | false ↦ any_some p rs ]
