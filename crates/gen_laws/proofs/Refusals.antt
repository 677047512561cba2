-- No line of a script is refused but for a place that isn't there.
use Rattle.std.proofs.Common.{◌≡◌, ℕ, zero, suc, ◌+◌, ◌≤◌, true, cond, List, [], ◌∷◌, ◌++◌, Some, None, refl, sym, ap, ◌∙◌, arith}
use Rattle.std.specs.Prelude.{nat_le}
use Rattle.std.specs.Fmt.{digits}
use Rattle.std.specs.List.{list_all, flat_map}
use Rattle.std.proofs.lemmas.Bool.{le-leb}
use Rattle.rand_pcg.specs.Lcg.{Lcg}
use Rattle.report_text.specs.declared.line.ScriptRefusal.TheVariants.{Switch}
use Rattle.script_text.specs.Laws.{ReadsLines}
use Rattle.gen_script.specs.declared.line.ScriptLine.{ScriptLine}
use Rattle.gen_script.specs.declared.line.ScriptLine.TheVariants.{Settle, Quit}
use Rattle.gen_script.specs.Draws.{seeded, round}
use Rattle.gen_script.specs.Laws.{RoundsAreInRange}
use Rattle.gen_script.specs.Lines.{spelled}
use Rattle.gen_script.specs.Script.{plugs, links, hosts, opening, rounds, script_of}
use Rattle.gen_laws.specs.Laws.{PlacesDecide}
use Rattle.gen_laws.proofs.Draws.{drawn_reads}
use Rattle.gen_laws.proofs.Lines.{reads, NoneRefused, none_ahead, none_of_lines}

opening_goes : (places : ℕ) → 4 ≤ places → list_all (λ l. reads places (spelled l)) opening ≡ true
unfolding opening plugs links hosts digits
opening_goes places some =
    let one : nat_le 1 places ≡ true = le-leb 1 places (omega arith) in
    let two : nat_le 2 places ≡ true = le-leb 2 places (omega arith) in
    let three : nat_le 3 places ≡ true = le-leb 3 places (omega arith) in
    let four : nat_le 4 places ≡ true = le-leb 4 places some in
    rw (one, two, three, four) refl

none_of_rounds : ReadsLines → RoundsAreInRange → (places count : ℕ) (g : Lcg) (more : List ScriptLine) → 4 ≤ places → NoneRefused places (flat_map spelled more)
    → NoneRefused places (flat_map spelled (rounds count g ++ more))
unfolding rounds
none_of_rounds read drawn places zero g more some none = none
none_of_rounds read drawn places (suc count) g more some none =
    none_ahead places (spelled (round g).0) (flat_map spelled (rounds count (round g).1 ++ more)) (drawn_reads read places some (round g).0 (drawn g)) (none_of_rounds read drawn places count (round g).1 more some none)

none_at_end : (places : ℕ) → NoneRefused places (flat_map spelled (Settle ∷ Quit ∷ []))
none_at_end places n = refl

none_refused : ReadsLines → RoundsAreInRange → (n places : ℕ) → 4 ≤ places → NoneRefused places (script_of n)
unfolding script_of opening plugs links hosts
none_refused read drawn n places some =
    none_of_lines places opening (rounds 4000 (seeded n) ++ Settle ∷ Quit ∷ []) (opening_goes places some)
    (none_of_rounds read drawn places 4000 (seeded n) (Settle ∷ Quit ∷ []) some (none_at_end places))

pub places_decide : ReadsLines → RoundsAreInRange → PlacesDecide
unfolding script_of opening plugs digits
places_decide read drawn n zero = refl
places_decide read drawn n (suc zero) = refl
places_decide read drawn n (suc (suc zero)) = refl
places_decide read drawn n (suc (suc (suc zero))) = refl
places_decide read drawn n (suc (suc (suc (suc more)))) =
    let places = suc (suc (suc (suc more))) in
    none_refused read drawn n places (omega arith) 1 ∙ sym (ap (λ t. cond t None (Some (places + 1, Switch))) (le-leb 4 places (omega arith)))
