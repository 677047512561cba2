-- Where there is no room for what was taken.
use Rattle.std.proofs.Common.{◌≡◌, ℕ, ◌+◌, ◌<◌, ◌≤◌, true, List, [], take, length, get_or, sym, ap, ◌∙◌, arith}
use Rattle.std.proofs.lemmas.List.Folds.{length-flat_map-take}
use Rattle.std.proofs.lemmas.Bool.Decides.{nat_tests}
use Rattle.std.specs.Prelude.{◌==◌, if◌then◌else◌}
use Rattle.std.specs.List.{flat_map}
use Rattle.maple_io.specs.declared.kept.Taken.{Taken}
use Rattle.maple_io.specs.Kept.{taken_for}

is_same : (c d : ℕ) → c ≡ d → (c == d) ≡ true
is_same c d e = grind (arith, nat_tests)

own_bytes : (c : ℕ) (t : Taken) → t.connection ≡ c → taken_for c t ≡ t.bytes
own_bytes c t e = ap (λ b. if b then t.bytes else []) (is_same t.connection c e)

-- where one part finds no room there is none for all of them
pub no_room : (c : ℕ) (taken : List Taken) (i : ℕ) (t : Taken) (bytes : List ℕ) (before room len cap : ℕ) → i < length taken → t ≡ get_or taken i t → t.connection ≡ c
    → bytes ≡ t.bytes → len ≡ before + length (flat_map (taken_for c) (take i taken)) → room ≤ cap → cap < len + length bytes
    → room < before + length (flat_map (taken_for c) taken)
no_room c taken i t bytes before room len cap h at own same is le full =
    let part : length (taken_for c (get_or taken i t)) ≡ length bytes =
    ap (λ u. length (taken_for c u)) (sym at) ∙ ap (λ (l : List ℕ). length l) (own_bytes c t own ∙ sym same) in
    omega (arith, length-flat_map-take (taken_for c) taken i t h, part, is, le, full)
