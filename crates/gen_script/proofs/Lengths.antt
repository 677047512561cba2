-- How long a script is.
use Rattle.std.proofs.Common.{◌≡◌, ℕ, zero, suc, ◌+◌, ◌*◌, ◌<◌, ◌≤◌, List, [], ◌∷◌, ◌++◌, length, ap, ◌∙◌, arith, length-append}
use Rattle.std.specs.Fmt.{digits, decimal}
use Rattle.std.specs.List.{flat_map}
use Rattle.std.proofs.lemmas.Fmt.{length-decimal-le}
use Rattle.std.proofs.lemmas.Grind.{flat_map-append}
use Rattle.rand_pcg.specs.Lcg.{Lcg}
use Rattle.gen_script.specs.declared.line.ScriptLine.{ScriptLine}
use Rattle.gen_script.specs.declared.line.ScriptLine.TheVariants.{Plug, Settle, Link, Host, Block, Unblock, Packet, Quit}
use Rattle.gen_script.specs.Draws.{seeded, round}
use Rattle.gen_script.specs.Laws.{AreShort, IsInRange}
use Rattle.gen_script.specs.Lines.{spelled}
use Rattle.gen_script.specs.Script.{plugs, links, hosts, opening, rounds, script_of}
use Rattle.gen_script.proofs.Drawn.{rounds_in_range}

two_digits : (n : ℕ) → n < 100 → length (decimal n) ≤ 2
two_digits n h = length-decimal-le 2 n (omega arith) (omega arith) (omega arith)

short_line : (l : ScriptLine) → IsInRange l → length (spelled l) ≤ 100
short_line Settle small = omega arith
short_line (Host h s) small =
    let switch = two_digits s (omega (arith, small.1.1)) in
    let port = two_digits (10 + h) (omega (arith, small.0.1)) in
    simp length-append (omega (arith, switch, port))
short_line (Block a) small = let source = two_digits a (omega arith) in simp length-append (omega (arith, source))
short_line (Unblock a) small = let source = two_digits a (omega arith) in simp length-append (omega (arith, source))
short_line (Packet c p h a) small =
    let device = two_digits c (omega (arith, small.0.1)) in
    let port = two_digits p (omega (arith, small.1.1)) in
    let source = two_digits a (omega (arith, small.3)) in
    simp length-append (omega (arith, device, port, source))
short_line (Plug c) small = absurd small
short_line (Link s p t q) small = absurd small
short_line Quit small = absurd small

short_rounds : (count : ℕ) (g : Lcg) → length (flat_map spelled (rounds count g)) ≤ 100 * count
unfolding rounds
short_rounds zero g = omega arith
short_rounds (suc count) g =
    let first = short_line (round g).0 (rounds_in_range g) in
    let rest = short_rounds count (round g).1 in
    omega (arith, first, rest, length-append (spelled (round g).0) (flat_map spelled (rounds count (round g).1)))

short_opening : length (flat_map spelled opening) ≤ 2000
unfolding opening plugs links hosts digits
short_opening = omega arith

-- the opening, the lines that are drawn, and the end
abbrev end : List ScriptLine
end = Settle ∷ Quit ∷ []

parts : (n : ℕ) → script_of n ≡ flat_map spelled opening ++ (flat_map spelled (rounds 4000 (seeded n)) ++ flat_map spelled end)
unfolding script_of opening plugs links hosts
parts n =
    flat_map-append spelled opening (rounds 4000 (seeded n) ++ end)
    ∙ ap (λ (text : List ℕ). flat_map spelled opening ++ text) (flat_map-append spelled (rounds 4000 (seeded n)) end)

pub short_script : AreShort
short_script n =
    let first = flat_map spelled opening in
    let drawn = flat_map spelled (rounds 4000 (seeded n)) in
    let last = flat_map spelled end in
    let same = ap length (parts n) in
    let short = short_rounds 4000 (seeded n) in
    omega (arith, same, short, short_opening, length-append first (drawn ++ last), length-append drawn last)
