-- The text of the script, line by line.
use Rattle.std.proofs.Common.{◌≡◌, ℕ, ◌+◌, ◌-◌, ◌<◌, suc, List, [], ◌∷◌, ◌++◌, map, refl, ap, sym, ◌∙◌, arith, append_assoc, append-nil}
use Rattle.std.specs.List.{flat_map}
use Rattle.std.proofs.lemmas.Grind.{flat_map-append}
use Rattle.rand_pcg.specs.Lcg.{Lcg}
use Rattle.gen_script.specs.declared.line.ScriptLine.{ScriptLine}
use Rattle.gen_script.specs.declared.line.ScriptLine.TheVariants.{Plug, Settle, Quit}
use Rattle.gen_script.specs.Draws.{seeded, round}
use Rattle.gen_script.specs.Lines.{spelled}
use Rattle.gen_script.specs.Script.{numbers, plugs, both_links, links, host_line, hosts, opening, rounds, script_of}

-- the numbers up to an end, the first by itself
first_number : (d end : ℕ) → d < end → numbers d (end - d) ≡ d ∷ numbers (d + 1) (end - (d + 1))
first_number d end h =
    let more : end - d ≡ suc (end - (d + 1)) = omega arith in
    ap (numbers d) more

pub plug_step : (t : List ℕ) (d : ℕ) → d < 5
    → (t ++ spelled (Plug d)) ++ flat_map spelled (map Plug (numbers (d + 1) (5 - (d + 1)))) ≡ t ++ flat_map spelled (map Plug (numbers d (5 - d)))
plug_step t d h =
    append_assoc t (spelled (Plug d)) (flat_map spelled (map Plug (numbers (d + 1) (5 - (d + 1)))))
    ∙ ap (λ (ns : List ℕ). t ++ flat_map spelled (map Plug ns)) (sym (first_number d 5 h))

pub link_step : (t : List ℕ) (i : ℕ) → i < 4
    → (t ++ flat_map spelled (both_links i)) ++ flat_map spelled (flat_map both_links (numbers (i + 1) (4 - (i + 1)))) ≡ t ++ flat_map spelled (flat_map both_links (numbers i (4 - i)))
link_step t i h =
    let rest = flat_map both_links (numbers (i + 1) (4 - (i + 1))) in
    append_assoc t (flat_map spelled (both_links i)) (flat_map spelled rest)
    ∙ ap (λ (text : List ℕ). t ++ text) (sym (flat_map-append spelled (both_links i) rest))
    ∙ ap (λ (ns : List ℕ). t ++ flat_map spelled (flat_map both_links ns)) (sym (first_number i 4 h))

pub host_step : (t : List ℕ) (h : ℕ) → h < 17
    → (t ++ spelled (host_line h)) ++ flat_map spelled (map host_line (numbers (h + 1) (17 - (h + 1)))) ≡ t ++ flat_map spelled (map host_line (numbers h (17 - h)))
host_step t h below =
    append_assoc t (spelled (host_line h)) (flat_map spelled (map host_line (numbers (h + 1) (17 - (h + 1)))))
    ∙ ap (λ (ns : List ℕ). t ++ flat_map spelled (map host_line ns)) (sym (first_number h 17 below))

first_round : (count : ℕ) (g : Lcg) → rounds (suc count) g ≡ (round g).0 ∷ rounds count (round g).1
unfolding rounds
first_round count g = refl

pub round_step : (t : List ℕ) (count done : ℕ) (line : ScriptLine) (g g' : Lcg) → (line, g') ≡ round g → done < count
    → (t ++ spelled line) ++ flat_map spelled (rounds (count - (done + 1)) g') ≡ t ++ flat_map spelled (rounds (count - done) g)
round_step t count done line g g' drawn h =
    let more : count - done ≡ suc (count - (done + 1)) = omega arith in
    append_assoc t (spelled line) (flat_map spelled (rounds (count - (done + 1)) g'))
    ∙ ap (λ (p : ScriptLine × Lcg). t ++ flat_map spelled (p.0 ∷ rounds (count - (done + 1)) p.1)) drawn
    ∙ ap (λ (ls : List ScriptLine). t ++ flat_map spelled ls) (sym (ap (λ (n : ℕ). rounds n g) more ∙ first_round (count - (done + 1)) g))

-- no round is left where a loop ends
pub rounds_end : (t : List ℕ) (count done : ℕ) (g : Lcg) → count - done ≡ 0 → t ≡ t ++ flat_map spelled (rounds (count - done) g)
unfolding rounds
rounds_end t count done g none = sym (append-nil t) ∙ ap (λ (n : ℕ). t ++ flat_map spelled (rounds n g)) (sym none)

four_texts : (t a b c d : List ℕ) → (((t ++ a) ++ b) ++ c) ++ d ≡ t ++ (a ++ (b ++ (c ++ d)))
four_texts t a b c d = simp append_assoc

-- the texts of the parts, one behind the other
pub opening_text : (t : List ℕ)
    → (((t ++ flat_map spelled plugs) ++ spelled Settle) ++ flat_map spelled links) ++ flat_map spelled hosts ≡ t ++ flat_map spelled opening
unfolding opening plugs hosts
opening_text t =
    four_texts t (flat_map spelled plugs) (spelled Settle) (flat_map spelled links) (flat_map spelled hosts)
    ∙ ap (λ (text : List ℕ). t ++ (flat_map spelled plugs ++ (spelled Settle ++ text))) (sym (flat_map-append spelled links hosts))
    ∙ ap (λ (text : List ℕ). t ++ text) (sym (flat_map-append spelled plugs (Settle ∷ links ++ hosts)))

pub script_text : (t : List ℕ) (n : ℕ)
    → (((t ++ flat_map spelled opening) ++ flat_map spelled (rounds 4000 (seeded n))) ++ spelled Settle) ++ spelled Quit ≡ t ++ script_of n
unfolding script_of opening rounds plugs hosts links
script_text t n =
    let drawn = rounds 4000 (seeded n) in
    four_texts t (flat_map spelled opening) (flat_map spelled drawn) (spelled Settle) (spelled Quit)
    ∙ ap (λ (text : List ℕ). t ++ (flat_map spelled opening ++ text)) (sym (flat_map-append spelled drawn (Settle ∷ Quit ∷ [])))
    ∙ ap (λ (text : List ℕ). t ++ text) (sym (flat_map-append spelled opening (drawn ++ Settle ∷ Quit ∷ [])))
