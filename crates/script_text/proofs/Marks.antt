-- The parts of an input, a line further.
use Rattle.std.proofs.Common.{◌≡◌, ℕ, ◌+◌, ◌≤◌, false, cond, List, [], ◌∷◌, ◌++◌, length, take, drop, refl, sym, ap, ◌∙◌, arith, append_assoc, length-append, length-drop}
use Rattle.std.specs.List.{concat}
use Rattle.std.proofs.Math.Seq.{take-add}
use Rattle.std.proofs.lemmas.List.{drop-drop}
use Rattle.std.proofs.lemmas.List.{drop_at, take_at}
use Rattle.script_text.specs.Lines.{ended_lines, is_mark}
use Rattle.script_text.specs.Marks.{ahead_of_mark, behind_mark, lines_to_mark}

module _ (input line rest : List ℕ) (at : ℕ) (within : at ≤ length input) (parts : drop at input ≡ line ++ rest) where
  pub further : at + length line ≤ length input
  further = let e = ap length parts in omega (arith, e, length-append line rest, length-drop at input, within)

  pub rest_is : rest ≡ drop (at + length line) input
  rest_is = sym (drop_at line rest (length line) refl) ∙ ap (drop (length line)) (sym parts) ∙ drop-drop (length line) at input

  pub taken_is : take (at + length line) input ≡ take at input ++ line
  taken_is = take-add at (length line) input ∙ ap (λ l. take at input ++ l) (ap (take (length line)) parts ∙ take_at line rest (length line) refl)

  module _ (lines : ended_lines (drop at input) ≡ line ∷ ended_lines rest) (plain : is_mark line ≡ false) where
    pub ahead_is : (text : List ℕ) → text ≡ take at input ++ concat (ahead_of_mark (ended_lines (drop at input))) → text ≡ take (at + length line) input ++ concat (ahead_of_mark (ended_lines (drop (at + length line) input)))
    ahead_is text e =
        let one : ahead_of_mark (ended_lines (drop at input)) ≡ line ∷ ahead_of_mark (ended_lines rest) =
        ap ahead_of_mark lines ∙ ap (λ b. cond b [] (line ∷ ahead_of_mark (ended_lines rest))) plain in
        e ∙ ap (λ l. take at input ++ concat l) one ∙ sym (append_assoc (take at input) line (concat (ahead_of_mark (ended_lines rest))))
        ∙ ap (λ l. l ++ concat (ahead_of_mark (ended_lines rest))) (sym taken_is)
        ∙ ap (λ r. take (at + length line) input ++ concat (ahead_of_mark (ended_lines r))) rest_is

    pub behind_is : (ls : List (List ℕ)) → ls ≡ behind_mark (ended_lines (drop at input)) → ls ≡ behind_mark (ended_lines (drop (at + length line) input))
    behind_is ls e =
        let one : behind_mark (ended_lines (drop at input)) ≡ behind_mark (ended_lines rest) =
        ap behind_mark lines ∙ ap (λ b. cond b (ended_lines rest) (behind_mark (ended_lines rest))) plain in
        e ∙ one ∙ ap (λ r. behind_mark (ended_lines r)) rest_is

    pub passed_is : (n m : ℕ) → n ≡ m + lines_to_mark (ended_lines (drop at input)) → n ≡ m + 1 + lines_to_mark (ended_lines (drop (at + length line) input))
    passed_is n m e =
        let one : lines_to_mark (ended_lines (drop at input)) ≡ 1 + lines_to_mark (ended_lines rest) =
        ap lines_to_mark lines ∙ ap (λ b. cond b 1 (1 + lines_to_mark (ended_lines rest))) plain in
        let two = ap (λ r. lines_to_mark (ended_lines r)) rest_is in
        omega (arith, e, one, two)
