-- Texts that begin with a line that is not refused.
use Rattle.std.proofs.Common.{◌≡◌, ℕ, ◌+◌, ◌≤◌, Bool, true, false, cond, eqb, List, [], ◌∷◌, ◌++◌, length, Option, Some, None, Result, Ok, Err, refl, ap, ◌∙◌}
use Rattle.std.specs.Prelude.{◌&&◌, nat_le}
use Rattle.std.specs.List.{list_all, flat_map}
use Rattle.std.proofs.lemmas.Bool.{and_parts, and_from, le-ltb, le-leb}
use Rattle.report_text.specs.declared.line.ScriptRefusal.{ScriptRefusal}
use Rattle.report_text.specs.declared.line.ScriptRefusal.TheVariants.{TooLong, Switch}
use Rattle.script_text.specs.declared.command.Command.{Command}
use Rattle.script_text.specs.Grammar.{most_bytes}
use Rattle.script_text.specs.Lines.{onto_first, ended_lines, without_end}
use Rattle.script_text.specs.Reading.{line_command}
use Rattle.script_text.specs.Orders.{Order, Halt, Refuses, Script, Text, at_place, order_by, order_read, order_of, refused_or, refused_in}
use Rattle.script_text.specs.Orders.Order.{NewPolicy}
use Rattle.gen_script.specs.declared.line.ScriptLine.{ScriptLine}
use Rattle.gen_script.specs.Lines.{spelled}

abbrev pub is_nothing : List ℕ → Bool
is_nothing [] = true
is_nothing (b ∷ bs) = false

-- a text is one line, with the line feed that ends it
abbrev pub is_line : List ℕ → Bool
is_line [] = false
is_line (b ∷ bs) = cond (eqb b 10) (is_nothing bs) (is_line bs)

onto_line : (b : ℕ) (bs rest : List ℕ) → (is_line bs ≡ true → ended_lines (bs ++ rest) ≡ bs ∷ ended_lines rest) → (t : Bool) → cond t (is_nothing bs) (is_line bs) ≡ true
    → cond t ((b ∷ []) ∷ ended_lines (bs ++ rest)) (onto_first b (ended_lines (bs ++ rest))) ≡ (b ∷ bs) ∷ ended_lines rest
onto_line b [] rest ends true h = refl
onto_line b (c ∷ cs) rest ends true h = absurd (cc h)
onto_line b bs rest ends false h = ap (onto_first b) (ends h)

line_ahead : (line rest : List ℕ) → is_line line ≡ true → ended_lines (line ++ rest) ≡ line ∷ ended_lines rest
line_ahead [] rest h = absurd (cc h)
line_ahead (b ∷ bs) rest h = onto_line b bs rest (line_ahead bs rest) (eqb b 10) h

-- a line asks for something, and no text comes behind it
abbrev pub goes_on : Result Order Halt → Bool
goes_on (Ok (NewPolicy text)) = false
goes_on (Ok order) = true
goes_on (Err halt) = false

-- a text is one line that goes on
abbrev pub reads : ℕ → List ℕ → Bool
reads places line = is_line line && goes_on (order_of places (without_end line))

-- no line of a text is refused
abbrev pub NoneRefused : ℕ → List ℕ → Type 0
NoneRefused places text = (n : ℕ) → refused_in places Script n (ended_lines text) ≡ None

passed : (n : ℕ) (order : Result Order Halt) (script text : Option (ℕ × ScriptRefusal)) → goes_on order ≡ true → refused_or n order script text ≡ script
passed n (Ok (NewPolicy none)) script text h = absurd (cc h)
passed n (Ok order) script text h = refl
passed n (Err halt) script text h = absurd (cc h)

pub none_ahead : (places : ℕ) (line rest : List ℕ) → reads places line ≡ true → NoneRefused places rest → NoneRefused places (line ++ rest)
none_ahead places line rest h none n =
    let both = and_parts (is_line line) (goes_on (order_of places (without_end line))) h in
    ap (refused_in places Script n) (line_ahead line rest both.0)
    ∙ passed n (order_of places (without_end line)) (refused_in places Script (n + 1) (ended_lines rest)) (refused_in places (Text []) (n + 1) (ended_lines rest)) both.1
    ∙ none (n + 1)

pub none_of_lines : (places : ℕ) (lines more : List ScriptLine) → list_all (λ l. reads places (spelled l)) lines ≡ true → NoneRefused places (flat_map spelled more)
    → NoneRefused places (flat_map spelled (lines ++ more))
none_of_lines places [] more h none = none
none_of_lines places (l ∷ ls) more h none =
    let both = and_parts (reads places (spelled l)) (list_all (λ l. reads places (spelled l)) ls) h in
    none_ahead places (spelled l) (flat_map spelled (ls ++ more)) both.0 (none_of_lines places ls more both.1 none)

-- the order of a line that says a command
pub order_said : (places : ℕ) (line : List ℕ) (c : Command) → length line ≤ most_bytes → line_command line ≡ Some c → order_of places line ≡ order_by places c
order_said places line c short said =
    ap (λ t. cond t (Err (Refuses TooLong)) (order_read places (line_command line))) (le-ltb most_bytes (length line) short) ∙ ap (order_read places) said

pub goes_at : (places c : ℕ) (order : Order) → goes_on (Ok order) ≡ true → 1 ≤ c → c ≤ places → goes_on (at_place places c order) ≡ true
goes_at places c order h low high =
    ap (λ t. goes_on (cond t (Ok order) (Err (Refuses Switch)))) (and_from (nat_le 1 c) (nat_le c places) (le-leb 1 c low) (le-leb c places high)) ∙ h
