-- The summary of a report: how many of its lines are of each kind.
use Rattle.std.specs.Prelude.{ℕ, Bool, ◌&&◌, ◌||◌, ◌==◌, nat_eq, List, [], ◌∷◌, codes}
use Rattle.std.specs.Fmt.{decimal}
use Rattle.std.specs.List.{count_by, flat_map, list_any, slice_split, starts_with}
use Rattle.std.specs.Str.{bytes_eq}
use Rattle.report_text.specs.Report.{◌&◌}
use Rattle.gen_script.specs.declared.tally.Tally.{Tally}
use Rattle.gen_script.specs.declared.tally.Tally.TheVariants.{Packets, Hits, Misses, States, Learned, Known, Unlearned}

-- the lines of a report, without their line feeds
abbrev pub lines_of : List ℕ → List (List ℕ)
lines_of report = slice_split (λ b. b == 10) report

-- a line begins with a text
abbrev pub begins : List ℕ → List ℕ → Bool
begins text line = starts_with nat_eq line text

-- a word is one of a line's, which single spaces part
abbrev pub has_word : List ℕ → List ℕ → Bool
has_word word line = list_any (bytes_eq word) (slice_split (λ b. b == 32) line)

-- an answer tells by this word what was learned
abbrev pub tells : List ℕ → List ℕ → Bool
tells word line = begins (codes "answer ") line && has_word word line

-- whether a line is of a kind
abbrev pub counts : Tally → List ℕ → Bool
counts Packets line = begins (codes "hit ") line || begins (codes "miss ") line
counts Hits line = begins (codes "hit ") line
counts Misses line = begins (codes "miss ") line
counts States line = begins (codes "state ") line
counts Learned line = tells (codes "learned") line
counts Known line = tells (codes "known") line
counts Unlearned line = tells (codes "unlearned") line

abbrev pub name_of : Tally → List ℕ
name_of Packets = codes "packets"
name_of Hits = codes "hits"
name_of Misses = codes "misses"
name_of States = codes "states"
name_of Learned = codes "learned"
name_of Known = codes "known"
name_of Unlearned = codes "unlearned"

-- how many lines are of a kind
unfoldable pub number_of : List ℕ → Tally → ℕ
number_of report kind = count_by (counts kind) (lines_of report)

-- `NAME N`
unfoldable pub summary_line : List ℕ → Tally → List ℕ
summary_line report kind = name_of kind & codes " " & decimal (number_of report kind) & codes "\n"

unfoldable pub summary_of : List ℕ → List ℕ
summary_of report = flat_map (summary_line report) (Packets ∷ Hits ∷ Misses ∷ States ∷ Learned ∷ Known ∷ Unlearned ∷ []) & codes "end\n"
