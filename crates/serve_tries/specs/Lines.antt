-- What lines ask for, and what may stand freely.
use Rattle.std.specs.Prelude.{◌≡◌, ℕ, List, [], ◌∷◌, ◌++◌, codes}
use Rattle.maple_base.specs.declared.decision.Settings.{Settings}
use Rattle.maple_base.specs.declared.key.Key.{Key}
use Rattle.policy_lang.specs.declared.Policy.{Policy}
use Rattle.report_text.specs.declared.line.ScriptRefusal.TheVariants.{Grammar}
use Rattle.trace_record.specs.Runs.{Recorded}
use Rattle.machine_steps.specs.declared.entry.Entry.TheVariants as entries
use Rattle.machine_steps.specs.declared.entry.Input.TheVariants.{Message as Whole}
use Rattle.machine_steps.specs.declared.reply.Differs.{Differs}
use Rattle.machine_steps.specs.declared.reply.Reply.TheVariants as replies
use Rattle.serve_steps.specs.Deeds.{Deed}
use Rattle.serve_steps.specs.Texts.{asks_last, asks_more, script_asks}
use Rattle.serve_steps.specs.Texts.Ask.{ReadsRules, Refuses, Renews}
use Rattle.serve_steps.specs.Parts.{AreFree}
use Rattle.serve_tries.specs.More.{enters}
use Rattle.serve_tries.specs.Whole.{packet}

abbrev pub line : List ℕ → List ℕ
line text = text ++ 10 ∷ []

-- ---- the control text

-- a line that comes in two pieces asks where it ends, and a second one has its number
abbrev pub CutLineAsks : Type 0
CutLineAsks =
    (asks_more [] (codes "rul") ≡ [])
    × (asks_more (codes "rul") (line (codes "es 1") ++ line (codes "fly")) ≡ ReadsRules 1 ∷ Refuses 2 Grammar ∷ [])

-- empty lines and comments don't
abbrev pub NothingAsks : Type 0
NothingAsks = asks_more [] (line [] ++ line (codes "# x")) ≡ []

-- nothing asks behind `quit`
abbrev pub NoneBehindQuit : Type 0
NoneBehindQuit = asks_more (line (codes "quit")) (line (codes "rules 1")) ≡ []

-- the text of a new policy asks as its last line comes
abbrev pub PolicyAsks : Type 0
PolicyAsks =
    (asks_more [] (line (codes "newpolicy") ++ line (codes "x")) ≡ [])
    × (asks_more (line (codes "newpolicy") ++ line (codes "x")) (line (codes "%%") ++ line (codes "rules 1")) ≡ Renews (line (codes "x")) ∷ ReadsRules 1 ∷ [])

-- and an unfinished one, or an unfinished line, at the end
abbrev pub EndAsks : Type 0
EndAsks =
    (asks_last (line (codes "newpolicy") ++ codes "x") ≡ Renews (codes "x") ∷ [])
    × ((asks_last (line (codes "rules 2") ++ codes "rules 1") ≡ ReadsRules 1 ∷ []) × (asks_last (line (codes "rules 2")) ≡ []))

-- ---- the start script

-- what needs a place, and `settle`, is refused as what is no line of a script
abbrev pub PlacesAreRefused : Type 0
PlacesAreRefused =
    script_asks 3 (line (codes "plug 1") ++ line (codes "unplug 1") ++ line (codes "settle"))
    ≡ Refuses 3 Grammar ∷ Refuses 4 Grammar ∷ Refuses 5 Grammar ∷ []

-- ---- deciding

abbrev pub stale : Policy → Settings → Recorded → Differs → Deed
stale p s run differs = enters p s (entries.Commit 1 run) (replies.Stale differs)

abbrev pub told : Policy → Settings → Key → Deed
told p s key = enters p s (entries.Heard 1 (Whole packet)) (replies.Job (record { job = 1; switch = 1; key = key }))

abbrev pub decides : Policy → Settings → Deed
decides p s = enters p s (entries.Decide 1) replies.Spent

-- behind three stale runs the machine may be asked to run the policy itself
abbrev pub DecidedBehindThree : Type 0
DecidedBehindThree =
    (p : Policy) (s : Settings) (key : Key) (run : Recorded) (differs : Differs)
    → AreFree (decides p s ∷ stale p s run differs ∷ stale p s run differs ∷ stale p s run differs ∷ told p s key ∷ []) []

-- but not behind two
abbrev pub DecidedBehindTwo : Type 0
DecidedBehindTwo =
    (p : Policy) (s : Settings) (key : Key) (run : Recorded) (differs : Differs)
    → ¬ (AreFree (decides p s ∷ stale p s run differs ∷ stale p s run differs ∷ told p s key ∷ []) [])

-- nor is a run committed for a job that was never told
abbrev pub CommittedUntold : Type 0
CommittedUntold = (p : Policy) (s : Settings) (run : Recorded) (differs : Differs) → ¬ (AreFree (stale p s run differs ∷ []) [])
