-- Stretches of a part: some deeds, one behind the other, with what holds of each as of a whole part.
use Rattle.std.specs.Prelude.{◌≡◌, ℕ, true, false, List, [], ◌++◌, Option, None}
use Rattle.std.specs.List.{list_all, list_any}
use Rattle.maple_io.specs.declared.act.Act.{Act}
use Rattle.maple_io.specs.Boards.{sent}
use Rattle.machine_steps.specs.declared.entry.Entry.{Entry}
use Rattle.serve_steps.specs.Deeds.{Past, acts_of, ends, last_answer, taken_of, has_failed}
use Rattle.serve_steps.specs.Deeds.Deed.{Does}
use Rattle.serve_steps.specs.Parts.{AreFree, EachBehind, HearsOpen, SendsNext, all_told, due, had_memory, is_quiet, own_of}

-- these deeds were done behind those ahead, and ask for these entries themselves; each failed send was told of, but for the last, to this connection, if any
pub record Owes (to : Option ℕ) (own : List Entry) (done ahead : Past) : Type 0 where
  pub quiet : list_all is_quiet done ≡ true
  pub own_is : own_of done ≡ own
  pub memory : list_all had_memory done ≡ true
  pub while_open : EachBehind HearsOpen done ahead
  pub told : all_told done ≡ true
  pub due_is : due done ≡ to
  pub free : AreFree done ahead
  pub in_order : EachBehind SendsNext done ahead

-- each failed send was told of
abbrev pub Stretch : List Entry → Past → Past → Type 0
Stretch own done ahead = Owes None own done ahead

-- nothing was done with this connection
pub record IsAside (c : ℕ) (done : Past) : Type 0 where
  pub taken : taken_of c done ≡ []
  pub unsent : sent c (acts_of done) ≡ []
  pub unanswered : last_answer c done ≡ None
  pub unfailed : has_failed c done ≡ false
  pub unended : list_any (ends c) done ≡ false

-- ---- the board's log

-- an act that no turn and no start is
abbrev pub IsQuietAct : Act → Type 0
IsQuietAct act = is_quiet (Does act) ≡ true

-- the log gained such acts, and no others
pub record IsQuietly (old new : List Act) : Type 0 where
  pub acts : List Act
  pub log : new ≡ old ++ acts
  pub quiet : list_all (λ (act : Act). is_quiet (Does act)) acts ≡ true
