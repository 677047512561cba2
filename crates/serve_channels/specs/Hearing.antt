-- What is heard of a connection, and what a control text asks for.
use Rattle.std.specs.Prelude.{◌≡◌, ◌⊎◌, ℕ, Bool, true, false, map, List, [], ◌++◌}
use Rattle.of10_stream.specs.Cut.{IsOpen}
use Rattle.machine_steps.specs.declared.entry.Entry.{Entry}
use Rattle.machine_steps.specs.declared.entry.Entry.TheVariants as entries
use Rattle.machine_steps.specs.declared.entry.Input.{Input}
use Rattle.board_lines.specs.declared.control_item.ControlItem.{ControlItem}
use Rattle.sim_steps.specs.Agreeing.{AreCut}
use Rattle.serve_steps.specs.Deeds.{Past, bytes_of, inputs_of, is_open, is_over}
use Rattle.serve_steps.specs.Texts.{AreEntriesOf, asked_by}
use Rattle.machine_desk.specs.declared.hearing.Came.{Came}
use Rattle.machine_desk.specs.declared.hearing.Came.TheVariants.{Nothing, Ended}

-- nothing more is to be heard where nothing came, or the session ended
abbrev pub UpTo : Came → ℕ → Past → List ℕ → Type 0
UpTo Nothing c after rest = (is_over c after ≡ true) ⊎ IsOpen rest
UpTo Ended c after rest = is_over c after ≡ true
UpTo came c after rest = Unit {0}

-- what came next was heard: these inputs are what comes next in what all that came is cut into, and by what came no more is to be heard
pub record HearsNext (c : ℕ) (came : Came) (past : Past) (own : List Entry) (done : Past) : Type 0 where
  pub inputs : List Input
  pub rest : List ℕ
  pub entries_are : own ≡ map (entries.Heard c) inputs
  pub cut : AreCut 0 (inputs_of c past ++ inputs) (bytes_of c past) rest
  pub up_to : UpTo came c (done ++ past) rest

-- by whether the session was open
abbrev pub HearsWhile : Bool → ℕ → Came → Past → List Entry → Past → Type 0
HearsWhile true c came past own done = HearsNext c came past own done
HearsWhile false c came past own done = own ≡ []

abbrev pub Hears : ℕ → Came → Past → List Entry → Past → Type 0
Hears c came past own done = HearsWhile (is_open c past) c came past own done

-- what an item of a control text asks for was done
abbrev pub Obeys : ControlItem → Past → List Entry → Past → Type 0
Obeys item past own done = AreEntriesOf (asked_by item) own
