-- What a command runs: the text of a policy, and a script.
use Rattle.std.specs.Prelude.{ℕ, ◌+◌, Bool, true, false, List}
use Rattle.std.specs.List.{concat}
use Rattle.script_text.specs.Lines.{ended_lines}
use Rattle.script_text.specs.Marks.{ahead_of_mark, behind_mark, lines_to_mark}
use Rattle.gen_script.specs.Policy.{gen_policy}
use Rattle.gen_script.specs.Script.{script_of}
use Rattle.command_words.specs.declared.words.Command.{Command}
use Rattle.command_words.specs.declared.words.Command.TheVariants.{Sim, Gen, Serve}

-- the bytes of a policy's text and of a script, and the number of the script's first line
pub record Texts : Type 0 where
  pub policy : List ℕ
  pub script : List ℕ
  pub first_line : ℕ

-- those of an input: the policy is what stands ahead of the first line that is %%, or all of it; the script is what stands behind that line, and its lines have
-- the numbers that they have in the input, from 1 on
abbrev pub input_texts : List ℕ → Texts
input_texts input = record {
  policy = concat (ahead_of_mark (ended_lines input));
  script = concat (behind_mark (ended_lines input));
  first_line = lines_to_mark (ended_lines input) + 1;
}

-- those that a number makes
abbrev pub made_texts : ℕ → Texts
made_texts number = record { policy = gen_policy; script = script_of number; first_line = 1 }

-- those of a command
abbrev pub texts_of : Command → List ℕ → Texts
texts_of (Gen number settings) input = made_texts number
texts_of command input = input_texts input

-- the command reads its input
abbrev pub reads : Command → Bool
reads (Gen number settings) = false
reads command = true

-- it runs a script over the devices
abbrev pub simulates : Command → Bool
simulates (Sim settings) = true
simulates (Gen number settings) = true
simulates command = false

-- it serves the switches of the board
abbrev pub serves : Command → Bool
serves (Serve listen control settings) = true
serves command = false
