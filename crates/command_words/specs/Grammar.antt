-- The grammar of a command line, however its words are read: how each command is written.
use Rattle.std.specs.Prelude.{◌≡◌, ℕ, Bool, true, false, List, [], ◌∷◌, ◌++◌, Option, Some, None, codes}
use Rattle.std.specs.Option.{option_and_then}
use Rattle.maple_base.specs.declared.decision.Settings.{Settings}
use Rattle.command_words.specs.declared.words.Command.{Command}
use Rattle.command_words.specs.declared.words.Command.TheVariants.{Sim, Check, Gen, Serve}
use Rattle.command_words.specs.declared.options.Setting.{Setting}
use Rattle.command_words.specs.declared.options.Chosen.{Chosen}
use Rattle.command_words.specs.Options.{name_of, none_chosen, number_in, settings_of, with_setting}
use Rattle.command_words.specs.Words.{command_of}

-- an option: a setting and its value, in one word or in two
pub record Written : Type 0 where
  pub setting : Setting
  pub value : List ℕ
  pub joined : Bool

-- one word, with `=` (61) between both, or two words
abbrev pub option_words : Bool → List ℕ → List ℕ → List (List ℕ)
option_words true name value = (name ++ (61 ∷ value)) ∷ []
option_words false name value = name ∷ value ∷ []

-- the words of options, one behind the other
abbrev pub words_of : List Written → List (List ℕ)
words_of [] = []
words_of (o ∷ os) = option_words o.joined (name_of o.setting) o.value ++ words_of os

-- what they choose behind what was chosen before, each a setting that no earlier one did
abbrev pub chosen_by : List Written → Chosen → Option Chosen
chosen_by [] c = Some c
chosen_by (o ∷ os) c = option_and_then (chosen_by os) (with_setting o.setting o.value c)

-- the options choose these ports and these settings
abbrev pub Choose : List Written → Option ℕ → Option ℕ → Settings → Type 0
Choose os listen control settings =
    (c : Chosen) × (chosen_by os none_chosen ≡ Some c) × (c.listen ≡ listen) × (c.control ≡ control) × (settings_of c ≡ settings)

-- these words are written for a command
abbrev pub IsWritten : Command → List (List ℕ) → Type 0
IsWritten (Sim settings) words = (os : List Written) × (words ≡ codes "sim" ∷ words_of os) × Choose os None None settings
IsWritten Check words = words ≡ codes "check" ∷ []
IsWritten (Gen number settings) words =
    (os : List Written) × (n : List ℕ) × (words ≡ codes "gen" ∷ n ∷ words_of os) × (number_in n ≡ Some number) × Choose os None None settings
IsWritten (Serve listen control settings) words =
    (os : List Written) × (words ≡ codes "serve" ∷ words_of os) × Choose os (Some listen) (Some control) settings

-- the words that give a command are just those that are written for it
abbrev pub EachIsRead : Type 0
EachIsRead = (command : Command) (words : List (List ℕ)) → IsWritten command words → command_of words ≡ Some command

abbrev pub NoOtherIsRead : Type 0
NoOtherIsRead = (command : Command) (words : List (List ℕ)) → command_of words ≡ Some command → IsWritten command words
