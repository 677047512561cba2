-- Words, whether they read the input, and what they run.
use Rattle.std.proofs.Common.{◌≡◌, true, false, List, ℕ, None, refl, sym, ap, ◌∙◌}
use Rattle.maple_base.specs.declared.decision.Settings.{Settings}
use Rattle.gen_script.specs.Policy.{gen_policy}
use Rattle.gen_script.specs.Script.{script_of}
use Rattle.command_words.specs.declared.words.Command.TheVariants.{Sim, Check, Gen, Serve}
use Rattle.command_words.specs.declared.words.Command.{Command}
use Rattle.command_words.specs.Words.{command_of}
use Rattle.maple_top.specs.Due.{AreServing, AreSimulating, AreWords, HasCommand}
use Rattle.maple_top.specs.Texts.{Texts, input_texts, reads, serves, simulates, texts_of}

pub not_words : (words : List (List ℕ)) → None ≡ command_of words → ¬ (AreWords words)
not_words words none (command, has) = let both = none ∙ has in cc

pub reads_no_gen : (number : ℕ) (settings : Settings) → reads (Gen number settings) ≡ true → ⊥
reads_no_gen number settings e = let none = e in cc

-- a command that isn't `gen` reads the input
pub reads_else : (command : Command) → ((number : ℕ) (settings : Settings) → command ≡ Gen number settings → ⊥) → reads command ≡ true
reads_else (Sim settings) other = refl
reads_else Check other = refl
reads_else (Gen number settings) other = absurd (other number settings refl)
reads_else (Serve listen control settings) other = refl

-- and runs what stands there
pub runs_input : (command : Command) (input : List ℕ) → ((number : ℕ) (settings : Settings) → command ≡ Gen number settings → ⊥) → {texts : Texts} → texts ≡ input_texts input
    → texts ≡ texts_of command input
runs_input (Sim settings) input other e = e
runs_input Check input other e = e
runs_input (Gen number settings) input other e = absurd (other number settings refl)
runs_input (Serve listen control settings) input other e = e

-- `gen` runs what its number makes, whatever the input is
pub made_are : (command : Command) (number : ℕ) (settings : Settings) (input script : List ℕ) → command ≡ Gen number settings → {texts : Texts}
    → texts ≡ record { policy = gen_policy; script = script; first_line = 1 } → script ≡ script_of number → texts ≡ texts_of command input
made_are command number settings input script is e f =
    e ∙ ap (λ s. record { policy = gen_policy; script = s; first_line = 1 }) f ∙ sym (ap (λ c. texts_of c input) is)

-- words that don't give a command of a kind give one of another
pub simulates_not : (words : List (List ℕ)) (command : Command) → HasCommand command words → ¬ (AreSimulating words) → simulates command ≡ false
simulates_not words (Sim settings) has none = absurd (none (Sim settings, has, refl))
simulates_not words Check has none = refl
simulates_not words (Gen number settings) has none = absurd (none (Gen number settings, has, refl))
simulates_not words (Serve listen control settings) has none = refl

pub serves_not : (words : List (List ℕ)) (command : Command) → HasCommand command words → ¬ (AreServing words) → serves command ≡ false
serves_not words (Sim settings) has none = refl
serves_not words Check has none = refl
serves_not words (Gen number settings) has none = refl
serves_not words (Serve listen control settings) has none = absurd (none (Serve listen control settings, has, refl))
