-- The words of a command line: `check` alone, `sim` and options, `gen`, a number and options, or `serve` and options.
use Rattle.std.specs.Prelude.{ℕ, ◌≤◌, ◌||◌, if◌then◌else◌, List, [], ◌∷◌, Option, Some, None, is_some, codes}
use Rattle.std.specs.Option.{option_and_then, option_map}
use Rattle.std.specs.Str.{bytes_eq}
use Rattle.maple_base.specs.declared.decision.Settings.{Settings}
use Rattle.machine_steps.specs.Sound.{AreInRange}
use Rattle.machine_desk.specs.Crews.{most_workers}
use Rattle.command_words.specs.declared.words.Command.{Command}
use Rattle.command_words.specs.declared.words.Command.TheVariants.{Sim, Check, Gen, Serve}
use Rattle.command_words.specs.declared.options.Chosen.{Chosen}
use Rattle.command_words.specs.Options.{most_port, number_in, options, none_chosen, settings_of}

-- `sim` and `gen` have no ports
abbrev pub without_ports : Chosen → Option Settings
without_ports c = if is_some c.listen || is_some c.control then None else Some (settings_of c)

-- `serve` has both
abbrev pub with_ports : Chosen → Option Command
with_ports c = option_and_then (λ listen. option_map (λ control. Serve listen control (settings_of c)) c.control) c.listen

-- the settings that options choose, none of which is a port
abbrev pub settings_in : List (List ℕ) → Option Settings
settings_in ws = option_and_then without_ports (options ws none_chosen)

-- `check` has no options
abbrev pub check_alone : List (List ℕ) → Option Command
check_alone [] = Some Check
check_alone ws = None

-- the number of `gen` stands ahead of its options
abbrev pub gen_of : List (List ℕ) → Option Command
gen_of [] = None
gen_of (n ∷ ws) = option_and_then (λ number. option_map (Gen number) (settings_in ws)) (number_in n)

-- the command that these words give, where they are in the grammar
abbrev pub command_of : List (List ℕ) → Option Command
command_of [] = None
command_of (w ∷ ws) =
    if bytes_eq w (codes "sim") then option_map Sim (settings_in ws)
    else (if bytes_eq w (codes "check") then check_alone ws
    else (if bytes_eq w (codes "gen") then gen_of ws
    else (if bytes_eq w (codes "serve") then option_and_then with_ports (options ws none_chosen) else None)))

-- the settings are in their ranges, and so are the workers
abbrev pub AreSettings : Settings → Type 0
AreSettings settings = AreInRange settings × (settings.workers ≤ most_workers)

-- a port is 1 to 65,535
abbrev pub IsPort : ℕ → Type 0
IsPort port = (1 ≤ port) × (port ≤ most_port)

-- what a command has is in its range
abbrev pub IsCommand : Command → Type 0
IsCommand (Sim settings) = AreSettings settings
IsCommand Check = Unit {0}
IsCommand (Gen number settings) = AreSettings settings
IsCommand (Serve listen control settings) = AreSettings settings × IsPort listen × IsPort control
