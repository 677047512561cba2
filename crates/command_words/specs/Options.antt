-- The options of a command line. An option is two words, `--name value`, or one, `--name=value`; each stands at most once, in any order.
use Rattle.std.specs.Prelude.{ℕ, ◌+◌, ◌&&◌, ◌==◌, nat_le, if◌then◌else◌, List, [], ◌∷◌, length, take, drop, Option, Some, None, unwrap_or, codes}
use Rattle.std.specs.Option.{option_and_then, option_map}
use Rattle.std.specs.Str.{bytes_eq}
use Rattle.maple_base.specs.Limits.{most_budget}
use Rattle.maple_base.specs.declared.decision.Settings.{Settings}
use Rattle.maple_text.specs.Numbers.{number_of}
use Rattle.maple_text.specs.Parts.{len_to}
use Rattle.machine_desk.specs.Crews.{most_workers}
use Rattle.command_words.specs.declared.options.Setting.{Setting}
use Rattle.command_words.specs.declared.options.Setting.TheVariants.{Budget, Capacity, Levels, Workers, Listen, Control}
use Rattle.command_words.specs.declared.options.Chosen.{Chosen}

-- the most rules of a switch, the most levels of their priorities, and the greatest port
abbrev pub most_capacity : ℕ
most_capacity = 65535

abbrev pub most_levels : ℕ
most_levels = 65000

abbrev pub most_port : ℕ
most_port = 65535

-- the number that a word spells: 1 to 20 decimal digits, below 2 ^ 64
abbrev pub number_in : List ℕ → Option ℕ
number_in word = if nat_le (length word) 20 then number_of word else None

-- the number, where it is from this to that
abbrev pub within : ℕ → ℕ → ℕ → Option ℕ
within least most n = if nat_le least n && nat_le n most then Some n else None

-- the number that a value spells, from this to that
abbrev pub value_of : ℕ → ℕ → List ℕ → Option ℕ
value_of least most word = option_and_then (within least most) (number_in word)

abbrev pub port_of : List ℕ → Option ℕ
port_of = value_of 1 most_port

-- a setting is chosen at most once
abbrev pub once : {A : Type 0} → Option A → Option A → Option A
once None value = value
once (Some before) value = None

-- the settings chosen so far, with the one that a value gives
abbrev pub with_setting : Setting → List ℕ → Chosen → Option Chosen
with_setting Budget value c = option_map (λ n. record c { budget = Some n }) (once c.budget (value_of 1 most_budget value))
with_setting Capacity value c = option_map (λ n. record c { capacity = Some n }) (once c.capacity (value_of 1 most_capacity value))
with_setting Levels value c = option_map (λ n. record c { levels = Some n }) (once c.levels (value_of 1 most_levels value))
with_setting Workers value c = option_map (λ n. record c { workers = Some n }) (once c.workers (value_of 0 most_workers value))
with_setting Listen value c = option_map (λ n. record c { listen = Some n }) (once c.listen (port_of value))
with_setting Control value c = option_map (λ n. record c { control = Some n }) (once c.control (port_of value))

-- the name of a setting, as an option has it
abbrev pub name_of : Setting → List ℕ
name_of Budget = codes "--budget"
name_of Capacity = codes "--capacity"
name_of Levels = codes "--levels"
name_of Workers = codes "--workers"
name_of Listen = codes "--listen"
name_of Control = codes "--control"

abbrev pub all_settings : List Setting
all_settings = Budget ∷ Capacity ∷ Levels ∷ Workers ∷ Listen ∷ Control ∷ []

-- the first of some settings that has this name
abbrev pub setting_among : List Setting → List ℕ → Option Setting
setting_among [] word = None
setting_among (s ∷ ss) word = if bytes_eq (name_of s) word then Some s else setting_among ss word

-- the setting that a word names
abbrev pub setting_named : List ℕ → Option Setting
setting_named = setting_among all_settings

-- the setting that a word names ahead of its first `=`, with the value behind that
abbrev pub setting_given : List ℕ → Option (Setting × List ℕ)
setting_given word =
    if len_to 61 word == length word then None
    else option_map (λ s. (s, drop (len_to 61 word + 1) word)) (setting_named (take (len_to 61 word) word))

-- the last word is an option with its value behind `=`
abbrev pub option_last : Option (Setting × List ℕ) → Chosen → Option Chosen
option_last (Some (s, value)) c = with_setting s value c
option_last None c = None

-- an option of one word, with those of the words behind it, or one of two words, with those of the words behind the second
abbrev pub option_first : Option (Setting × List ℕ) → Option Setting → List ℕ → Chosen → (Chosen → Option Chosen) → (Chosen → Option Chosen)
    → Option Chosen
option_first (Some (s, value)) name word c behind_one behind_two = option_and_then behind_one (with_setting s value c)
option_first None (Some s) word c behind_one behind_two = option_and_then behind_two (with_setting s word c)
option_first None None word c behind_one behind_two = None

-- the settings that options choose behind those that were chosen before
abbrev pub options : List (List ℕ) → Chosen → Option Chosen
options [] c = Some c
options (w ∷ []) c = option_last (setting_given w) c
options (w ∷ v ∷ ws) c = option_first (setting_given w) (setting_named w) v c (options (v ∷ ws)) (options ws)

abbrev pub none_chosen : Chosen
none_chosen = record { budget = None; capacity = None; levels = None; workers = None; listen = None; control = None }

-- a setting that isn't chosen is its default
abbrev pub settings_of : Chosen → Settings
settings_of c =
    record {
      capacity = unwrap_or c.capacity 1024;
      levels = unwrap_or c.levels 32768;
      budget = unwrap_or c.budget 4096;
      workers = unwrap_or c.workers 0;
    }
