-- What a command has is in its range.
use Rattle.std.proofs.Common.{◌≡◌, ℕ, ◌≤◌, true, false, cond, Bool, List, [], ◌∷◌, Option, Some, None, refl, sym, subst, ⊎_elim, arith}
use Rattle.std.specs.Prelude.{◌&&◌, ◌||◌, nat_le, IfSome, is_some, unwrap_or}
use Rattle.std.specs.Option.{option_and_then, option_map}
use Rattle.std.proofs.lemmas.Bool.{cases_Bool}
use Rattle.std.proofs.lemmas.Bool.Decides.{nat_tests}
use Rattle.maple_base.specs.declared.decision.Settings.{Settings}
use Rattle.command_words.specs.declared.words.Command.{Command}
use Rattle.command_words.specs.declared.words.Command.TheVariants.{Gen, Serve}
use Rattle.command_words.specs.declared.options.Setting.{Setting}
use Rattle.command_words.specs.declared.options.Setting.TheVariants.{Budget, Capacity, Levels, Workers, Listen, Control}
use Rattle.command_words.specs.declared.options.Chosen.{Chosen}
use Rattle.command_words.specs.Options.{within, value_of, number_in, once, with_setting, setting_given, setting_named, options, option_last, option_first, none_chosen, settings_of}
use Rattle.command_words.specs.Words.{AreSettings, IsCommand, gen_of, settings_in, with_ports, without_ports}

both_true : (a b : Bool) → (a && b) ≡ true → (a ≡ true) × (b ≡ true)
both_true true b h = (refl, h)
both_true false b h = absurd (cc)

-- a number from this to that
record InRange (least most n : ℕ) : Type 0 where
  some : least ≤ n
  few : n ≤ most

abbrev IsIn : ℕ → ℕ → Option ℕ → Type 0
IsIn least most o = IfSome o (λ n. InRange least most n)

-- what was chosen is in its range
record AreIn (c : Chosen) : Type 0 where
  budget : IsIn 1 65536 c.budget
  capacity : IsIn 1 65535 c.capacity
  levels : IsIn 1 65000 c.levels
  workers : IsIn 0 16 c.workers
  listen : IsIn 1 65535 c.listen
  control : IsIn 1 65535 c.control

in_within : (least most n : ℕ) → IsIn least most (within least most n)
in_within least most n =
    ⊎_elim
    (λ t. let b = both_true (nat_le least n) (nat_le n most) t in subst (λ v. IsIn least most (cond v (Some n) None)) (sym t) (record { some = let h = b.0 in grind (arith, nat_tests); few = let h = b.1 in grind (arith, nat_tests) }))
    (λ f. subst (λ v. IsIn least most (cond v (Some n) None)) (sym f) tt)
    (cases_Bool (nat_le least n && nat_le n most))

of_number : (least most : ℕ) (o : Option ℕ) → IsIn least most (option_and_then (within least most) o)
of_number least most None = tt
of_number least most (Some n) = in_within least most n

of_value : (least most : ℕ) (word : List ℕ) → IsIn least most (value_of least most word)
of_value least most word = of_number least most (number_in word)

all_in : {b c l w p q : Option ℕ} → IsIn 1 65536 b → IsIn 1 65535 c → IsIn 1 65000 l → IsIn 0 16 w → IsIn 1 65535 p → IsIn 1 65535 q
    → AreIn (record { budget = b; capacity = c; levels = l; workers = w; listen = p; control = q })
all_in b c l w p q = record { budget = b; capacity = c; levels = l; workers = w; listen = p; control = q }

-- what a value gives for a setting, and what is chosen then
module _ (least most : ℕ) (value : List ℕ) (set : ℕ → Chosen) (in_set : (n : ℕ) → InRange least most n → AreIn (set n)) where
  of_once : (before : Option ℕ) → IfSome (option_map set (once before (value_of least most value))) AreIn
  of_once (Some n) = tt
  of_once None = put (value_of least most value) (of_value least most value)
    where
      put : (o : Option ℕ) → IsIn least most o → IfSome (option_map set o) AreIn
      put None i = tt
      put (Some n) i = in_set n i

of_setting : (s : Setting) (value : List ℕ) (c : Chosen) → AreIn c → IfSome (with_setting s value c) AreIn
of_setting Budget value c h = of_once 1 65536 value (λ n. record c { budget = Some n }) (λ n i. all_in i h.capacity h.levels h.workers h.listen h.control) c.budget
of_setting Capacity value c h = of_once 1 65535 value (λ n. record c { capacity = Some n }) (λ n i. all_in h.budget i h.levels h.workers h.listen h.control) c.capacity
of_setting Levels value c h = of_once 1 65000 value (λ n. record c { levels = Some n }) (λ n i. all_in h.budget h.capacity i h.workers h.listen h.control) c.levels
of_setting Workers value c h = of_once 0 16 value (λ n. record c { workers = Some n }) (λ n i. all_in h.budget h.capacity h.levels i h.listen h.control) c.workers
of_setting Listen value c h = of_once 1 65535 value (λ n. record c { listen = Some n }) (λ n i. all_in h.budget h.capacity h.levels h.workers i h.control) c.listen
of_setting Control value c h = of_once 1 65535 value (λ n. record c { control = Some n }) (λ n i. all_in h.budget h.capacity h.levels h.workers h.listen i) c.control

then_so : {A B : Type 0} (P : A → Type 0) (Q : B → Type 0) (o : Option A) (next : A → Option B) → IfSome o P → ((a : A) → P a → IfSome (next a) Q)
    → IfSome (option_and_then next o) Q
then_so P Q None next h f = tt
then_so P Q (Some a) next h f = f a h

of_last : (o : Option (Setting × List ℕ)) (c : Chosen) → AreIn c → IfSome (option_last o c) AreIn
of_last (Some (s, value)) c h = of_setting s value c h
of_last None c h = tt

of_first : (o : Option (Setting × List ℕ)) (name : Option Setting) (word : List ℕ) (c : Chosen) (one two : Chosen → Option Chosen) → ((d : Chosen) → AreIn d → IfSome (one d) AreIn) → ((d : Chosen) → AreIn d → IfSome (two d) AreIn) → AreIn c → IfSome (option_first o name word c one two) AreIn
of_first (Some (s, value)) name word c one two f g h = then_so AreIn AreIn (with_setting s value c) one (of_setting s value c h) f
of_first None (Some s) word c one two f g h = then_so AreIn AreIn (with_setting s word c) two (of_setting s word c h) g
of_first None None word c one two f g h = tt

of_options : (ws : List (List ℕ)) (c : Chosen) → AreIn c → IfSome (options ws c) AreIn
of_options [] c h = h
of_options (w ∷ []) c h = of_last (setting_given w) c h
of_options (w ∷ v ∷ ws) c h = of_first (setting_given w) (setting_named w) v c (options (v ∷ ws)) (options ws) (λ d i. of_options (v ∷ ws) d i) (λ d i. of_options ws d i) h

of_chosen : (c : Chosen) → AreIn c → AreSettings (settings_of c)
of_chosen c h = (
  record {
    some_budget = some_of 1 65536 4096 c.budget (omega arith) h.budget;
    budget = few_of 1 65536 4096 c.budget (omega arith) h.budget;
    capacity = few_of 1 65535 1024 c.capacity (omega arith) h.capacity;
    some_levels = some_of 1 65000 32768 c.levels (omega arith) h.levels;
    levels = few_of 1 65000 32768 c.levels (omega arith) h.levels;
  },
  few_of 0 16 0 c.workers (omega arith) h.workers,
)
  where
    some_of : (least most usual : ℕ) (o : Option ℕ) → least ≤ usual → IsIn least most o → least ≤ unwrap_or o usual
    some_of least most usual None u h = u
    some_of least most usual (Some n) u h = h.some

    few_of : (least most usual : ℕ) (o : Option ℕ) → usual ≤ most → IsIn least most o → unwrap_or o usual ≤ most
    few_of least most usual None u h = u
    few_of least most usual (Some n) u h = h.few

of_run : (c : Chosen) → AreIn c → IfSome (without_ports c) AreSettings
of_run c h = elim (is_some c.listen || is_some c.control) as (λ v. IfSome (cond v None (Some (settings_of c))) AreSettings) [ true ↦ tt | false ↦ of_chosen c h ]

of_ports : (c : Chosen) → AreIn c → IfSome (with_ports c) IsCommand
of_ports c h = go c.listen c.control h.listen h.control
  where
    go : (l p : Option ℕ) → IsIn 1 65535 l → IsIn 1 65535 p
        → IfSome (option_and_then (λ listen. option_map (λ control. Serve listen control (settings_of c)) p) l) IsCommand
    go None p i j = tt
    go (Some l) None i j = tt
    go (Some l) (Some p) i j = (of_chosen c h, (i.some, i.few), (j.some, j.few))

of_all : (ws : List (List ℕ)) → IfSome (options ws none_chosen) AreIn
of_all ws = of_options ws none_chosen (all_in tt tt tt tt tt tt)

of_settings : (ws : List (List ℕ)) → IfSome (settings_in ws) AreSettings
of_settings ws = then_so AreIn AreSettings (options ws none_chosen) without_ports (of_all ws) of_run

-- ---- what `sim`, `gen` and `serve` have is in its range

pub sim_so : (ws : List (List ℕ)) (s : Settings) → Some s ≡ settings_in ws → AreSettings s
sim_so ws s e = subst (λ o. IfSome o AreSettings) (sym e) (of_settings ws)

pub gen_so : (ws : List (List ℕ)) (r : Option Command) → r ≡ gen_of ws → IfSome r IsCommand
gen_so ws r e = subst (λ o. IfSome o IsCommand) (sym e) (of_gen ws)
  where
    go : (number : Option ℕ) (o : Option Settings) → IfSome o AreSettings → IfSome (option_and_then (λ number. option_map (Gen number) o) number) IsCommand
    go None o h = tt
    go (Some number) None h = tt
    go (Some number) (Some settings) h = h

    of_gen : (ws : List (List ℕ)) → IfSome (gen_of ws) IsCommand
    of_gen [] = tt
    of_gen (n ∷ ws) = go (number_in n) (settings_in ws) (of_settings ws)

pub serve_so : (ws : List (List ℕ)) (c : Chosen) (r : Option Command) → Some c ≡ options ws none_chosen → r ≡ with_ports c → IfSome r IsCommand
serve_so ws c r e f = subst (λ o. IfSome o IsCommand) (sym f) (of_ports c (subst (λ o. IfSome o AreIn) (sym e) (of_all ws)))
