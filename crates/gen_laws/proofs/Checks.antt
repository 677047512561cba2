-- What is checked of few numbers, one by one.
use Rattle.std.proofs.Common.{◌≡◌, ℕ, ◌+◌, ◌<◌, ◌≤◌, Bool, true, false, eqb, List, length, Option, Some, None, refl, ap}
use Rattle.std.specs.Prelude.{◌&&◌, nat_le}
use Rattle.std.specs.Fmt.{digits, decimal}
use Rattle.std.proofs.lemmas.Bool.{and_parts, eqb-true, leb-true, agree_below, agree_below_at}
use Rattle.maple_text.specs.Numbers.{value_of}
use Rattle.script_text.specs.Spelling.{lacks}
use Rattle.gen_script.specs.declared.line.ScriptLine.TheVariants.{Host, Block, Unblock}
use Rattle.gen_script.specs.Lines.{address, source_text, spelled}
use Rattle.gen_laws.proofs.Lines.{reads}

-- a test holds of each number below a bound
abbrev every : ℕ → (ℕ → Bool) → Bool
every bound test = agree_below test (λ n. true) bound

every_at : (bound n : ℕ) (test : ℕ → Bool) → every bound test ≡ true → n < bound → test n ≡ true
every_at bound n test h below = agree_below_at test (λ n. true) bound n h below

-- ---- lines without a device

pub host_reads : (places h s : ℕ) → h < 17 → s < 5 → reads places (spelled (Host h s)) ≡ true
unfolding digits
host_reads places h s low_h low_s =
    let hosts : every 17 (λ h. every 5 (λ s. reads places (spelled (Host h s)))) ≡ true = refl in
    every_at 5 s (λ s. reads places (spelled (Host h s))) (every_at 17 h (λ h. every 5 (λ s. reads places (spelled (Host h s)))) hosts low_h) low_s

pub block_reads : (places a : ℕ) → a < 16 → reads places (spelled (Block a)) ≡ true
unfolding digits
block_reads places a low = every_at 16 a (λ a. reads places (spelled (Block a))) refl low

pub unblock_reads : (places a : ℕ) → a < 16 → reads places (spelled (Unblock a)) ≡ true
unfolding digits
unblock_reads places a low = every_at 16 a (λ a. reads places (spelled (Unblock a))) refl low

-- ---- words of a packet's line

abbrev is_it : Option ℕ → ℕ → Bool
is_it None n = false
is_it (Some m) n = eqb m n

it_is : (o : Option ℕ) (n : ℕ) → is_it o n ≡ true → o ≡ Some n
it_is None n h = absurd (cc h)
it_is (Some m) n h = ap Some (eqb-true m n h)

-- a word spells a number, has no space, sign of equality or line feed, and is short
abbrev spells : List ℕ → ℕ → Bool
spells word n = is_it (value_of word) n && (lacks 32 word && (lacks 61 word && (lacks 10 word && nat_le (length word) 20)))

pub record Spells (word : List ℕ) (n : ℕ) : Type 0 where
  pub number : value_of word ≡ Some n
  pub no_space : lacks 32 word ≡ true
  pub no_equal : lacks 61 word ≡ true
  pub no_feed : lacks 10 word ≡ true
  pub short : length word ≤ 20

spelled_so : (word : List ℕ) (n : ℕ) → spells word n ≡ true → Spells word n
spelled_so word n h =
    let short = nat_le (length word) 20 in
    let a = and_parts (is_it (value_of word) n) (lacks 32 word && (lacks 61 word && (lacks 10 word && short))) h in
    let b = and_parts (lacks 32 word) (lacks 61 word && (lacks 10 word && short)) a.1 in
    let c = and_parts (lacks 61 word) (lacks 10 word && short) b.1 in
    let d = and_parts (lacks 10 word) short c.1 in
    record { number = it_is (value_of word) n a.0; no_space = b.0; no_equal = c.0; no_feed = d.0; short = leb-true (length word) 20 d.1 }

pub number_spells : (n : ℕ) → n < 49 → Spells (decimal n) n
unfolding digits
number_spells n low = spelled_so (decimal n) n (every_at 49 n (λ n. spells (decimal n) n) refl low)

-- the numbers of a host's and of a source's address
abbrev pub host_number : ℕ → ℕ
host_number h = 2199023255552 + h

abbrev pub source_number : ℕ → ℕ
source_number a = 167772160 + a

pub address_spells : (h : ℕ) → h < 17 → Spells (address h) (host_number h)
address_spells h low = spelled_so (address h) (host_number h) (every_at 17 h (λ h. spells (address h) (host_number h)) refl low)

pub source_spells : (a : ℕ) → a < 16 → Spells (source_text a) (source_number a)
unfolding digits
source_spells a low = spelled_so (source_text a) (source_number a) (every_at 16 a (λ a. spells (source_text a) (source_number a)) refl low)
