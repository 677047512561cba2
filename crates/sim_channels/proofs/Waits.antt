-- A message waits in a device just where its channel tells so.
use Rattle.std.proofs.Common.{◌≡◌, ℕ, ◌<◌, true, false, length, sym, ap, ◌∙◌, arith}
use Rattle.std.specs.Prelude.{nat_lt, Some}
use Rattle.std.specs.List.{slice_get}
use Rattle.std.proofs.lemmas.Bool.{and_from, and_parts}
use Rattle.std.proofs.lemmas.Bool.Decides.{nat_tests}
use Rattle.std.proofs.lemmas.Option.{same_Some, slice_get_within}
use Rattle.machine_desk.specs.Hearing.{is_live}
use Rattle.sim_channels.specs.declared.channel.Channel.{Channel}
use Rattle.sim_channels.specs.declared.driver.Driver.{Driver}
use Rattle.machine_desk.proofs.Opened.{live_is}
use Rattle.sim_channels.specs.Turns.{Waits, waits_in}

positive : (n : ℕ) → nat_lt 0 n ≡ true → 0 < n
positive n e = grind (arith, nat_tests)

is_positive : (n : ℕ) → 0 < n → nat_lt 0 n ≡ true
is_positive n h = grind (arith, nat_tests)

pub waits_there : (driver : Driver) (at : ℕ) (k : Channel) → slice_get driver.channels.items at ≡ Some k → waits_in k ≡ true → Waits at driver
waits_there driver at k e waits = record {
  channel = k;
  there = e;
  plugged = live_is k.inbound.stage (and_parts (is_live k.inbound.stage) (nat_lt 0 k.waiting) waits).0;
  some = positive k.waiting (and_parts (is_live k.inbound.stage) (nat_lt 0 k.waiting) waits).1;
}

waits_now : (driver : Driver) (at : ℕ) (k : Channel) → slice_get driver.channels.items at ≡ Some k → Waits at driver → waits_in k ≡ true
waits_now driver at k e h =
    let same : h.channel ≡ k = same_Some h.channel k (sym h.there ∙ e) in
    let one : waits_in h.channel ≡ true = and_from (is_live h.channel.inbound.stage) (nat_lt 0 h.channel.waiting) (ap is_live h.plugged) (is_positive h.channel.waiting h.some) in
    ap waits_in (sym same) ∙ one

pub waits_not : (driver : Driver) (at : ℕ) (k : Channel) → slice_get driver.channels.items at ≡ Some k → waits_in k ≡ false → Waits at driver → ⊥
waits_not driver at k e not h = let f : true ≡ false = sym (waits_now driver at k e h) ∙ not in cc

pub waits_within : (driver : Driver) (at : ℕ) → Waits at driver → at < length driver.channels.items
waits_within driver at h = slice_get_within driver.channels.items at h.channel h.there
