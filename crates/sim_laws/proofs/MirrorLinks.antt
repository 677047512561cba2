-- A place and the link of its connection: the switch has what the device has, and what it sent is what the device's bytes spell.
use Rattle.std.proofs.Common.{◌≡◌, ℕ, true, List, ◌++◌, Some, None, sym, ap, ◌∙◌, subst}
use Rattle.std.specs.List.{AllByRecursion}
use Rattle.maple_base.specs.declared.decision.Rule.{Rule}
use Rattle.of10_codec.specs.declared.message.Message.{Message}
use Rattle.of10_stream.specs.Steps.{Stream, appended, fed}
use Rattle.device_port.specs.Devices.{Meaning, Spell}
use Rattle.machine_moves.specs.Sends.{CanBeOffered}
use Rattle.world_steps.specs.Worlds.{Link, link_at}
use Rattle.sim_steps.specs.Benches.{Slot}
use Rattle.sim_steps.specs.Deeds.{appends}
use Rattle.sim_laws.proofs.MirrorSpelled.{spell_append}

abbrev pub link_by : ℕ → List Message → ℕ → List Rule → List Message → List Message → Link
link_by c to dpid table pending sent = record { connection = c; to = to; switch = record { dpid = dpid; table = table; pending = pending; sent = sent } }

-- the link of a place whose device sent these messages, which weren't heard yet
abbrev pub link_of : ℕ → Slot → List Message → Link
link_of c s sent = link_by c s.to s.device.dpid s.device.table s.device.pending sent

pub link_same : (c : ℕ) (to : List Message) (d : Meaning) (dpid : ℕ) (table : List Rule) (pending sent : List Message) → d.dpid ≡ dpid → d.table ≡ table → d.pending ≡ pending
    → link_by c to d.dpid d.table d.pending sent ≡ link_by c to dpid table pending sent
link_same c to d dpid table pending sent e f g = λ i. link_by c to (e i) (f i) (g i) sent

-- what holds of a slot whose device sent these messages
pub record Holds (s : Slot) (sent : List Message) : Type 0 where
  pub spell : Spell sent s.from.rest
  pub unbroken : s.from.broken ≡ None
  pub keeps : s.device.keeps ≡ true
  pub offers : AllByRecursion CanBeOffered s.to

pub record Linked (c : ℕ) (s : Slot) (links : List Link) : Type 0 where
  pub sent : List Message
  pub there : link_at c links ≡ Some (link_of c s sent)
  pub holds : Holds s sent

-- bytes are fed to a stream without a fault
module _ (bytes : List ℕ) (from : Stream) (unbroken : from.broken ≡ None) where
  pub fed_rest : (fed bytes from).rest ≡ from.rest ++ bytes
  fed_rest = ap (λ o. (appended o bytes from).rest) unbroken

  pub fed_unbroken : (fed bytes from).broken ≡ None
  fed_unbroken = ap (λ o. (appended o bytes from).broken) unbroken ∙ unbroken

-- the device appended bytes that spell more messages
pub holds_more : (s : Slot) (d : Meaning) (bytes : List ℕ) (sent more : List Message) → Holds s sent → d.keeps ≡ s.device.keeps → Spell more bytes → Holds (appends bytes d s) (sent ++ more)
holds_more s d bytes sent more h keeps k = record {
  spell = subst (Spell (sent ++ more)) (sym (fed_rest bytes s.from h.unbroken)) (spell_append sent more s.from.rest bytes h.spell k);
  unbroken = fed_unbroken bytes s.from h.unbroken;
  keeps = keeps ∙ h.keeps;
  offers = h.offers;
}
