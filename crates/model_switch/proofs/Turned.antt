-- A turn takes the message at its place.
use Rattle.std.proofs.Common.{◌≡◌, ℕ, suc, ◌<◌, Bool, true, false, List, length, take, drop, get_or, refl, arith}
use Rattle.std.specs.Prelude.{if◌then◌else◌}
use Rattle.std.specs.List.{remove}
use Rattle.std.proofs.lemmas.List.{length-take-le}
use Rattle.maple_base.specs.declared.device.Turned.{Turned}
use Rattle.maple_base.specs.declared.device.Turned.TheVariants.{Nothing, Processed, Refused, Failed, NoMemory}
use Rattle.flow_table.specs.Tables.{Entries}
use Rattle.of10_codec.specs.declared.message.Message.{Message}
use Rattle.model_switch.specs.Answers.{Carries, Deals}
use Rattle.model_switch.specs.States.{State, DealsAt, TurnsAt}
use Rattle.model_switch.proofs.Lists.{parted}

not_nothing : (b : Bool) (xid : ℕ) → Nothing ≡ (if b then Refused xid else Processed xid) → ⊥
not_nothing true xid h = cc
not_nothing false xid h = cc

not_failed : (b : Bool) (xid : ℕ) → Failed ≡ (if b then Refused xid else Processed xid) → ⊥
not_failed true xid h = cc
not_failed false xid h = cc

deals_at : (place : ℕ) (s : State) (m : Message) (answer : Turned) (bytes : List ℕ) (table : Entries) → place < length s.pending → m ≡ get_or s.pending place m
    → Carries s.dpid s.ports m s.table answer bytes table → DealsAt place s answer bytes (record s { table = table; pending = remove s.pending place })
deals_at place s m answer bytes table within at carries = record {
  message = m;
  ahead = take place s.pending;
  behind = drop (suc place) s.pending;
  stands = parted s.pending place m within at;
  at = length-take-le place s.pending (omega arith);
  carries = carries;
  now_is = refl;
}

pub turned : (place : ℕ) (s : State) (m : Message) (answer : Turned) (bytes : List ℕ) (table : Entries) → place < length s.pending → m ≡ get_or s.pending place m
    → Deals s.dpid s.ports m s.table answer bytes table → (answer ≡ NoMemory → ⊥)
    → TurnsAt place s answer bytes (record s { table = table; pending = remove s.pending place })
turned place s m Nothing bytes table within at deals some = absurd (not_nothing _ _ deals.answered)
turned place s m (Processed xid) bytes table within at deals some = deals_at place s m (Processed xid) bytes table within at deals
turned place s m (Refused xid) bytes table within at deals some = deals_at place s m (Refused xid) bytes table within at deals
turned place s m Failed bytes table within at deals some = absurd (not_failed _ _ deals.answered)
turned place s m NoMemory bytes table within at deals some = absurd (some refl)
