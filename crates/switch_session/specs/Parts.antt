-- The parts of an update, and the messages that they are sent as.
use Rattle.std.specs.Prelude.{ℕ, ◌+◌, ◌≡◌, Bool, true, false, not, ◌&&◌, ◌==◌, if◌then◌else◌, List, [], ◌∷◌, ◌++◌, length}
use Rattle.std.specs.List.{list_all}
use Rattle.maple_base.specs.declared.key.Match.{Match}
use Rattle.maple_base.specs.declared.decision.TableMod.{TableMod}
use Rattle.maple_base.specs.declared.decision.TableMod.TheVariants.{Add, DeleteStrict, DeleteAll}
use Rattle.maple_base.specs.Keys.{anything, match_normal}
use Rattle.maple_base.specs.OpenFlow.{no_buffer, no_port, add_command, delete_command, delete_strict_command}
use Rattle.maple_base.specs.RuleLists.{Rules}
use Rattle.maple_base.specs.declared.decision.Rule.{Rule}
use Rattle.of10_codec.specs.declared.message.Message.{Message}
use Rattle.of10_codec.specs.declared.message.Body.{Body}
use Rattle.of10_codec.specs.declared.message.Body.TheVariants.{Hello, Error, EchoReply, FeaturesRequest, SetConfig, PacketOut, FlowMod, BarrierRequest}
use Rattle.of10_codec.specs.Types.{protocol_version}
use Rattle.update_plan.specs.Batches.{rules_of, is_over, origin, first_batch, second_batch, IsTarget, IsFirst, IsSecond}
use Rattle.switch_session.specs.declared.part.Part.{Part}
use Rattle.switch_session.specs.declared.part.Part.TheVariants.{Clearing, Batch}

abbrev pub flow_mod : Match → ℕ → ℕ → ℕ → ℕ → List ℕ → Body
flow_mod of cookie command idle priority actions = FlowMod of cookie command idle 0 priority no_buffer no_port 0 actions

-- how a change is said to a switch: an addition carries its rule's actions, cookie and idle time
abbrev pub change_body : TableMod → Body
change_body (Add r) = flow_mod r.of r.cookie add_command r.idle r.priority r.actions
change_body (DeleteStrict of priority) = flow_mod of 0 delete_strict_command 0 priority []
change_body DeleteAll = flow_mod anything 0 delete_command 0 0 []

abbrev pub change_message : ℕ → TableMod → Message
change_message xid change = record { xid = xid; body = change_body change }

-- these changes, one after the other, with the numbers from this one on
abbrev pub changes_from : ℕ → List TableMod → List Message
changes_from xid [] = []
changes_from xid (change ∷ changes) = change_message xid change ∷ changes_from (xid + 1) changes

abbrev pub barrier_request : ℕ → Message
barrier_request xid = record { xid = xid; body = BarrierRequest }

-- what is said without a number of its own
abbrev pub hello : Message
hello = record { xid = 0; body = Hello protocol_version }

abbrev pub features_request : Message
features_request = record { xid = 0; body = FeaturesRequest }

-- packets are sent to the controller whole
abbrev pub set_config : Message
set_config = record { xid = 0; body = SetConfig 0xffff }

-- no version is common to both sides (OpenFlow Switch Specification 1.0.0, 5.4.4: OFPET_HELLO_FAILED, OFPHFC_INCOMPATIBLE)
abbrev pub version_refusal : ℕ → Message
version_refusal xid = record { xid = xid; body = Error 0 0 [] }

abbrev pub echo_reply : ℕ → List ℕ → Message
echo_reply xid bytes = record { xid = xid; body = EchoReply bytes }

-- a packet is sent: with its bytes where the switch has none in a buffer
abbrev pub packet_body : ℕ → ℕ → List ℕ → List ℕ → Body
packet_body buffer in_port actions frame = PacketOut buffer in_port actions (if buffer == no_buffer then frame else [])

abbrev pub packet_out : ℕ → ℕ → List ℕ → List ℕ → Message
packet_out buffer in_port actions frame = record { xid = 0; body = packet_body buffer in_port actions frame }

-- from this number on none is left for one more part
abbrev pub last_start : ℕ
last_start = 0xfff00000

-- the changes of a part: a clearing deletes all rules
abbrev pub changes_of : Part → List TableMod
changes_of Clearing = DeleteAll ∷ []
changes_of (Batch changes) = changes

abbrev pub is_clearing : Part → Bool
is_clearing Clearing = true
is_clearing (Batch changes) = false

-- the number of a part's barrier, where so many numbers are used
abbrev pub barrier_of : ℕ → Part → ℕ
barrier_of used part = used + length (changes_of part) + 1

-- a part as it is sent: its changes with the next numbers, then its barrier
abbrev pub part_messages : ℕ → Part → List Message
part_messages used part = changes_from (used + 1) (changes_of part) ++ barrier_request (barrier_of used part) ∷ []

-- a batch without changes is no part
abbrev pub batch_part : List TableMod → List Part
batch_part [] = []
batch_part (change ∷ changes) = Batch (change ∷ changes) ∷ []

-- the parts of an update, in the order in which they leave
abbrev pub parts_of : Bool → List TableMod → List TableMod → List Part
parts_of clears first second = (if clears then Clearing ∷ [] else []) ++ batch_part first ++ batch_part second

-- the parts of an update from A to B, on a switch that has room for so many rules
pub record AreParts (capacity : ℕ) (A B : Rules) (parts : List Part) : Type 0 where
  pub first : List TableMod
  pub second : List TableMod
  pub is_first : IsFirst (origin capacity A B) B first
  pub is_second : IsSecond (origin capacity A B) B second
  pub is : parts ≡ parts_of (is_over capacity A B) first second

abbrev pub is_nil : {X : Type 0} → List X → Bool
is_nil [] = true
is_nil (x ∷ xs) = false

-- no change leads from A to B: they are the same rules, up to order
abbrev pub leads_nowhere : ℕ → Rules → Rules → Bool
leads_nowhere capacity A B = not (is_over capacity A B) && is_nil (first_batch A B) && is_nil (second_batch A B)

-- rules that a switch may be led to: those that a plan may lead to, with normal matches
pub record IsList (capacity : ℕ) (X : Rules) : Type 0 where
  pub target : IsTarget capacity X
  pub normal : list_all (λ (r : Rule). match_normal r.of) (rules_of X) ≡ true

-- an update that is to start: the rules that it leads to, its parts, and whether the session headed for these rules already when it was planned
pub record Update : Type 0 where
  pub rules : Rules
  pub parts : List Part
  pub settled : Bool
