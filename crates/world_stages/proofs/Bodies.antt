-- Which messages are changes, barriers or signals, and how a change is read from its message.
use Rattle.std.proofs.Common.{◌≡◌, ℕ, Bool, true, false, List, [], refl, sym, ap, ◌∙◌, subst, inl, inr, eqb-true}
use Rattle.std.specs.Prelude.{not, ◌==◌, ◌||◌, Some}
use Rattle.std.specs.List.{AllByRecursion}
use Rattle.std.specs.List.Sorted.{IsPermutation}
use Rattle.maple_base.specs.declared.decision.Rule.{Rule}
use Rattle.maple_base.specs.declared.decision.TableMod.{TableMod}
use Rattle.maple_base.specs.declared.decision.TableMod.TheVariants.{Add, DeleteStrict, DeleteAll}
use Rattle.of10_codec.specs.declared.message.Message.{Message}
use Rattle.of10_codec.specs.declared.message.Body.{Body}
use Rattle.of10_codec.specs.declared.message.Body.TheVariants.{Hello, Error, EchoRequest, FeaturesRequest, FeaturesReply, FlowMod, BarrierReply}
use Rattle.flow_table.specs.Effects.{effect}
use Rattle.switch_session.specs.Parts.{change_body}
use Rattle.device_port.specs.Switches.{change_of, is_barrier, is_flow_mod, Leads, LeadsBy, AnswersBody, IsFreeBody}
use Rattle.world_stages.specs.Flights.{is_control, is_signal_body, signals, TellsNumber}

-- ---- changes

pub change_is_read : (c : TableMod) → change_of (change_body c) ≡ Some c
change_is_read (Add r) = refl
change_is_read (DeleteStrict of priority) = refl
change_is_read DeleteAll = refl

pub change_is_flow_mod : (c : TableMod) → is_flow_mod (change_body c) ≡ true
change_is_flow_mod (Add r) = refl
change_is_flow_mod (DeleteStrict of priority) = refl
change_is_flow_mod DeleteAll = refl

pub flow_mod_no_barrier : (b : Body) → is_flow_mod b ≡ true → is_barrier b ≡ false
flow_mod_no_barrier (FlowMod of cookie command idle hard priority buffer out_port flags actions) h = refl
flow_mod_no_barrier b h = absurd (cc)

pub flow_mod_control : (m : Message) → is_flow_mod m.body ≡ true → is_control m ≡ true
flow_mod_control m h = ap (λ b. b || is_barrier m.body) h

pub other_no_control : (m : Message) → is_flow_mod m.body ≡ false → is_barrier m.body ≡ false → is_control m ≡ false
other_no_control m h g = ap (λ b. b || is_barrier m.body) h ∙ g

pub barrier_control : (m : Message) → is_barrier m.body ≡ true → is_control m ≡ true
barrier_control m h = go (is_flow_mod m.body) h
  where
    go : (b : Bool) → is_barrier m.body ≡ true → (b || is_barrier m.body) ≡ true
    go true g = refl
    go false g = g

-- a message that is read as a change carries it out
pub carries_out : (b : Body) (c : TableMod) (old new : List Rule) → b ≡ change_body c → Leads b old new → IsPermutation (effect c old) new
carries_out b c old new e h = subst (λ o. LeadsBy o (is_flow_mod b) old new) (ap change_of e ∙ change_is_read c) h

-- one that is no change leaves the table
pub others_lead : (b : Body) (old new : List Rule) → is_flow_mod b ≡ false → Leads b old new → IsPermutation old new
others_lead (FlowMod of cookie command idle hard priority buffer out_port flags actions) old new e h = absurd (cc)
others_lead b old new e h = h

-- ---- signals

-- what a message is answered is none, and what a switch may send at any moment
pub answers_silent : (dpid xid : ℕ) (b : Body) (sent : List Message) → AnswersBody dpid xid b sent → signals sent ≡ []
answers_silent dpid xid (Hello version) sent (inl e) = ap signals e
answers_silent dpid xid (Hello version) sent (inr h) = ap signals h.2
answers_silent dpid xid FeaturesRequest sent h = ap signals h.2
answers_silent dpid xid (EchoRequest bytes) sent h = ap signals h
answers_silent dpid xid b sent h = ap signals h

pub free_silent : (xid : ℕ) (b : Body) → IsFreeBody xid b → is_signal_body xid b ≡ false
free_silent xid (Error kind code bytes) h = ap (λ (x : ℕ). not (x == 0)) h
free_silent xid BarrierReply h = absurd h
free_silent xid b h = refl

-- an ERROR of a number from 1 on is one
pub error_signal : (xid kind code : ℕ) (bytes : List ℕ) → (xid ≡ 0 → ⊥) → is_signal_body xid (Error kind code bytes) ≡ true
error_signal xid kind code bytes apart = go (xid == 0) refl
  where
    go : (b : Bool) → (xid == 0) ≡ b → not b ≡ true
    go true e = absurd (apart (eqb-true xid 0 e))
    go false e = refl

-- ---- a FEATURES_REPLY has the switch's own number

pub answers_tell : (dpid xid : ℕ) (b : Body) (sent : List Message) → AnswersBody dpid xid b sent → AllByRecursion (λ (m : Message). TellsNumber dpid m.body) sent
answers_tell dpid xid (Hello version) sent (inl e) = subst (AllByRecursion (λ (m : Message). TellsNumber dpid m.body)) (sym e) tt
answers_tell dpid xid (Hello version) sent (inr h) = subst (AllByRecursion (λ (m : Message). TellsNumber dpid m.body)) (sym h.2) (tt, tt)
answers_tell dpid xid FeaturesRequest sent h = subst (AllByRecursion (λ (m : Message). TellsNumber dpid m.body)) (sym h.2) (refl, tt)
answers_tell dpid xid (EchoRequest bytes) sent h = subst (AllByRecursion (λ (m : Message). TellsNumber dpid m.body)) (sym h) (tt, tt)
answers_tell dpid xid b sent h = subst (AllByRecursion (λ (m : Message). TellsNumber dpid m.body)) (sym h) tt

pub free_tells : (dpid xid : ℕ) (b : Body) → IsFreeBody xid b → TellsNumber dpid b
free_tells dpid xid (FeaturesReply number ports) h = absurd h
free_tells dpid xid b h = tt
