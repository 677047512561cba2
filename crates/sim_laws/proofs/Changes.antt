-- What a deed changes at a place.
use Rattle.std.proofs.Common.{◌≡◌, ◌⊎◌, ℕ, Bool, true, false, List, [], ◌∷◌, ◌++◌, append-nil, refl, sym, ap, ◌∙◌, subst, inl, inr, ⊎_elim}
use Rattle.std.specs.Prelude.{◌==◌, if◌then◌else◌, map, Option, Some, None, is_some}
use Rattle.std.specs.List.{flat_map}
use Rattle.std.proofs.lemmas.Bool.{cases_eq, eq-eqb, ne_eqb}
use Rattle.std.proofs.lemmas.List.{map-append}
use Rattle.maple_base.specs.declared.device.Turned.{Turned}
use Rattle.maple_base.specs.declared.device.Turned.TheVariants.{Nothing, Processed, Refused, Failed as FailedTurn, NoMemory as NoMemoryTurn}
use Rattle.maple_base.specs.declared.device.Seen.{Seen}
use Rattle.maple_base.specs.declared.device.Seen.TheVariants.{Hit, Miss, Failed as FailedLook, NoMemory as NoMemoryLook}
use Rattle.of10_codec.specs.declared.fault.Bad.{Bad as Fault}
use Rattle.of10_codec.specs.Written.{written}
use Rattle.of10_stream.specs.Steps.{Stream, appended, fed}
use Rattle.device_port.specs.declared.device.Took.TheVariants.{Taken, Failed as FailedOffer, NoMemory as NoMemoryOffer}
use Rattle.device_port.specs.Devices.{Call, Meaning, Tells, with_call}
use Rattle.device_port.specs.Devices.Call.{Offered, Turning, Looking}
use Rattle.switch_session.specs.Sessions.{ended}
use Rattle.machine_steps.specs.declared.entry.Entry.{Entry}
use Rattle.machine_steps.specs.declared.entry.Entry.TheVariants as entries
use Rattle.machine_steps.specs.declared.entry.Input.{Input}
use Rattle.machine_steps.specs.declared.entry.Input.TheVariants.{Message as Whole, Bad}
use Rattle.machine_steps.specs.declared.reply.Reply.{Reply}
use Rattle.machine_steps.specs.Machine.{State, is_of, session_at}
use Rattle.machine_steps.specs.Steps.{Steps}
use Rattle.machine_steps.proofs.Sound.Zipped.{find_passes}
use Rattle.machine_moves.proofs.Found.{found_shut, its_connection}
use Rattle.world_steps.specs.Worlds.{lacks_memory, messages_for}
use Rattle.sim_steps.specs.Agreeing.{appended_by, call_in, heard_in, logged, sent_in, taken_by}
use Rattle.sim_steps.specs.Benches.{Slot, Bench, MovesAt, is_plugged, slot_at}
use Rattle.sim_steps.specs.Deeds.{CallsAt, CallsSlot, Deed, Does, EntersAt, HearsNext, NextIs, UnlessLacking, GetsMessages}
use Rattle.sim_steps.specs.Deeds.Deed.{Enters, Calls}
use Rattle.sim_laws.proofs.Places.{MovedHere, elsewhere, here}

-- ---- what comes from a device

-- nothing comes, and nothing is heard
pub record IsQuiet (c : ℕ) (deed : Deed) (s t : Stream) : Type 0 where
  pub calls : flat_map appended_by (call_in c deed) ≡ []
  pub heard : heard_in c deed ≡ []
  pub same : t ≡ s

-- a device whose session is open appends something
pub record Feeds (c : ℕ) (m : State) (deed : Deed) (s t : Stream) : Type 0 where
  pub plugged : is_plugged c m ≡ true
  pub bytes : List ℕ
  pub calls : flat_map appended_by (call_in c deed) ≡ bytes
  pub heard : heard_in c deed ≡ []
  pub feeds : t ≡ fed bytes s

-- a session ends where a fault is heard
abbrev pub EndsBy : Input → ℕ → State → Type 0
EndsBy (Whole x) c n = Unit {0}
EndsBy (Bad place bad) c n = session_at c n ≡ None

-- an open session hears what comes next
pub record Hears (c : ℕ) (m : State) (deed : Deed) (n : State) (s t : Stream) : Type 0 where
  pub plugged : is_plugged c m ≡ true
  pub input : Input
  pub calls : flat_map appended_by (call_in c deed) ≡ []
  pub heard : heard_in c deed ≡ input ∷ []
  pub next : NextIs input s t
  pub ends : EndsBy input c n

abbrev pub Flows : ℕ → State → Deed → State → Stream → Stream → Type 0
Flows c m deed n s t = IsQuiet c deed s t ⊎ (Feeds c m deed s t ⊎ Hears c m deed n s t)

-- ---- a place

pub record Changes (c : ℕ) (m : State) (deed : Deed) (n : State) (s t : Slot) : Type 0 where
  pub log : t.device.log ≡ logged (call_in c deed) s.device.log
  pub sent : map written s.to ++ map written (sent_in c m deed) ≡ flat_map taken_by (call_in c deed) ++ map written t.to
  pub flows : Flows c m deed n s.from t.from

-- the slot behind a deed
pub record IsChanged (c : ℕ) (m : State) (deed : Deed) (n : State) (s : Slot) (slots : List Slot) : Type 0 where
  pub behind : Slot
  pub there : slot_at c slots ≡ Some behind
  pub changes : Changes c m deed n s behind

pub logged_nothing : (log : Option (List Call)) → log ≡ logged [] log
logged_nothing None = refl
logged_nothing (Some calls) = ap Some (sym (append-nil calls))

with_call_logged : (call : Call) (log : Option (List Call)) → with_call call log ≡ logged (call ∷ []) log
with_call_logged call None = refl
with_call_logged call (Some calls) = refl

fed_nothing : (s : Stream) → s ≡ fed [] s
fed_nothing s = go s.broken
  where
    go : (broken : Option (ℕ × Fault)) → s ≡ appended broken [] s
    go None = ap (λ bytes. record s { rest = bytes }) (sym (append-nil s.rest))
    go (Some fault) = refl

-- a deed that isn't of this place
unchanged : (c : ℕ) (m : State) (deed : Deed) (n : State) (s : Slot) → call_in c deed ≡ [] → sent_in c m deed ≡ [] → heard_in c deed ≡ [] → Changes c m deed n s s
unchanged c m deed n s no_call none_sent none_heard = record {
  log = logged_nothing s.device.log ∙ ap (λ cs. logged cs s.device.log) (sym no_call);
  sent =
      ap (λ ms. map written s.to ++ map written ms) none_sent ∙ append-nil (map written s.to)
      ∙ ap (λ cs. flat_map taken_by cs ++ map written s.to) (sym no_call);
  flows = inl (record { calls = ap (flat_map appended_by) no_call; heard = none_heard; same = refl });
}

-- ---- calls

-- what a call does at its place
record Called (call : Call) (s t : Slot) : Type 0 where
  log : t.device.log ≡ with_call call s.device.log
  to : map written s.to ≡ taken_by call ++ map written t.to
  from : t.from ≡ fed (appended_by call) s.from

module _ (s t : Slot) where
  offered_taken : (bytes : List ℕ) → CallsSlot (Offered bytes Taken) s t → Called (Offered bytes Taken) s t
  offered_taken bytes (x, later, queue, is, d, offers, e) = record {
    log = ap (λ (u : Slot). u.device.log) e ∙ offers.0.tells.log;
    to = ap (map written) queue ∙ ap (λ b. b ∷ map written later) (sym is) ∙ ap (λ (u : Slot). bytes ∷ map written u.to) (sym e);
    from = ap (λ (u : Slot). u.from) e ∙ fed_nothing s.from;
  }

  offered_failed : (bytes : List ℕ) → CallsSlot (Offered bytes FailedOffer) s t → Called (Offered bytes FailedOffer) s t
  offered_failed bytes (x, later, queue, is, d, fails, e) = record {
    log = ap (λ (u : Slot). u.device.log) e ∙ fails.tells.log;
    to = ap (λ (u : Slot). map written u.to) (sym e);
    from = ap (λ (u : Slot). u.from) e ∙ fed_nothing s.from;
  }

  -- the device appends something
  appends_so : (call : Call) (d : Meaning) → Tells call s.device d → taken_by call ≡ [] → t ≡ record s { device = d; from = fed (appended_by call) s.from } → Called call s t
  appends_so call d tells none e = record {
    log = ap (λ (u : Slot). u.device.log) e ∙ tells.log;
    to = ap (λ (u : Slot). map written u.to) (sym e) ∙ ap (λ bs. bs ++ map written t.to) (sym none);
    from = ap (λ (u : Slot). u.from) e;
  }

  turned : (how : Turned) (bytes : List ℕ) → CallsSlot (Turning how bytes) s t → Called (Turning how bytes) s t
  turned Nothing bytes h = absurd h
  turned NoMemoryTurn bytes h = absurd h
  turned (Processed xid) bytes (d, turns, e) = appends_so (Turning (Processed xid) bytes) d turns.0.tells refl e
  turned (Refused xid) bytes (d, turns, e) = appends_so (Turning (Refused xid) bytes) d turns.0.tells refl e
  turned FailedTurn bytes (d, turns, e) = appends_so (Turning FailedTurn bytes) d turns.0.tells refl e

  looked : (port : ℕ) (frame : List ℕ) (seen : Seen) (bytes : List ℕ) → CallsSlot (Looking port frame seen bytes) s t → Called (Looking port frame seen bytes) s t
  looked port frame NoMemoryLook bytes h = absurd h
  looked port frame FailedLook bytes (port_fits, are_bytes, d, packets, e) = appends_so (Looking port frame FailedLook bytes) d packets.0.tells refl e
  looked port frame (Hit actions) bytes (port_fits, are_bytes, d, packets, e) = appends_so (Looking port frame (Hit actions) bytes) d packets.0.tells refl e
  looked port frame (Miss reason) bytes (port_fits, are_bytes, d, packets, e) = appends_so (Looking port frame (Miss reason) bytes) d packets.0.tells refl e

  called : (call : Call) → CallsSlot call s t → Called call s t
  called (Offered bytes Taken) h = offered_taken bytes h
  called (Offered bytes FailedOffer) h = offered_failed bytes h
  called (Offered bytes NoMemoryOffer) h = absurd h
  called (Turning how bytes) h = turned how bytes h
  called (Looking port frame seen bytes) h = looked port frame seen bytes h

module _ (c d : ℕ) (call : Call) (reply : Reply) where
  call_elsewhere : (d ≡ c → ⊥) → call_in c (Calls d call reply) ≡ []
  call_elsewhere other = ap (λ b. if b then call ∷ [] else []) (ne_eqb d c other)

  call_here : d ≡ c → call_in c (Calls d call reply) ≡ call ∷ []
  call_here same = ap (λ b. if b then call ∷ [] else []) (eq-eqb d c same)

  changes_here : (m n : State) (s t : Slot) → d ≡ c → is_plugged d m ≡ true → Called call s t → Changes c m (Calls d call reply) n s t
  changes_here m n s t same plugged h = record {
    log = h.log ∙ with_call_logged call s.device.log ∙ ap (λ cs. logged cs s.device.log) (sym (call_here same));
    sent =
        append-nil (map written s.to) ∙ h.to ∙ ap (λ bs. bs ++ map written t.to) (sym (append-nil (taken_by call)))
        ∙ ap (λ cs. flat_map taken_by cs ++ map written t.to) (sym (call_here same));
    flows = inr (inl (record {
      plugged = ap (λ k. is_plugged k m) (sym same) ∙ plugged;
      bytes = appended_by call;
      calls = ap (flat_map appended_by) (call_here same) ∙ append-nil (appended_by call);
      heard = refl;
      feeds = h.from;
    }));
  }

  call_changes : (a b : Bench) (s : Slot) → slot_at c a.slots ≡ Some s → CallsAt d call reply a b → IsChanged c a.machine (Calls d call reply) b.machine s b.slots
  call_changes a b s found h = ⊎_elim at_place at_other (cases_eq d c)
    where
      at_place : d ≡ c → IsChanged c a.machine (Calls d call reply) b.machine s b.slots
      at_place same =
          let moved = here d (CallsSlot call) a.slots b.slots h.slots c s same found in
          record { behind = moved.behind; there = moved.there; changes = changes_here a.machine b.machine s moved.behind same h.plugged (called s moved.behind call moved.moves) }

      at_other : (d ≡ c → ⊥) → IsChanged c a.machine (Calls d call reply) b.machine s b.slots
      at_other other = record {
        behind = s;
        there = elsewhere d (CallsSlot call) a.slots b.slots h.slots c other ∙ found;
        changes = unchanged c a.machine (Calls d call reply) b.machine s (call_elsewhere other) refl refl;
      }

-- ---- what is heard

-- a fault ends the session
ends_by : (c : ℕ) (input : Input) (m : State) (reply : Reply) (n : State) → is_plugged c m ≡ true → Steps m (entries.Heard c input) reply n → EndsBy input c n
ends_by c (Whole x) m reply n plugged steps = tt
ends_by c (Bad place bad) m reply n plugged (inl (none, p)) = let f : true ≡ false = sym plugged ∙ ap is_some none in absurd (cc)
ends_by c (Bad place bad) m reply n plugged (inr (s, found, r, e)) =
    ap (λ (k : State). session_at c k) e ∙ found_shut c (ended s) m.sessions (its_connection c s (find_passes (is_of c) m.sessions s found)) refl

module _ (c d : ℕ) (input : Input) (reply : Reply) where
  abbrev Hearing : Deed
  Hearing = Enters (entries.Heard d input) reply

  heard_by : (own lacks : Bool) → (d == c) ≡ own → lacks_memory reply ≡ lacks → heard_in c Hearing ≡ (if own then (if lacks then [] else input ∷ []) else [])
  heard_by own lacks e f =
      ap (λ b. if b then (if lacks_memory reply then [] else input ∷ []) else []) e ∙ ap (λ l. if own then (if l then [] else input ∷ []) else []) f

  heard_changes : (a b : Bench) (s : Slot) → slot_at c a.slots ≡ Some s → EntersAt (entries.Heard d input) reply a b → IsChanged c a.machine Hearing b.machine s b.slots
  heard_changes a b s found h = go (lacks_memory reply) refl h.slots
    where
      untouched : slot_at c b.slots ≡ Some s → heard_in c Hearing ≡ [] → IsChanged c a.machine Hearing b.machine s b.slots
      untouched there none = record { behind = s; there = there; changes = unchanged c a.machine Hearing b.machine s refl refl none }

      none_lacking : (own : Bool) → (d == c) ≡ own → lacks_memory reply ≡ true → heard_in c Hearing ≡ []
      none_lacking true e f = heard_by true true e f
      none_lacking false e f = heard_by false true e f

      at_place : d ≡ c → lacks_memory reply ≡ false → MovedHere (HearsNext input) b.slots c s → IsChanged c a.machine Hearing b.machine s b.slots
      at_place same f moved =
          let (from, next, e) = moved.moves in
          record {
            behind = moved.behind;
            there = moved.there;
            changes = record {
              log = ap (λ (u : Slot). u.device.log) e ∙ logged_nothing s.device.log;
              sent = append-nil (map written s.to) ∙ ap (λ (u : Slot). map written u.to) (sym e);
              flows = inr (inr (record {
                plugged = ap (λ k. is_plugged k a.machine) (sym same) ∙ h.may.0;
                input = input;
                calls = refl;
                heard = heard_by true false (eq-eqb d c same) f;
                next = subst (λ (u : Stream). NextIs input s.from u) (sym (ap (λ (u : Slot). u.from) e)) next;
                ends = subst (λ k. EndsBy input k b.machine) same (ends_by d input a.machine reply b.machine h.may.0 h.steps);
              }));
            };
          }

      go : (lacks : Bool) → lacks_memory reply ≡ lacks → UnlessLacking lacks a.slots b.slots (MovesAt d (HearsNext input) a.slots b.slots) → IsChanged c a.machine Hearing b.machine s b.slots
      go true f same = untouched (ap (slot_at c) same ∙ found) (none_lacking (d == c) refl f)
      go false f moves =
          ⊎_elim (λ e. at_place e f (here d (HearsNext input) a.slots b.slots moves c s e found))
          (λ o. untouched (elsewhere d (HearsNext input) a.slots b.slots moves c o ∙ found) (heard_by false false (ne_eqb d c o) f))
          (cases_eq d c)

-- ---- what is taken out

module _ (c d : ℕ) (reply : Reply) where
  abbrev TakingOut : Deed
  TakingOut = Enters (entries.TakeOut d) reply

  sent_by : (m : State) (own lacks : Bool) → (d == c) ≡ own → lacks_memory reply ≡ lacks → sent_in c m TakingOut ≡ (if own then (if lacks then [] else messages_for c m) else [])
  sent_by m own lacks e f =
      ap (λ b. if b then (if lacks_memory reply then [] else messages_for c m) else []) e ∙ ap (λ l. if own then (if l then [] else messages_for c m) else []) f

  taken_changes : (a b : Bench) (s : Slot) → slot_at c a.slots ≡ Some s → EntersAt (entries.TakeOut d) reply a b → IsChanged c a.machine TakingOut b.machine s b.slots
  taken_changes a b s found h = go (lacks_memory reply) refl h.slots
    where
      untouched : slot_at c b.slots ≡ Some s → sent_in c a.machine TakingOut ≡ [] → IsChanged c a.machine TakingOut b.machine s b.slots
      untouched there none = record { behind = s; there = there; changes = unchanged c a.machine TakingOut b.machine s refl none refl }

      none_lacking : (own : Bool) → (d == c) ≡ own → lacks_memory reply ≡ true → sent_in c a.machine TakingOut ≡ []
      none_lacking true e f = sent_by a.machine true true e f
      none_lacking false e f = sent_by a.machine false true e f

      at_place : d ≡ c → lacks_memory reply ≡ false → MovedHere (GetsMessages (messages_for d a.machine)) b.slots c s → IsChanged c a.machine TakingOut b.machine s b.slots
      at_place same f moved =
          let e = moved.moves in
          record {
            behind = moved.behind;
            there = moved.there;
            changes = record {
              log = ap (λ (u : Slot). u.device.log) e ∙ logged_nothing s.device.log;
              sent =
                  ap (λ ms. map written s.to ++ map written ms) (sent_by a.machine true false (eq-eqb d c same) f ∙ ap (λ k. messages_for k a.machine) (sym same))
                  ∙ sym (map-append written s.to (messages_for d a.machine))
                  ∙ ap (λ (u : Slot). map written u.to) (sym e);
              flows = inl (record { calls = refl; heard = refl; same = ap (λ (u : Slot). u.from) e });
            };
          }

      go : (lacks : Bool) → lacks_memory reply ≡ lacks → UnlessLacking lacks a.slots b.slots (MovesAt d (GetsMessages (messages_for d a.machine)) a.slots b.slots)
          → IsChanged c a.machine TakingOut b.machine s b.slots
      go true f same = untouched (ap (slot_at c) same ∙ found) (none_lacking (d == c) refl f)
      go false f moves =
          ⊎_elim (λ e. at_place e f (here d (GetsMessages (messages_for d a.machine)) a.slots b.slots moves c s e found))
          (λ o. untouched (elsewhere d (GetsMessages (messages_for d a.machine)) a.slots b.slots moves c o ∙ found) (sent_by a.machine false false (ne_eqb d c o) f))
          (cases_eq d c)

-- ---- all deeds

entry_changes : (c : ℕ) (entry : Entry) (reply : Reply) (a b : Bench) (s : Slot) → slot_at c a.slots ≡ Some s → EntersAt entry reply a b
    → IsChanged c a.machine (Enters entry reply) b.machine s b.slots
entry_changes c (entries.Heard d input) reply a b s found h = heard_changes c d input reply a b s found h
entry_changes c (entries.TakeOut d) reply a b s found h = taken_changes c d reply a b s found h
entry_changes c other reply a b s found h =
    record { behind = s; there = ap (slot_at c) h.slots ∙ found; changes = unchanged c a.machine (Enters other reply) b.machine s refl refl refl }

pub deed_changes : (c : ℕ) (deed : Deed) (a b : Bench) (s : Slot) → slot_at c a.slots ≡ Some s → Does deed a b → IsChanged c a.machine deed b.machine s b.slots
deed_changes c (Enters entry reply) a b s found h = entry_changes c entry reply a b s found h
deed_changes c (Calls d call reply) a b s found h = call_changes c d call reply a b s found h
