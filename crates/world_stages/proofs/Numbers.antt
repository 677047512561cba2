-- What holds of every session and its link: numbers of messages, and the switch's own number.
use Rattle.std.proofs.Common.{◌≡◌, ℕ, ◌≤◌, true, List, [], ◌∷◌, ◌++◌, drop, refl, sym, ap, ◌∙◌, subst}
use Rattle.std.specs.List.{AllByRecursion}
use Rattle.of10_codec.specs.declared.message.Message.{Message}
use Rattle.of10_codec.specs.declared.message.Body.TheVariants.{Error, BarrierReply}
use Rattle.device_port.specs.Switches.{Switch, Processes, Refuses, AnswersBarrier, Sends, message}
use Rattle.device_port.specs.Switches.Step.{Take, Process, Refuse, Answer, LetGo, Look, Send}
use Rattle.machine_steps.specs.Machine.{Session}
use Rattle.world_steps.specs.Worlds.{Link}
use Rattle.world_stages.specs.Flights.{is_control, is_signal, controls, signals, IsUpTo, TellsNumber}
use Rattle.world_stages.specs.FlightLaws.{KeepsTrue, StepsKeepTrue, HearingKeeps}
use Rattle.world_stages.proofs.Lists.{filter_passes_over, all_append, passing_append, passing_left, passing_right, passing_first, passing_rest, passing_without, passing_one}
use Rattle.world_stages.proofs.Bodies.{flow_mod_control, barrier_control, answers_silent, answers_tell, free_silent, free_tells}

module _ (most : ℕ) where
  -- messages without signals, behind others
  none_behind : (sent ms : List Message) → signals ms ≡ [] → AllByRecursion (IsUpTo most) (signals sent) → AllByRecursion (IsUpTo most) (signals (sent ++ ms))
  none_behind sent ms e h = passing_append is_signal (IsUpTo most) sent ms h (subst (AllByRecursion (IsUpTo most)) (sym e) tt)

  -- one with such a number
  one_behind : (sent : List Message) (m : Message) → m.xid ≤ most → AllByRecursion (IsUpTo most) (signals sent) → AllByRecursion (IsUpTo most) (signals (sent ++ m ∷ []))
  one_behind sent m up h = passing_append is_signal (IsUpTo most) sent (m ∷ []) h (passing_one is_signal (IsUpTo most) m (λ e. up))

  module _ (pending ahead : List Message) (m : Message) (behind : List Message) (place : pending ≡ ahead ++ m ∷ behind) (h : AllByRecursion (IsUpTo most) (controls pending)) where
    placed : AllByRecursion (IsUpTo most) (controls (ahead ++ m ∷ behind))
    placed = subst (λ (ms : List Message). AllByRecursion (IsUpTo most) (controls ms)) place h

    pub pending_without : AllByRecursion (IsUpTo most) (controls (ahead ++ behind))
    pending_without = passing_without is_control (IsUpTo most) ahead m behind placed

    pub pending_one : is_control m ≡ true → m.xid ≤ most
    pending_one e = passing_first is_control (IsUpTo most) m behind e (passing_right is_control (IsUpTo most) ahead (m ∷ behind) placed)

-- the switch of the link is another
module _ (s : Session) (l : Link) where
  abbrev at : Switch → Link
  at t = record l { switch = t }

  processed : (m : Message) (t : Switch) → Processes m l.switch t → KeepsTrue s l (at t)
  processed m t p = subst (λ (u : Switch). KeepsTrue s l (at u)) (sym p.now_is) record {
    connection = refl;
    dpid = refl;
    numbered = λ n. record {
      taken = n.taken;
      pending = pending_without s.taken l.switch.pending p.ahead m p.behind p.stands.place n.pending;
      to = n.to;
      outbox = n.outbox;
      back = none_behind s.taken l.switch.sent p.answers (answers_silent l.switch.dpid m.xid m.body p.answers p.answered) n.back;
    };
    tells = λ h. all_append (λ (x : Message). TellsNumber l.switch.dpid x.body) l.switch.sent p.answers h (answers_tell l.switch.dpid m.xid m.body p.answers p.answered);
  }

  refused : (m : Message) (t : Switch) → Refuses m l.switch t → KeepsTrue s l (at t)
  refused m t p = subst (λ (u : Switch). KeepsTrue s l (at u)) (sym p.now_is) record {
    connection = refl;
    dpid = refl;
    numbered = λ n. record {
      taken = n.taken;
      pending = pending_without s.taken l.switch.pending p.ahead m p.behind p.stands.place n.pending;
      to = n.to;
      outbox = n.outbox;
      back = one_behind s.taken l.switch.sent (message m.xid (Error p.kind p.code p.bytes)) (pending_one s.taken l.switch.pending p.ahead m p.behind p.stands.place n.pending (flow_mod_control m p.change)) n.back;
    };
    tells = λ h. all_append (λ (x : Message). TellsNumber l.switch.dpid x.body) l.switch.sent (message m.xid (Error p.kind p.code p.bytes) ∷ []) h (tt, tt);
  }

  answered : (m : Message) (t : Switch) → AnswersBarrier m l.switch t → KeepsTrue s l (at t)
  answered m t p = subst (λ (u : Switch). KeepsTrue s l (at u)) (sym p.now_is) record {
    connection = refl;
    dpid = refl;
    numbered = λ n. record {
      taken = n.taken;
      pending = pending_without s.taken l.switch.pending [] m p.behind p.first n.pending;
      to = n.to;
      outbox = n.outbox;
      back = one_behind s.taken l.switch.sent (message m.xid BarrierReply) (pending_one s.taken l.switch.pending [] m p.behind p.first n.pending (barrier_control m p.barrier)) n.back;
    };
    tells = λ h. all_append (λ (x : Message). TellsNumber l.switch.dpid x.body) l.switch.sent (message m.xid BarrierReply ∷ []) h (tt, tt);
  }

  sent : (m : Message) (t : Switch) → Sends m l.switch t → KeepsTrue s l (at t)
  sent m t p = subst (λ (u : Switch). KeepsTrue s l (at u)) (sym p.now_is) record {
    connection = refl;
    dpid = refl;
    numbered = λ n. record {
      taken = n.taken;
      pending = n.pending;
      to = n.to;
      outbox = n.outbox;
      back = none_behind s.taken l.switch.sent (m ∷ []) (filter_passes_over is_signal m [] (free_silent m.xid m.body p.free)) n.back;
    };
    tells = λ h. all_append (λ (x : Message). TellsNumber l.switch.dpid x.body) l.switch.sent (m ∷ []) h (free_tells l.switch.dpid m.xid m.body p.free, tt);
  }

  taken_in : (m : Message) (later : List Message) → l.to ≡ m ∷ later → KeepsTrue s l (record l { to = later; switch = record l.switch { pending = l.switch.pending ++ m ∷ [] } })
  taken_in m later e = record {
    connection = refl;
    dpid = refl;
    numbered = λ n.
        let first : AllByRecursion (IsUpTo s.taken) (controls (m ∷ later)) = subst (λ (ms : List Message). AllByRecursion (IsUpTo s.taken) (controls ms)) e n.to in
        record {
          taken = n.taken;
          pending = passing_append is_control (IsUpTo s.taken) l.switch.pending (m ∷ []) n.pending (passing_left is_control (IsUpTo s.taken) (m ∷ []) later first);
          to = passing_rest is_control (IsUpTo s.taken) m later first;
          outbox = n.outbox;
          back = n.back;
        };
    tells = λ h. h;
  }

pub steps_keep_true : StepsKeepTrue
steps_keep_true (Take m) s l k h = subst (KeepsTrue s l) (sym (h.4 ∙ ap (λ (t : Switch). record l { to = h.0; switch = t }) h.3)) (taken_in s l m h.0 h.1)
steps_keep_true (Process m) s l k h = subst (KeepsTrue s l) (sym h.2) (processed s l m h.0 h.1)
steps_keep_true (Refuse m) s l k h = subst (KeepsTrue s l) (sym h.2) (refused s l m h.0 h.1)
steps_keep_true (Answer m) s l k h = subst (KeepsTrue s l) (sym h.2) (answered s l m h.0 h.1)
steps_keep_true (LetGo r) s l k h =
    let goes = h.1 in
    subst (KeepsTrue s l) (sym (h.2 ∙ ap (λ (t : Switch). record l { switch = t }) goes.now_is)) (record {
      connection = refl;
      dpid = refl;
      numbered = λ n. record { taken = n.taken; pending = n.pending; to = n.to; outbox = n.outbox; back = n.back };
      tells = λ t. t;
    })
steps_keep_true (Look key hit) s l k h =
    let looks = h.1 in
    subst (KeepsTrue s l) (sym (h.2 ∙ ap (λ (t : Switch). record l { switch = t }) looks.now_is)) (record { connection = refl; dpid = refl; numbered = λ n. n; tells = λ t. t })
steps_keep_true (Send m) s l k h = subst (KeepsTrue s l) (sym h.2) (sent s l m h.0 h.1)

-- ---- a message is heard

later_signals : (most : ℕ) (ms : List Message) → AllByRecursion (IsUpTo most) (signals ms) → AllByRecursion (IsUpTo most) (signals (drop 1 ms))
later_signals most [] h = h
later_signals most (m ∷ ms) h = passing_rest is_signal (IsUpTo most) m ms h

later_all : (P : Message → Type 0) (ms : List Message) → AllByRecursion P ms → AllByRecursion P (drop 1 ms)
later_all P [] h = h
later_all P (m ∷ ms) h = h.1

pub hearing_keeps : HearingKeeps
hearing_keeps s l = record {
  numbered = λ n. record { taken = n.taken; pending = n.pending; to = n.to; outbox = n.outbox; back = later_signals s.taken l.switch.sent n.back };
  tells = later_all (λ (m : Message). TellsNumber l.switch.dpid m.body) l.switch.sent;
}
