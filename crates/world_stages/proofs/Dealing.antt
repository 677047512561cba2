-- What a step of the switch does to the messages of an update: nothing, or it deals with one of them.
use Rattle.std.proofs.Common.{◌≡◌, ℕ, Bool, true, false, List, [], ◌∷◌, ◌++◌, append_assoc, refl, sym, ap, ◌∙◌, subst, inl, inr}
use Rattle.std.proofs.lemmas.List.Sorted.{IsPermutation-refl}
use Rattle.std.proofs.lemmas.List.Elements.{filter-append}
use Rattle.maple_base.specs.declared.decision.Rule.{Rule}
use Rattle.of10_codec.specs.declared.message.Message.{Message}
use Rattle.of10_codec.specs.declared.message.Body.TheVariants.{Error, BarrierReply}
use Rattle.device_port.specs.Switches.{Switch, Step, Leads, Processes, Refuses, AnswersBarrier, is_barrier, is_flow_mod, message}
use Rattle.device_port.specs.Switches.Step.{Take, Process, Refuse, Answer, LetGo, Look, Send}
use Rattle.machine_steps.specs.Machine.{Session}
use Rattle.world_steps.specs.Worlds.{Link, LinkDoes}
use Rattle.world_stages.specs.Flights.{line_of, back_of, is_control, is_signal, controls, signals, StaysOrLoses}
use Rattle.world_stages.proofs.Lists.{filter_passes_over, filter_end, filter_among, filter_without}
use Rattle.world_stages.proofs.Bodies.{flow_mod_control, other_no_control, barrier_control, others_lead, answers_silent, free_silent}

-- nothing
pub record Idles (s : Session) (l k : Link) : Type 0 where
  pub line : controls (line_of s k) ≡ controls (line_of s l)
  pub back : signals (back_of k) ≡ signals (back_of l)
  pub table : StaysOrLoses l.switch.table k.switch.table

-- a change is taken from the line
pub record TakesChange (s : Session) (l k : Link) (m : Message) : Type 0 where
  pub change : is_flow_mod m.body ≡ true
  pub ahead : List Message
  pub behind : List Message
  pub was : controls (line_of s l) ≡ ahead ++ m ∷ behind
  pub line : controls (line_of s k) ≡ ahead ++ behind

-- and carried out
pub record CarriesChange (s : Session) (l k : Link) (m : Message) : Type 0 where
  pub takes : TakesChange s l k m
  pub back : signals (back_of k) ≡ signals (back_of l)
  pub leads : Leads m.body l.switch.table k.switch.table

-- or refused
pub record RefusesChange (s : Session) (l k : Link) (m : Message) : Type 0 where
  pub takes : TakesChange s l k m
  pub kind : ℕ
  pub code : ℕ
  pub bytes : List ℕ
  pub back : signals (back_of k) ≡ signals (back_of l) ++ signals (message m.xid (Error kind code bytes) ∷ [])
  pub table : StaysOrLoses l.switch.table k.switch.table

-- a barrier, the first of the line, is answered
pub record AnswersFirst (s : Session) (l k : Link) (m : Message) : Type 0 where
  pub barrier : is_barrier m.body ≡ true
  pub was : controls (line_of s l) ≡ m ∷ controls (line_of s k)
  pub back : signals (back_of k) ≡ signals (back_of l) ++ message m.xid BarrierReply ∷ []
  pub table : StaysOrLoses l.switch.table k.switch.table

pub data Deals (s : Session) (l k : Link) : Type 0 where
  idles : Idles s l k → Deals s l k
  carries : (m : Message) → CarriesChange s l k m → Deals s l k
  refuses : (m : Message) → RefusesChange s l k m → Deals s l k
  answers : (m : Message) → AnswersFirst s l k m → Deals s l k

-- ---- the pending messages, with what is behind them

stays : (table : List Rule) → StaysOrLoses table table
stays table = inl (IsPermutation-refl table)

module _ (pending ahead : List Message) (m : Message) (behind rest : List Message) (place : pending ≡ ahead ++ m ∷ behind) where
  -- one of them in the line
  line_was : pending ++ rest ≡ ahead ++ m ∷ (behind ++ rest)
  line_was = ap (λ (ms : List Message). ms ++ rest) place ∙ append_assoc ahead (m ∷ behind) rest

  -- that is no control
  other_leaves : is_control m ≡ false → controls ((ahead ++ behind) ++ rest) ≡ controls (pending ++ rest)
  other_leaves h = ap controls (append_assoc ahead behind rest) ∙ sym (ap controls line_was ∙ filter_without is_control ahead m (behind ++ rest) h)

  -- that is one
  control_was : is_control m ≡ true → controls (pending ++ rest) ≡ controls ahead ++ m ∷ controls (behind ++ rest)
  control_was h = ap controls line_was ∙ filter_among is_control ahead m (behind ++ rest) h

  control_leaves : controls ((ahead ++ behind) ++ rest) ≡ controls ahead ++ controls (behind ++ rest)
  control_leaves = ap controls (append_assoc ahead behind rest) ∙ filter-append is_control ahead (behind ++ rest)

-- ---- the steps

module _ (s : Session) (l : Link) where
  processed : (m : Message) (t : Switch) → Processes m l.switch t → Deals s l (record l { switch = t })
  processed m t p = subst (λ (u : Switch). Deals s l (record l { switch = u })) (sym p.now_is) (go (is_flow_mod m.body) refl)
    where
      go : (b : Bool) → is_flow_mod m.body ≡ b → Deals s l (record l { switch = record l.switch { table = p.table; pending = p.ahead ++ p.behind; sent = l.switch.sent ++ p.answers } })
      go true e = carries m (record {
        takes = record {
          change = e;
          ahead = controls p.ahead;
          behind = controls (p.behind ++ (l.to ++ s.outbox));
          was = control_was l.switch.pending p.ahead m p.behind (l.to ++ s.outbox) p.stands.place (flow_mod_control m e);
          line = control_leaves l.switch.pending p.ahead m p.behind (l.to ++ s.outbox) p.stands.place;
        };
        back = filter_end is_signal l.switch.sent p.answers (answers_silent l.switch.dpid m.xid m.body p.answers p.answered);
        leads = p.leads;
      })
      go false e = idles (record {
        line = other_leaves l.switch.pending p.ahead m p.behind (l.to ++ s.outbox) p.stands.place (other_no_control m e p.no_barrier);
        back = filter_end is_signal l.switch.sent p.answers (answers_silent l.switch.dpid m.xid m.body p.answers p.answered);
        table = inl (others_lead m.body l.switch.table p.table e p.leads);
      })

  refused : (m : Message) (t : Switch) → Refuses m l.switch t → Deals s l (record l { switch = t })
  refused m t p = subst (λ (u : Switch). Deals s l (record l { switch = u })) (sym p.now_is) (refuses m (record {
    takes = record {
      change = p.change;
      ahead = controls p.ahead;
      behind = controls (p.behind ++ (l.to ++ s.outbox));
      was = control_was l.switch.pending p.ahead m p.behind (l.to ++ s.outbox) p.stands.place (flow_mod_control m p.change);
      line = control_leaves l.switch.pending p.ahead m p.behind (l.to ++ s.outbox) p.stands.place;
    };
    kind = p.kind;
    code = p.code;
    bytes = p.bytes;
    back = filter-append is_signal l.switch.sent (message m.xid (Error p.kind p.code p.bytes) ∷ []);
    table = stays l.switch.table;
  }))

  answered : (m : Message) (t : Switch) → AnswersBarrier m l.switch t → Deals s l (record l { switch = t })
  answered m t p = subst (λ (u : Switch). Deals s l (record l { switch = u })) (sym p.now_is) (answers m (record {
    barrier = p.barrier;
    was = control_was l.switch.pending [] m p.behind (l.to ++ s.outbox) p.first (barrier_control m p.barrier);
    back = filter-append is_signal l.switch.sent (message m.xid BarrierReply ∷ []);
    table = stays l.switch.table;
  }))

pub deals : (step : Step) (s : Session) (l k : Link) → LinkDoes step l k → Deals s l k
deals (Take m) s l k h = subst (Deals s l) (sym (h.4 ∙ ap (λ (t : Switch). record l { to = h.0; switch = t }) h.3)) (idles (record {
  line = ap controls (append_assoc l.switch.pending (m ∷ []) (h.0 ++ s.outbox) ∙ ap (λ (ms : List Message). l.switch.pending ++ (ms ++ s.outbox)) (sym h.1));
  back = refl;
  table = stays l.switch.table;
}))
deals (Process m) s l k h = subst (Deals s l) (sym h.2) (processed s l m h.0 h.1)
deals (Refuse m) s l k h = subst (Deals s l) (sym h.2) (refused s l m h.0 h.1)
deals (Answer m) s l k h = subst (Deals s l) (sym h.2) (answered s l m h.0 h.1)
deals (LetGo r) s l k h = let goes = h.1 in subst (Deals s l) (sym (h.2 ∙ ap (λ (t : Switch). record l { switch = t }) goes.now_is)) (idles (record {
  line = refl;
  back = refl;
  table = inr (record { gone = r; idle = goes.idle; there = goes.there });
}))
deals (Look key hit) s l k h = let looks = h.1 in subst (Deals s l) (sym (h.2 ∙ ap (λ (t : Switch). record l { switch = t }) looks.now_is)) (idles (record {
  line = refl;
  back = refl;
  table = stays l.switch.table;
}))
deals (Send m) s l k h = let sends = h.1 in subst (Deals s l) (sym (h.2 ∙ ap (λ (t : Switch). record l { switch = t }) sends.now_is)) (idles (record {
  line = refl;
  back = filter_end is_signal l.switch.sent (m ∷ []) (filter_passes_over is_signal m [] (free_silent m.xid m.body sends.free));
  table = stays l.switch.table;
}))
