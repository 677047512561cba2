-- What messages leave of a session.
use Rattle.std.proofs.Common.{◌≡◌, ℕ, true, List, [], ◌∷◌, refl, sym, ap, ◌∙◌, subst, ⊎_elim}
use Rattle.std.specs.Prelude.{not, Option, Some, None}
use Rattle.std.proofs.lemmas.Bool.{cases_Bool}
use Rattle.of10_codec.specs.declared.message.Message.{Message}
use Rattle.switch_session.specs.declared.part.Part.{Part}
use Rattle.switch_session.specs.declared.part.UnderWay.{UnderWay}
use Rattle.switch_session.specs.declared.told.Phase.TheVariants as phases
use Rattle.switch_session.specs.Lists.{Lists}
use Rattle.switch_session.specs.Parts.{Update as Plan, features_request}
use Rattle.switch_session.specs.Sessions.{put, heading, next_rules, onward, next_starts, acknowledged, breaks_off, clears_behind}
use Rattle.switch_session.specs.Calls.{is_live as is_live_phase, is_awaited, acknowledged_by, acknowledged_now}
use Rattle.update_plan.specs.Batches.{no_rules}
use Rattle.switch_traces.specs.Lists.{AreRulesOf}
use Rattle.env_cells.specs.Environment.{knows}
use Rattle.machine_steps.specs.Machine.{Session, State, has_ended, is_live, is_open, was_opened, traces_of}
use Rattle.machine_steps.specs.Steps.{switch_of}
use Rattle.machine_steps.specs.Sound.{HeadsRight, IsInOrder}
use Rattle.machine_steps.proofs.Sound.Following.{Stays, same_switch}
use Rattle.machine_steps.proofs.Sound.Aims.{leaves_moved}
use Rattle.machine_steps.proofs.Sound.Kept.{is_listed}

-- a session that heads for the same rules, of the same switch
pub record IsOnward (s t : Session) : Type 0 where
  pub connection : t.connection ≡ s.connection
  pub capacity : t.capacity ≡ s.capacity
  pub phase : t.phase ≡ s.phase
  pub dpid : t.dpid ≡ s.dpid
  pub quiet : t.quiet ≡ s.quiet
  pub heading : heading t ≡ heading s
  pub idle : t.prepared ≡ None

pub heads_onward : (n : State) (s t : Session) → IsOnward s t → HeadsRight n s → HeadsRight n t
heads_onward n s t on h =
    let same = same_switch s t on.dpid in
    record {
      rules = subst (λ w. AreRulesOf (traces_of w n) (heading t)) (sym same) (subst (AreRulesOf (traces_of (switch_of s) n)) (sym on.heading) h.rules);
      quiet = λ q. ap (λ w. traces_of w n) same ∙ h.quiet (sym on.quiet ∙ q);
      number = on.dpid ∙ h.number ∙ ap Some (sym same);
      known = ap (knows n.scene) same ∙ h.known;
      listed = ap (λ w. is_listed w n.learned) same ∙ h.listed;
      capacity = on.capacity ∙ h.capacity;
    }

-- a live session that moved on
pub order_onward : (n : State) (s t : Session) → IsOnward s t → is_live s ≡ true → IsInOrder n s → IsInOrder n t
order_onward n s t on l o = record {
  live = λ k. heads_onward n s t on (o.live l);
  early = λ k e. let g = ap is_live_phase on.phase in absurd (cc);
  idle = on.idle;
  opened = ap (λ c. was_opened c n) on.connection ∙ o.opened;
}

-- ---- the reply to a barrier

module _ (lists : Lists) (s : Session) where
  abbrev at_rest : Session
  at_rest = record s { ready = true; under_way = None; prepared = None }

  starts_next : (later : Option Plan) → s.next ≡ later → IsOnward s (next_starts later at_rest)
  starts_next None e = record { connection = refl; capacity = refl; phase = refl; dpid = refl; quiet = refl; heading = refl; idle = refl }
  starts_next (Some plan) e =
      let m = leaves_moved (record { from = s.target; to = plan.rules }) plan.parts (record at_rest { target = plan.rules; next = None }) in
      record {
        connection = m.connection;
        capacity = m.capacity;
        phase = m.phase;
        dpid = m.dpid;
        quiet = m.quiet;
        heading = m.heading ∙ sym (ap (λ o. next_rules o s.target) e);
        idle = m.prepared;
      }

  goes_onward : (parts : List Part) → IsOnward s (onward lists parts at_rest)
  goes_onward [] = starts_next s.next refl
  goes_onward (part ∷ parts) = record { connection = refl; capacity = refl; phase = refl; dpid = refl; quiet = refl; heading = refl; idle = refl }

  acknowledged_onward : IsOnward s (acknowledged lists s)
  acknowledged_onward = goes_onward s.to_come

pub acknowledged_now_onward : (s : Session) → s.prepared ≡ None → IsOnward s (acknowledged_now s)
acknowledged_now_onward s idle = go s.under_way
  where
    go : (part : Option UnderWay) → IsOnward s (acknowledged_by part s)
    go None = record { connection = refl; capacity = refl; phase = refl; dpid = refl; quiet = refl; heading = refl; idle = idle }
    go (Some part) = acknowledged_onward part.lists s

-- an open session of which a part is under way is live
pub awaited_live : (m : State) (s : Session) (xid : ℕ) → IsInOrder m s → is_open s ≡ true → is_awaited xid s.under_way ≡ true → is_live s ≡ true
awaited_live m s xid o opened awaited =
    ⊎_elim (λ l. l) (λ l. let f = sym (ap (is_awaited xid) (o.early opened l).under_way) ∙ awaited in absurd (cc)) (cases_Bool (is_live s))

-- ---- messages that go out, and a HELLO

-- an outbox is no part of what is in order
pub order_outbox : (n : State) (s : Session) (outbox : List Message) (taken : ℕ) → IsInOrder n s → IsInOrder n (record s { outbox = outbox; taken = taken })
order_outbox n s outbox taken o = record {
  live = λ l. (let h = o.live l in record { rules = h.rules; quiet = h.quiet; number = h.number; known = h.known; listed = h.listed; capacity = h.capacity });
  early = λ a b. (let h = o.early a b in record { capacity = h.capacity; ready = h.ready; under_way = h.under_way; quiet = h.quiet; target = h.target; next = h.next; number = h.number });
  idle = o.idle;
  opened = o.opened;
}

-- the first HELLO
abbrev pub greeted : Session → Session
greeted s = record (put features_request s) { phase = phases.Second }

pub order_greeted : (n : State) (s : Session) → s.phase ≡ phases.First → IsInOrder n s → IsInOrder n (greeted s)
order_greeted n s first o =
    let h = o.early (ap (λ q. not (has_ended q)) first) (ap is_live_phase first) in
    record {
      live = λ l. absurd (cc);
      early = λ a b. record { capacity = h.capacity; ready = h.ready; under_way = h.under_way; quiet = h.quiet; target = h.target; next = h.next; number = h.number };
      idle = o.idle;
      opened = o.opened;
    }

pub stays_greeted : (s : Session) → s.phase ≡ phases.First → Stays s (greeted s)
stays_greeted s first = record { connection = refl; open_too = sym (ap (λ q. not (has_ended q)) first); live_too = sym (ap is_live_phase first); dpid = refl }

-- ---- the first error of a batch

pub record IsBroken (s t : Session) : Type 0 where
  pub connection : t.connection ≡ s.connection
  pub capacity : t.capacity ≡ s.capacity
  pub phase : t.phase ≡ s.phase
  pub dpid : t.dpid ≡ s.dpid
  pub heading : heading t ≡ no_rules
  pub idle : t.prepared ≡ None

pub breaks_so : (s : Session) → IsBroken s (breaks_off s)
breaks_so s = go s.under_way
  where
    go : (part : Option UnderWay) → IsBroken s (clears_behind part s.target (record s { quiet = true; target = no_rules; next = None; prepared = None }))
    go None = record { connection = refl; capacity = refl; phase = refl; dpid = refl; heading = refl; idle = refl }
    go (Some part) = record { connection = refl; capacity = refl; phase = refl; dpid = refl; heading = refl; idle = refl }
