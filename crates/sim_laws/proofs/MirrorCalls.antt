-- What a call of a device is for the link of its place.
use Rattle.std.proofs.Common.{◌≡◌, ◌⊎◌, ℕ, ◌<◌, ◌^◌, All, List, [], ◌∷◌, ◌++◌, Some, None, Result, Ok, Err, refl, sym, ap, ◌∙◌, subst, append_assoc, append-nil, inl, inr}
use Rattle.std.specs.List.{AllByRecursion}
use Rattle.maple_base.specs.declared.device.Turned.{Turned}
use Rattle.maple_base.specs.declared.device.Turned.TheVariants.{Nothing, Processed, Refused, Failed as FailedTurn, NoMemory as NoMemoryTurn}
use Rattle.maple_base.specs.declared.device.Seen.{Seen}
use Rattle.maple_base.specs.declared.device.Seen.TheVariants.{Hit, Miss, Failed as FailedLook, NoMemory as NoMemoryLook}
use Rattle.maple_base.specs.declared.key.Key.{Key}
use Rattle.of10_codec.specs.declared.message.Message.{Message}
use Rattle.of10_codec.specs.Messages.{Spelled}
use Rattle.of10_codec.specs.Written.{written}
use Rattle.of10_codec.specs.Laws.{OneMessage}
use Rattle.packet_key.specs.Frames.{key_of}
use Rattle.packet_key.specs.declared.malformed.Malformed.{Malformed}
use Rattle.device_port.specs.declared.device.Took.TheVariants.{Taken, Failed as FailedOffer, NoMemory as NoMemoryOffer}
use Rattle.device_port.specs.Devices.{Call, Fails, Goes, Looks, LooksAt, Meaning, Spell, Steps, TakesIn, switch_of}
use Rattle.device_port.specs.Devices.Call.{Offered, Turning, Looking}
use Rattle.device_port.specs.Switches.{Does, Step, Switch}
use Rattle.device_port.specs.Switches.Step.{Take, Process, Refuse, Answer, Look}
use Rattle.machine_moves.specs.Sends.{CanBeOffered}
use Rattle.machine_steps.proofs.Sound.Keys.{key_valid}
use Rattle.world_steps.specs.Worlds.{Link, LinkDoes}
use Rattle.sim_steps.specs.Benches.{Slot}
use Rattle.sim_steps.specs.Deeds.{CallsSlot, appends}
use Rattle.sim_steps.specs.Showing.{CallBy, Deals, LooksAndSends, LooksBy, TurnsBy, sends}
use Rattle.sim_laws.proofs.MirrorActs.{LinkRun, run_append, sends_run}
use Rattle.sim_laws.proofs.MirrorLinks.{Holds, holds_more, link_by, link_of, link_same}

-- steps of this kind lead the link of the one slot to that of the other
pub record Served (By : List Step → Type 0) (c : ℕ) (s t : Slot) (sent : List Message) : Type 0 where
  pub own : List Step
  pub by : By own
  pub now : List Message
  pub run : LinkRun own (link_of c s sent) (link_of c t now)
  pub holds : Holds t now

module _ (one : OneMessage) (c : ℕ) (s : Slot) (sent : List Message) (h : Holds s sent) where
  abbrev link : Link
  link = link_of c s sent

  -- ---- a message is offered

  module _ (bytes : List ℕ) (x : Message) (later : List Message) (to : s.to ≡ x ∷ later) (as_written : bytes ≡ written x) (d : Meaning) where
    taken_in : Goes (Offered bytes Taken) s.device d → TakesIn bytes s.device d → Served (CallBy (Offered bytes Taken)) c s (record s { device = d; to = later }) sent
    taken_in goes takes = record {
      own = Take x ∷ [];
      by = (x, as_written, refl);
      now = sent;
      run = (
        link_by c later s.device.dpid s.device.table (s.device.pending ++ x ∷ []) sent,
        (later, to, record { dpid = s.device.dpid; table = s.device.table; pending = s.device.pending ++ x ∷ []; sent = sent }, refl, refl),
        link_same c later d s.device.dpid s.device.table (s.device.pending ++ x ∷ []) sent goes.tells.dpid (takes.table h.keeps) (takes.last ∙ ap (λ y. s.device.pending ++ y ∷ []) same),
      );
      holds = record { spell = h.spell; unbroken = h.unbroken; keeps = goes.tells.keeps ∙ h.keeps; offers = offers.1 };
    }
      where
        offers : AllByRecursion CanBeOffered (x ∷ later)
        offers = subst (AllByRecursion CanBeOffered) to h.offers

        same : takes.offered ≡ x
        same = one takes.offered x bytes takes.is.spelled (subst (Spelled x) (sym as_written) offers.0.spelled)

  -- ---- the device fails

  module _ (By : List Step → Type 0) (by : By []) (call : Call) (d : Meaning) (fails : Fails call s.device d) where
    offer_fails : Served By c s (record s { device = d }) sent
    offer_fails = record {
      own = [];
      by = by;
      now = sent;
      run = link_same c s.to d s.device.dpid s.device.table s.device.pending sent fails.tells.dpid fails.table fails.pending;
      holds = record { spell = h.spell; unbroken = h.unbroken; keeps = fails.tells.keeps ∙ h.keeps; offers = h.offers };
    }

    call_fails : (bytes : List ℕ) → bytes ≡ [] → Served By c s (appends bytes d s) sent
    call_fails bytes none = record {
      own = [];
      by = by;
      now = sent ++ [];
      run = link_same c s.to d s.device.dpid s.device.table s.device.pending (sent ++ []) fails.tells.dpid fails.table fails.pending
          ∙ ap (link_by c s.to s.device.dpid s.device.table s.device.pending) (append-nil sent);
      holds = holds_more s d bytes sent [] h fails.tells.keeps none;
    }

  -- ---- a turn

  -- a step of the switch, with messages that were sent before
  record StepsBehind (step : Step) (m : Meaning) (b : Switch) (early : List Message) : Type 0 where
    pub does : LinkDoes step (link_by c s.to m.dpid m.table m.pending early) (link_by c s.to b.dpid b.table b.pending (early ++ b.sent))
    pub dpid : b.dpid ≡ m.dpid

  module _ (m : Meaning) (b : Switch) (early : List Message) where
    abbrev with_early : Switch → Switch
    with_early u = record { dpid = u.dpid; table = u.table; pending = u.pending; sent = early ++ u.sent }

    processes : (x : Message) → Does (Process x) (switch_of m) b → StepsBehind (Process x) m b early
    processes x p = record {
      does = (
        with_early b,
        record {
          ahead = p.ahead;
          behind = p.behind;
          stands = p.stands;
          no_barrier = p.no_barrier;
          answers = p.answers;
          answered = p.answered;
          table = p.table;
          leads = p.leads;
          now_is = ap with_early p.now_is;
        },
        refl,
      );
      dpid = ap (λ (u : Switch). u.dpid) p.now_is;
    }

    refuses : (x : Message) → Does (Refuse x) (switch_of m) b → StepsBehind (Refuse x) m b early
    refuses x p = record {
      does = (
        with_early b,
        record {
          ahead = p.ahead;
          behind = p.behind;
          stands = p.stands;
          change = p.change;
          kind = p.kind;
          code = p.code;
          bytes = p.bytes;
          now_is = ap with_early p.now_is;
        },
        refl,
      );
      dpid = ap (λ (u : Switch). u.dpid) p.now_is;
    }

    answers : (x : Message) → Does (Answer x) (switch_of m) b → StepsBehind (Answer x) m b early
    answers x p = record {
      does = (with_early b, record { behind = p.behind; first = p.first; barrier = p.barrier; now_is = ap with_early p.now_is }, refl);
      dpid = ap (λ (u : Switch). u.dpid) p.now_is;
    }

  module _ (turned : Turned) (bytes : List ℕ) (d : Meaning) (dpid : d.dpid ≡ s.device.dpid) (keeps : d.keeps ≡ s.device.keeps) (x : Message) (step : Step) (deals : Deals turned x step)
      (is : Steps step bytes s.device d) (stepped : StepsBehind step s.device is.behind (sent ++ is.spell.ahead)) where
    abbrev ahead : List Message
    ahead = is.spell.ahead

    abbrev behind : List Message
    behind = is.spell.behind

    abbrev b : Switch
    b = is.behind

    abbrev between : Link
    between = link_by c s.to b.dpid b.table b.pending ((sent ++ ahead) ++ b.sent)

    abbrev last : Link
    last = link_by c s.to d.dpid d.table d.pending (sent ++ (ahead ++ (b.sent ++ behind)))

    all_sent : ((sent ++ ahead) ++ b.sent) ++ behind ≡ sent ++ (ahead ++ (b.sent ++ behind))
    all_sent = append_assoc (sent ++ ahead) b.sent behind ∙ append_assoc sent ahead (b.sent ++ behind)

    same_link : link_by c s.to b.dpid b.table b.pending (((sent ++ ahead) ++ b.sent) ++ behind) ≡ last
    same_link =
        ap (link_by c s.to b.dpid b.table b.pending) all_sent
        ∙ sym (link_same c s.to d b.dpid b.table b.pending (sent ++ (ahead ++ (b.sent ++ behind))) (dpid ∙ sym stepped.dpid) is.table is.pending)

    turn_served : Served (TurnsBy turned) c s (appends bytes d s) sent
    turn_served = record {
      own = sends ahead ++ step ∷ sends behind;
      by = (x, step, deals, record { ahead = ahead; behind = behind; are = refl });
      now = sent ++ (ahead ++ (b.sent ++ behind));
      run = run_append (sends ahead) (step ∷ sends behind) link (link_by c s.to s.device.dpid s.device.table s.device.pending (sent ++ ahead)) last (sends_run ahead link is.spell.free_ahead)
          (between, stepped.does, subst (LinkRun (sends behind) between) same_link (sends_run behind between is.spell.free_behind));
      holds = holds_more s d bytes sent (ahead ++ (b.sent ++ behind)) h keeps (subst (λ xs. Spell xs bytes) (append_assoc ahead b.sent behind) is.spell.spell);
    }

  processed_served : (xid : ℕ) (bytes : List ℕ) (d : Meaning) → d.dpid ≡ s.device.dpid → d.keeps ≡ s.device.keeps → (x : Message) → x.xid ≡ xid
      → Steps (Process x) bytes s.device d ⊎ Steps (Answer x) bytes s.device d → Served (TurnsBy (Processed xid)) c s (appends bytes d s) sent
  processed_served xid bytes d dpid keeps x id (inl is) =
      turn_served (Processed xid) bytes d dpid keeps x (Process x) (id, inl refl) is (processes s.device is.behind (sent ++ is.spell.ahead) x is.does)
  processed_served xid bytes d dpid keeps x id (inr is) =
      turn_served (Processed xid) bytes d dpid keeps x (Answer x) (id, inr refl) is (answers s.device is.behind (sent ++ is.spell.ahead) x is.does)

  -- ---- a look-up

  record LooksThere (port : ℕ) (frame : List ℕ) (seen : Seen) : Type 0 where
    pub steps : List Step
    pub by : LooksBy port frame seen steps
    pub run : LinkRun steps link link

  module _ (port : ℕ) (frame : List ℕ) (small : port < 2 ^ 16) (are : All (λ b. b < 256) frame) where
    finds : (r : Result Key Malformed) (seen : Seen) → key_of port frame ≡ r → LooksAt s.device.table r seen → LooksThere port frame seen
    finds (Ok k) (Hit actions) e (r, chosen, does, other) = record {
      steps = Look k (Some r) ∷ [];
      by = inl (k, Some r, e, (does, other), refl);
      run = (link, (link.switch, record { valid = key_valid port frame k small are e; chosen = chosen; now_is = refl }, refl), refl);
    }
    finds (Ok k) (Miss reason) e (inl (why, up)) = record {
      steps = Look k (Some up.0) ∷ [];
      by = inl (k, Some up.0, e, (why, up.2), refl);
      run = (link, (link.switch, record { valid = key_valid port frame k small are e; chosen = up.1; now_is = refl }, refl), refl);
    }
    finds (Ok k) (Miss reason) e (inr (why, fits_none)) = record {
      steps = Look k None ∷ [];
      by = inl (k, None, e, why, refl);
      run = (link, (link.switch, record { valid = key_valid port frame k small are e; chosen = fits_none; now_is = refl }, refl), refl);
    }
    finds (Err fault) (Miss reason) e why = record { steps = []; by = inr (fault, e, refl); run = refl }
    finds r seen e h = absurd h

    look_served : (seen : Seen) (bytes : List ℕ) (d : Meaning) → d.dpid ≡ s.device.dpid → d.keeps ≡ s.device.keeps → Looks port frame seen bytes s.device d
        → Served (LooksAndSends port frame seen) c s (appends bytes d s) sent
    look_served seen bytes d dpid keeps is =
        let there = finds (key_of port frame) seen refl is.found in
        record {
          own = there.steps ++ sends is.sent;
          by = (there.steps, is.sent, there.by, refl);
          now = sent ++ is.sent;
          run = run_append there.steps (sends is.sent) link link (link_by c s.to d.dpid d.table d.pending (sent ++ is.sent)) there.run
              (subst (LinkRun (sends is.sent) link) (sym (link_same c s.to d s.device.dpid s.device.table s.device.pending (sent ++ is.sent) dpid is.table is.pending)) (sends_run is.sent link is.free));
          holds = holds_more s d bytes sent is.sent h keeps is.spell;
        }

  -- ---- all calls

  pub serves : (call : Call) (t : Slot) → CallsSlot call s t → Served (CallBy call) c s t sent
  serves (Offered bytes Taken) t (x, later, to, as_written, d, (goes, takes), same) =
      subst (λ (u : Slot). Served (CallBy (Offered bytes Taken)) c s u sent) (sym same) (taken_in bytes x later to as_written d goes takes)
  serves (Offered bytes FailedOffer) t (x, later, to, as_written, d, fails, same) =
      subst (λ (u : Slot). Served (CallBy (Offered bytes FailedOffer)) c s u sent) (sym same) (offer_fails (CallBy (Offered bytes FailedOffer)) refl (Offered bytes FailedOffer) d fails)
  serves (Offered bytes NoMemoryOffer) t none = absurd none
  serves (Turning Nothing bytes) t none = absurd none
  serves (Turning NoMemoryTurn bytes) t none = absurd none
  serves (Turning FailedTurn bytes) t (d, (fails, none), same) =
      subst (λ (u : Slot). Served (CallBy (Turning FailedTurn bytes)) c s u sent) (sym same) (call_fails (CallBy (Turning FailedTurn bytes)) refl (Turning FailedTurn bytes) d fails bytes none)
  serves (Turning (Processed xid) bytes) t (d, (goes, fewer, one_of), same) =
      let (x, id, is) = one_of h.keeps in
      subst (λ (u : Slot). Served (CallBy (Turning (Processed xid) bytes)) c s u sent) (sym same) (processed_served xid bytes d goes.tells.dpid goes.tells.keeps x id is)
  serves (Turning (Refused xid) bytes) t (d, (goes, fewer, one_of), same) =
      let (x, id, is) = one_of h.keeps in
      subst (λ (u : Slot). Served (CallBy (Turning (Refused xid) bytes)) c s u sent) (sym same)
      (turn_served (Refused xid) bytes d goes.tells.dpid goes.tells.keeps x (Refuse x) (id, refl) is (refuses s.device is.behind (sent ++ is.spell.ahead) x is.does))
  serves (Looking port frame NoMemoryLook bytes) t none = absurd none
  serves (Looking port frame FailedLook bytes) t (small, are, d, (fails, none), same) =
      subst (λ (u : Slot). Served (CallBy (Looking port frame FailedLook bytes)) c s u sent) (sym same)
      (call_fails (CallBy (Looking port frame FailedLook bytes)) refl (Looking port frame FailedLook bytes) d fails bytes none)
  serves (Looking port frame (Hit actions) bytes) t (small, are, d, (goes, stays, is), same) =
      subst (λ (u : Slot). Served (CallBy (Looking port frame (Hit actions) bytes)) c s u sent) (sym same)
      (look_served port frame small are (Hit actions) bytes d goes.tells.dpid goes.tells.keeps (is h.keeps))
  serves (Looking port frame (Miss reason) bytes) t (small, are, d, (goes, stays, is), same) =
      subst (λ (u : Slot). Served (CallBy (Looking port frame (Miss reason) bytes)) c s u sent) (sym same)
      (look_served port frame small are (Miss reason) bytes d goes.tells.dpid goes.tells.keeps (is h.keeps))
