-- What a message makes of the session that it comes to, and of any other.
use Rattle.std.proofs.Common.{◌≡◌, ◌≢◌, ◌⊎◌, ℕ, ◌<◌, Bool, true, false, List, [], ◌∷◌, refl, sym, ap, ◌∙◌, subst, subst₂, inl, inr, ⊎_elim}
use Rattle.std.specs.Prelude.{◌==◌, ◌&&◌, not, find, Option, Some, None}
use Rattle.std.proofs.lemmas.Bool.{and_parts}
use Rattle.maple_base.specs.declared.cells.Port.{Port}
use Rattle.of10_codec.specs.declared.message.Message.{Message}
use Rattle.of10_codec.specs.declared.message.Body.{Body}
use Rattle.of10_codec.specs.declared.message.Body.TheVariants as body
use Rattle.env_cells.specs.declared.updates.Update.TheVariants.{Switch, Port as PortUpdate}
use Rattle.switch_session.specs.declared.told.Heard.{Heard}
use Rattle.switch_session.specs.declared.told.Heard.TheVariants as heard
use Rattle.switch_session.specs.declared.told.Phase.TheVariants as phases
use Rattle.switch_session.specs.declared.told.End.{End}
use Rattle.switch_session.specs.declared.told.End.TheVariants as ends
use Rattle.switch_session.specs.Calls.{RepliesTo, acknowledged_now}
use Rattle.switch_session.specs.Parts.{last_start, version_refusal, echo_reply}
use Rattle.switch_session.specs.Sessions.{ended, put, breaks_off}
use Rattle.switch_traces.specs.Lists.{AreRulesOf}
use Rattle.machine_steps.specs.declared.reply.Reply.{Reply}
use Rattle.machine_steps.specs.Machine.{Session, State, has_ended, is_open, is_of, session_at, with_session, with_traces, traces_of}
use Rattle.machine_steps.specs.Messages.{MayPass, Makes}
use Rattle.machine_steps.specs.Messages.Makes.{PassesOver, RefusesVersion, Greets, Echoes, IsNamed, BringsPacket, BringsPort, ComesEarly, LacksNumbers, Acknowledges, RefusesClearing, BreaksOff, IsRefused}
use Rattle.machine_steps.specs.Steps.{switch_of, updated, Lacks, Joins, HearsFeatures, HearsPacket, HearsOf, HearsMessage}
use Rattle.machine_steps.specs.Sound.{IsInOrder, IsSound}
use Rattle.machine_steps.proofs.Messages.{made_of}
use Rattle.machine_steps.proofs.Sound.Zipped.{find_all, find_passes}
use Rattle.machine_steps.proofs.Sound.Moves.{IsOnward, greeted, acknowledged_now_onward, breaks_so}
use Rattle.machine_moves.specs.Moves.{MayBeLed, IsIdleBody, HearsOne, HearsBy, named}
use Rattle.machine_moves.proofs.Found.{Together, together_some, placed, its_connection, found_beside, found_placed}
use Rattle.machine_moves.proofs.Following.{Follows, follows_along, follows_same, follows_reached, follows_taught, follows_update}
use Rattle.machine_moves.proofs.Turning.{Turns, Turned, only_led, turned_placed, turned_shut, follows_placed, hears_either}

module _ (N : Session → Type 0) (old : State) (h : IsSound old) (c d : ℕ) (s : Session) (found : session_at d old ≡ Some s) (xid : ℕ) (b : Body) (reply : Reply) (new : State) where
  abbrev x : Message
  x = record { xid = xid; body = b }

  -- what was made of the message
  abbrev Does : Heard → Session → Type 0
  Does v t = HearsOf x t v old reply new

  abbrev Moved : Type 0
  Moved = Lacks old reply new ⊎ Turned N c old new (HearsBy (d == c) x new)

  order : IsInOrder old s
  order = find_all (IsInOrder old) (is_of d) old.sessions s h.sessions found

  opened : is_open s ≡ true
  opened = (and_parts (s.connection == d) (is_open s) (find_passes (is_of d) old.sessions s found)).1

  its : s.connection ≡ d
  its = its_connection d s (find_passes (is_of d) old.sessions s found)

  found_by : (k : ℕ) → d ≡ k → session_at k old ≡ Some s
  found_by k e = ap (λ i. session_at i old) (sym e) ∙ found

  -- ---- the session ends, is another, or follows

  shuts : (t : Session) → t.connection ≡ s.connection → is_open t ≡ false → new.sessions ≡ placed t old.sessions → Moved
  shuts t at shut are =
      inr (hears_either N c d x old new (λ e. turned_shut N c old new (HearsOne x new) t (at ∙ its ∙ e) shut are) (λ o. follows_placed c t old new (λ e. o (sym its ∙ sym at ∙ e)) are))

  ends_so : (t : Session) (end : End) → t.connection ≡ s.connection → Does (heard.Ended end) (ended t) → Moved
  ends_so t end at e = shuts (ended t) at refl (ap (λ (n : State). n.sessions) e.1)

  becomes : (t : Session) → t.connection ≡ s.connection → is_open t ≡ true → new.sessions ≡ placed t old.sessions → HearsOne x new s t → Moved
  becomes t at still are hears =
      inr (hears_either N c d x old new (λ e. turned_placed N c old new (HearsOne x new) s t (found_by c e) (at ∙ its ∙ e) still are hears) (λ o. follows_placed c t old new (λ e. o (sym its ∙ sym at ∙ e)) are))

  stands : IsIdleBody xid b s → new.sessions ≡ placed s old.sessions → Moved
  stands idle are = becomes s refl opened are (inl (idle, only_led new s s (inl refl)))

  follows : IsIdleBody xid b s → Follows c old new → Turned N c old new (HearsBy (d == c) x new)
  follows idle follow =
      hears_either N c d x old new
      (λ e. subst (λ o. Turns N (HearsOne x new) o (session_at c new)) (sym (found_by c e)) (go (session_at c new) (subst (λ o. Together (MayBeLed new) o (session_at c new)) (found_by c e) follow)))
      (λ o. follow)
    where
      go : (p : Option Session) → Together (MayBeLed new) (Some s) p → Turns N (HearsOne x new) (Some s) p
      go None l = tt
      go (Some t) l = inl (idle, only_led new s t l)

  -- ---- by the message

  packet_in : IsIdleBody xid b s → (buffer in_port : ℕ) (frame : List ℕ) → HearsPacket s buffer in_port frame old reply new → Moved
  packet_in idle buffer in_port frame (inl (fault, is, r, e)) = inr (follows idle (follows_same c old new (ap (λ (n : State). n.sessions) e)))
  packet_in idle buffer in_port frame (inr (inl (key, is, big, r, e))) = inr (follows idle (follows_same c old new (ap (λ (n : State). n.sessions) e)))
  packet_in idle buffer in_port frame (inr (inr (inl (key, m, is, small, teaches, many, r, e)))) =
      inr (follows idle (follows_along c old m new (ap (λ (n : State). n.learned) e) (ap (session_at c) e) (follows_taught c (switch_of s) key old m teaches)))
  packet_in idle buffer in_port frame (inr (inr (inr (key, m, is, small, teaches, few, r, e)))) =
      inr (follows idle (follows_along c old m new (ap (λ (n : State). n.learned) e) (ap (session_at c) e) (follows_taught c (switch_of s) key old m teaches)))

  acknowledged : b ≡ body.BarrierReply → RepliesTo xid s → s.used < last_start → (r : Bool) → Does (heard.Acknowledged r) (acknowledged_now s) → Moved
  acknowledged is awaited within r f = becomes (acknowledged_now s) on.connection still (are r f) (inr (inr (inr (inl (record { reply = is; awaited = awaited; numbers = within; now_is = refl })))))
    where
      on : IsOnward s (acknowledged_now s)
      on = acknowledged_now_onward s order.idle

      still : is_open (acknowledged_now s) ≡ true
      still = ap (λ q. not (has_ended q)) on.phase ∙ opened

      are : (r : Bool) → Does (heard.Acknowledged r) (acknowledged_now s) → new.sessions ≡ placed (acknowledged_now s) old.sessions
      are true f = ap (λ (n : State). n.sessions) f.1
      are false f = ap (λ (n : State). n.sessions) f.1

  -- ---- a FEATURES_REPLY that is accepted

  module _ (dpid : ℕ) (ports : List Port) (is : b ≡ body.FeaturesReply dpid ports) (second : s.phase ≡ phases.Second) (j : Joins (named dpid s) dpid ports old new) where
    abbrev t : Session
    t = named dpid s

    abbrev next : State
    next = updated (Switch dpid ports) (with_traces dpid (traces_of dpid old) (with_session t old))

    at : j.accepted.connection ≡ s.connection
    at = ap (λ (y : Session). y.connection) j.accepts.now_is

    still : is_open j.accepted ≡ true
    still = ap is_open j.accepts.now_is

    are : new.sessions ≡ placed j.accepted j.reached.sessions
    are = ap (λ (n : State). n.sessions) j.now_is

    follow : Follows c next j.reached
    follow = follows_reached c old next j.reached j.reaches

    accepts : HearsOne x new s j.accepted
    accepts =
        inr (inr (inl (record {
          dpid = dpid;
          ports = ports;
          told = is;
          second = second;
          rules = j.rules;
          are_rules = subst (λ n. AreRulesOf (traces_of dpid n) j.rules) (sym j.now_is) j.are_rules;
          accepts = j.accepts;
        })))

    own : d ≡ c → Turned N c old new (HearsOne x new)
    own e =
        let before : session_at c next ≡ Some t = found_placed c t old.sessions (its ∙ e) opened s (found_by c e) in
        let y = together_some (MayBeLed j.reached) t (session_at c j.reached) (subst (λ o. Together (MayBeLed j.reached) o (session_at c j.reached)) before follow) in
        subst₂ (Turns N (HearsOne x new)) (sym (found_by c e)) (sym (ap (find (is_of c)) are ∙ found_placed c j.accepted j.reached.sessions (at ∙ its ∙ e) still y.0 y.1)) accepts

    other : d ≢ c → Follows c old new
    other o =
        follows_along c old j.reached new (ap (λ (n : State). n.learned) j.now_is) (ap (find (is_of c)) are ∙ found_beside c j.accepted j.reached.sessions (λ e. o (sym its ∙ sym at ∙ e)))
        (subst (λ p. Together (MayBeLed j.reached) p (session_at c j.reached)) (found_beside c t old.sessions (λ e. o (sym its ∙ e))) follow)

    joins : Turned N c old new (HearsBy (d == c) x new)
    joins = hears_either N c d x old new own other

  told : (dpid : ℕ) (ports : List Port) → b ≡ body.FeaturesReply dpid ports → s.phase ≡ phases.Second → HearsFeatures (named dpid s) dpid ports old reply new → Moved
  told dpid ports is second (inl (served, r, e)) = shuts (ended (named dpid s)) refl refl (ap (λ (n : State). n.sessions) e)
  told dpid ports is second (inr (inl (unserved, full, r, e))) = shuts (ended (named dpid s)) refl refl (ap (λ (n : State). n.sessions) e)
  told dpid ports is second (inr (inr (unserved, free, r, j))) = inr (joins dpid ports is second j)

  -- ---- what the session makes of the message

  idle : (x : Body) → b ≡ x → IsIdleBody xid x s → IsIdleBody xid b s
  idle x is i = subst (λ y. IsIdleBody xid y s) (sym is) i

  passed : (x : Body) → b ≡ x → MayPass xid x s → IsIdleBody xid x s
  passed body.BarrierReply is may = may
  passed (body.Error kind code bytes) is may = (let g = sym (ap (λ q. not (has_ended q)) may) ∙ opened in absurd (cc))
  passed other is may = tt

  pub by_made : {v : Heard} {t : Session} → Makes xid b s v t → Does v t → Moved
  by_made (PassesOver may) f = stands (passed b refl may) (ap (λ (n : State). n.sessions) f.1)
  by_made (RefusesVersion is first) f = ends_so (put (version_refusal xid) s) ends.Version refl f
  by_made (Greets is first) f = becomes (greeted s) refl refl (ap (λ (n : State). n.sessions) f.1) (inr (inl (record { early = first; now_is = refl })))
  by_made (Echoes {bytes} is other) f =
      let u = put (echo_reply xid bytes) s in
      becomes u refl opened (ap (λ (n : State). n.sessions) f.1)
      (inl (
        idle (body.EchoRequest bytes) is tt,
        record { between = u; puts = record { messages = echo_reply xid bytes ∷ []; others = (record { no_change = refl; no_barrier = refl }, tt); now_is = refl }; led = inl refl },
      ))
  by_made (IsNamed {dpid} {ports} is second) f = told dpid ports is second f
  by_made (BringsPacket {buffer} {total} {in_port} {reason} {bytes} is live) f = packet_in (idle (body.PacketIn buffer total in_port reason bytes) is tt) buffer in_port bytes f
  by_made (BringsPort {reason} {port} is live) f =
      ⊎_elim (λ l. inl l) (λ w. inr (follows (idle (body.PortStatus reason port) is tt) w)) (follows_update c (PortUpdate (switch_of s) port.number (port.up && not (reason == 1))) old reply new f)
  by_made (ComesEarly is awaited early) f = ends_so s (ends.Early xid) refl f
  by_made (LacksNumbers is to over) f = ends_so s ends.Xids refl f
  by_made (Acknowledges is to within) f = acknowledged is to within (not s.ready) f
  by_made (RefusesClearing is batch clearing) f = ends_so s ends.ClearRefused refl f
  by_made (BreaksOff {kind} {code} {bytes} is change loud) f =
      let broken = breaks_so s in
      becomes (breaks_off s) broken.connection (ap (λ q. not (has_ended q)) broken.phase ∙ opened) (ap (λ (n : State). n.sessions) f.1)
      (inr (inr (inr (inr (record { kind = kind; code = code; bytes = bytes; error = is; of_change = change; noisy = loud; now_is = refl })))))
  by_made (IsRefused {kind} {code} {bytes} is why) f = stands (idle (body.Error kind code bytes) is why) (ap (λ (n : State). n.sessions) f.1)

pub heard_moves : (N : Session → Type 0) (old : State) → IsSound old → (c d : ℕ) (x : Message) (reply : Reply) (new : State) → HearsMessage d x old reply new → Lacks old reply new ⊎ Turned N c old new (HearsBy (d == c) x new)
heard_moves N old h c d x reply new r = ⊎_elim (λ f. by_made N old h c d r.session r.there x.xid x.body reply new (made_of x.xid r.session r.heard r.behind x.body r.hears) f) (λ l. inl l.1) r.does
