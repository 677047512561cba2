-- What hearing a message does to the machine's sessions, and the room for lines that it leaves.
use Rattle.std.proofs.Common.{◌≡◌, ℕ, zero, suc, ◌+◌, ◌<◌, ◌≤◌, Bool, true, false, Option, Some, None, Result, Ok, Err, IfOk, OnErr, List, [], ◌∷◌, ◌++◌, length, filter, not, map, set, append-nil, unwrap_or, inl, inr, refl, sym, ap, ap₂, ◌∙◌, subst, subst₂, arith}
use Rattle.std.specs.Prelude.{◌⊎◌, IfSome, if◌then◌else◌, ◌==◌}
use Rattle.std.specs.List.{AllPairs, slice_get, list_any}
use Rattle.std.proofs.lemmas.Bool.{eqb-true, and_parts}
use Rattle.std.proofs.lemmas.List.{length-map}
use Rattle.std.proofs.lemmas.Option.{same_Some, get_or_from_slice_get, slice_get_within}
use Rattle.of10_codec.specs.declared.message.Message.{Message}
use Rattle.of10_codec.specs.declared.message.Body.{Body}
use Rattle.maple_base.specs.declared.cells.Port.{Port}
use Rattle.env_cells.specs.Most.{most_up_ports}
use Rattle.switch_session.specs.declared.told.Phase.{Phase}
use Rattle.switch_session.specs.declared.told.Phase.TheVariants.{Second}
use Rattle.switch_session.specs.declared.told.Heard.{Heard}
use Rattle.switch_session.specs.declared.told.Heard.TheVariants as heard
use Rattle.switch_session.specs.Parts.{Update}
use Rattle.switch_session.specs.Calls.{Answer, Hears, CanBeHeard, is_live as is_live_phase}
use Rattle.maple_base.specs.declared.no_memory.NoMemory.{NoMemory as NoMemoryError}
use Rattle.env_cells.specs.declared.updates.Update.TheVariants.{Port as PortUpdate}
use Rattle.report_text.specs.declared.line.Line.{Line}
use Rattle.report_text.specs.declared.line.Line.TheVariants as lines
use Rattle.switch_session.specs.declared.told.End.{End}
use Rattle.switch_traces.specs.Traces.{Learnings}
use Rattle.machine_steps.specs.declared.job.Job.{Job}
use Rattle.machine_steps.specs.declared.reply.Reply.{Reply}
use Rattle.machine_steps.specs.declared.reply.Reply.TheVariants.{Done, NoMemory, Ended}
use Rattle.core_machine.specs.Joining.{change_at, unheard, IsJoining, Joined}
use Rattle.switch_session.specs.Sessions.{forgotten, forgets_number}
use Rattle.machine_steps.specs.Steps.{HearsMessage, LacksForMessage, HearsOf, HearsFeatures, HearsPacket, Updates, Lacks, is_spared, switch_of, why_of, error_lines}
use Rattle.machine_parts.specs.declared.connection.Connection.{Connection}
use Rattle.core_machine.specs.Packets.{HearsPacketOf}
use Rattle.machine_parts.specs.Hearing.{HearsAt}
use Rattle.core_machine.specs.Hearing.{LacksMemory}
use Rattle.machine_parts.specs.Ready.{ready_lines, ready_count}
use Rattle.machine_steps.specs.Machine.{Session, State, is_of, is_open, session_at, with_session, traces_in, put_traces}
use Rattle.machine_steps.specs.Places.{IsAt, CanReach}
use Rattle.machine_parts.specs.Sessions.{session_of, due, due_all}
use Rattle.machine_steps.specs.Sound.{IsSound, IsInOrder, AreOthers}
use Rattle.machine_steps.proofs.Sound.Stepping.{can_reach}
use Rattle.machine_parts.proofs.Keyed.{set_by_key, find_passes}
use Rattle.machine_parts.proofs.There.{all_there}
use Rattle.core_machine.proofs.Heard.{MadeOf, made, brings, due_made, connection_made, few_ports, small_packet}

-- ---- lists

pub set_same : {X : Type 0} (xs : List X) (at : ℕ) (x : X) → slice_get xs at ≡ Some x → set xs at x ≡ xs
set_same [] at x e = refl
set_same (y ∷ ys) zero x e = ap (λ z. z ∷ ys) (sym (same_Some y x e))
set_same (y ∷ ys) (suc n) x e = ap (λ zs. y ∷ zs) (set_same ys n x e)

pub set_there : {X : Type 0} (xs : List X) (at : ℕ) (x y : X) → slice_get xs at ≡ Some x → slice_get (set xs at y) at ≡ Some y
set_there [] at x y e = absurd (cc)
set_there (z ∷ zs) zero x y e = refl
set_there (z ∷ zs) (suc n) x y e = set_there zs n x y e

-- ---- sessions of different connections

-- a session in the place of the one of its connection
replaced : (ss : List Session) (at : ℕ) (s t : Session) → slice_get ss at ≡ Some s → AllPairs AreOthers ss → t.connection ≡ s.connection
    → set ss at t ≡ map (λ (u : Session). if u.connection == t.connection then t else u) ss
replaced ss at s t e others k =
    sym (set_by_key (λ (u : Session). u.connection) ss at t (slice_get_within ss at s e) (λ i j d l m. (others i j d l m).connections) (ap (λ (u : Session). u.connection) (get_or_from_slice_get ss at s t e) ∙ sym k))

-- ---- the lines that are due

due_set : (ss : List Session) (at : ℕ) (s t : Session) → slice_get ss at ≡ Some s → due_all (set ss at t) + due s ≡ due_all ss + due t
due_set [] at s t e = absurd (cc)
due_set (u ∷ us) zero s t e = let h : due u ≡ due s = ap due (same_Some u s e) in omega (arith, h)
due_set (u ∷ us) (suc n) s t e = let h = due_set us n s t e in omega (arith, h)

-- ---- a message at a place

behind_at : {at : ℕ} {m : Message} {xs : List Session} {a : Answer} {ys : List Session} (w : HearsAt at m xs a ys) → slice_get ys at ≡ Some w.behind
behind_at {at = at} {xs = xs} w = ap (λ (ss : List Session). slice_get ss at) w.now_is ∙ set_there xs at w.session w.behind w.there

pub within_after : (cs : List Connection) {at : ℕ} {m : Message} {xs : List Session} {a : Answer} → HearsAt at m xs a (map session_of cs) → at < length cs
within_after cs {at = at} w = let l = slice_get_within (map session_of cs) at w.behind (behind_at w) in omega (arith, l, length-map cs session_of)

-- where the session stays as it is so do all
unchanged : {at : ℕ} {m : Message} {xs : List Session} {a : Answer} {ys : List Session} (w : HearsAt at m xs a ys) → w.behind ≡ w.session → ys ≡ xs
unchanged {at = at} {xs = xs} w same = w.now_is ∙ ap (set xs at) same ∙ set_same xs at w.session w.there

-- the session at the place of an open one is that one
module _ {old : State} {c at : ℕ} {m : Message} {a : Answer} {ys : List Session} (there : IsAt c at old) (w : HearsAt at m old.sessions a ys) where
  same_session : there.session ≡ w.session
  same_session = same_Some there.session w.session (sym there.there ∙ w.there)

  found_there : session_at c old ≡ Some w.session
  found_there = there.found ∙ ap (λ (s : Session). Some s) same_session

  of_connection : (w.session.connection ≡ c) × (is_open w.session ≡ true)
  of_connection =
      let p = and_parts (w.session.connection == c) (is_open w.session) (find_passes (is_of c) old.sessions w.session found_there) in
      (eqb-true w.session.connection c p.0, p.1)

-- memory ran out for the session
pub same_after : {at : ℕ} {m : Message} {xs ys : List Session} {e : NoMemoryError} → HearsAt at m xs (Err e) ys → ys ≡ xs
same_after {m = m} {e = e} w = unchanged w (made m w.session w.behind (Err e) w.hears)

pub lacks_there : {base old : State} {c at : ℕ} {m : Message} {ys : List Session} {e : NoMemoryError} → base ≡ old → IsAt c at old → HearsAt at m base.sessions (Err e) ys
    → LacksMemory c m old (record base { sessions = ys })
lacks_there {base = base} {old = old} {c = c} {at = at} {m = m} {ys = ys} {e = e} v stands w =
    let there : IsAt c at base = subst (IsAt c at) (sym v) stands in
    let same : w.behind ≡ w.session = made m w.session w.behind (Err e) w.hears in
    let lacks : LacksForMessage c m base NoMemory (record base { sessions = ys }) = record {
      session = w.session;
      there = found_there there w;
      answer = Err e;
      lacked = refl;
      hears = subst (λ (t : Session). Hears m w.session (Err e) t) same w.hears;
      lacks = (refl, ap (λ (ss : List Session). record base { sessions = ss }) (unchanged w same));
    } in
    inr (subst (λ (o : State). LacksForMessage c m o NoMemory (record base { sessions = ys })) v lacks)

-- ---- what was made of it

-- the session at the place of the open one of a connection made this of a message
pub record HasHeard (old : State) (c at : ℕ) (m : Message) (ys : List Session) (h : Heard) : Type 0 where
  pub there : IsAt c at old
  pub sound : IsSound old
  pub hears : HearsAt at m old.sessions (Ok h) ys

pub has_heard : {base old : State} {c at : ℕ} {m : Message} {ys : List Session} {k h : Heard} → base ≡ old → IsAt c at old → IsSound old → k ≡ h → HearsAt at m base.sessions (Ok k) ys → HasHeard base c at m ys h
has_heard {base = base} {c = c} {at = at} {m = m} {ys = ys} v there so e w =
    record { there = subst (IsAt c at) (sym v) there; sound = subst IsSound (sym v) so; hears = subst (λ (x : Heard). HearsAt at m base.sessions (Ok x) ys) e w }

pub back : {base old : State} {c : ℕ} {m : Message} {reply : Reply} {new : State} → base ≡ old → HearsMessage c m base reply new → HearsMessage c m old reply new
back {c = c} {m = m} {reply = reply} {new = new} v k = subst (λ (o : State). HearsMessage c m o reply new) v k

pub on_err : {A E : Type 0} (r : Result A E) (P : Type 0) → P → OnErr r P
on_err (Ok x) P p = tt
on_err (Err e) P p = p

module _ {old : State} {c at : ℕ} {m : Message} {ys : List Session} {h : Heard} (f : HasHeard old c at m ys h) where
  made_of : MadeOf m.body h f.hears.session f.hears.behind
  made_of = made m f.hears.session f.hears.behind (Ok h) f.hears.hears

  in_order : IsInOrder old f.hears.session
  in_order = all_there (IsInOrder old) at old.sessions f.hears.session f.hears.there f.sound.sessions

  message_heard : {reply : Reply} {new : State} → HearsOf m f.hears.behind h old reply new ⊎ ((is_spared m.body h ≡ false) × Lacks old reply new) → HearsMessage c m old reply new
  message_heard d = record { session = f.hears.session; there = found_there f.there f.hears; heard = h; behind = f.hears.behind; hears = f.hears.hears; does = d }

  pub room_there : due_all ys + brings h ≤ due_all old.sessions
  room_there =
      let w = f.hears in
      let fewer = due_made m.body h w.session w.behind (of_connection f.there w).1 made_of in
      let moved = due_set old.sessions at w.session w.behind w.there in
      let is : due_all ys ≡ due_all (set old.sessions at w.behind) = ap due_all w.now_is in
      omega (arith, fewer, moved, is)

  kept : f.hears.behind.connection ≡ f.hears.session.connection
  kept = connection_made m.body h f.hears.session f.hears.behind made_of

  its_connection : c ≡ f.hears.behind.connection
  its_connection = sym (kept ∙ (of_connection f.there f.hears).0)

  its_switch : {switch : ℕ} → IfSome (slice_get ys at) (λ (s : Session). switch ≡ switch_of s) → switch ≡ switch_of f.hears.behind
  its_switch {switch = switch} k = subst (λ (o : Option Session). IfSome o (λ (s : Session). switch ≡ switch_of s)) (behind_at f.hears) k

  put : record old { sessions = ys } ≡ with_session f.hears.behind old
  put = ap (λ (ss : List Session). record old { sessions = ss }) (f.hears.now_is ∙ replaced old.sessions at f.hears.session f.hears.behind f.hears.there f.sound.others kept)

  -- and with these lines
  put_lines : {ls more : List Line} → ls ≡ more → record old { sessions = ys; lines = ls } ≡ record (with_session f.hears.behind old) { lines = more }
  put_lines e = ap₂ (λ (n : State) (k : List Line). record n { lines = k }) put e

  stays : f.hears.behind ≡ f.hears.session → record old { sessions = ys } ≡ old
  stays same = ap (λ (ss : List Session). record old { sessions = ss }) (unchanged f.hears same)

-- ---- a switch's number

changed_back : (ss : List Session) (at : ℕ) (s t : Session) → slice_get ss at ≡ Some s → forgotten t ≡ s → change_at at forgotten (set ss at t) ≡ ss
changed_back [] at s t e k = absurd (cc)
changed_back (u ∷ us) zero s t e k = ap (λ (x : Session). x ∷ us) (k ∙ sym (same_Some u s e))
changed_back (u ∷ us) (suc n) s t e k = ap (λ (xs : List Session). u ∷ xs) (changed_back us n s t e k)

forgets : (s : Session) (dpid : ℕ) → s.phase ≡ Second → s.dpid ≡ None → s.prepared ≡ None → forgotten (record s { dpid = Some dpid }) ≡ s
forgets s dpid e d p =
    ap₂ (λ (update : Option Update) (number : Option ℕ). record s { prepared = update; dpid = number }) (sym p) (ap (λ (phase : Phase). forgets_number phase (Some dpid)) e ∙ sym d)

module _ {old : State} {c at : ℕ} {m : Message} {ys : List Session} {dpid : ℕ} {ports : List Port} (f : HasHeard old c at m ys (heard.Features dpid ports)) where
  its_number : f.hears.behind ≡ record f.hears.session { dpid = Some dpid }
  its_number = (made_of f).1

  unheard_is : unheard at (record old { sessions = ys }) ≡ old
  unheard_is =
      let w = f.hears in
      let early = (in_order f).early (of_connection f.there w).1 (ap is_live_phase (made_of f).0) in
      let back = ap forgotten its_number ∙ forgets w.session dpid (made_of f).0 early.number (in_order f).idle in
      ap (λ (ss : List Session). record old { sessions = ss }) (ap (change_at at forgotten) w.now_is ∙ changed_back old.sessions at w.session w.behind w.there back)

  pub joins_there : IsJoining at dpid (record old { sessions = ys })
  joins_there = record {
    session = f.hears.behind;
    there = behind_at f.hears;
    second = ap (λ (s : Session). s.phase) its_number ∙ (made_of f).0;
    number = ap (λ (s : Session). s.dpid) its_number;
    sound = subst IsSound (sym unheard_is) f.sound;
  }

  pub few_there : CanBeHeard m → length ports ≤ most_up_ports
  few_there k = few_ports m dpid ports k (made_of f).2

  does : {reply : Reply} {new : State} → HearsFeatures f.hears.behind dpid ports old reply new ⊎ Lacks old reply new
      → HearsOf m f.hears.behind (heard.Features dpid ports) old reply new ⊎ ((is_spared m.body (heard.Features dpid ports) ≡ false) × Lacks old reply new)
  does (inl j) = inl j
  does (inr l) = inr (ap (λ (b : Body). is_spared b (heard.Features dpid ports)) (made_of f).2, l)

  pub joined_there : {reply : Reply} {new : State} → Joined at dpid ports (record old { sessions = ys }) reply new → HearsMessage c m old reply new
  joined_there {reply = reply} {new = new} j =
      message_heard f (does (subst (λ (o : State). HearsFeatures f.hears.behind dpid ports o reply new ⊎ Lacks o reply new) unheard_is (j f.hears.behind (behind_at f.hears))))

-- ---- an update of a port

module _ {old : State} {c at : ℕ} {m : Message} {ys : List Session} {port : ℕ} {up : Bool} (f : HasHeard old c at m ys (heard.Port port up)) where
  pub can_change : CanReach (record old { sessions = ys })
  can_change = subst CanReach (sym (stays f (made_of f).0)) (can_reach old f.sound)

  pub port_there : (switch : ℕ) {reply : Reply} {new : State} → IfSome (slice_get ys at) (λ (s : Session). switch ≡ switch_of s)
      → Updates (PortUpdate switch port up) (record old { sessions = ys }) reply new → HearsMessage c m old reply new
  port_there switch {reply = reply} {new = new} k u =
      message_heard f (inl (subst₂ (λ (n : ℕ) (o : State). Updates (PortUpdate n port up) o reply new) (its_switch f k) (stays f (made_of f).0) u))

-- ---- a packet

module _ {old : State} {c at : ℕ} {m : Message} {ys : List Session} {buffer in_port : ℕ} {frame : List ℕ} (f : HasHeard old c at m ys (heard.PacketIn buffer in_port frame)) where
  pub sound_there : IsSound (record old { sessions = ys })
  sound_there = subst IsSound (sym (stays f (made_of f).0)) f.sound

  pub small_there : CanBeHeard m → length frame ≤ 65535
  small_there k = small_packet m buffer in_port frame k (made_of f).1

  pub packet_heard : {now : State} (switch : ℕ) (new : State) → old ≡ now → IfSome (slice_get ys at) (λ (s : Session). switch ≡ switch_of s) → (r : Result Reply NoMemoryError)
      → IfOk r (λ reply. HearsPacketOf c switch buffer in_port frame (record old { sessions = ys }) reply new) → IfOk r (λ reply. HearsMessage c m now reply new)
  packet_heard switch new v k (Ok reply) h =
      let does = h f.hears.behind (sym (its_connection f)) (sym (its_switch f k)) in
      back v (message_heard f (inl (subst (λ (o : State). HearsPacket f.hears.behind buffer in_port frame o reply new) (stays f (made_of f).0) does)))
  packet_heard switch new v k (Err e) h = tt

  pub packet_lacks : {now : State} (new : State) → old ≡ now → (r : Result Reply NoMemoryError) → OnErr r (new ≡ record old { sessions = ys }) → OnErr r (LacksMemory c m now new)
  packet_lacks new v (Ok reply) h = tt
  packet_lacks new v (Err e) h =
      inl (back v (message_heard f (inr (ap (λ (b : Body). is_spared b (heard.PacketIn buffer in_port frame)) (made_of f).1.is, (refl, h ∙ stays f (made_of f).0)))))

-- ---- lines, traces and jobs

pub passed_there : {old : State} {c at : ℕ} {m : Message} {ys : List Session} → HasHeard old c at m ys heard.Passed → HearsMessage c m old Done (record old { sessions = ys })
passed_there f = message_heard f (inl (refl, put f))

module _ {old : State} {c at : ℕ} {m : Message} {ys : List Session} where
  ready_due : (ready : Bool) → HasHeard old c at m ys (heard.Acknowledged ready) → due_all ys + ready_count ready ≤ due_all old.sessions
  ready_due true f = room_there f
  ready_due false f = room_there f

  pub ready_room : (ready : Bool) → HasHeard old c at m ys (heard.Acknowledged ready) → (n cap : ℕ) → n + due_all old.sessions ≤ cap → n + ready_count ready ≤ cap
  ready_room ready f n cap had = let r = ready_due ready f in omega arith

  pub ready_left : (ready : Bool) → HasHeard old c at m ys (heard.Acknowledged ready) → (n cap n' cap' : ℕ) → n + due_all old.sessions ≤ cap → n' ≡ n + ready_count ready → cap' ≡ cap → n' + due_all ys ≤ cap'
  ready_left ready f n cap n' cap' had e g = let r = ready_due ready f in omega arith

  pub ready_there : (ready : Bool) → HasHeard old c at m ys (heard.Acknowledged ready) → (switch : ℕ) {ls : List Line} → IfSome (slice_get ys at) (λ (s : Session). switch ≡ switch_of s)
      → ls ≡ old.lines ++ ready_lines ready c switch → HearsMessage c m old Done (record old { sessions = ys; lines = ls })
  ready_there true f switch k e = message_heard f (inl (refl, put_lines f (e ∙ ap₂ (λ (n s : ℕ). old.lines ++ lines.Ready n s ∷ []) (its_connection f) (its_switch f k))))
  ready_there false f switch k e = message_heard f (inl (refl, put_lines f (e ∙ append-nil old.lines)))

-- the state behind the first error of a batch, from the one with the session
abbrev quieted_by : ℕ → ℕ → ℕ → ℕ → State → State
quieted_by kind code k n o = record o { learned = put_traces n [] o.learned; lines = (o.lines ++ lines.Error k kind code ∷ []) ++ lines.Quiet n (length (traces_in o.learned n)) ∷ [] }

-- the state behind an end
abbrev ended_by : Body → End → ℕ → State → State
ended_by b end k o = record o { jobs = filter (λ (j : Job). not (j.connection == k)) o.jobs; lines = (o.lines ++ lines.Closed k (why_of end) ∷ []) ++ error_lines k b }

module _ {old : State} {c at : ℕ} {m : Message} {ys : List Session} {kind code : ℕ} where
  pub quiet_there : (f : HasHeard old c at m ys (heard.Refused kind code true)) (switch : ℕ) {learned : List Learnings} {ls : List Line}
      → IfSome (slice_get ys at) (λ (s : Session). switch ≡ switch_of s) → learned ≡ put_traces switch [] old.learned
      → ls ≡ (old.lines ++ lines.Error c kind code ∷ []) ++ lines.Quiet switch (length (traces_in old.learned switch)) ∷ []
      → HearsMessage c m old Done (record old { sessions = ys; learned = learned; lines = ls })
  quiet_there f switch k e g =
      let first = ap₂ (λ (l : List Learnings) (more : List Line). record old { sessions = ys; learned = l; lines = more }) e g in
      let second = ap₂ (λ (n s : ℕ). quieted_by kind code n s (record old { sessions = ys })) (its_connection f) (its_switch f k) in
      message_heard f (inl (refl, first ∙ second ∙ ap (quieted_by kind code f.hears.behind.connection (switch_of f.hears.behind)) (put f)))

  -- the switch of a session that hears the first error of a batch has a list of traces
  pub listed_there : (f : HasHeard old c at m ys (heard.Refused kind code true)) (switch : ℕ) → IfSome (slice_get ys at) (λ (s : Session). switch ≡ switch_of s)
      → list_any (λ (l : Learnings). l.switch == switch) old.learned ≡ true
  listed_there f switch k =
      let same : switch_of f.hears.behind ≡ switch_of f.hears.session = ap (λ (d : Option ℕ). unwrap_or d 0) (made_of f).0.dpid in
      subst (λ (n : ℕ). list_any (λ (l : Learnings). l.switch == n) old.learned ≡ true) (sym (its_switch f k ∙ same)) ((in_order f).live (made_of f).2).listed

  pub refused_there : (f : HasHeard old c at m ys (heard.Refused kind code false)) {ls : List Line} → ls ≡ old.lines ++ lines.Error c kind code ∷ []
      → HearsMessage c m old Done (record old { sessions = ys; lines = ls })
  refused_there f e = message_heard f (inl (refl, put_lines f (e ∙ ap (λ (n : ℕ). old.lines ++ lines.Error n kind code ∷ []) (its_connection f))))

  pub no_room_there : {now : State} (f : HasHeard old c at m ys (heard.Refused kind code false)) {ls : List Line} → old ≡ now → ls ≡ old.lines → LacksMemory c m now (record old { sessions = ys; lines = ls })
  no_room_there f {ls = ls} v e =
      let same = ap (λ (more : List Line). record old { sessions = ys; lines = more }) e ∙ stays f (made_of f).0 in
      let lacks : HearsMessage c m old NoMemory (record old { sessions = ys; lines = ls }) = message_heard f (inr ((made_of f).1, (refl, same))) in
      inl (back v lacks)

module _ {old : State} {c at : ℕ} {m : Message} {ys : List Session} {end : End} where
  pub ended_there : (f : HasHeard old c at m ys (heard.Ended end)) {jobs : List Job} {ls : List Line} → jobs ≡ filter (λ (j : Job). not (j.connection == c)) old.jobs
      → ls ≡ (old.lines ++ lines.Closed c (why_of end) ∷ []) ++ error_lines c m.body → HearsMessage c m old (Ended end) (record old { sessions = ys; jobs = jobs; lines = ls })
  ended_there f e g =
      let first = ap₂ (λ (js : List Job) (more : List Line). record old { sessions = ys; jobs = js; lines = more }) e g in
      let second = ap (λ (n : ℕ). ended_by m.body end n (record old { sessions = ys })) (its_connection f) in
      message_heard f (inl (refl, first ∙ second ∙ ap (ended_by m.body end f.hears.behind.connection) (put f)))
