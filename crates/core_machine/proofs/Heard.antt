-- What a session makes of a message: what stays of it, and how many lines are still due then.
use Rattle.std.proofs.Common.{◌≡◌, ℕ, ◌+◌, ◌<◌, ◌≤◌, Bool, true, false, not, Option, Some, None, Ok, Err, List, [], ◌∷◌, length, refl, sym, ap, ◌∙◌, subst, arith}
use Rattle.std.specs.Prelude.{if◌then◌else◌}
use Rattle.std.proofs.Math.ListN.{length-drop}
use Rattle.std.specs.List.{All}
use Rattle.maple_base.specs.declared.cells.Port.{Port}
use Rattle.maple_base.specs.NetworkOrder.{number_at}
use Rattle.of10_codec.specs.declared.message.Message.{Message}
use Rattle.of10_codec.specs.declared.message.Body.{Body}
use Rattle.of10_codec.specs.declared.message.Body.TheVariants as body
use Rattle.of10_codec.specs.Messages.{SpellsBody}
use Rattle.env_cells.specs.Most.{most_up_ports}
use Rattle.switch_session.specs.declared.part.Part.{Part}
use Rattle.switch_session.specs.declared.part.UnderWay.{UnderWay}
use Rattle.switch_session.specs.declared.part.Part.TheVariants.{Clearing}
use Rattle.switch_session.specs.declared.told.Phase.{Phase}
use Rattle.switch_session.specs.declared.told.Phase.TheVariants.{Second}
use Rattle.update_plan.specs.Batches.{no_rules}
use Rattle.switch_session.specs.declared.told.Heard.{Heard}
use Rattle.switch_session.specs.declared.told.Heard.TheVariants as heard
use Rattle.switch_session.specs.Lists.{Lists}
use Rattle.maple_base.specs.RuleLists.{Rules}
use Rattle.switch_session.specs.Parts.{Update}
use Rattle.switch_session.specs.Sessions.{leaves, next_starts, onward, clears_behind, breaks_off}
use Rattle.switch_session.specs.Calls.{Answer, CanBeHeard, Hears, is_awaited, acknowledged_by, is_live as is_live_phase}
use Rattle.machine_steps.specs.Machine.{Session, is_live, is_open, has_ended}
use Rattle.machine_parts.specs.Sessions.{due}
use Rattle.machine_steps.specs.Messages.{Makes}
use Rattle.machine_steps.specs.Messages.Makes.{PassesOver, RefusesVersion, Greets, Echoes, IsNamed, BringsPacket, BringsPort, ComesEarly, LacksNumbers, Acknowledges, RefusesClearing, BreaksOff, IsRefused}
use Rattle.machine_steps.specs.Steps.{is_spared}
use Rattle.machine_steps.proofs.Messages.{made_by, batch_live}

-- ---- what stays of a session

pub record IsAlike (c : ℕ) (d : Option ℕ) (o r q : Bool) (t : Session) : Type 0 where
  pub connection : t.connection ≡ c
  pub dpid : t.dpid ≡ d
  pub opened : is_open t ≡ o
  pub ready : t.ready ≡ r
  pub quiet : t.quiet ≡ q

-- t is as s, of which all may have changed but the connection, the number, and whether it is open, ready and quiet
abbrev pub Alike : Session → Session → Type 0
Alike s t = IsAlike s.connection s.dpid (is_open s) s.ready s.quiet t

abbrev pub Readied : Session → Session → Type 0
Readied s t = IsAlike s.connection s.dpid (is_open s) true s.quiet t

abbrev pub Quieted : Session → Session → Type 0
Quieted s t = IsAlike s.connection s.dpid (is_open s) s.ready true t

pub record IsOver (s t : Session) : Type 0 where
  pub connection : t.connection ≡ s.connection
  pub over : is_open t ≡ false

leaves_alike : (lists : Lists) (parts : List Part) (s : Session) → Alike s (leaves lists parts s)
leaves_alike lists [] s = record { connection = refl; dpid = refl; opened = refl; ready = refl; quiet = refl }
leaves_alike lists (p ∷ ps) s = record { connection = refl; dpid = refl; opened = refl; ready = refl; quiet = refl }

next_alike : (next : Option Update) (s : Session) → Alike s (next_starts next s)
next_alike None s = record { connection = refl; dpid = refl; opened = refl; ready = refl; quiet = refl }
next_alike (Some u) s = leaves_alike (record { from = s.target; to = u.rules }) u.parts (record s { target = u.rules; next = None })

onward_alike : (lists : Lists) (parts : List Part) (s : Session) → Alike s (onward lists parts s)
onward_alike lists [] s = next_alike s.next s
onward_alike lists (p ∷ ps) s = leaves_alike lists (p ∷ ps) s

acknowledged_alike : (xid : ℕ) (u : Option UnderWay) (s : Session) → is_awaited xid u ≡ true → Readied s (acknowledged_by u s)
acknowledged_alike xid None s h = absurd (cc)
acknowledged_alike xid (Some part) s h = onward_alike part.lists s.to_come (record s { ready = true; under_way = None; prepared = None })

cleared_alike : (u : Option UnderWay) (came_to : Rules) (s : Session) → Alike s (clears_behind u came_to s)
cleared_alike None came_to s = leaves_alike (record { from = came_to; to = came_to }) (Clearing ∷ []) s
cleared_alike (Some part) came_to s = record { connection = refl; dpid = refl; opened = refl; ready = refl; quiet = refl }

broken_alike : (s : Session) → Quieted s (breaks_off s)
broken_alike s = cleared_alike s.under_way s.target (record s { quiet = true; target = no_rules; next = None; prepared = None })

-- ---- what is made of a message

-- a PACKET_IN with this buffer, port and bytes
pub record IsPacket (buffer in_port : ℕ) (frame : List ℕ) (b : Body) : Type 0 where
  pub total : ℕ
  pub reason : ℕ
  pub is : b ≡ body.PacketIn buffer total in_port reason frame

-- by what the session makes of a message with this body: what stays, and the cause
abbrev pub MadeOf : Body → Heard → Session → Session → Type 0
MadeOf b heard.Passed s t = Alike s t
MadeOf b (heard.Features dpid ports) s t = (s.phase ≡ Second) × (t ≡ record s { dpid = Some dpid }) × (b ≡ body.FeaturesReply dpid ports)
MadeOf b (heard.PacketIn buffer in_port frame) s t = (t ≡ s) × IsPacket buffer in_port frame b
MadeOf b (heard.Port port up) s t = (t ≡ s) × (is_live s ≡ true)
MadeOf b (heard.Acknowledged true) s t = Readied s t × (s.ready ≡ false)
MadeOf b (heard.Acknowledged false) s t = Readied s t × (s.ready ≡ true)
MadeOf b (heard.Refused kind code true) s t = Quieted s t × (s.quiet ≡ false) × (is_live s ≡ true)
MadeOf b (heard.Refused kind code false) s t = (t ≡ s) × (is_spared b (heard.Refused kind code false) ≡ false)
MadeOf b (heard.Ended end) s t = IsOver s t

-- after want of memory the session is as it was
abbrev pub Made : Body → Answer → Session → Session → Type 0
Made b (Ok h) s t = MadeOf b h s t
Made b (Err e) s t = t ≡ s

stands : (s : Session) → Alike s s
stands s = record { connection = refl; dpid = refl; opened = refl; ready = refl; quiet = refl }

made_acknowledged : (b : Body) (s t : Session) (ready : Bool) → s.ready ≡ ready → Readied s t → MadeOf b (heard.Acknowledged (not ready)) s t
made_acknowledged b s t true r k = (k, r)
made_acknowledged b s t false r k = (k, r)

makes : {xid : ℕ} {b : Body} {s : Session} {h : Heard} {t : Session} → Makes xid b s h t → MadeOf b h s t
makes {xid} {b} {s} (PassesOver may) = stands s
makes {xid} {b} {s} (RefusesVersion is first) = record { connection = refl; over = refl }
makes {xid} {b} {s} (Greets is first) = record { connection = refl; dpid = refl; opened = sym (ap (λ (p : Phase). not (has_ended p)) first); ready = refl; quiet = refl }
makes {xid} {b} {s} (Echoes is other) = record { connection = refl; dpid = refl; opened = refl; ready = refl; quiet = refl }
makes {xid} {b} {s} (IsNamed is second) = (second, refl, is)
makes {xid} {b} {s} (BringsPacket {buffer} {total} {in_port} {reason} {bytes} is live) = (refl, record { total = total; reason = reason; is = is })
makes {xid} {b} {s} (BringsPort is live) = (refl, ap is_live_phase live)
makes {xid} {b} {s} (ComesEarly is awaited early) = record { connection = refl; over = refl }
makes {xid} {b} {s} (LacksNumbers is to over) = record { connection = refl; over = refl }
makes {xid} {b} {s} (Acknowledges is to within) = made_acknowledged b s (acknowledged_by s.under_way s) s.ready refl (acknowledged_alike xid s.under_way s to.0)
makes {xid} {b} {s} (RefusesClearing is batch clearing) = record { connection = refl; over = refl }
makes {xid} {b} {s} (BreaksOff is change loud) = (broken_alike s, loud, batch_live xid s change.0)
makes {xid} {b} {s} (IsRefused {kind} {code} {bytes} is why) = (refl, ap (λ (x : Body). is_spared x (heard.Refused kind code false)) is)

pub made : (m : Message) (s t : Session) (a : Answer) → Hears m s a t → Made m.body a s t
made m s t (Ok h) hears = makes (made_by m.xid s (Ok h) t m.body hears)
made m s t (Err e) hears = made_by m.xid s (Err e) t m.body hears

-- ---- the lines that are due

-- how many lines a session brings by this, of those that were due
abbrev pub brings : Heard → ℕ
brings (heard.Acknowledged true) = 1
brings (heard.Refused kind code true) = 2
brings (heard.Ended end) = 2
brings h = 0

abbrev owing : Bool → Bool → Bool → ℕ
owing o r q = if o then 2 + (if r then 0 else 1) + (if q then 0 else 2) else 0

due_alike : (c : ℕ) (d : Option ℕ) (o r q : Bool) (t : Session) → IsAlike c d o r q t → due t ≡ owing o r q
due_alike c d o r q t k = ap (λ (x : Bool). owing x t.ready t.quiet) k.opened ∙ ap (λ (x : Bool). owing o x t.quiet) k.ready ∙ ap (λ (x : Bool). owing o r x) k.quiet

readied : (o r q : Bool) → o ≡ true → r ≡ false → owing o true q + 1 ≤ owing o r q
readied false r q h k = absurd (cc)
readied true true q h k = absurd (cc)
readied true false true h k = omega arith
readied true false false h k = omega arith

quieted : (o r q : Bool) → o ≡ true → q ≡ false → owing o r true + 2 ≤ owing o r q
quieted false r q h k = absurd (cc)
quieted true r true h k = absurd (cc)
quieted true true false h k = omega arith
quieted true false false h k = omega arith

opened_due : (o r q : Bool) → o ≡ true → 2 ≤ owing o r q
opened_due false r q h = absurd (cc)
opened_due true true true h = omega arith
opened_due true true false h = omega arith
opened_due true false true h = omega arith
opened_due true false false h = omega arith

ready_due : (o r q : Bool) → r ≡ true → owing o true q ≡ owing o r q
ready_due o r q h = ap (λ (x : Bool). owing o x q) (sym h)

same_due : (s t : Session) → t ≡ s → due t + 0 ≤ due s
same_due s t k = let e : due t ≡ due s = ap due k in omega arith

pub due_made : (b : Body) (h : Heard) (s t : Session) → is_open s ≡ true → MadeOf b h s t → due t + brings h ≤ due s
due_made b heard.Passed s t o m = let e = due_alike _ _ _ _ _ t m in omega (arith, e)
due_made b (heard.Features dpid ports) s t o m = let e : due t ≡ due s = ap due m.1 in omega (arith, e)
due_made b (heard.PacketIn buffer in_port frame) s t o m = same_due s t m.0
due_made b (heard.Port port up) s t o m = same_due s t m.0
due_made b (heard.Acknowledged true) s t o m =
    let e = due_alike _ _ _ _ _ t m.0 in let l = readied (is_open s) s.ready s.quiet o m.1 in omega (arith, e, l)
due_made b (heard.Acknowledged false) s t o m =
    let e = due_alike _ _ _ _ _ t m.0 in let l = ready_due (is_open s) s.ready s.quiet m.1 in omega (arith, e, l)
due_made b (heard.Refused kind code true) s t o m =
    let e = due_alike _ _ _ _ _ t m.0 in let l = quieted (is_open s) s.ready s.quiet o m.1 in omega (arith, e, l)
due_made b (heard.Refused kind code false) s t o m = same_due s t m.0
due_made b (heard.Ended end) s t o m =
    let e : due t ≡ 0 = ap (λ (x : Bool). owing x t.ready t.quiet) m.over in let l = opened_due (is_open s) s.ready s.quiet o in omega (arith, e, l)

-- every message keeps the connection
pub connection_made : (b : Body) (h : Heard) (s t : Session) → MadeOf b h s t → t.connection ≡ s.connection
connection_made b heard.Passed s t m = m.connection
connection_made b (heard.Features dpid ports) s t m = ap (λ (x : Session). x.connection) m.1
connection_made b (heard.PacketIn buffer in_port frame) s t m = ap (λ (x : Session). x.connection) m.0
connection_made b (heard.Port port up) s t m = ap (λ (x : Session). x.connection) m.0
connection_made b (heard.Acknowledged true) s t m = m.0.connection
connection_made b (heard.Acknowledged false) s t m = m.0.connection
connection_made b (heard.Refused kind code true) s t m = m.0.connection
connection_made b (heard.Refused kind code false) s t m = ap (λ (x : Session). x.connection) m.0
connection_made b (heard.Ended end) s t m = m.connection

-- ---- the ports of a FEATURES_REPLY

two_bytes : (b : List ℕ) → All (λ x. x < 256) b → 4 ≤ length b → number_at 2 2 b < 65536
two_bytes [] a le = absurd (omega arith)
two_bytes (x ∷ []) a le = absurd (omega arith)
two_bytes (x ∷ y ∷ []) a le = absurd (omega arith)
two_bytes (x ∷ y ∷ z ∷ []) a le = absurd (omega arith)
two_bytes (x ∷ y ∷ z ∷ w ∷ rest) a le =
    let high : z < 256 = a 2 0 (omega arith) in
    let low : w < 256 = a 3 0 (omega arith) in
    omega arith

-- each takes 48 bytes of a message that has fewer than 65,536
pub few_ports : (m : Message) (dpid : ℕ) (ports : List Port) → CanBeHeard m → m.body ≡ body.FeaturesReply dpid ports → length ports ≤ most_up_ports
few_ports m dpid ports h e =
    let header = h.spelled.header in
    let features = subst (λ (b : Body). SpellsBody b h.bytes) e h.spelled.body in
    let long : 4 ≤ length h.bytes = omega (arith, header.long) in
    omega (arith, two_bytes h.bytes h.are_bytes long, header.whole, features.len)

-- the bytes of a packet are fewer than its message's
pub small_packet : (m : Message) (buffer in_port : ℕ) (frame : List ℕ) → CanBeHeard m → IsPacket buffer in_port frame m.body → length frame ≤ 65535
small_packet m buffer in_port frame h is =
    let header = h.spelled.header in
    let packet = subst (λ (b : Body). SpellsBody b h.bytes) is.is h.spelled.body in
    let long : 4 ≤ length h.bytes = omega (arith, header.long) in
    omega (arith, two_bytes h.bytes h.are_bytes long, header.whole, ap length packet.rest, length-drop 18 h.bytes)
